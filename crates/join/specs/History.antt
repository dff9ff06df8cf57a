-- Completed messages, said from the history and reading no work area (01, "Completed messages"). A history is a list of an object's fragments, the newest first.
use Rattle.std.specs.Prelude.{ℕ, zero, suc, ◌+◌, ◌*◌, ◌-◌, ◌<◌, ◌≤◌, min, ◌≡◌, Bool, true, false, ◌&&◌, List, [], ◌∷◌, ◌++◌, length, get_or, eqb}
use Rattle.join.specs.Work.{data_size, Joiner, Piece, same_key, last}

-- a fragment carries this key, total and number
abbrev pub carries : List ℕ → ℕ → ℕ → Piece → Bool
carries key total n p = eqb p.number n && same_key p.key key && eqb p.total total

-- the m fragments just before carry numbers 0 to m - 1, this key and this total
unfoldable pub chain : List ℕ → ℕ → ℕ → List Piece → Bool
chain key total zero h = true
chain key total (suc m) [] = false
chain key total (suc m) (p ∷ h) = carries key total m p && chain key total m h

-- the data of the m newest, in number order
unfoldable pub gather : ℕ → List Piece → List ℕ
gather zero h = []
gather (suc m) [] = []
gather (suc m) (p ∷ h) = gather m h ++ p.bytes

-- a fragment with the last number completes a message exactly when the fragments just before it are the others of it
unfoldable pub completes : Joiner → List Piece → Piece → Bool
completes j h p = last j p && chain p.key p.total p.number h

unfoldable pub message : List Piece → Piece → List ℕ
message h p = gather p.number h ++ p.bytes

-- ---- the same in words

pub record Carries (key : List ℕ) (total n : ℕ) (p : Piece) : Type 0 where
  pub number : p.number ≡ n
  pub same_key : p.key ≡ key
  pub same_total : p.total ≡ total

-- "the m frames just before it in that list carry numbers 0 to m-1, the same ID and the same total": the one that came i before the newest
-- carries m - 1 - i (p stands where the list has no such place)
pub record Before (m : ℕ) (h : List Piece) (p : Piece) : Type 0 where
  pub enough : m ≤ length h
  pub each : (i : ℕ) → i < m → Carries p.key p.total (m - suc i) (get_or h i p)

-- "Such a frame with the last number m completes a message exactly when the m frames just before it .."
pub record Completes (j : Joiner) (h : List Piece) (p : Piece) : Type 0 where
  pub at_last : p.total ≤ j.width * p.number + j.width
  pub before : Before p.number h p

-- what check 12 lets pass: "4n .. below total", and "data .. min(4, total - 4n) bytes", w bytes to a fragment where 01 says 4
pub record ShapedBy (w total number len : ℕ) : Type 0 where
  pub inside : w * number < total
  pub fit : len ≡ min w (total - w * number)

abbrev pub Shaped : Joiner → Piece → Type 0
Shaped j p = ShapedBy j.width p.total p.number (length p.bytes)

-- and a record has room for the fragment: for as many bytes as the total says, and for its key
pub record Fit (j : Joiner) (p : Piece) : Type 0 where
  pub shaped : Shaped j p
  pub room : p.total ≤ data_size
  pub keyed : length p.key ≡ j.keyed
  pub at_most_two : j.keyed ≤ 2

abbrev pub All : (Piece → Type 0) → List Piece → Type 0
All P [] = Unit {0}
All P (p ∷ h) = P p × All P h
