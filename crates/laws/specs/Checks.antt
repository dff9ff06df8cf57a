-- An ordered table of checks: each row is a test and the number that answers where it is the first to hold.
use Rattle.std.specs.Prelude.{ℕ, ◌<◌, ◌≡◌, Bool, true, false, cond, ◌&&◌, ◌||◌, List, [], ◌∷◌, ltb, leb, eqb}

abbrev pub Check : Type 0
Check = Bool × ℕ

-- the number of the first check that holds; 0 where none does
abbrev pub first_of : List Check → ℕ
first_of [] = 0
first_of (c ∷ cs) = cond c.0 c.1 (first_of cs)

-- whether the check of this number holds; no where the table has no such row
unfoldable pub holds_at : List Check → ℕ → Bool
holds_at [] n = false
holds_at (c ∷ cs) n = cond (eqb c.1 n) c.0 (holds_at cs n)

-- rows that apply only where a test holds: elsewhere none of them does
abbrev pub only_where : Bool → List Check → List Check
only_where b [] = []
only_where b (c ∷ cs) = (b && c.0, c.1) ∷ only_where b cs

-- the check of number n is the first of the table that holds
abbrev pub FirstAt : List Check → ℕ → Type 0
FirstAt cs n = (holds_at cs n ≡ true) × ((m : ℕ) → m < n → holds_at cs m ≡ false)

-- the rows' numbers rise strictly, and are above k
abbrev pub rises_from : ℕ → List Check → Bool
rises_from k [] = true
rises_from k (c ∷ cs) = ltb k c.1 && rises_from c.1 cs

-- and no row's number is above m
abbrev pub most_is : ℕ → List Check → Bool
most_is m [] = true
most_is m (c ∷ cs) = leb c.1 m && most_is m cs

-- whether a number stands in a list, as that of a row in the numbers of a table
abbrev pub listed : ℕ → List ℕ → Bool
listed n [] = false
listed n (m ∷ ms) = eqb m n || listed n ms
