-- A part of a list replaced.
use Rattle.std.specs.Prelude.{ℕ, ◌+◌, ◌≡◌, List, ◌++◌, length, get_or, take, drop}

-- the list with these elements from a place on
unfoldable pub put : List ℕ → ℕ → List ℕ → List ℕ
put l at bs = take at l ++ bs ++ drop (at + length bs) l

-- two lists agree at the indices that P takes
abbrev pub Agree : (ℕ → Type 0) → List ℕ → List ℕ → Type 0
Agree P l m = (i : ℕ) → P i → get_or l i 0 ≡ get_or m i 0
