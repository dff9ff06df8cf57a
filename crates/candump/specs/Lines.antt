-- The lines of a text: each ends before a line feed, the last one also at the text's end. Behind a last line feed there is no further line.
use Rattle.std.specs.Prelude.{ℕ, cond, List, [], ◌∷◌, eqb}
use Rattle.candump.specs.Text.{line_feed}

-- a byte in front of the first line
abbrev pub in_front : ℕ → List (List ℕ) → List (List ℕ)
in_front b [] = (b ∷ []) ∷ []
in_front b (l ∷ ls) = (b ∷ l) ∷ ls

unfoldable pub lines_of : List ℕ → List (List ℕ)
lines_of [] = []
lines_of (b ∷ text) = cond (eqb b line_feed) ([] ∷ lines_of text) (in_front b (lines_of text))
