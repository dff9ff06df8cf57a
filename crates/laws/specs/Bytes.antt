-- Bytes, and lists of them.
use Rattle.std.specs.Prelude.{ℕ, zero, suc, ◌+◌, ◌-◌, ◌/◌, ◌%◌, ◌^◌, ◌<◌, Bool, List, [], ◌∷◌, ◌++◌, length, get_or, replicate, eqb}
use Rattle.std.specs.List.{list_all}

-- bits high to low of a number
abbrev pub bits : ℕ → ℕ → ℕ → ℕ
bits high low n = n / 2 ^ low % 2 ^ (high + 1 - low)

-- the byte at a place; 0 where the list is too short to have it
abbrev pub byte_at : List ℕ → ℕ → ℕ
byte_at l i = get_or l i 0

-- each element is a byte
abbrev pub Bytes : List ℕ → Type 0
Bytes l = (i : ℕ) → get_or l i 0 < 256

-- each element is 0
abbrev pub zeros : List ℕ → Bool
zeros l = list_all (λ b. eqb b 0) l

-- the list with zeros behind it, up to n elements
abbrev pub padded : ℕ → List ℕ → List ℕ
padded n l = l ++ replicate (n - length l) 0

-- n numbers from k on, each one more than the one before
abbrev pub up_from : ℕ → ℕ → List ℕ
up_from k zero = []
up_from k (suc n) = k ∷ up_from (k + 1) n
