-- The size of what a data descriptor describes, in bytes; 0 where the descriptor is refused (01, "Descriptor sizes"; 001, section 5).
use Rattle.std.specs.Prelude.{ℕ, ◌+◌, ◌*◌, ◌/◌, ◌≤◌, Bool, cond, ◌&&◌, [], ◌∷◌, eqb, leb}
use Rattle.laws.specs.Bytes.{bits}
use Rattle.laws.specs.Checks.{first_of}

-- type numbers: 001, figure 11. Which of 0 and 4 is Signed, 01 decides by example 5.3.4
abbrev pub signed_type : ℕ
signed_type = 0

abbrev pub boolean_type : ℕ
boolean_type = 1

abbrev pub unsigned_type : ℕ
unsigned_type = 4

abbrev pub extended_type : ℕ
extended_type = 5

abbrev pub real_type : ℕ
real_type = 6

abbrev pub character_type : ℕ
character_type = 7

-- "13..12 reserved, .. 7 reserved .. Reserved bits must be 0"
abbrev pub unreserved : ℕ → Bool
unreserved d = eqb (bits 13 12 d) 0 && eqb (bits 7 7 d) 0

abbrev pub type_of : ℕ → ℕ
type_of d = bits 11 8 d

-- "6..5 size (0 undefined, 1 byte, 2 word, 3 long)": the bytes that it names, 0 where undefined
abbrev pub size_bytes : ℕ → ℕ
size_bytes s = first_of ((eqb s 1, 1) ∷ (eqb s 2, 2) ∷ (eqb s 3, 4) ∷ [])

-- "4..0 count, one less than the number N": of points, or of characters
abbrev pub elements_of : ℕ → ℕ
elements_of d = bits 4 0 d + 1

-- size undefined: "the lowest byte increment to inclusively hold the all the Boolean data points" (001, 5.1.2.5; by 02, 2026-04, it decides, where 01 took
-- the decoding table of 5.2). "Size given: .. N must fit in their bits"
abbrev pub boolean_size : ℕ → ℕ → ℕ
boolean_size s n =
    cond (eqb s 0)
    ((n + 7) / 8)
    (cond (leb n (8 * size_bytes s)) (size_bytes s) 0)

-- the lowest increment in words: so many bytes hold n points, and no fewer do
pub record LowestBytes (n bytes : ℕ) : Type 0 where
  pub hold : n ≤ 8 * bytes
  pub lowest : (holding : ℕ) → n ≤ 8 * holding → bytes ≤ holding

-- "size long only"
abbrev pub real_size : ℕ → ℕ
real_size s = cond (eqb s 3) 4 0

-- "Every other type is refused"
unfoldable pub size_by : ℕ → ℕ → ℕ → ℕ
size_by type s n =
    first_of
    ((eqb type boolean_type, boolean_size s n)
    ∷ (eqb type signed_type, size_bytes s)
    ∷ (eqb type unsigned_type, size_bytes s)
    ∷ (eqb type real_type, real_size s)
    ∷ (eqb type character_type, n)
    ∷ (eqb type extended_type, 2 * n)
    ∷ [])

unfoldable pub descriptor_size : ℕ → ℕ
descriptor_size d = cond (unreserved d) (size_by (type_of d) (bits 6 5 d) (elements_of d)) 0
