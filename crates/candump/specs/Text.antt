-- Text: bytes by name, digits, and what stands before and behind a byte (02, 2026-02).
use Rattle.std.specs.Prelude.{ℕ, suc, ◌+◌, ◌-◌, Bool, true, cond, ◌&&◌, List, [], ◌∷◌, take, drop, eqb, ltb, leb, Option, Some, None}

-- ( . ) and the space, # and R, and what ends a line, LF
abbrev pub opening : ℕ
opening = 40

abbrev pub point : ℕ
point = 46

abbrev pub closing : ℕ
closing = 41

abbrev pub space : ℕ
space = 32

abbrev pub mark : ℕ
mark = 35

abbrev pub remote : ℕ
remote = 82

abbrev pub line_feed : ℕ
line_feed = 10

-- the digit 0, behind which 1 to 9 stand
abbrev pub zero_digit : ℕ
zero_digit = 48

abbrev pub within : ℕ → ℕ → ℕ → Bool
within lowest highest c = leb lowest c && leb c highest

-- "Hex is read in either case": the value of a digit 0 to 9, A to F or a to f; 16 for a byte that is none
unfoldable pub hex_value : ℕ → ℕ
hex_value c = cond (within 48 57 c) (c - 48) (cond (within 65 70 c) (c - 55) (cond (within 97 102 c) (c - 87) 16))

-- and the same where it is a digit
unfoldable pub digit_of : ℕ → Option ℕ
digit_of c = cond (ltb (hex_value c) 16) (Some (hex_value c)) None

-- "written in capitals": the digit of a value under 16
unfoldable pub hex_digit : ℕ → ℕ
hex_digit v = cond (ltb v 10) (48 + v) (55 + v)

-- the digits of all values
abbrev pub capitals : List ℕ
capitals = 48 ∷ 49 ∷ 50 ∷ 51 ∷ 52 ∷ 53 ∷ 54 ∷ 55 ∷ 56 ∷ 57 ∷ 65 ∷ 66 ∷ 67 ∷ 68 ∷ 69 ∷ 70 ∷ []

-- the kinds of bytes: "decimal digits", "bytes of 21 to 7E hex", hex digits
pub data Kind : Type 0 where
  Decimal : Kind
  Visible : Kind
  Hex : Kind

unfoldable pub is_a : Kind → ℕ → Bool
is_a Decimal c = within 48 57 c
is_a Visible c = within 33 126 c
is_a Hex c = ltb (hex_value c) 16

-- each byte is of that kind
abbrev pub all_are : Kind → List ℕ → Bool
all_are k [] = true
all_are k (c ∷ l) = is_a k c && all_are k l

-- the place of the first byte c; the length where there is none
unfoldable pub index_of : ℕ → List ℕ → ℕ
index_of c [] = 0
index_of c (b ∷ l) = cond (eqb b c) 0 (suc (index_of c l))

-- what stands before the first byte c: all where there is none
abbrev pub up_to : ℕ → List ℕ → List ℕ
up_to c l = take (index_of c l) l

-- and what stands behind it: nothing where there is none
abbrev pub behind : ℕ → List ℕ → List ℕ
behind c l = drop (index_of c l + 1) l
