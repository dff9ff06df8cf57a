-- Descriptor sizes against 001's own table and examples, computed; and laws of the size bits.
use Prim.Native.Nat.{ℕ, ◌+◌, ◌/◌, ◌%◌}
use mathlib.Core.Path.{◌≡◌, refl, sym, ◌∙◌}
use mathlib.Core.Logic.{◌↔◌}
use mathlib.Core.List.{List, [], ◌∷◌, ◌++◌, map, flat_map}
use native.Mathlib.Omega.{arith}
use lib.ListN.{replicate}
use lib.Dec.{eqb, ltb}
use borrow.Author.Tests.{eqb-true, eqb-false, eq-eqb, ne_eqb}
use Rattle.laws.specs.Bytes.{bits, up_from}
use Rattle.laws.specs.Checks.{first_of}
use Rattle.laws.proofs.Tests.{split}
use Rattle.table.specs.Descriptor.{elements_of, boolean_size, LowestBytes, size_by, descriptor_size}

-- 001, 5.2, of a Boolean of undefined size: "if(Count<8) Write Byte, if(Count<16) Write Word, if(Count<32) Write Long" (and "if(Count=0) Write Bool", which is a byte)
abbrev pub decoded : ℕ → ℕ
decoded d = first_of ((ltb (bits 4 0 d) 8, 1) ∷ (ltb (bits 4 0 d) 16, 2) ∷ (ltb (bits 4 0 d) 32, 4) ∷ [])

-- such descriptors with these counts, under each setting of I/O and Next
abbrev pub undefined_booleans : List ℕ → List ℕ
undefined_booleans counts = flat_map (λ flags. map (λ count. flags + 0x0100 + count) counts) (0x0000 ∷ 0x4000 ∷ 0x8000 ∷ 0xC000 ∷ [])

-- Sizes agree with the table of 5.2 for N up to 16 and from 25 to 32. For N from 17 to 24 the text of 5.1.2.5 decides instead (02, 2026-04): these 32
-- descriptors take three bytes, where the table has four
pub decoding_table :
    (map descriptor_size (undefined_booleans (up_from 0 16 ++ up_from 24 8)) ≡ map decoded (undefined_booleans (up_from 0 16 ++ up_from 24 8)))
    × (map descriptor_size (undefined_booleans (up_from 16 8)) ≡ replicate 32 3)
    × (map decoded (undefined_booleans (up_from 16 8)) ≡ replicate 32 4)
unfolding descriptor_size size_by flat_map
decoding_table = (refl, refl, refl)

-- a Boolean of undefined size takes the lowest number of bytes that holds its points
pub lowest_in_words : (n bytes : ℕ) → (boolean_size 0 n ≡ bytes) ↔ LowestBytes n bytes
lowest_in_words n bytes = (
  λ e. record { hold = omega (arith, e); lowest = λ holding h. omega (arith, e, h) },
  λ w. omega (arith, w.hold, w.lowest ((n + 7) / 8) (omega arith)),
)

-- 001, 5.3.1 to 5.3.4
pub worked_descriptors : map descriptor_size (0x0100 ∷ 0x010F ∷ 0x0143 ∷ 0x0040 ∷ []) ≡ 1 ∷ 2 ∷ 2 ∷ 2 ∷ []
unfolding descriptor_size size_by
worked_descriptors = refl

-- Character takes N bytes and Extended character 2N, whatever the size bits; Real is long or refused; a reserved bit refuses
pub other_descriptors : map descriptor_size (0x073F ∷ 0x075F ∷ 0x051F ∷ 0x0500 ∷ 0x0660 ∷ 0x0640 ∷ 0x1100 ∷ 0x0180 ∷ 0x0440 ∷ 0x0400 ∷ 0x0200 ∷ 0xC100 ∷ [])
    ≡ 32 ∷ 32 ∷ 64 ∷ 2 ∷ 4 ∷ 0 ∷ 0 ∷ 0 ∷ 2 ∷ 0 ∷ 0 ∷ 1 ∷ []
unfolding descriptor_size size_by
other_descriptors = refl

-- N is 1 where the count bits are 0
pub one_element : (d : ℕ) → eqb (elements_of d) 1 ≡ eqb (d % 32) 0
one_element d =
    split (eqb (d % 32) 0)
    (λ t. eq-eqb (elements_of d) 1 (omega (arith, eqb-true (d % 32) 0 t)) ∙ sym t)
    (λ t. ne_eqb (elements_of d) 1 (λ e. omega (arith, eqb-false (d % 32) 0 t, e)) ∙ sym t)
