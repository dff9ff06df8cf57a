-- The size by type, of a type as a value: one by its number where it is served, and none where it is not.
use Prim.Native.Nat.{ℕ}
use mathlib.Core.Path.{◌≡◌, refl, sym, subst}
use mathlib.Core.Bool.{true, false}
use lib.Dec.{eqb}
use borrow.Author.Tests.{eqb-true}
use Rattle.std.specs.Option.{unwrap_or}
use Rattle.std.proofs.Common.{Option, Some, None}
use Rattle.laws.proofs.Tests.{split}
use Rattle.table.specs.declared.descriptor.Kind.{Kind}
use Rattle.table.specs.Descriptor.{signed_type, boolean_type, unsigned_type, extended_type, real_type, character_type, unreserved, type_of, elements_of, size_by, descriptor_size}
use Rattle.laws.specs.Bytes.{bits}
use Rattle.table.specs.Code.{kind_of, number_of, sized}

-- of a type, if there is one
abbrev size_of : Option Kind → ℕ → ℕ → Option ℕ
size_of None s e = None
size_of (Some k) s e = sized (size_by (number_of k) s e)

-- what holds of one number and of all others holds of all
apart : (P : ℕ → Type 0) (m n : ℕ) → P m → (eqb n m ≡ false → P n) → P n
apart P m n p q = split (eqb n m) (λ t. subst P (sym (eqb-true n m t)) p) q

by_type : (s e n : ℕ) → sized (size_by n s e) ≡ size_of (kind_of n) s e
unfolding size_by
by_type s e n =
    let P = λ (m : ℕ). sized (size_by m s e) ≡ size_of (kind_of m) s e in
    apart P signed_type n refl
    (λ a. apart P boolean_type n refl
    (λ b. apart P unsigned_type n refl
    (λ c. apart P extended_type n refl
    (λ d. apart P real_type n refl
    (λ f. apart P character_type n refl
    (λ g. simp (a, b, c, d, f, g)))))))

-- of a descriptor whose reserved bits are 0
pub described_by : (d : ℕ) (k : Option Kind) → unreserved d ≡ true → k ≡ kind_of (type_of d) → sized (descriptor_size d) ≡ size_of k (bits 6 5 d) (elements_of d)
unfolding descriptor_size
described_by d k u e = rw e (simp u (by_type (bits 6 5 d) (elements_of d) (type_of d)))

-- a size as a value gives the number of the definition back
pub size_back : (n : ℕ) → unwrap_or (sized n) 0 ≡ n
size_back n = split (eqb n 0) (λ z. simp z (sym (eqb-true n 0 z))) (λ z. simp z)
