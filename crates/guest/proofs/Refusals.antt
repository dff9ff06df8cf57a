-- A refusal is known by its number.
use Prim.Native.Nat.{ℕ, ◌≤◌}
use mathlib.Core.Path.{◌≡◌, refl, sym, ap, ◌∙◌}
use native.Mathlib.Omega.{arith}
use lib.Dec.{eqb}
use borrow.Author.Tests.{eqb-true}
use Rattle.laws.proofs.Tests.{split}
use Rattle.std.proofs.Common.{Option, Some, None, Result, Ok, Err}
use Rattle.guest.specs.declared.Refusal.{Refusal}
use Rattle.guest.specs.declared.Refusal.TheVariants.{Misfit, IllFormed, Barred, NotForUs, NoService, NotRequest, ActionOrEvent, BadShape, Unknown, NoAccess, WrongLength, WrongPiece, OutOfOrder}
use Rattle.guest.specs.Checks.{number_of, refusal_of}
use Rattle.guest.specs.Errors.{code_of}
use Rattle.guest.specs.Step.{number_in}

-- what has a refusal's number is that refusal
pub named_back : (e : Refusal) → refusal_of (number_of e) ≡ Some e
unfolding refusal_of
named_back Misfit = refl
named_back IllFormed = refl
named_back Barred = refl
named_back NotForUs = refl
named_back NoService = refl
named_back NotRequest = refl
named_back ActionOrEvent = refl
named_back BadShape = refl
named_back Unknown = refl
named_back NoAccess = refl
named_back WrongLength = refl
named_back WrongPiece = refl
named_back OutOfOrder = refl

-- two answers of a check that have the same number are the same
pub passed_by_number : (r s : Result (Unit {0}) Refusal) → number_in r ≡ number_in s → r ≡ s
unfolding refusal_of
passed_by_number r s e = sym (back r) ∙ ap (λ (n : ℕ). answer (refusal_of n)) e ∙ back s
  where
    answer : Option Refusal → Result (Unit {0}) Refusal
    answer None = Ok tt
    answer (Some e) = Err e

    back : (r : Result (Unit {0}) Refusal) → answer (refusal_of (number_in r)) ≡ r
    back (Ok x) = refl
    back (Err e) = ap answer (named_back e)

-- ---- the code of a number is that of its refusal; of a number that no refusal has there is none

abbrev pub code_at : Option Refusal → ℕ
code_at None = 0
code_at (Some e) = code_of (number_of e)

pub coded : (n : ℕ) → code_of n ≡ code_at (refusal_of n)
unfolding code_of refusal_of
coded n =
    split (eqb n 1) (λ t. rw (eqb-true n 1 t)) (λ a.
    split (eqb n 2) (λ t. rw (eqb-true n 2 t)) (λ b.
    split (eqb n 3) (λ t. rw (eqb-true n 3 t)) (λ c.
    split (eqb n 4) (λ t. rw (eqb-true n 4 t)) (λ d.
    split (eqb n 5) (λ t. rw (eqb-true n 5 t)) (λ e.
    split (eqb n 6) (λ t. rw (eqb-true n 6 t)) (λ f.
    split (eqb n 7) (λ t. rw (eqb-true n 7 t)) (λ g.
    split (eqb n 8) (λ t. rw (eqb-true n 8 t)) (λ h.
    split (eqb n 9) (λ t. rw (eqb-true n 9 t)) (λ i.
    split (eqb n 10) (λ t. rw (eqb-true n 10 t)) (λ j.
    split (eqb n 11) (λ t. rw (eqb-true n 11 t)) (λ k.
    split (eqb n 12) (λ t. rw (eqb-true n 12 t)) (λ l.
    split (eqb n 14) (λ t. rw (eqb-true n 14 t)) (λ m.
    simp (a, b, c, d, e, f, g, h, i, j, k, l, m))))))))))))))

-- no refusal has the number 0, which is that of no refusal
pub numbered : (e : Refusal) → 1 ≤ number_of e
numbered Misfit = omega arith
numbered IllFormed = omega arith
numbered Barred = omega arith
numbered NotForUs = omega arith
numbered NoService = omega arith
numbered NotRequest = omega arith
numbered ActionOrEvent = omega arith
numbered BadShape = omega arith
numbered Unknown = omega arith
numbered NoAccess = omega arith
numbered WrongLength = omega arith
numbered WrongPiece = omega arith
numbered OutOfOrder = omega arith
