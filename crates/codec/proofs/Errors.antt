-- The code's errors and 01's numbers: what the code answers is told by its number, and a number by what the code answers.
use Prim.Native.Nat.{ℕ}
use mathlib.Core.Path.{◌≡◌, refl, sym, ap, ◌∙◌}
use mathlib.Core.List.{List}
use native.Mathlib.Omega.{arith}
use lib.Dec.{eqb}
use borrow.Author.Tests.{ne_eqb}
use Rattle.std.specs.Prelude.{true, false, is_err, cond, Result, Ok, Err, IsErrAnd}
use Rattle.laws.specs.Checks.{first_of}
use Rattle.codec.specs.declared.ReadError.{ReadError}
use Rattle.codec.specs.declared.ReadError.TheVariants.{Size, Barred, Unserved, Cramped}
use Rattle.codec.specs.declared.WriteError.{WriteError}
use Rattle.codec.specs.declared.WriteError.TheVariants as why
use Rattle.codec.specs.Writing.{written_number}
use Rattle.codec.specs.Reading.{read_checks, read_of, number_of, read_error_number, numbered}

error_is_no_message : (e : ReadError) → read_error_number e ≡ 0 → ⊥
error_is_no_message Size z = omega arith
error_is_no_message Barred z = omega arith
error_is_no_message Unserved z = omega arith
error_is_no_message Cramped z = omega arith

unrefused : {A : Type 0} (x : Result A ReadError) → is_err x ≡ false → number_of (numbered x) ≡ 0
unrefused (Ok a) e = refl
unrefused (Err f) e = cc

refused : {A : Type 0} (x : Result A ReadError) → is_err x ≡ true → number_of (numbered x) ≡ 0 → ⊥
refused (Ok a) e z = cc
refused (Err f) e z = error_is_no_message f z

module _ (r : List ℕ) {A : Type 0} (x : Result A ReadError) (k : number_of (numbered x) ≡ first_of (read_checks r)) where
  -- a record that is let through is one that no check refuses
  pub readable_passes : (a : A) → x ≡ Ok a → first_of (read_checks r) ≡ 0
  readable_passes a e = sym k ∙ rw e

  pub readable_unrefused : is_err x ≡ false → first_of (read_checks r) ≡ 0
  readable_unrefused e = sym k ∙ unrefused x e

  pub unreadable : is_err x ≡ true → first_of (read_checks r) ≡ 0 → ⊥
  unreadable e z = refused x e (k ∙ z)

  -- and of any other, reading gives the number of the error
  pub unreadable_refused : (e : ReadError) → x ≡ Err e → Err (read_error_number e) ≡ read_of r
  unfolding read_of
  unreadable_refused e q =
      let n : read_error_number e ≡ first_of (read_checks r) = rw q at k in
      simp (← n, ne_eqb (read_error_number e) 0 (error_is_no_message e))

-- an error that `?` hands on keeps its number
pub handed_on : {A : Type 0} (x : Result A ReadError) (e : ReadError) → IsErrAnd x (λ f. f ≡ e) → numbered x ≡ Err (read_error_number e)
handed_on (Ok a) e h = absurd h
handed_on (Err f) e h = rw h

-- ---- an error is told by its number, so that an outcome is told by what a contract says of it

abbrev named : ℕ → ReadError
named n = cond (eqb n 1) Size (cond (eqb n 3) Barred (cond (eqb n 5) Unserved Cramped))

named_back : (e : ReadError) → named (read_error_number e) ≡ e
named_back Size = refl
named_back Barred = refl
named_back Unserved = refl
named_back Cramped = refl

pub same_answer : {A : Type 0} (x y : Result A ReadError) → numbered x ≡ numbered y → x ≡ y
same_answer (Ok a) (Ok b) q = cc
same_answer (Ok a) (Err f) q = cc
same_answer (Err e) (Ok b) q = cc
same_answer (Err e) (Err f) q =
    let n : read_error_number e ≡ read_error_number f = cc in
    ap Err (sym (named_back e) ∙ ap named n ∙ named_back f)

pub same_outcome : (x y : Result Unit ReadError) → number_of (numbered x) ≡ number_of (numbered y) → x ≡ y
same_outcome (Ok a) (Ok b) q = refl
same_outcome (Ok a) (Err f) q = absurd (error_is_no_message f (sym q))
same_outcome (Err e) (Ok b) q = absurd (error_is_no_message e q)
same_outcome (Err e) (Err f) q = ap Err (sym (named_back e) ∙ ap named q ∙ named_back f)

pub same_writing : (x y : Result Unit WriteError) → written_number x ≡ written_number y → x ≡ y
same_writing (Ok a) (Ok b) q = refl
same_writing (Ok a) (Err why.Size) q = absurd (omega arith)
same_writing (Ok a) (Err why.Unfit) q = absurd (omega arith)
same_writing (Err why.Size) (Ok b) q = absurd (omega arith)
same_writing (Err why.Unfit) (Ok b) q = absurd (omega arith)
same_writing (Err why.Size) (Err why.Size) q = refl
same_writing (Err why.Size) (Err why.Unfit) q = absurd (omega arith)
same_writing (Err why.Unfit) (Err why.Size) q = absurd (omega arith)
same_writing (Err why.Unfit) (Err why.Unfit) q = refl
