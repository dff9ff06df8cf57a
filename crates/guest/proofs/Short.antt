-- A frame in short form: what is judged of it, whose it is, and that nothing behind its first two bytes is looked at (02, 2026-01).
use Rattle.std.proofs.Common.{Option as Found, Some, None}
use Prim.Native.Nat.{ℕ, ◌≤◌}
use mathlib.Core.Path.{◌≡◌, refl, sym, ap, ◌∙◌}
use mathlib.Core.Bool.{true, cond, not}
use mathlib.Core.Option.{Option, none, some}
use mathlib.Core.List.{List}
use native.Mathlib.Omega.{arith}
use lib.ListN.{length}
use lib.Dec.{eqb}
use borrow.Author.Tests.{eq-eqb, ne_eqb, le-leb}
use Rattle.laws.specs.Bytes.{byte_at}
use Rattle.laws.specs.Checks.{Check, first_of}
use Rattle.laws.proofs.Checks.{first_alone, first_most}
use Rattle.laws.proofs.Tests.{split}
use Rattle.codec.specs.declared.Header.{Header}
use Rattle.codec.specs.Fields.{header_of}
use Rattle.codec.specs.Reading.{message_of}
use Rattle.table.specs.declared.Attribute.{Attribute}
use Rattle.table.specs.Table.{first_network}
use Rattle.table.proofs.Tables.{network_its}
use Rattle.guest.specs.Checks.{Setting, in_short, front_checks, long_checks, sought_in, plan_checks}
use Rattle.guest.specs.Step.{Judged, quiet, switched, passing, refused, judged_of, owner, effect_of, joined_in, Areas, short_frame, Reply, reply_to, answer, owner_of}
use Rattle.guest.proofs.Plans.{sought_short, short_found}

module _ (s : Setting) (r : List ℕ) (l : in_short (header_of r) ≡ true) where
  -- checks 1 to 5 decide it
  five : List Check
  five = front_checks s r (header_of r) (first_network s.table 0)

  first_of_five : first_of (plan_checks s r) ≡ first_of five
  unfolding five
  first_of_five =
      rw (sought_short s.table (header_of r) l)
      (first_alone five (long_checks (header_of r) (message_of r) (first_network s.table 0)) refl (not (in_short (header_of r))) (ap not l))

  first_most_five : first_of (plan_checks s r) ≤ 5
  unfolding five
  first_most_five = rw first_of_five (first_most 5 five refl)

  by_number : (n object : ℕ) → n ≤ 6 → (p q : Judged) → p ≡ q → cond (eqb n 0) p (refused n object) ≡ cond (eqb n 0) q (quiet n)
  by_number n object h p q e = split (eqb n 0) (λ t. simp t e) (λ t. simp (t, le-leb n 6 h))

  passes_as : (f : Found Attribute) → passing (header_of r) (message_of r) f ≡ switched (header_of r) f
  passes_as f = simp l

  -- so it is refused without a frame, or gives a state
  pub short_judged : judged_of s r
      ≡ cond (eqb (first_of (plan_checks s r)) 0) (switched (header_of r) (first_network s.table 0)) (quiet (first_of (plan_checks s r)))
  unfolding judged_of
  short_judged =
      by_number (first_of (plan_checks s r)) (header_of r).object (omega (arith, first_most_five)) _ _
      (passes_as (sought_in s.table (header_of r)) ∙ ap (switched (header_of r)) (sought_short s.table (header_of r) l))

  -- "Checks 6 to 14 don't apply": no number above 5 answers it
  pub short_most : (x : Areas) → (answer s r x).number ≤ 5
  unfolding reply_to
  short_most x = rw short_judged (go (first_of (plan_checks s r)) first_most_five (first_network s.table 0))
    where
      go : (n : ℕ) → n ≤ 5 → (f : Found Attribute)
          → (reply_to s.own (header_of r) (effect_of (joined_in x.work) (cond (eqb n 0) (switched (header_of r) f) (quiet n))) x.store).number ≤ 5
      go n h None = split (eqb n 0) (λ t. simp t (omega arith)) (λ t. simp t h)
      go n h (Some a) = split (eqb n 0) (λ t. simp t (omega arith)) (λ t. simp t h)

  -- "In demand 3 such a frame is one of object 0's": where it is served, whatever object its third byte would name; else it is nobody's
  pub served_owner : first_of (plan_checks s r) ≡ 0 → owner_of s r ≡ some 0
  served_owner e =
      let judged : judged_of s r ≡ switched (header_of r) (first_network s.table 0) = short_judged ∙ simp (eq-eqb (first_of (plan_checks s r)) 0 e) in
      ap owner judged ∙ go (first_network s.table 0) refl
    where
      go : (f : Found Attribute) → first_network s.table 0 ≡ f → owner (switched (header_of r) f) ≡ some 0
      go None q = absurd (short_found s r l e (sought_short s.table (header_of r) l ∙ q))
      go (Some a) q = ap {B = Option ℕ} some (network_its s.table 0 a q).0

  pub refused_owner : (first_of (plan_checks s r) ≡ 0 → ⊥) → owner_of s r ≡ none
  refused_owner e =
      let judged : judged_of s r ≡ quiet (first_of (plan_checks s r)) = short_judged ∙ simp (ne_eqb (first_of (plan_checks s r)) 0 e) in
      ap owner judged

-- ---- two records of one length that agree in their first two bytes

module _ (s : Setting) (r t : List ℕ) (n : length t ≡ length r) (e0 : byte_at t 0 ≡ byte_at r 0) (e1 : byte_at t 1 ≡ byte_at r 1) (l : in_short (header_of r) ≡ true) where
  also_short : in_short (header_of t) ≡ true
  unfolding header_of
  also_short = rw e1 l

  same_first : first_of (plan_checks s t) ≡ first_of (plan_checks s r)
  unfolding header_of five
  same_first = first_of_five s t also_short ∙ rw (n, e0, e1) (sym (first_of_five s r l))

  same_service : (header_of t).service ≡ (header_of r).service
  unfolding header_of
  same_service = rw e1

  same_switched : (f : Found Attribute) → switched (header_of t) f ≡ switched (header_of r) f
  same_switched None = refl
  same_switched (Some a) = rw same_service

  -- "Bytes 2 to 9 of it are not looked at": they are judged the same, and answered the same
  pub same_judged : judged_of s t ≡ judged_of s r
  same_judged = short_judged s t also_short ∙ rw (same_first, same_switched (first_network s.table 0)) (sym (short_judged s r l))

  said_alike : (x : Areas) (n : ℕ) (f : Found Attribute)
      → reply_to s.own (header_of t) (effect_of (joined_in x.work) (cond (eqb n 0) (switched (header_of r) f) (quiet n))) x.store
      ≡ reply_to s.own (header_of r) (effect_of (joined_in x.work) (cond (eqb n 0) (switched (header_of r) f) (quiet n))) x.store
  unfolding reply_to short_frame
  said_alike x n None = split (eqb n 0) (λ t. simp t) (λ t. simp t)
  said_alike x n (Some a) = split (eqb n 0) (λ t. simp t (rw same_service)) (λ t. simp t)

  pub same_answer : (x : Areas) → answer s t x ≡ answer s r x
  same_answer x =
      let said : Header → Judged → Reply = λ h j. reply_to s.own h (effect_of (joined_in x.work) j) x.store in
      let judged = short_judged s r l in
      ap (said (header_of t)) (same_judged ∙ judged)
      ∙ said_alike x (first_of (plan_checks s r)) (first_network s.table 0)
      ∙ ap (said (header_of r)) (sym judged)
