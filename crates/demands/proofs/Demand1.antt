-- Demand 1 is met (specs/Demand1).
use Prim.Native.Nat.{ℕ, ◌+◌, ◌≤◌, ◌<◌}
use mathlib.Core.Path.{◌≡◌, refl, ap, ◌∙◌}
use mathlib.Core.Logic.{◌↔◌, ◌≢◌}
use mathlib.Core.Bool.{true, cond}
use mathlib.Core.List.{List, [], ◌∷◌, ◌++◌, map, append-nil}
use native.Mathlib.Omega.{arith}
use lib.ListN.{length, drop}
use lib.Seq.{take_at, drop_at}
use lib.Dec.{leb}
use borrow.Author.Tests.{le-leb}
use Rattle.laws.specs.Checks.{Check, first_of, holds_at, FirstAt, listed}
use Rattle.laws.specs.Mixing.{those}
use Rattle.laws.proofs.Checks.{given_exactly, none_holds, first_most, first_listed, listed_those}
use Rattle.laws.proofs.Tests.{clash}
use Rattle.laws.proofs.Put.{length_put, put_front}
use Rattle.codec.specs.Fields.{header_of}
use Rattle.codec.proofs.Headers.{ranged}
use Rattle.join.specs.Work.{record_size, area_size, base, dropped}
use Rattle.join.proofs.Places.{base_inside}
use Rattle.join.proofs.Records.{dropped_length, dropped_status, dropped_others}
use Rattle.guest.specs.Checks.{least_out}
use Rattle.guest.specs.Errors.{error_codes, entries_of, code_of}
use Rattle.guest.specs.Step.{areas, sent, Call, setting_of, Outcome, outcome, outcome_of, step_of}
use Rattle.guest.proofs.Plans.{Accepted, accepted}
use Rattle.guest.proofs.Numbers.{number_is}
use Rattle.guest.proofs.Effects.{Kind, mute, error, astray, fine, kind, ignored, refused_only, refused_dropping}
use Rattle.guest.proofs.Errors.{one_each_lem}
use Rattle.guest.proofs.Frames.{error_ten}
use Rattle.demands.specs.Demand1.{checks_of, refusals, error_for, OneFrame, Dropped, Demand1}

module _ (c : Call) where
  abbrev the_number : ℕ
  the_number = (step_of c).number

  number_first : the_number ≡ first_of (checks_of c)
  unfolding step_of outcome_of
  number_first = number_is (setting_of c) c.frame c.given

  exactly : (n : ℕ) → 0 < n → (the_number ≡ n) ↔ FirstAt (checks_of c) n
  exactly n h = rw number_first (given_exactly (checks_of c) refl n h)

  -- past check 1 the lent areas have their sizes
  sizes : 1 < the_number → Accepted (setting_of c) c.frame
  unfolding holds_at
  sizes h = accepted (setting_of c) c.frame (((exactly the_number (omega arith)).0 refl).1 1 h)

  -- what each number leaves
  quiet_leaves : 1 ≤ the_number → the_number ≤ 6 → step_of c ≡ outcome the_number 0 c.given c.out
  unfolding step_of outcome_of
  quiet_leaves l h = go (kind (setting_of c) c.frame c.given)
    where
      go : Kind (setting_of c) c.frame c.given the_number → step_of c ≡ outcome the_number 0 c.given c.out
      go (mute a b e) = rw e (ignored c.own (header_of c.frame) c.given c.out the_number)
      go (error a b e) = absurd (omega arith)
      go (astray a e) = absurd (omega arith)
      go (fine a) = absurd (omega arith)

  error_leaves : 7 ≤ the_number → the_number ≤ 12 → step_of c ≡ outcome the_number 1 c.given (sent (error_for c the_number ∷ []) c.out)
  unfolding step_of outcome_of
  error_leaves l h = go (kind (setting_of c) c.frame c.given)
    where
      go : Kind (setting_of c) c.frame c.given the_number → step_of c ≡ outcome the_number 1 c.given (sent (error_for c the_number ∷ []) c.out)
      go (mute a b e) = absurd (omega arith)
      go (error a b e) = rw e (refused_only c.own (header_of c.frame) c.given c.out the_number)
      go (astray a e) = absurd (omega arith)
      go (fine a) = absurd (omega arith)

  fourteen_leaves : the_number ≡ 14
      → step_of c ≡ outcome 14 1 (areas c.given.store (dropped (base (header_of c.frame).object) c.given.work)) (sent (error_for c 14 ∷ []) c.out)
  unfolding step_of outcome_of
  fourteen_leaves n = go (kind (setting_of c) c.frame c.given)
    where
      go : Kind (setting_of c) c.frame c.given the_number
          → step_of c ≡ outcome 14 1 (areas c.given.store (dropped (base (header_of c.frame).object) c.given.work)) (sent (error_for c 14 ∷ []) c.out)
      go (mute a b e) = absurd (omega arith)
      go (error a b e) = absurd (omega arith)
      go (astray a e) = rw e (refused_dropping c.own (header_of c.frame) c.given c.out 14 (header_of c.frame).object)
      go (fine a) = absurd (omega arith)

  -- a frame sent to the front of the output
  one_frame : (n : ℕ) (o : Outcome) → least_out ≤ length c.out → o.count ≡ 1 → o.out ≡ sent (error_for c n ∷ []) c.out → OneFrame (error_for c n) c o
  one_frame n o room k e =
      let f = error_for c n in
      let ten = error_ten c.own (header_of c.frame) n in
      let g : f ++ [] ≡ f = append-nil f in
      let put-it : o.out ≡ f ++ drop 10 c.out = e ∙ put_front c.out (f ++ []) ∙ rw (g, ten) in
      record {
        one_frame = k;
        ten = ten;
        front = rw put-it (take_at f (drop 10 c.out) 10 ten);
        rest = rw put-it (drop_at f (drop 10 c.out) 10 ten);
        same_length = ap length e ∙ length_put c.out 0 (f ++ []) (rw (g, ten) (omega arith));
      }

  drops : (o : ℕ) → o ≤ 31 → length c.given.work ≡ area_size → (after : List ℕ) → after ≡ dropped (base o) c.given.work → Dropped o c.given.work after
  drops o l size after e =
      let room : base o + record_size ≤ length c.given.work = rw size (base_inside o l) in
      rw e (record {
        status = dropped_status (base o) c.given.work room;
        others = dropped_others (base o) c.given.work room;
        same_length = dropped_length (base o) c.given.work room;
      })

  -- the table of checks has no such row
  never : the_number ≢ 13
  unfolding holds_at
  never e = clash {P = ⊥} ((exactly 13 (omega arith)).0 e).0 refl

-- the table of checks has a row for each of the thirteen refusals, in their order, and no other
pub thirteen_refusals : (c : Call) → map (λ (row : Check). row.1) (checks_of c) ≡ refusals
thirteen_refusals c = refl

-- THE TABLE OF CODES (02, 2026-06): "every refusal from 7 on has exactly one entry", and the table has no other. The test is computed
pub one_entry_each : (n : ℕ) → entries_of n error_codes ≡ cond (listed n (those (leb 7) refusals)) ((n, code_of n) ∷ []) []
unfolding code_of
one_entry_each n = one_each_lem 0 (those (leb 7) refusals) error_codes refl n

-- a call that is refused with 7 or more has such an entry
pub refused_has_entry : (c : Call) → 7 ≤ the_number c → entries_of (the_number c) error_codes ≡ (the_number c, code_of (the_number c)) ∷ []
refused_has_entry c h =
    let n = the_number c in
    let given : listed n refusals ≡ true = rw (number_first c) (first_listed (checks_of c) (omega (arith, number_first c))) in
    one_entry_each n ∙ simp (listed_those (leb 7) n refusals (le-leb 7 n h) given)

pub demand_1 : Demand1 step_of
demand_1 = record {
  refused_exactly = exactly;
  served_exactly = λ c. rw (number_first c) (none_holds (checks_of c) refl);
  at_most_fourteen = λ c. rw (number_first c) (first_most 14 (checks_of c) refl);
  thirteen_never = never;
  quiet_alters_nothing = λ c l h.
      let e = quiet_leaves c l h in
      record { no_frame = ap (λ (o : Outcome). o.count) e; same_areas = ap (λ (o : Outcome). o.left) e; same_output = ap (λ (o : Outcome). o.out) e };
  error_alters_one_frame = λ c l h.
      let e = error_leaves c l h in (
        one_frame c (step_of c).number (step_of c) (sizes c (omega arith)).out (ap (λ (o : Outcome). o.count) e) (ap (λ (o : Outcome). o.out) e),
        ap (λ (o : Outcome). o.left) e,
      );
  fourteen_drops = λ c n.
      let e = fourteen_leaves c n in
      let size = sizes c (omega arith) in
      let o = (header_of c.frame).object in (
        one_frame c 14 (step_of c) size.out (ap (λ (o : Outcome). o.count) e) (ap (λ (o : Outcome). o.out) e),
        ap (λ (o : Outcome). o.left.store) e,
        drops c o (ranged c.frame).object size.work (step_of c).left.work (ap (λ (o : Outcome). o.left.work) e),
      );
}
