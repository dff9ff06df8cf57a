-- What is promised of the collector (02, 2026-07).
use Prim.Native.Nat.{ℕ, ◌<◌, ◌≤◌}
use mathlib.Core.Path.{◌≡◌, refl, sym, ap, ◌∙◌}
use mathlib.Core.Logic.{◌↔◌, ◌≢◌}
use mathlib.Core.Bool.{true, false, cond}
use mathlib.Core.List.{List, [], ◌∷◌, ◌++◌, reverse}
use native.Mathlib.Omega.{arith}
use lib.ListN.{length, replicate}
use lib.Dec.{eqb, leb}
use borrow.Author.Tests.{eqb-true, ne_eqb}
use Rattle.laws.specs.Checks.{first_of, holds_at, FirstAt}
use Rattle.laws.specs.Mixing.{inputs_of, answers_of, serially, run, trace}
use Rattle.laws.specs.Mixing as Mixing
use Rattle.laws.proofs.Tests.{split, clash, halves}
use Rattle.laws.proofs.Checks.{given_exactly, none_holds, first_append, first_most}
use Rattle.laws.proofs.Mixing.{mixed, in_turn, free_anywhere}
use Rattle.laws.proofs.Counts.{series_own, series_long}
use Rattle.octets.specs.declared.Data.{Data}
use Rattle.octets.specs.Data.{bytes_of}
use Rattle.codec.specs.declared.Subject.{Subject}
use Rattle.codec.specs.declared.Message.{Message}
use Rattle.codec.specs.declared.Message.TheVariants.{Short, Plain, Fragment}
use Rattle.std.specs.Prelude.{Ok}
use Rattle.codec.specs.Reading.{message_of, read_of}
use Rattle.join.specs.Work.{base, Piece, load, last, Joined, kept, done, lost, astray, joined, dropped, area_after}
use Rattle.join.specs.History.{chain, completes, message, Completes}
use Rattle.join.proofs.Joins.{completes_in_words}
use Rattle.std.specs.Prelude.{None}
use Rattle.collect.specs.Checks.{collect_size, guest_count, joiner, piece_of, answers_read, no_read_response, out_of_order, frame_checks, checks}
use Rattle.collect.specs.Step.{Whole, Complete, Judged, nobodys, spoilt, whole, piece, guest_of, passing, judged_of, gives, join_number, join_value, joined_in, answer_to, work_after, part_of, answer_of, work_of}
use Rattle.collect.specs.Tally.{hands_over}
use Rattle.collect.specs.Code.{whole_judged, message_judged}
use Rattle.collect.specs.Belongs.{Good, owner_of, Kept, next, seen, seen_of}
use Rattle.collect.specs.Mixes.{told_of, Mixes}
use Rattle.collect.specs.History.{pieces_of, joined_by, tells, told_by, told}
use Rattle.collect.proofs.Groups.{message_judged_lem}
use Rattle.collect.proofs.Sound.{plain_bytes, plain_part, owner_below, cleared_size, cleared_status}
use Rattle.collect.proofs.Mixed.{collect_local}
use Rattle.collect.proofs.Tallies.{Fits, work_after_lem, seen_along, tally_mixed}
use Rattle.collect.proofs.Shown.{run_since, told_is}

-- ---- refusals: a number is given exactly when its condition holds and no earlier one's does

-- a message that passes 1 to 5 is answered 6 where it is out of order
passing_number : (work : List ℕ) (m : Message) → no_read_response m ≡ false → (answer_to (passing m) work).number ≡ cond (out_of_order m work) 6 0
unfolding answer_to joined_in joined
passing_number work (Short dir address service) e = clash refl e
passing_number work (Plain u b) e = refl
passing_number work (Fragment u number total b) e =
    let p : Piece = piece_of u number total b in
    split (astray joiner (load joiner (base u.address) work) p) (λ t. simp t) (λ t. split (last joiner p) (λ l. simp (t, l)) (λ l. simp (t, l)))

pub number_is : (r work : List ℕ) → (answer_of r work).number ≡ first_of (checks (length work) r work)
unfolding judged_of answer_to holds_at
number_is r work =
    let n = first_of (frame_checks (length work) r) in
    sym (first_append 0 (frame_checks (length work) r) ((out_of_order (message_of r) work, 6) ∷ []) refl
    ∙ sym (split (eqb n 0)
    (λ t. simp t (passing_number work (message_of r) ((none_holds (frame_checks (length work) r) refl).0 (eqb-true n 0 t) 3)))
    (λ t. split (leb n 3) (λ l. simp (t, l)) (λ l. simp (t, l)))))

pub refuses_exactly : (r work : List ℕ) (n : ℕ) → 0 < n → ((answer_of r work).number ≡ n) ↔ FirstAt (checks (length work) r work) n
refuses_exactly r work n h = rw (number_is r work) (given_exactly (checks (length work) r work) refl n h)

pub collects_exactly : (r work : List ℕ) → ((answer_of r work).number ≡ 0) ↔ ((n : ℕ) → holds_at (checks (length work) r work) n ≡ false)
collects_exactly r work = rw (number_is r work) (none_holds (checks (length work) r work) refl)

pub at_most_six : (r work : List ℕ) → (answer_of r work).number ≤ 6
at_most_six r work = rw (number_is r work) (first_most 6 (checks (length work) r work) refl)

-- ---- what each alters: 6, "which alone drops the message", and 1 to 5 nothing but the tally's count of frames seen

-- a fragment that passes 1 to 5 is answered 0 or 6
zero_or_six : (x : Joined) → 0 < join_number x → join_number x ≤ 5 → ⊥
zero_or_six kept h l = omega arith
zero_or_six (done bs) h l = omega arith
zero_or_six lost h l = omega arith

refused_leaves : (j : Judged) (work : List ℕ) → 0 < (answer_to j work).number → (answer_to j work).number ≤ 5
    → (work_after j work ≡ work) × (answer_to j work ≡ gives (answer_to j work).number None false)
unfolding answer_to work_after
refused_leaves (nobodys n) work h l = (refl, refl)
refused_leaves (spoilt guest n) work h l = (refl, refl)
refused_leaves (whole u n) work h l = absurd (omega arith)
refused_leaves (piece u p) work h l = absurd (zero_or_six (joined_in work u.address p) h l)

pub refused_alters_nothing : (r work : List ℕ) → 0 < (answer_of r work).number → (answer_of r work).number ≤ 5
    → (work_of r work ≡ work) × (answer_of r work ≡ gives (answer_of r work).number None false)
refused_alters_nothing r work = refused_leaves (judged_of (length work) r) work

lost_drops : (u : Subject) (p : Piece) (work : List ℕ) (x : Joined) → join_number x ≡ 6
    → (area_after joiner (base u.address) p x work ≡ dropped (base u.address) work) × (join_value u p x ≡ None)
unfolding area_after
lost_drops u p work kept e = absurd (omega arith)
lost_drops u p work (done bs) e = absurd (omega arith)
lost_drops u p work lost e = (refl, refl)

passing_drops : (m : Message) (work : List ℕ) → (answer_to (passing m) work).number ≡ 6
    → (work_after (passing m) work ≡ dropped (base (guest_of m)) work) × ((answer_to (passing m) work).value ≡ None)
unfolding answer_to work_after
passing_drops (Short dir address service) work e = absurd (omega arith)
passing_drops (Plain u b) work e = absurd (omega arith)
passing_drops (Fragment u number total b) work e = lost_drops u (piece_of u number total b) work (joined_in work u.address (piece_of u number total b)) e

-- the status byte of the guest's record becomes 0, and nothing else alters
pub six_drops : (r work : List ℕ) → (answer_of r work).number ≡ 6
    → (work_of r work ≡ dropped (base (guest_of (message_of r))) work) × ((answer_of r work).value ≡ None)
unfolding judged_of answer_to
six_drops r work =
    let n = first_of (frame_checks (length work) r) in
    let few = first_most 5 (frame_checks (length work) r) refl in
    split (eqb n 0)
    (λ t. simp t (passing_drops (message_of r) work))
    (λ t. split (leb n 3) (λ l. simp (t, l) (λ e. absurd (omega (arith, few)))) (λ l. simp (t, l) (λ e. absurd (omega (arith, few)))))

-- "A whole frame is handed over at once and doesn't disturb a filling record"; its bytes are the frame's data
pub whole_handed_over : (r work : List ℕ) (u : Subject) (b : Data) → Good work → read_of r ≡ Ok (Plain u b) → answers_read u ≡ true → b.len ≢ 0
    → (seen_of r work ≡ (gives 0 (Whole u.address u.object u.id b.len) false, bytes_of b)) × (work_of r work ≡ work)
unfolding message_judged whole_judged answer_to work_after part_of
whole_handed_over r work u b g e a n =
    let j : judged_of (length work) r ≡ whole u b.len = message_judged_lem (length work) r (Plain u b) g e ∙ simp (a, ne_eqb b.len 0 n) in
    rw j (λ i. (gives 0 (Whole u.address u.object u.id b.len) false, (plain_part r u b e ∙ sym (plain_bytes r u b e)) i), refl)

-- ---- mixing

module _ (k : Kept) (start : k.work ≡ replicate collect_size 0) (fit : Fits k.tally) where
  good : Good k.work
  good = cleared_size k.work start

  mix : (fs gs : List (List ℕ)) → length fs ≡ length gs → ((o : ℕ) → inputs_of owner_of o fs ≡ inputs_of owner_of o gs)
      → ((o : ℕ) → answers_of owner_of o (trace next seen fs k) ≡ answers_of owner_of o (trace next seen gs k)) × (run next fs k ≡ run next gs k)
  mix fs gs n h =
      let m = mixed collect_local fs gs k.work good h in (
        λ o. rw (seen_along fs k, seen_along gs k) (m.0 o),
        λ i. record {
          work = (work_after_lem fs k ∙ m.1 ∙ sym (work_after_lem gs k)) i;
          tally = tally_mixed fs gs k fit good n m.0 i;
        },
      )

  pub mixes : Mixes k
  mixes = record {
    any_mix = mix;
    one_after_another = λ os each fs.
        mix fs (serially owner_of os fs ++ Mixing.nobodys owner_of fs) (series_long owner_of guest_count owner_below os each fs)
        (series_own owner_of guest_count owner_below os each fs);
    at_its_turn = λ o ps absent before behind r m.
        ap (seen_of r) (work_after_lem before k)
        ∙ in_turn collect_local o ps absent before behind r k.work good m
        ∙ ap (seen_of r) (sym (work_after_lem (serially owner_of ps (before ++ r ∷ behind) ++ inputs_of owner_of o before) k));
    nobodys_anywhere = λ before r m. ap (seen_of r) (work_after_lem before k) ∙ free_anywhere collect_local before r k.work good m;
    from_history = λ before r.
        ap (λ (w : List ℕ). told_of (seen_of r w)) (work_after_lem before k ∙ run_since before k.work) ∙ told_is k.work good (cleared_status k.work start)
        (reverse before) r;
  }

-- ---- from the history, in 02's words

module _ (h : List (List ℕ)) (r : List ℕ) (u : Subject) (p : Piece) (j : judged_of collect_size r ≡ piece u p) where
  -- a fragment hands over a value exactly when it has the last number, and the fragments just before it from that guest carry 0 to m - 1, the same object,
  -- ID (both are the key) and total
  pub handed_over_exactly : (hands_over (told h r).value ≡ true) ↔ Completes joiner (pieces_of u.address h) p
  unfolding told_by joined_by completes
  handed_over_exactly = completes_when (completes_in_words joiner (pieces_of u.address h) p)
    where
      completes_when : ((completes joiner (pieces_of u.address h) p ≡ true) ↔ Completes joiner (pieces_of u.address h) p)
          → (hands_over (told h r).value ≡ true) ↔ Completes joiner (pieces_of u.address h) p
      completes_when w = rw j
          (split (chain p.key p.total p.number (pieces_of u.address h))
          (λ c. split (last joiner p) (λ l. simp (c, l) (simp (c, l) at w)) (λ l. simp (c, l) (simp (c, l) at w)))
          (λ c. split (last joiner p) (λ l. simp (c, l) (simp (c, l) at w)) (λ l. simp (c, l) (simp (c, l) at w))))

  -- and its bytes are theirs, in order
  pub handed_over_bytes : Completes joiner (pieces_of u.address h) p
      → told h r ≡ tells 0 (Complete u.address u.object u.id p.total) (message (pieces_of u.address h) p)
  unfolding told_by joined_by completes
  handed_over_bytes c =
      let both = halves (last joiner p) ((completes_in_words joiner (pieces_of u.address h) p).1 c) in
      rw j (simp (both.0, both.1))
