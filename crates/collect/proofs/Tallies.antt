-- The tally of a run: how many calls it had, how many of them handed over a value, and how many lost a message.
use Prim.Native.Nat.{ℕ, ◌≤◌}
use mathlib.Core.Path.{◌≡◌, refl, sym, ap, ◌∙◌}
use mathlib.Core.Bool.{Bool, true, false, cond}
use mathlib.Core.Option.{Option, none, some}
use mathlib.Core.List.{List, [], ◌∷◌}
use native.Mathlib.Omega.{arith}
use lib.Dec.{ltb}
use lib.ListN.{length}
use borrow.Author.Tests.{ltb-true, ltb-false}
use Rattle.laws.specs.Mixing.{those, is_owned, answers_of, run, trace}
use Rattle.laws.proofs.Tests.{split}
use Rattle.laws.proofs.Counts.{counted_alike}
use Rattle.std.specs.Prelude.{None}
use Rattle.collect.specs.declared.Tally.{Tally}
use Rattle.collect.specs.Checks.{collect_size, guest_count}
use Rattle.collect.specs.Step.{Answer, Judged, nobodys, spoilt, whole, piece, judged_of, owner, gives, answer_to, answer_of, work_of}
use Rattle.collect.specs.Tally.{most, one_more, hands_over, tallied, up_by, tallied_by}
use Rattle.collect.specs.Belongs.{Good, owner_of, Seen, seen_of, Kept, next, seen}
use Rattle.collect.proofs.Sound.{owner_below}
use Rattle.collect.proofs.Mixed.{stays}

-- what is counted of a call with its frame: that it handed over a value, and that it lost a message
abbrev pub finishes : List ℕ × Seen → Bool
finishes t = hands_over t.1.0.value

abbrev pub drops : List ℕ × Seen → Bool
drops t = t.1.0.dropped

-- no number of a tally is above the largest value
pub record Fits (t : Tally) : Type 0 where
  pub seen : t.seen ≤ most
  pub finished : t.finished ≤ most
  pub dropped : t.dropped ≤ most

-- nor is one after a call
one_fits : (n : ℕ) (on : Bool) → n ≤ most → one_more n on ≤ most
one_fits n true h = split (ltb n most) (λ t. simp t (omega (arith, ltb-true))) (λ t. simp t h)
one_fits n false h = h

next_fits : (t : Tally) (c : Answer) → Fits t → Fits (tallied t c)
unfolding tallied
next_fits t c h = record {
  seen = one_fits t.seen true h.seen;
  finished = one_fits t.finished (hands_over c.value) h.finished;
  dropped = one_fits t.dropped c.dropped h.dropped;
}

-- counting a call, and then those that a list holds: as many as where the call stands in front of them, if it counts
one_up : {X : Type 0} (n : ℕ) (on : Bool) (x : X) (l : List X) → n ≤ most → up_by (one_more n on) (length l) ≡ up_by n (length (cond on (x ∷ l) l))
one_up n true x l h = split (ltb n most) (λ t. simp t (omega (arith, ltb-true))) (λ t. simp t (omega (arith, ltb-false)))
one_up n false x l h = refl

-- the work area goes its way whatever the tally is
pub work_after_lem : (fs : List (List ℕ)) (k : Kept) → (run next fs k).work ≡ run work_of fs k.work
work_after_lem [] k = refl
work_after_lem (r ∷ fs) k = work_after_lem fs (next r k)

-- and so does what a caller sees
pub seen_along : (fs : List (List ℕ)) (k : Kept) → trace next seen fs k ≡ trace work_of seen_of fs k.work
seen_along [] k = refl
seen_along (r ∷ fs) k = ap {B = List (List ℕ × Seen)} (λ ts. (r, seen r k) ∷ ts) (seen_along fs (next r k))

-- THE TALLY: a run adds its calls, those of them that handed over a value, and those that lost a message
pub tally_after : (fs : List (List ℕ)) (k : Kept) → Fits k.tally
    → (run next fs k).tally
    ≡ tallied_by (length fs) (length (those finishes (trace work_of seen_of fs k.work))) (length (those drops (trace work_of seen_of fs k.work))) k.tally
unfolding tallied
tally_after [] k h =
    let t : Tally = k.tally in
    λ i. record { seen = up t.seen h.seen i; finished = up t.finished h.finished i; dropped = up t.dropped h.dropped i }
  where
    up : (n : ℕ) → n ≤ most → n ≡ up_by n 0
    up n l = omega arith
tally_after (r ∷ fs) k h =
    let t : Tally = k.tally in
    let c : Answer = answer_of r k.work in
    let ts : List (List ℕ × Seen) = trace work_of seen_of fs (work_of r k.work) in
    tally_after fs (next r k) (next_fits t c h)
    ∙ (λ i. record {
      seen = one_up t.seen true r fs h.seen i;
      finished = one_up t.finished (hands_over c.value) (r, seen r k) (those finishes ts) h.finished i;
      dropped = one_up t.dropped c.dropped (r, seen r k) (those drops ts) h.dropped i;
    })

-- ---- the order of the frames

-- a test of answers that takes no mere refusal
module _ (q : Answer → Bool) (quiet : (n : ℕ) → q (gives n None false) ≡ false) where
  -- the test, of a call with its frame; and the same, but only where the frame has an owner
  abbrev takes : List ℕ × Seen → Bool
  takes t = q t.1.0

  abbrev takes_owned : List ℕ × Seen → Bool
  takes_owned t = cond (is_owned (owner_of t.0)) (takes t) false

  -- no answer to a frame of no owner is taken
  not_taken : (x : List ℕ) (j : Judged) → owner j ≡ none → q (answer_to j x) ≡ false
  unfolding answer_to
  not_taken x (nobodys n) e = quiet n
  not_taken x (spoilt guest n) e = cc
  not_taken x (whole u n) e = cc
  not_taken x (piece u p) e = cc

  -- so both tests say the same of a call
  taken_alike : (r x : List ℕ) → Good x → (w : Option ℕ) → owner_of r ≡ w → q (answer_of r x) ≡ cond (is_owned w) (q (answer_of r x)) false
  taken_alike r x g none e = rw g (not_taken x (judged_of collect_size r) e)
  taken_alike r x g (some o) e = refl

  -- and take the same calls of a run
  those_alike : (fs : List (List ℕ)) (x : List ℕ) → Good x → those takes (trace work_of seen_of fs x) ≡ those takes_owned (trace work_of seen_of fs x)
  those_alike [] x g = refl
  those_alike (r ∷ fs) x g =
      λ i.
      let rest = those_alike fs (work_of r x) (stays r x g) i in
      cond (taken_alike r x g (owner_of r) refl i) ((r, seen_of r x) ∷ rest) rest

  -- of two runs that answer each owner's frames the same, the test takes as many calls
  count_mixed : (fs gs : List (List ℕ)) (x : List ℕ) → Good x
      → ((o : ℕ) → answers_of owner_of o (trace work_of seen_of fs x) ≡ answers_of owner_of o (trace work_of seen_of gs x))
      → length (those takes (trace work_of seen_of fs x)) ≡ length (those takes (trace work_of seen_of gs x))
  count_mixed fs gs x g same =
      ap length (those_alike fs x g)
      ∙ counted_alike (λ (t : List ℕ × Seen). owner_of t.0) guest_count (λ t. owner_below t.0) takes_owned (λ t e. simp e) (trace work_of seen_of fs x)
      (trace work_of seen_of gs x) same
      ∙ sym (ap length (those_alike gs x g))

-- THE TALLY OF A MIX: two runs of as many calls that answer each owner's frames the same leave the same tally
pub tally_mixed : (fs gs : List (List ℕ)) (k : Kept) → Fits k.tally → Good k.work → length fs ≡ length gs
    → ((o : ℕ) → answers_of owner_of o (trace work_of seen_of fs k.work) ≡ answers_of owner_of o (trace work_of seen_of gs k.work))
    → (run next fs k).tally ≡ (run next gs k).tally
tally_mixed fs gs k h g e same =
    let finished = count_mixed (λ c. hands_over c.value) (λ n. refl) fs gs k.work g same in
    let dropped = count_mixed (λ c. c.dropped) (λ n. refl) fs gs k.work g same in
    tally_after fs k h ∙ (λ i. tallied_by (e i) (finished i) (dropped i) k.tally) ∙ sym (tally_after gs k h)
