-- Each frame touches and tells what belongs to its guest only.
use Prim.Native.Nat.{ℕ, ◌+◌, ◌≤◌}
use mathlib.Core.Path.{◌≡◌, refl, sym, ap, subst, ◌∙◌}
use mathlib.Core.Logic.{◌≢◌}
use mathlib.Core.Option.{Option, none, some}
use mathlib.Core.List.{List}
use native.Mathlib.Omega.{arith}
use lib.ListN.{length}
use lib.Seq.{ext_get_or}
use borrow.Author.Tests.{le-leb}
use Rattle.laws.proofs.Put.{same_part}
use Rattle.laws.proofs.Mixing.{Local}
use Rattle.codec.specs.declared.Subject.{Subject}
use Rattle.join.specs.Work.{head_size, base, record_of, Piece, load, filling, Joined, kept, done, lost, joined, area_after}
use Rattle.join.proofs.Places.{in_record}
use Rattle.join.proofs.Records.{area_length, area_outside, area_both, load_same}
use Rattle.collect.specs.Checks.{collect_size, joiner}
use Rattle.collect.specs.Step.{Judged, nobodys, spoilt, whole, piece, owner, judged_of, join_value, join_answer, filling_in, joined_in, answer_to, work_after, part_of, work_of}
use Rattle.collect.specs.Belongs.{InRecord, Same, Good, owner_of, Seen, seen_of}
use Rattle.collect.proofs.Sound.{Sound, sound, room}

-- ---- a judged frame

good_after : (r : List ℕ) (j : Judged) → Sound r j → (x : List ℕ) → Good x → Good (work_after j x)
unfolding work_after
good_after r (nobodys n) z x g = g
good_after r (spoilt guest n) z x g = g
good_after r (whole u n) z x g = g
good_after r (piece u p) z x g = area_length joiner (base u.address) p z.1 (joined_in x u.address p) x (room u.address x z.0 g) ∙ g

-- another guest sees nothing of it
others_after : (r : List ℕ) (j : Judged) → Sound r j → (o : ℕ) → owner j ≢ some o → (x : List ℕ) → Good x → Same o (work_after j x) x
unfolding work_after
others_after r (nobodys n) z o ne x g = λ i q. refl
others_after r (spoilt guest n) z o ne x g = λ i q. refl
others_after r (whole u n) z o ne x g = λ i q. refl
others_after r (piece u p) z o ne x g =
    area_outside joiner (base u.address) p z.1 (InRecord o) (joined_in x u.address p) x (room u.address x z.0 g)
    (λ i a b q. ne (ap {B = Option ℕ} some (sym (in_record u.address i a b) ∙ q)))

-- two work areas that the guest cannot tell apart: the joiner says the same, and they stay so
module _ (r : List ℕ) (u : Subject) (p : Piece) (z : Sound r (piece u p)) (x y : List ℕ) (gx : Good x) (gy : Good y) (e : Same u.address x y) where
  same_record : load joiner (base u.address) x ≡ load joiner (base u.address) y
  same_record =
      load_same joiner (base u.address) (InRecord u.address) (in_record u.address) x y (room u.address x z.0 gx) (room u.address y z.0 gy) e

  same_joined : joined_in x u.address p ≡ joined_in y u.address p
  unfolding joined_in
  same_joined = ap (joined joiner p) same_record

  same_answer : answer_to (piece u p) x ≡ answer_to (piece u p) y
  unfolding answer_to filling_in
  same_answer = λ i. join_answer (filling joiner (same_record i)) u p (same_joined i)

  same_work : Same u.address (work_after (piece u p) x) (work_after (piece u p) y)
  unfolding work_after
  same_work =
      subst (λ (k : Joined). Same u.address (area_after joiner (base u.address) p (joined_in x u.address p) x) (area_after joiner (base u.address) p k y)) same_joined
      (area_both joiner (base u.address) p z.1 (InRecord u.address) (joined_in x u.address p) x y (room u.address x z.0 gx) (room u.address y z.0 gy) e)

  -- so what is handed over is the same: it is cut from the guest's record
  part_same : (k : Joined) (v w : List ℕ) → Good v → Good w → Same u.address v w → part_of (join_value u p k) r v ≡ part_of (join_value u p k) r w
  unfolding part_of
  part_same kept v w gv gw s = refl
  part_same lost v w gv gw s = refl
  part_same (done bs) v w gv gw s =
      let at = base u.address + head_size in
      let n = p.total in
      let fv : at + n ≤ length v = omega (arith, z.1.room, room u.address v z.0 gv) in
      let fw : at + n ≤ length w = omega (arith, z.1.room, room u.address w z.0 gw) in
      simp (le-leb (at + n) (length v) fv, le-leb (at + n) (length w) fw)
      (same_part (InRecord u.address) v w at n fv fw (λ i a b. in_record u.address i (omega arith) (omega (arith, z.1.room))) s)

-- what a caller sees of a judged frame
abbrev seen_by : List ℕ → Judged → List ℕ → Seen
seen_by r j x = (answer_to j x, part_of (answer_to j x).value r (work_after j x))

own_after : (r : List ℕ) (j : Judged) → Sound r j → (o : ℕ) → owner j ≡ some o → (x y : List ℕ) → Good x → Good y → Same o x y
    → Same o (work_after j x) (work_after j y) × (seen_by r j x ≡ seen_by r j y)
unfolding work_after answer_to part_of
own_after r (nobodys n) z o m x y gx gy e = (e, refl)
own_after r (spoilt guest n) z o m x y gx gy e = (e, refl)
own_after r (whole u n) z o m x y gx gy e = (e, refl)
own_after r (piece u p) z o m x y gx gy e =
    let its : u.address ≡ o = cc in
    let s : Same u.address x y = subst (λ (k : ℕ). Same k x y) (sym its) e in
    let w = same_work r u p z x y gx gy s in
    let told = same_answer r u p z x y gx gy s in
    let shown = part_same r u p z x y gx gy s (joined_in x u.address p) (work_after (piece u p) x) (work_after (piece u p) y) (good_after r (piece u p) z x gx)
    (good_after r (piece u p) z y gy) w in (
      subst (λ (k : ℕ). Same k (work_after (piece u p) x) (work_after (piece u p) y)) its w,
      λ i. (told i, (shown ∙ ap (λ (k : Joined). part_of (join_value u p k) r (work_after (piece u p) y)) (same_joined r u p z x y gx gy s)) i),
    )

free_after : (j : Judged) → owner j ≡ none → (x y r : List ℕ) → seen_by r j x ≡ seen_by r j y
unfolding work_after answer_to part_of
free_after (nobodys n) m x y r = refl
free_after (spoilt guest n) m x y r = let q : ◌≡◌ {A = ℕ} 0 1 = cc in absurd (omega arith)
free_after (whole u n) m x y r = let q : ◌≡◌ {A = ℕ} 0 1 = cc in absurd (omega arith)
free_after (piece u p) m x y r = let q : ◌≡◌ {A = ℕ} 0 1 = cc in absurd (omega arith)

-- ---- a frame, in work areas of their size

pub stays : (r x : List ℕ) → Good x → Good (work_of r x)
stays r x g = rw g (good_after r (judged_of collect_size r) (sound r) x g)

pub others : (o : ℕ) (r x : List ℕ) → owner_of r ≢ some o → Good x → Same o (work_of r x) x
others o r x ne g = rw g (others_after r (judged_of collect_size r) (sound r) o ne x g)

-- so the frames of different guests may be mixed
pub collect_local : Local work_of seen_of owner_of Good Same
collect_local = record {
  good_next = stays;
  same_refl = λ o x i q. refl;
  same_sym = λ o x y e i q. sym (e i q);
  same_trans = λ o x y z d e i q. d i q ∙ e i q;
  others = others;
  own_next = λ o r x y m gx gy e. rw (gx, gy) (own_after r (judged_of collect_size r) (sound r) o m x y gx gy e).0;
  own_answer = λ o r x y m gx gy e. rw (gx, gy) (own_after r (judged_of collect_size r) (sound r) o m x y gx gy e).1;
  free_answer = λ r x y m gx gy. rw (gx, gy) (free_after (judged_of collect_size r) m x y r);
  all_same = λ x y gx gy e. ext_get_or 0 x y (gx ∙ sym gy) (λ j b. e (record_of j) j refl);
}
