-- Parts of the lent slices: what a copy leaves in them, and what stands in a record before a fragment's place.
use Prim.Native.Nat.{ℕ, ◌+◌, ◌*◌, ◌-◌, ◌<◌, ◌≤◌}
use mathlib.Core.Path.{◌≡◌, refl, sym, ap, ◌∙◌}
use mathlib.Core.Bool.{true, false, not, ◌&&◌, ◌||◌, or-true, and-false}
use mathlib.Core.List.{List, [], ◌∷◌, ◌++◌, append-nil, append_assoc}
use native.Mathlib.Omega.{arith}
use lib.ListN.{length, take, drop, length-append, length-take, length-drop, get_or-eq_default}
use lib.Seq.{get_or-drop, take-take, take_at, drop-length, drop-drop}
use lib.Dec.{eqb, leb, ltb}
use borrow.Author.Tests.{leb-true, leb-false, ltb-true, eqb-true, eqb-false, eq-eqb, ne_eqb, le-leb, lt-leb, lt-ltb, le-ltb}
use borrow.Rule.Slice.PartMut.{put_mid, Post-is, mid_len}
use Rattle.laws.specs.Bytes.{byte_at}
use Rattle.laws.specs.Put.{put}
use Rattle.octets.proofs.Copies.{copied_whole}
use Rattle.std.proofs.lemmas.List.{take_all}
use Rattle.laws.proofs.Tests.{split, halves}
use Rattle.join.specs.Work.{record_size, head_size, data_size, second_key, Joiner, simple, Piece, Work, load, same_key, filling, astray, last}
use Rattle.join.specs.Code.{keep_fits, join_fits, record_fits, key_fits, joined_from}
use Rattle.join.specs.History.{Fit}
use Rattle.join.proofs.Keys.{same_key_lem}
use Rattle.join.proofs.Records.{data_room}

-- what a record holds before a fragment's place, and the fragment's bytes, are the joined bytes that are read off the area
pub held_part : (j : Joiner) (at number : ℕ) (l body : List ℕ) → j.width * number ≤ data_size
    → take (j.width * number) (load j at l).held ++ body ≡ joined_from l at j.width number body
unfolding load
held_part j at number l body h = rw (take-take (j.width * number) data_size (drop (at + head_size) l) h)

-- and they are a part of the record's bytes
pub held_range : (at held n : ℕ) (l b f : List ℕ) → b ≡ drop at l → held ≡ n → f ≡ take (head_size + held - head_size) (drop head_size b)
    → f ≡ take n (drop (at + head_size) l)
held_range at held n l b f e h g =
    let m : head_size + held - head_size ≡ n = omega (arith, h) in
    g ∙ rw (m, e, drop-drop head_size at l) refl

-- bytes copied into a middle part of their length are put there
pub put_mid_lem : (at end : ℕ) (l m b : List ℕ) → end ≡ at + length b → m ≡ b → put_mid at (end - at) l m ≡ put l at b
unfolding put
put_mid_lem at end l m b n e =
    rw (e, Post-is at end l (omega arith), n)
    (sym (append_assoc (take at l) b (drop (at + length b) l)))

-- bytes copied to the front of a part, and then others into all that is behind them
pub both_copied : (held : ℕ) (front body part mid last : List ℕ) → length front ≡ held → length part ≡ held + length body
    → mid ≡ take (length part) front ++ drop (length front) part
    → (let rest = take (length mid - held) (drop held mid) in last ≡ take (length rest) body ++ drop (length body) rest)
    → put_mid held (length mid - held) mid last ≡ front ++ body
both_copied held front body part mid last n k e f =
    let short = take_all (length part) front (omega arith) in
    let long : length mid ≡ length part = ap length e ∙ rw short (simp (length-append, length-drop) (omega arith)) in
    let room = mid_len held (length mid) mid (omega arith) in
    let whole : last ≡ body = f ∙ copied_whole body (take (length mid - held) (drop held mid)) (omega (arith, room)) in
    let first : take held mid ≡ front = ap (take held) e ∙ rw short (take_at front (drop (length front) part) held n) in
    rw (whole, Post-is held (length mid) mid (omega arith), drop-length mid, append-nil body, first)

-- ---- where the lent slices have room

pub keeps : (work at w number body : ℕ) → number < 255 → at + head_size + w * number + body ≤ work → keep_fits work at w number body ≡ true
unfolding keep_fits
keeps work at w number body n h = simp (lt-ltb number 255 n, le-leb (at + head_size + w * number + body) work h)

-- from the bytes that an area has from a place on
pub room_as : (size at n : ℕ) → 0 < n → leb n (size - at) ≡ leb (at + n) size
room_as size at n h =
    split (leb n (size - at))
    (λ t. t ∙ sym (le-leb (at + n) size (omega (arith, h, leb-true n (size - at) t))))
    (λ f. f ∙ sym (lt-leb (at + n) size (omega (arith, h, leb-false n (size - at) f))))

pub next_byte : (n : ℕ) → n ≤ 255 → not (eqb n 255) ≡ ltb n 255
next_byte n h =
    split (eqb n 255)
    (λ t. simp t (sym (le-ltb n 255 (omega (arith, eqb-true n 255 t)))))
    (λ f. simp f (sym (lt-ltb n 255 (omega (arith, h, eqb-false n 255 f)))))

-- by the bytes of the key
pub by_one : (k size at w n b : ℕ) → k ≡ 1 → key_fits k size at w n b ≡ keep_fits size at w n b
unfolding key_fits
by_one k size at w n b e = simp e

pub by_two : (k size at w n b : ℕ) → k ≡ 2 → key_fits k size at w n b ≡ record_fits size at w n b
unfolding key_fits
by_two k size at w n b e = simp e

pub by_other : (k size at w n b : ℕ) → (k ≡ 1 → ⊥) → (k ≡ 2 → ⊥) → key_fits k size at w n b ≡ false
unfolding key_fits
by_other k size at w n b f g = simp (ne_eqb k 1 f, ne_eqb k 2 g)

-- what a test that passed says
pub kept_room : (size at w n b : ℕ) → keep_fits size at w n b ≡ true → (n < 255) × (at + head_size + w * n + b ≤ size)
unfolding keep_fits
kept_room size at w n b e = let f = halves (ltb n 255) e in (ltb-true n 255 f.0, leb-true (at + head_size + w * n + b) size f.1)

pub joins : (work at w number body part : ℕ) → at + head_size + w * number ≤ work → part ≡ w * number + body → join_fits work at w number body part ≡ true
unfolding join_fits
joins work at w number body part h e = simp (le-leb (at + head_size + w * number) work h, eq-eqb part (w * number + body) e)

-- a fragment that fits, in a record that is inside the area: it can be kept
pub fit_keeps : (w : ℕ) (p : Piece) → Fit (simple w) p → p.number < 255 → (work at : ℕ) → at + record_size ≤ work
    → keep_fits work at w p.number (length p.bytes) ≡ true
fit_keeps w p f n work at h = keeps work at w p.number (length p.bytes) n (omega (arith, data_room (simple w) p f))

-- and the last one joined to a part as long as the total
pub fit_joins : (w : ℕ) (p : Piece) → Fit (simple w) p → last (simple w) p ≡ true → (work at : ℕ) → at + record_size ≤ work
    → join_fits work at w p.number (length p.bytes) p.total ≡ true
fit_joins w p f t work at h =
    let end = leb-true p.total (w * p.number + w) t in
    joins work at w p.number (length p.bytes) p.total (omega (arith, f.shaped.inside, f.room)) (omega (arith, f.shaped.inside, f.shaped.fit))

-- what is joined fills its part
pub joins_whole : (work : List ℕ) (at w number part : ℕ) (body : List ℕ) → join_fits (length work) at w number (length body) part ≡ true
    → length (joined_from work at w number body) ≡ part
unfolding join_fits
joins_whole work at w number part body t =
    let held = at + head_size + w * number in
    let f = halves (leb held (length work)) t in
    let room = leb-true held (length work) f.0 in
    let whole = eqb-true part (w * number + length body) f.1 in
    simp (length-append, length-take, length-drop) (omega arith)

-- ---- check 14

-- it does not look at the fragment's data
pub astray_any : (j : Joiner) (r : Work) (p : Piece) → astray j r (record { key = p.key; total = p.total; number = p.number; bytes = [] }) ≡ astray j r p
unfolding astray
astray_any j r p = refl

-- a byte of a record is one of its area
pub from_place : (at n : ℕ) (l b : List ℕ) → b ≡ drop at l → byte_at b n ≡ byte_at l (at + n)
from_place at n l b e = rw e (get_or-drop at l n 0)

pub status_from : (at : ℕ) (l b : List ℕ) → b ≡ drop at l → byte_at b 0 ≡ byte_at l at
status_from at l b e = from_place at 0 l b e ∙ ap (byte_at l) (omega arith)

-- where the area lacks the next number, no fragment but number 0 passes, and no record is filling
pub few : (at : ℕ) (l b : List ℕ) → b ≡ drop at l → length b < 4 → length l ≤ at + 3
few at l b e h = omega (arith, ap length e ∙ length-drop at l)

pub lacking_idle : (j : Joiner) (at : ℕ) (l : List ℕ) → length l ≤ at + 3 → filling j (load j at l) ≡ false
unfolding load
lacking_idle j at l h = simp (get_or-eq_default l 0 {n = at + 3} h, and-false)

pub lacking : (j : Joiner) (at : ℕ) (l : List ℕ) (p : Piece) → (p.number ≡ 0 → ⊥) → length l ≤ at + 3 → astray j (load j at l) p ≡ true
unfolding load astray
lacking j at l p n h =
    simp (get_or-eq_default l 0 {n = at + 3} h, ne_eqb p.number 0 n, ne_eqb 0 p.number (λ e. n (sym e)), or-true)

-- as the code reads it off the record's bytes
pub filling_as : (j : Joiner) (at : ℕ) (l b : List ℕ) → b ≡ drop at l
    → filling j (load j at l) ≡ ((eqb (byte_at b 0) 1 && not (eqb (byte_at b 3) 0)) && ltb (j.width * byte_at b 3) (byte_at b 2))
unfolding load
filling_as j at l b e =
    rw (from_place at 2 l b e, from_place at 3 l b e, status_from at l b e)
    (split (eqb (byte_at l (at + 3)) 0)
    (λ t. simp (t, eqb-true (byte_at l (at + 3)) 0 t, and-false))
    (λ f. simp (f, le-leb 1 (byte_at l (at + 3)) (omega (arith, eqb-false (byte_at l (at + 3)) 0 f)))))

-- a record that agrees with a fragment, which is not number 0, lets it pass where its place is inside the total
pub agreed : (j : Joiner) (r : Work) (p : Piece) → (p.number ≡ 0 → ⊥)
    → r.status ≡ 1 → r.key ≡ p.key → r.total ≡ p.total → r.next ≡ p.number → astray j r p ≡ leb p.total (j.width * p.number)
unfolding astray
agreed j r p n s i t k =
    rw (s, t, k)
    (simp (ne_eqb p.number 0 n, (same_key_lem r.key p.key).1 i, eq-eqb p.total p.total refl, eq-eqb p.number p.number refl, le-leb 1 p.number (omega arith))
    (split (leb p.total (j.width * p.number))
    (λ e. simp (e, le-ltb (j.width * p.number) p.total (leb-true p.total (j.width * p.number) e)))
    (λ e. simp (e, lt-ltb (j.width * p.number) p.total (leb-false p.total (j.width * p.number) e)))))

-- as the code reads it off the record's bytes, test by test
module _ (j : Joiner) (at : ℕ) (l b : List ℕ) (e : b ≡ drop at l) (p : Piece) (n : p.number ≡ 0 → ⊥) where
  abbrev its_key : List ℕ
  its_key = take j.keyed (byte_at b 1 ∷ byte_at b second_key ∷ [])

  pub astray_as : astray j (load j at l) p
      ≡ (not (eqb (byte_at b 0) 1) || not (eqb (byte_at b 3) p.number) || not (eqb (byte_at b 2) p.total) || not (same_key its_key p.key)
      || leb p.total (j.width * p.number))
  unfolding astray load
  astray_as =
      let r = load j at l in
      let key : r.key ≡ its_key = rw (from_place at 1 l b e, from_place at second_key l b e) refl in
      rw (← key, status_from at l b e, from_place at 2 l b e, from_place at 3 l b e)
      (split (eqb r.status 1)
      (λ s. split (eqb r.next p.number)
      (λ k. split (eqb r.total p.total)
      (λ t. split (same_key r.key p.key)
      (λ i. agreed j r p n (eqb-true r.status 1 s) ((same_key_lem r.key p.key).0 i) (eqb-true r.total p.total t) (eqb-true r.next p.number k)
      ∙ simp (s, k, t, i))
      (λ i. simp (s, k, t, i, ne_eqb p.number 0 n, or-true)))
      (λ t. simp (s, k, t, ne_eqb p.number 0 n, or-true)))
      (λ k. simp (s, k, ne_eqb p.number 0 n, or-true)))
      (λ s. simp (s, ne_eqb p.number 0 n)))
