-- Each frame touches and tells what belongs to its object only.
use Prim.Native.Nat.{ℕ, ◌+◌, ◌≤◌, ◌<◌}
use mathlib.Core.Path.{◌≡◌, refl, sym, ap, subst, ◌∙◌}
use mathlib.Core.Logic.{◌≢◌}
use mathlib.Core.Option.{Option, none, some}
use mathlib.Core.List.{List}
use native.Mathlib.Omega.{arith}
use lib.ListN.{length}
use lib.Seq.{ext_get_or}
use Rattle.laws.specs.Put.{Agree}
use Rattle.laws.proofs.Put.{length_put, untouched, put_both, same_part}
use Rattle.laws.proofs.Mixing.{Local}
use Rattle.codec.specs.declared.Header.{Header}
use Rattle.codec.specs.Fields.{header_of}
use Rattle.table.specs.declared.Attribute.{Attribute}
use Rattle.table.specs.Table.{attributes, end_of, part_of, owner_in}
use Rattle.table.proofs.Tables.{Placed, part_is}
use Rattle.join.specs.Work.{record_size, record_count, area_size, base, record_of, Piece, load, Joined, kept, done, lost, joined}
use Rattle.join.specs.History.{Fit}
use Rattle.join.proofs.Places.{base_inside, in_record}
use Rattle.join.proofs.Records.{area_length, area_outside, area_both, dropped_length, dropped_outside, dropped_both, load_same, held_size, AsLong, joined_length}
use Rattle.guest.specs.declared.Plan.{Plan}
use Rattle.guest.specs.declared.Plan.TheVariants.{Read, Write, Join}
use Rattle.guest.specs.Checks.{Setting, joiner, piece_of}
use Rattle.guest.specs.Step.{Judged, quiet, errs, switches, asks, judged_of, plan_owner, owner, plain, fragmented, short, Effect, ignore, refuse, show, write, keep, join_effect, plan_effect, effect_of, joined_in, Areas, store_after, work_after, perform, read_frames, Reply, reply, reply_to, next, answer, owner_of}
use Rattle.guest.specs.Belongs.{InPart, InRecord, Same, Good}
use Rattle.guest.proofs.Plans.{Its, Sound, SoundJudged, sound}

same_refl : (t : List ℕ) (o : ℕ) (x : Areas) → Same t o x x
same_refl t o x = record { store = λ i p. refl; work = λ i p. refl }

-- an object's record has room in the work area
pub room : (o : ℕ) (w : List ℕ) → o ≤ 31 → length w ≡ area_size → base o + record_size ≤ length w
room o w h e = rw e (base_inside o h)

-- ---- effects of one object's frames

module _ (s : Setting) (o : ℕ) where
  -- an attribute of the object, in a work area of its size
  record Owned (a : Attribute) : Type 0 where
    object : a.object ≡ o
    place : Placed (attributes s.table) s.store_len a
    area : s.work_len ≡ area_size

  -- the record of an object's half-built message
  record Half (q : ℕ) : Type 0 where
    object : q ≡ o
    below : q ≤ 31
    area : s.work_len ≡ area_size

  -- what an effect keeps to
  abbrev Within : Effect → Type 0
  Within (ignore n) = Unit {0}
  Within (refuse n none) = Unit {0}
  Within (refuse n (some q)) = Half q
  Within (show a) = Owned a
  Within (write a bs form) = Owned a × (length bs ≡ a.len)
  Within (keep a p) = Owned a × Fit joiner p

  half : (a : Attribute) → Owned a → Half a.object
  half a z = record { object = z.object; below = z.place.fits.object; area = z.area }

  inside : (a : Attribute) (bs : List ℕ) → Owned a → length bs ≡ a.len → (x : Areas) → Good s x → a.offset + length bs ≤ length x.store
  inside a bs z n x g = omega (arith, z.place.inside, g.store)

  record_room : (q : ℕ) → Half q → (x : Areas) → Good s x → base q + record_size ≤ length x.work
  record_room q z x g = room q x.work z.below (g.work ∙ z.area)

  -- lengths stay
  store_length : (e : Effect) → Within e → (x : Areas) → Good s x → length (store_after e x.store) ≡ length x.store
  store_length (ignore n) z x g = refl
  store_length (refuse n d) z x g = refl
  store_length (show a) z x g = refl
  store_length (write a bs form) z x g = length_put x.store a.offset bs (inside a bs z.0 z.1 x g)
  store_length (keep a p) z x g = refl

  work_length : (e : Effect) → Within e → (x : Areas) → Good s x → length (work_after e x.work) ≡ length x.work
  work_length (ignore n) z x g = refl
  work_length (refuse n none) z x g = refl
  work_length (refuse n (some q)) z x g = dropped_length (base q) x.work (record_room q z x g)
  work_length (show a) z x g = refl
  work_length (write a bs plain) z x g = refl
  work_length (write a bs short) z x g = refl
  work_length (write a bs fragmented) z x g = dropped_length (base a.object) x.work (record_room a.object (half a z.0) x g)
  work_length (keep a p) z x g =
      area_length joiner (base a.object) p z.1 kept x.work (record_room a.object (half a z.0) x g)

  good : (e : Effect) → Within e → (x : Areas) → Good s x → Good s (perform e x)
  unfolding perform
  good e z x g = record { store = store_length e z x g ∙ g.store; work = work_length e z x g ∙ g.work }

  -- another object sees nothing of it
  module _ (k : ℕ) (ne : k ≢ o) where
    no_part : (a : Attribute) → Owned a → (i : ℕ) → a.offset ≤ i → i < end_of a → InPart s.table k i → ⊥
    no_part a z i l h p = ne (sym p ∙ z.place.its i l h ∙ z.object)

    no_record : (q : ℕ) → Half q → (i : ℕ) → base q ≤ i → i < base q + record_size → InRecord k i → ⊥
    no_record q z i l h p = ne (sym p ∙ in_record q i l h ∙ z.object)

    store_other : (e : Effect) → Within e → (x : Areas) → Good s x → Agree (InPart s.table k) (store_after e x.store) x.store
    store_other (ignore n) z x g = λ i p. refl
    store_other (refuse n d) z x g = λ i p. refl
    store_other (show a) z x g = λ i p. refl
    store_other (write a bs form) z x g =
        untouched (InPart s.table k) x.store a.offset bs (inside a bs z.0 z.1 x g) (λ i l h. no_part a z.0 i l (omega (arith, z.1)))
    store_other (keep a p) z x g = λ i p. refl

    work_other : (e : Effect) → Within e → (x : Areas) → Good s x → Agree (InRecord k) (work_after e x.work) x.work
    work_other (ignore n) z x g = λ i p. refl
    work_other (refuse n none) z x g = λ i p. refl
    work_other (refuse n (some q)) z x g = dropped_outside (base q) x.work (record_room q z x g) (InRecord k) (no_record q z)
    work_other (show a) z x g = λ i p. refl
    work_other (write a bs plain) z x g = λ i p. refl
    work_other (write a bs short) z x g = λ i p. refl
    work_other (write a bs fragmented) z x g =
        dropped_outside (base a.object) x.work (record_room a.object (half a z.0) x g) (InRecord k) (no_record a.object (half a z.0))
    work_other (keep a p) z x g =
        area_outside joiner (base a.object) p z.1 (InRecord k) kept x.work (record_room a.object (half a z.0) x g)
        (no_record a.object (half a z.0))

    other : (e : Effect) → Within e → (x : Areas) → Good s x → Same s.table k (perform e x) x
    unfolding perform
    other e z x g = record { store = store_other e z x g; work = work_other e z x g }

  -- two states that the object cannot tell apart stay so, and the frame is answered the same
  module _ (x y : Areas) (gx : Good s x) (gy : Good s y) (same : Same s.table o x y) where
    store_own : (e : Effect) → Within e → Agree (InPart s.table o) (store_after e x.store) (store_after e y.store)
    store_own (ignore n) z = same.store
    store_own (refuse n d) z = same.store
    store_own (show a) z = same.store
    store_own (write a bs form) z =
        put_both (InPart s.table o) x.store y.store a.offset bs (inside a bs z.0 z.1 x gx) (inside a bs z.0 z.1 y gy) same.store
    store_own (keep a p) z = same.store

    dropped_own : (q : ℕ) → Half q → Agree (InRecord o) (work_after (refuse 14 (some q)) x.work) (work_after (refuse 14 (some q)) y.work)
    dropped_own q z = dropped_both (base q) x.work (record_room q z x gx) (InRecord o) y.work (record_room q z y gy) same.work

    work_own : (e : Effect) → Within e → Agree (InRecord o) (work_after e x.work) (work_after e y.work)
    work_own (ignore n) z = same.work
    work_own (refuse n none) z = same.work
    work_own (refuse n (some q)) z = dropped_own q z
    work_own (show a) z = same.work
    work_own (write a bs plain) z = same.work
    work_own (write a bs short) z = same.work
    work_own (write a bs fragmented) z = dropped_own a.object (half a z.0)
    work_own (keep a p) z =
        area_both joiner (base a.object) p z.1 (InRecord o) kept x.work y.work
        (record_room a.object (half a z.0) x gx) (record_room a.object (half a z.0) y gy) same.work

    next_alike : (e : Effect) → Within e → Same s.table o (perform e x) (perform e y)
    unfolding perform
    next_alike e z = record { store = store_own e z; work = work_own e z }

    -- the part of an attribute is cut from its object's bytes
    part_same : (a : Attribute) → Owned a → part_of a x.store ≡ part_of a y.store
    part_same a z =
        let px : end_of a ≤ length x.store = omega (arith, z.place.inside, gx.store) in
        let py : end_of a ≤ length y.store = omega (arith, z.place.inside, gy.store) in
        part_is a x.store px
        ∙ same_part (InPart s.table o) x.store y.store a.offset a.len px py (λ i l k. z.place.its i l k ∙ z.object) same.store
        ∙ sym (part_is a y.store py)

    told : (h : Header) (e : Effect) → Within e → reply_to s.own h e x.store ≡ reply_to s.own h e y.store
    unfolding reply_to
    told h (ignore n) z = refl
    told h (refuse n d) z = refl
    told h (show a) z = ap (λ (bs : List ℕ). reply 0 (read_frames s.own h bs)) (part_same a z)
    told h (write a bs form) z = refl
    told h (keep a p) z = refl

-- ---- plans: their effect keeps to their owner

module _ (s : Setting) where
  owned : (a : Attribute) → Placed (attributes s.table) s.store_len a → s.work_len ≡ area_size → Owned s a.object a
  owned a p w = record { object = refl; place = p; area = w }

  pub record_of_lem : (h : Header) (a : Attribute) → Its s h a → (x : Areas) → Good s x → base a.object + record_size ≤ length x.work
  record_of_lem h a z x g = room a.object x.work z.place.fits.object (g.work ∙ z.area)

  join_within : (a : Attribute) (p : Piece) → Owned s a.object a → Fit joiner p → p.total ≡ a.len
      → (j : Joined) → AsLong p.total j → Within s a.object (join_effect a p j)
  join_within a p z f e kept l = (z, f)
  join_within a p z f e (done bs) l = (z, l ∙ e)
  join_within a p z f e lost l = half s a.object a z

  within : (h : Header) (p : Plan) → Sound s h p → (x : Areas) → Good s x → Within s (plan_owner p) (plan_effect (joined_in x.work) p)
  unfolding joined_in
  within h (Read a) z x g = owned a z.place z.area
  within h (Write a b) z x g = (owned a z.its.place z.its.area, z.whole)
  within h (Join a number total b) z x g =
      let k : Piece = piece_of a.id number total b in
      join_within a k (owned a z.its.place z.its.area) z.fits z.total_len (joined_in x.work a k)
      (joined_length joiner k z.fits (load joiner (base a.object) x.work) (held_size joiner (base a.object) x.work (record_of_lem h a z.its x g)))

  -- two states that the owner cannot tell apart give the same effect
  effect_same : (h : Header) (p : Plan) → Sound s h p → (x y : Areas) → Good s x → Good s y → Same s.table (plan_owner p) x y
      → plan_effect (joined_in x.work) p ≡ plan_effect (joined_in y.work) p
  unfolding joined_in
  effect_same h (Read a) z x y gx gy e = refl
  effect_same h (Write a b) z x y gx gy e = refl
  effect_same h (Join a number total b) z x y gx gy e =
      let k : Piece = piece_of a.id number total b in
      ap (λ (j : Joined). join_effect a k j)
      (ap (joined joiner k)
      (load_same joiner (base a.object) (InRecord a.object) (in_record a.object) x.work y.work (record_of_lem h a z.its x gx) (record_of_lem h a z.its y gy) e.work))

  plan_below : (h : Header) (p : Plan) → Sound s h p → plan_owner p ≤ 31
  plan_below h (Read a) z = z.place.fits.object
  plan_below h (Write a b) z = z.its.place.fits.object
  plan_below h (Join a number total b) z = z.its.place.fits.object

  -- ---- frames: nobody's, or their owner's

  -- the owner of a frame that has one
  abbrev keeper : Judged → ℕ
  keeper (quiet n) = 0
  keeper (errs n object) = object
  keeper (switches a state) = a.object
  keeper (asks p) = plan_owner p

  keeper_is : (j : Judged) (o : ℕ) → owner j ≡ some o → keeper j ≡ o
  keeper_is (quiet n) o m = let q : ◌≡◌ {A = ℕ} 0 1 = cc in absurd (omega arith)
  keeper_is (errs n object) o m = cc
  keeper_is (switches a state) o m = cc
  keeper_is (asks p) o m = cc

  abbrev after : Judged → Areas → Areas
  after j x = perform (effect_of (joined_in x.work) j) x

  abbrev said : Header → Judged → Areas → Reply
  said h j x = reply_to s.own h (effect_of (joined_in x.work) j) x.store

  module _ (h : Header) where
    judged_within : (j : Judged) → SoundJudged s h j → (x : Areas) → Good s x → Within s (keeper j) (effect_of (joined_in x.work) j)
    judged_within (quiet n) z x g = tt
    judged_within (errs n object) z x g = tt
    judged_within (switches a state) z x g = (owned a z.place z.area, sym z.one)
    judged_within (asks p) z x g = within h p z x g

    judged_same : (j : Judged) → SoundJudged s h j → (x y : Areas) → Good s x → Good s y → Same s.table (keeper j) x y
        → effect_of (joined_in x.work) j ≡ effect_of (joined_in y.work) j
    judged_same (quiet n) z x y gx gy e = refl
    judged_same (errs n object) z x y gx gy e = refl
    judged_same (switches a state) z x y gx gy e = refl
    judged_same (asks p) z x y gx gy e = effect_same h p z x y gx gy e

    judged_below : (j : Judged) → SoundJudged s h j → keeper j ≤ 31
    judged_below (quiet n) z = omega arith
    judged_below (errs n object) z = z
    judged_below (switches a state) z = z.place.fits.object
    judged_below (asks p) z = plan_below h p z

    good_after : (j : Judged) → SoundJudged s h j → (x : Areas) → Good s x → Good s (after j x)
    good_after j z x g = good s (keeper j) (effect_of (joined_in x.work) j) (judged_within j z x g) x g

    elsewhere : (j : Judged) → SoundJudged s h j → (o : ℕ) → o ≢ keeper j → (x : Areas) → Good s x → Same s.table o (after j x) x
    elsewhere j z o ne x g = other s (keeper j) o ne (effect_of (joined_in x.work) j) (judged_within j z x g) x g

    others_after : (j : Judged) → SoundJudged s h j → (o : ℕ) → owner j ≢ some o → (x : Areas) → Good s x → Same s.table o (after j x) x
    unfolding perform
    others_after (quiet n) z o ne x g = same_refl s.table o x
    others_after (errs n object) z o ne x g = same_refl s.table o x
    others_after (switches a state) z o ne x g = elsewhere (switches a state) z o (λ e. ne (ap {B = Option ℕ} some (sym e))) x g
    others_after (asks p) z o ne x g = elsewhere (asks p) z o (λ e. ne (ap {B = Option ℕ} some (sym e))) x g

    own_after : (j : Judged) → SoundJudged s h j → (o : ℕ) → owner j ≡ some o → (x y : Areas) → Good s x → Good s y → Same s.table o x y
        → Same s.table o (after j x) (after j y) × (said h j x ≡ said h j y)
    own_after j z o m x y gx gy e =
        let q = keeper_is j o m in
        let same : Same s.table (keeper j) x y = subst (λ (k : ℕ). Same s.table k x y) (sym q) e in
        let w = judged_within j z x gx in
        let alike = judged_same j z x y gx gy same in (
          subst (λ (k : ℕ). Same s.table k (after j x) (after j y)) q
              (subst (λ (f : Effect). Same s.table (keeper j) (after j x) (perform f y)) alike (next_alike s (keeper j) x y gx gy same _ w)),
          subst (λ (f : Effect). said h j x ≡ reply_to s.own h f y.store) alike (told s (keeper j) x y gx gy same h _ w),
        )

    free_said : (j : Judged) → owner j ≡ none → (x y : Areas) → said h j x ≡ said h j y
    unfolding reply_to
    free_said (quiet n) m x y = refl
    free_said (errs n object) m x y = let q : ◌≡◌ {A = ℕ} 0 1 = cc in absurd (omega arith)
    free_said (switches a state) m x y = let q : ◌≡◌ {A = ℕ} 0 1 = cc in absurd (omega arith)
    free_said (asks p) m x y = let q : ◌≡◌ {A = ℕ} 0 1 = cc in absurd (omega arith)

    below : (j : Judged) → SoundJudged s h j → (o : ℕ) → owner j ≡ some o → o < record_count
    below j z o m = omega (arith, judged_below j z, keeper_is j o m)

  pub next_good : (r : List ℕ) (x : Areas) → Good s x → Good s (next s r x)
  next_good r = good_after (header_of r) (judged_of s r) (sound s r)

  pub others : (o : ℕ) (r : List ℕ) (x : Areas) → owner_of s r ≢ some o → Good s x → Same s.table o (next s r x) x
  others o r x ne g = others_after (header_of r) (judged_of s r) (sound s r) o ne x g

  pub owner_below : (r : List ℕ) (o : ℕ) → owner_of s r ≡ some o → o < record_count
  owner_below r = below (header_of r) (judged_of s r) (sound s r)

  -- so its frames may be mixed
  pub device_local : Local (next s) (answer s) (owner_of s) (Good s) (Same s.table)
  device_local = record {
    good_next = next_good;
    same_refl = same_refl s.table;
    same_sym = λ o x y e. record { store = λ i p. sym (e.store i p); work = λ i p. sym (e.work i p) };
    same_trans = λ o x y z d e. record { store = λ i p. d.store i p ∙ e.store i p; work = λ i p. d.work i p ∙ e.work i p };
    others = others;
    own_next = λ o r x y m gx gy e. (own_after (header_of r) (judged_of s r) (sound s r) o m x y gx gy e).0;
    own_answer = λ o r x y m gx gy e. (own_after (header_of r) (judged_of s r) (sound s r) o m x y gx gy e).1;
    free_answer = λ r x y m gx gy. free_said (header_of r) (judged_of s r) m x y;
    all_same = λ x y gx gy e. λ i. record {
      store = ext_get_or 0 x.store y.store (gx.store ∙ sym gy.store) (λ j b. (e (owner_in (attributes s.table) j)).store j refl) i;
      work = ext_get_or 0 x.work y.work (gx.work ∙ sym gy.work) (λ j b. (e (record_of j)).work j refl) i;
    };
  }
