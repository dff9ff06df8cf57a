-- Both ends meet (specs/BothEnds).
use Prim.Native.Nat.{ℕ, zero, suc, ◌+◌, ◌*◌, ◌-◌, ◌≤◌, ◌<◌, min}
use mathlib.Core.Path.{◌≡◌, refl, sym, ap, ◌∙◌}
use mathlib.Core.Bool.{true, false, cond}
use mathlib.Core.List.{List, [], ◌∷◌, ◌++◌, map, map-append, reverse}
use native.Mathlib.Nat.{mul-suc}
use native.Mathlib.Omega.{arith}
use lib.ListN.{length, take, replicate, length-take, length-drop}
use lib.Seq.{take-add, take_all}
use lib.Dec.{eqb, leb}
use borrow.Author.Tests.{eqb-true, eqb-false, eq-eqb, leb-true, leb-false, le-leb, lt-leb, le-ltb, lt-ltb}
use Rattle.laws.specs.Checks.{holds_at}
use Rattle.laws.specs.Mixing.{run, trace}
use Rattle.laws.proofs.Mixing.{run_append, trace_append}
use Rattle.laws.proofs.Tests.{split}
use Rattle.octets.specs.Data.{most_data, data_of}
use Rattle.octets.proofs.Datas.{bytes_data}
use Rattle.codec.specs.declared.Header.{Header}
use Rattle.codec.specs.declared.Subject.{Subject}
use Rattle.std.specs.Prelude.{Ok}
use Rattle.codec.specs.declared.Message.TheVariants.{Plain}
use Rattle.codec.specs.Names.{most_address, read_service, successful}
use Rattle.codec.specs.Fields.{header_of}
use Rattle.codec.specs.Reading.{short_of, read_of}
use Rattle.codec.specs.Writing.{image_of}
use Rattle.codec.proofs.Headers.{ranged}
use Rattle.codec.proofs.Long.{message_plain, message_fragment}
use Rattle.codec.proofs.Trips.{read_message}
use Rattle.table.specs.declared.Attribute.{Attribute}
use Rattle.table.specs.Table.{part_of}
use Rattle.table.proofs.Tables.{part_whole}
use Rattle.join.specs.Work.{data_size, base, Piece, load, shaped_by}
use Rattle.join.specs.History.{chain, gather, message}
use Rattle.guest.specs.declared.Plan.TheVariants.{Read}
use Rattle.guest.specs.Step.{Judged, asks, judged_of, effect_of, joined_in, answering, fragment_part, fragment_frame, fragment_frames, fragment_count, read_frames, reply_to, Call, setting_of}
use Rattle.guest.proofs.Plans.{accepted, Its, ServedBy, by_switch, by_read, by_write, by_join, served_by}
use Rattle.guest.proofs.Frames.{whole_reads, fragment_reads, read_count}
use Rattle.std.specs.Prelude.{None}
use Rattle.collect.specs.Checks.{collect_size, joiner, answers_read, wrong_piece}
use Rattle.collect.specs.Step.{Whole, Complete, piece, gives, work_of}
use Rattle.collect.specs.Step as Collect
use Rattle.collect.specs.Belongs.{Good, Seen, seen_of, Kept, next, seen}
use Rattle.collect.specs.Mixes.{told_of}
use Rattle.collect.specs.Code.{message_judged}
use Rattle.collect.specs.History.{pieces_of, joined_by, Told, tells, told_by, told}
use Rattle.collect.proofs.Groups.{message_judged_lem, judged_piece}
use Rattle.collect.proofs.Sound.{cleared_size, cleared_status}
use Rattle.collect.proofs.Tallies.{work_after_lem}
use Rattle.collect.proofs.Shown.{since, run_since, since_good, told_is}
use Rattle.collect.proofs.Promises.{whole_handed_over}
use Rattle.demands.specs.Demand1.{checks_of}
use Rattle.demands.specs.Demand2.{frames_for}
use Rattle.demands.specs.BothEnds.{handed_over, only_last, value_for, Meets, BothEnds}
use Rattle.demands.proofs.Demand2.{passes}

replicate_more : (n : ℕ) {t : Told} → replicate n t ++ t ∷ [] ≡ replicate (suc n) t
replicate_more zero {t} = refl
replicate_more (suc n) {t} = ap {B = List Told} (λ l. t ∷ l) (replicate_more n)

-- ---- the fragments of an answer, one behind the other, at a collector

module _ (own : ℕ) (h : Header) (o : own ≤ most_address) (s : h.service ≡ read_service) (ob : h.object ≤ 31) (bs : List ℕ) (some : 1 ≤ length bs)
    (short : length bs ≤ 255) where
  abbrev u : Subject
  u = answering own h successful

  abbrev L : ℕ
  L = length bs

  abbrev m : ℕ
  m = fragment_count L

  frame : ℕ → List ℕ
  frame n = fragment_frame u bs n

  -- fragment n, as the joiner sees it
  abbrev P : ℕ → Piece
  P n = record { key = h.id ∷ h.object ∷ []; total = L; number = n; bytes = fragment_part bs n }

  part_length : (n : ℕ) → length (fragment_part bs n) ≡ min 4 (L - 4 * n)
  part_length n = simp (length-take, length-drop)

  answers : answers_read u ≡ true
  answers = simp (eq-eqb h.service read_service s)

  right : (n : ℕ) → n < m → wrong_piece L n (data_of (fragment_part bs n)).len ≡ false
  unfolding data_of shaped_by
  right n l =
      let inside : 4 * n < L = omega arith in
      simp (lt-ltb (4 * n) L inside, eq-eqb (length (fragment_part bs n)) (min 4 (L - 4 * n)) (part_length n), le-ltb data_size L short)

  -- it passes the collector's refusals 1 to 5
  judged : (n : ℕ) → n < m → Collect.judged_of collect_size (frame n) ≡ piece u (P n)
  unfolding message_judged frame
  judged n l =
      message_judged_lem collect_size (frame n) _ refl (fragment_reads own h o (omega arith) (omega arith) ob bs n)
      ∙ simp answers (judged_piece u n L (data_of (fragment_part bs n)) (λ z. omega arith) (right n l))
      ∙ ap (λ (d : List ℕ). piece u (record { key = h.id ∷ h.object ∷ []; total = L; number = n; bytes = d }))
      (bytes_data (fragment_part bs n) (omega (arith, part_length n)))

  -- the history when n of them have come, and what the guest's own fragments are then
  hist : List (List ℕ) → ℕ → List (List ℕ)
  hist h0 zero = h0
  hist h0 (suc n) = frame n ∷ hist h0 n

  one_more_piece : (n : ℕ) → n < m → (l : List (List ℕ)) → pieces_of own (frame n ∷ l) ≡ P n ∷ pieces_of own l
  one_more_piece n l k = rw (judged n l) (simp (eq-eqb own own refl))

  chained : (h0 : List (List ℕ)) (n : ℕ) → n ≤ m → chain (h.id ∷ h.object ∷ []) L n (pieces_of own (hist h0 n)) ≡ true
  unfolding chain hist
  chained h0 zero l = refl
  chained h0 (suc n) l =
      rw (one_more_piece n (omega arith) (hist h0 n))
      (simp (eq-eqb n n refl, eq-eqb h.id h.id refl, eq-eqb h.object h.object refl, eq-eqb L L refl, chained h0 n (omega arith)))

  gathered : (h0 : List (List ℕ)) (n : ℕ) → n ≤ m → gather n (pieces_of own (hist h0 n)) ≡ take (4 * n) bs
  unfolding gather hist
  gathered h0 zero l = refl
  gathered h0 (suc n) l =
      rw (one_more_piece n (omega arith) (hist h0 n))
      (rw (gathered h0 n (omega arith), mul-suc 4 n) (sym (take-add (4 * n) 4 bs)))

  -- every fragment but the last is kept, and the last hands over all of the bytes
  told_early : (h0 : List (List ℕ)) (n : ℕ) → suc n < m → told (hist h0 n) (frame n) ≡ tells 0 None []
  unfolding told_by joined_by
  told_early h0 n l =
      let more : leb L (4 * n + 4) ≡ false = lt-leb L (4 * n + 4) (omega arith) in
      rw (judged n (omega arith)) (simp (chained h0 n (omega arith), more))

  told_last : (h0 : List (List ℕ)) (n : ℕ) → suc n ≡ m → told (hist h0 n) (frame n) ≡ tells 0 (Complete own h.object h.id L) bs
  unfolding told_by joined_by message
  told_last h0 n l =
      let end : leb L (4 * n + 4) ≡ true = le-leb L (4 * n + 4) (omega arith) in
      let all : gather n (pieces_of own (hist h0 n)) ++ fragment_part bs n ≡ bs =
      rw (gathered h0 n (omega arith)) (sym (take-add (4 * n) 4 bs) ∙ take_all (4 * n + 4) bs (omega arith)) in
      rw (judged n (omega arith)) (simp (chained h0 n (omega arith), end, all))

  -- ---- at a collector

  module _ (x : List ℕ) (good : Good x) (clear : (g : ℕ) → g ≤ most_address → (load joiner (base g) x).status ≡ 0) (k : Kept) (h0 : List (List ℕ))
      (at : k.work ≡ since x h0) where
    after_fragments : (n : ℕ) → run work_of (fragment_frames u bs n) k.work ≡ since x (hist h0 n)
    unfolding hist frame
    after_fragments zero = at
    after_fragments (suc n) =
        run_append work_of (fragment_frames u bs n) (fragment_frame u bs n ∷ []) k.work ∙ ap (work_of (fragment_frame u bs n)) (after_fragments n)

    handed_at : (n : ℕ) (t : Told) → told (hist h0 n) (frame n) ≡ t → told_of (seen (frame n) (run next (fragment_frames u bs n) k)) ≡ t
    handed_at n t e =
        ap (λ (w : List ℕ). told_of (seen_of (frame n) w)) (work_after_lem (fragment_frames u bs n) k ∙ after_fragments n) ∙ told_is x good clear (hist h0 n) (frame n) ∙ e

    one_more_lem : (n : ℕ) (t : Told) → told (hist h0 n) (frame n) ≡ t → handed_over (fragment_frames u bs (suc n)) k ≡ handed_over (fragment_frames u bs n) k ++ t ∷ []
    unfolding frame
    one_more_lem n t e =
        ap (map (λ (a : List ℕ × Seen). told_of a.1)) (trace_append next seen (fragment_frames u bs n) (frame n ∷ []) k)
        ∙ map-append (λ (a : List ℕ × Seen). told_of a.1) (trace next seen (fragment_frames u bs n) k) _
        ∙ ap (λ (v : Told). handed_over (fragment_frames u bs n) k ++ v ∷ []) (handed_at n t e)

    early : (n : ℕ) → n < m → handed_over (fragment_frames u bs n) k ≡ replicate n (tells 0 None [])
    early zero l = refl
    early (suc n) l =
        one_more_lem n (tells 0 None []) (told_early h0 n l) ∙ ap (λ (a : List Told). a ++ tells 0 None [] ∷ []) (early n (omega arith)) ∙ replicate_more n

    fragments_meet : (n : ℕ) → suc n ≡ m → handed_over (fragment_frames u bs m) k ≡ only_last n (Complete own h.object h.id L) bs
    fragments_meet n e =
        rw (← e) (one_more_lem n _ (told_last h0 n e) ∙ ap (λ (a : List Told). a ++ tells 0 (Complete own h.object h.id L) bs ∷ []) (early n (omega arith)))

  -- ---- up to six bytes, in one frame

  module _ (few : L ≤ most_data) (k : Kept) (good : Good k.work) where
    whole_meets : handed_over (read_frames own h bs) k ≡ only_last 0 (Whole own h.object h.id L) bs
    unfolding read_frames data_of
    whole_meets =
        let t = le-leb L most_data few in
        let r : List ℕ = image_of (Plain u (data_of bs)) in
        let says = whole_reads own h o (omega arith) (omega arith) ob bs few r (simp t) in
        let shown = (whole_handed_over r k.work u (data_of bs) good says answers (λ z. omega arith)).0 in
        simp t (ap {B = List Told} (λ (a : Seen). told_of a ∷ []) (shown ∙ ap (λ (d : List ℕ). (gives 0 (Whole own h.object h.id L) false, d)) (bytes_data bs few)))

-- ---- a Read that no check refuses

module _ (c : Call) (free : (n : ℕ) → holds_at (checks_of c) n ≡ false) (a : Attribute) (service : (header_of c.frame).service ≡ read_service)
    (z : Its (setting_of c) (header_of c.frame) a) (p : judged_of (setting_of c) c.frame ≡ asks (Read a)) where
  abbrev asked : Header
  asked = header_of c.frame

  abbrev held : List ℕ
  held = part_of a c.given.store

  long : length held ≡ a.len
  long = part_whole a c.given.store z.place.inside

  some : 1 ≤ length held
  some = omega (arith, long, z.place.fits.some)

  short : length held ≤ 255
  short = omega (arith, long, z.place.fits.short)

  own_fits : c.own ≤ most_address
  unfolding holds_at
  own_fits = (accepted (setting_of c) c.frame (free 1)).own

  frames : frames_for c ≡ read_frames c.own asked held
  unfolding reply_to
  frames = ap (λ (j : Judged). (reply_to c.own asked (effect_of (joined_in c.given.work) j) c.given.store).frames) p

  -- the value, by the frame and by the bytes that the store holds
  value_is : value_for c a ≡ cond (leb (length held) most_data) (Whole c.own asked.object asked.id (length held))
      (Complete c.own asked.object asked.id (length held))
  value_is = λ i.
      cond (leb (sym long i) most_data) (Whole c.own (z.object i) (z.id i) (sym long i)) (Complete c.own (z.object i) (z.id i) (sym long i))

  module _ (k : Kept) (start : k.work ≡ replicate collect_size 0) (before : List (List ℕ)) where
    abbrev K : Kept
    K = run next before k

    at : K.work ≡ since k.work (reverse before)
    at = work_after_lem before k ∙ run_since before k.work

    good : Good k.work
    good = cleared_size k.work start

    abbrev Handed : Type 0
    Handed = handed_over (read_frames c.own asked held) K ≡ only_last (length (read_frames c.own asked held) - 1) (value_for c a) held

    in_one : length held ≤ most_data → Handed
    in_one few =
        let t = le-leb (length held) most_data few in
        let count : length (read_frames c.own asked held) ≡ 1 = read_count c.own asked held ∙ simp t in
        let value : Whole c.own asked.object asked.id (length held) ≡ value_for c a = sym (value_is ∙ simp t) in
        whole_meets c.own asked own_fits service (ranged c.frame).object held some short few K (rw at (since_good k.work (reverse before) good))
        ∙ (λ i. only_last (sym count i - 1) (value i) held)

    in_fragments : most_data < length held → Handed
    unfolding read_frames
    in_fragments many =
        let t = lt-leb (length held) most_data many in
        let n = fragment_count (length held) - 1 in
        let cut : read_frames c.own asked held ≡ fragment_frames (answering c.own asked successful) held (fragment_count (length held)) = simp t in
        let count : length (read_frames c.own asked held) ≡ fragment_count (length held) = read_count c.own asked held ∙ simp t in
        let value : Complete c.own asked.object asked.id (length held) ≡ value_for c a = sym (value_is ∙ simp t) in
        ap (λ (fs : List (List ℕ)). handed_over fs K) cut
        ∙ fragments_meet c.own asked own_fits service (ranged c.frame).object held some short k.work good (cleared_status k.work start) K
        (reverse before) at n (omega arith)
        ∙ (λ i. only_last (sym count i - 1) (value i) held)

  meets : Meets c
  meets = record {
    attribute = a;
    named = z.found;
    some = z.place.fits.some;
    short = z.place.fits.short;
    handed_over_lem = λ k start before.
        rw frames (split (leb (length held) most_data) (λ t. in_one k start before (leb-true (length held) most_data t)) (λ f. in_fragments k start before (leb-false (length held) most_data f)));
  }

-- a frame in long form is not read as a short one
long_is_not_short : (r : List ℕ) → ((header_of r).dlc ≡ 0 → ⊥) → read_of r ≡ Ok (short_of (header_of r)) → ⊥
long_is_not_short r z e =
    let says = read_message r (short_of (header_of r)) e in
    split (eqb (header_of r).flag 1)
    (λ t. let q = sym (message_fragment r z (eqb-true (header_of r).flag 1 t)) ∙ says in let n : ◌≡◌ {A = ℕ} 0 1 = cc in omega arith)
    (λ t. let q = sym (message_plain r z (eqb-false (header_of r).flag 1 t)) ∙ says in let n : ◌≡◌ {A = ℕ} 0 1 = cc in omega arith)

pub both_ends : BothEnds
both_ends c free is = go (served_by (setting_of c) c.frame (passes c free))
  where
    go : ServedBy (setting_of c) c.frame → Meets c
    go (by_read a t z p) = meets c free a t z p
    go (by_switch a m z p) = absurd (long_is_not_short c.frame (eqb-false (header_of c.frame).dlc 0 is.long) m)
    go (by_write a u b t m z p) = let q : ◌≡◌ {A = ℕ} 4 5 = sym t ∙ is.service in absurd (omega arith)
    go (by_join a u number total b t m z p) = let q : ◌≡◌ {A = ℕ} 4 5 = sym t ∙ is.service in absurd (omega arith)
