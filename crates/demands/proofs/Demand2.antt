-- Demand 2 is met (specs/Demand2), and what the codec and the frames of an answer promise by themselves.
use Prim.Native.Nat.{ℕ, ◌*◌, ◌≤◌, ◌<◌}
use mathlib.Core.Path.{◌≡◌, refl, sym, ap, ◌∙◌}
use mathlib.Core.Bool.{true, false, cond, not, or-false}
use mathlib.Mathlib.Data.Bool.Basic.{or-eq-false-eq-eq-false-and-eq-false as neither}
use mathlib.Core.List.{List, [], ◌∷◌, ◌++◌}
use native.Mathlib.Omega.{arith}
use lib.ListN.{length, get_or, take, drop}
use lib.Seq.{take_at, drop_at}
use lib.Dec.{eqb, leb}
use borrow.Author.Tests.{eqb-true, eqb-false, leb-true, leb-false, not-false}
use Rattle.laws.specs.Bytes.{Bytes}
use Rattle.laws.specs.Checks.{first_of, holds_at}
use Rattle.laws.proofs.Put.{put_front, one_put, one_beside}
use Rattle.laws.proofs.Tests.{split}
use Rattle.laws.proofs.Checks.{none_holds, holds_append}
use Rattle.octets.specs.declared.Data.{Data}
use Rattle.octets.specs.Data.{most_data, data_of}
use Rattle.codec.specs.declared.Header.{Header}
use Rattle.std.specs.Prelude.{Result, Ok}
use Rattle.codec.specs.declared.Message.{Message}
use Rattle.codec.specs.declared.Message.TheVariants.{Short, Plain, Fragment}
use Rattle.codec.specs.Names.{most_address, write_off, write_on, lowest_long, successful, erroneous}
use Rattle.codec.specs.Fields.{header_of}
use Rattle.codec.specs.Reading.{unserved, short_of, message_of, read_of}
use Rattle.codec.specs.Writing.{write_number, written_of, cleared_of}
use Rattle.codec.proofs.Headers.{ranged, long_served}
use Rattle.codec.proofs.Promises as codec
use Rattle.table.specs.declared.Attribute.{Attribute}
use Rattle.table.proofs.Tables.{part_whole}
use Rattle.join.specs.Work.{lost}
use Rattle.guest.specs.declared.Plan.TheVariants.{Join}
use Rattle.guest.specs.Checks.{in_short, not_for_us, short_write, out_of_order, plan_checks, piece_of}
use Rattle.guest.specs.Errors.{code_of}
use Rattle.guest.specs.Step.{Judged, asks, state_of, judged_of, short, write, effect_of, joined_in, perform, answering, error_frame, success_frame, acknowledge_of, short_frame, fragment_part, fragment_count, read_frames, reply_to, flat, sent, Call, setting_of, Outcome, outcome_of, step_of}
use Rattle.guest.specs.Frames.{data_of_frames}
use Rattle.guest.proofs.Short.{short_most}
use Rattle.guest.proofs.Plans.{accepted, ServedBy, by_switch, by_read, by_write, by_join, served_by}
use Rattle.guest.proofs.Frames.{reply_tens, reply_count, flat_length, whole_reads, nth_reads, read_data, read_count, error_reads, success_reads, short_reads}
use Rattle.demands.specs.Demand1.{checks_of, error_for}
use Rattle.demands.specs.Demand2.{frames_for, Sent, left_by, Served, switched, read, written, fragment, SaysWhy, Demand2}
use Rattle.demands.proofs.Demand1.{refused_has_entry, demand_1}

-- ---- the codec, alone

-- reading what was written gives the message
pub written_is_read : (m : Message) (r : List ℕ) → write_number m r ≡ 0 → read_of (written_of m r) ≡ Ok m
written_is_read = codec.written_is_read

-- writing what was read gives the record, with its unused bytes cleared
pub read_is_written : (r : List ℕ) (m : Message) → Bytes r → read_of r ≡ Ok m
    → (s : List ℕ) → length s ≡ 10 → (write_number m s ≡ 0) × (written_of m s ≡ cleared_of r)
read_is_written = codec.read_is_written

-- ---- what the frames of an answer say

-- the short acknowledge of a short Write, as the message that was meant
pub short_acknowledge_says : (own : ℕ) (h : Header) → own ≤ most_address → read_of (short_frame own h) ≡ Ok (Short 1 own (acknowledge_of h))
short_acknowledge_says = short_reads

-- the others: own address, service, object and ID are those that the checks let through

module _ (own : ℕ) (h : Header) (o : own ≤ most_address) (l : lowest_long ≤ h.service) (m : h.service ≤ 7) (b : h.object ≤ 31) where
  -- an error frame reads as Error, flag clear, and one byte, the code of the refusal
  pub error_says : (number : ℕ) → read_of (error_frame own h number) ≡ Ok (Plain (answering own h erroneous) (data_of (code_of number ∷ [])))
  error_says = error_reads own h o l m b

  -- the answer to a Write as Successful, flag clear, no data
  pub success_says : read_of (success_frame own h) ≡ Ok (Plain (answering own h successful) (data_of []))
  success_says = success_reads own h o l m b

  module _ (bs : List ℕ) where
    -- "up to 6, one Successful frame ..; above, fragments .. four data bytes each and the rest in the last": how many frames
    pub read_counts : length (read_frames own h bs) ≡ cond (leb (length bs) most_data) 1 (fragment_count (length bs))
    read_counts = read_count own h bs

    -- the one frame of up to six bytes says all of them
    pub whole_says : length bs ≤ most_data → (f : List ℕ) → read_frames own h bs ≡ f ∷ [] → read_of f ≡ Ok (Plain (answering own h successful) (data_of bs))
    whole_says = whole_reads own h o l m b bs

    -- above, frame n says that it is fragment n of so many bytes, and its own
    pub fragment_says : most_data < length bs → (n : ℕ) → n < fragment_count (length bs)
        → read_of (get_or (read_frames own h bs) n []) ≡ Ok (Fragment (answering own h successful) n (length bs) (data_of (fragment_part bs n)))
    fragment_says = nth_reads own h o l m b bs

    -- together they carry the attribute's bytes, all of them and in order
    pub read_says : data_of_frames (read_frames own h bs) ≡ bs
    read_says = read_data own h o l m b bs

-- ---- any call

module _ (c : Call) where
  sent_in_front : Sent c (step_of c)
  unfolding step_of outcome_of
  sent_in_front =
      let fs = frames_for c in
      let t = reply_tens (setting_of c) c.frame c.given in
      let n = flat_length fs t in
      let p : sent fs c.out ≡ flat fs ++ drop (10 * length fs) c.out = put_front c.out (flat fs) ∙ rw n in
      record {
        ten_each = t;
        counted = refl;
        most = reply_count (setting_of c) c.frame c.given;
        front = rw p (take_at (flat fs) (drop (10 * length fs) c.out) (10 * length fs) n);
        rest = rw p (drop_at (flat fs) (drop (10 * length fs) c.out) (10 * length fs) n);
      }

  -- a frame that no check refuses passes checks 1 to 12
  pub passes : ((n : ℕ) → holds_at (checks_of c) n ≡ false) → first_of (plan_checks (setting_of c) c.frame) ≡ 0
  passes free =
      (none_holds (plan_checks (setting_of c) c.frame) refl).1
      (λ n. holds_append (plan_checks (setting_of c) c.frame) ((out_of_order (message_of c.frame) c.given.work, 14) ∷ []) n (free n))

  -- a fragment that the joiner calls lost is answered 14
  lost_is_fourteen : (a : Attribute) (number total : ℕ) (b : Data) → judged_of (setting_of c) c.frame ≡ asks (Join a number total b)
      → joined_in c.given.work a (piece_of a.id number total b) ≡ lost → (step_of c).number ≡ 14
  unfolding step_of outcome_of reply_to
  lost_is_fourteen a number total b p q = rw (p, q)

  -- a frame of our address that is a short Write, as the codec reads it
  short_says : (h : Header) → not_for_us c.own h ≡ false → h.dir ≤ 1 → short_write h ≡ true
      → short_of h ≡ Short 0 c.own (cond (eqb h.service write_on) write_on write_off)
  short_says h ours most asked =
      let four = (neither (eqb h.dir 1) (not (eqb h.address c.own))).0 ours in
      let dir : h.dir ≡ 0 = omega (arith, eqb-false h.dir 1 four.0) in
      let address = eqb-true h.address c.own (not-false _ four.1) in
      let service : h.service ≡ cond (eqb h.service write_on) write_on write_off =
      split (eqb h.service write_on)
      (λ t. simp t (eqb-true h.service write_on t))
      (λ t. simp t (eqb-true h.service write_off (simp (t, or-false) at asked))) in
      rw (dir, address) (ap (Short 0 c.own) service)

  served_so : ((n : ℕ) → holds_at (checks_of c) n ≡ false) → Served c (step_of c)
  unfolding step_of outcome_of perform reply_to holds_at short_frame
  served_so free = go (served_by (setting_of c) c.frame (passes free))
    where
      go : ServedBy (setting_of c) c.frame → Served c (step_of c)
      go (by_switch a m z p) =
          let at = a.offset in
          let state = state_of (header_of c.frame) in
          let inside : at < length c.given.store = omega (arith, z.place.inside, z.one) in
          let leaves : step_of c ≡ left_by (write a (state ∷ []) short) c = rw p in
          switched (record {
            attribute = a;
            on = eqb (header_of c.frame).service write_on;
            says = m ∙ ap {B = Result Message ℕ} Ok (short_says (header_of c.frame) (free 4) (ranged c.frame).dir z.asked);
            first = z.found;
            single = z.single;
            may = z.may;
            takes = ap (λ (o : Outcome). get_or o.left.store at 0) leaves ∙ one_put c.given.store at state inside;
            others = λ i e. ap (λ (o : Outcome). get_or o.left.store i 0) leaves ∙ one_beside c.given.store at state inside i e;
            same_work = ap (λ (o : Outcome). o.left.work) leaves;
            acknowledged = ap (λ (j : Judged). (reply_to c.own (header_of c.frame) (effect_of (joined_in c.given.work) j) c.given.store).frames) p;
            leaves = leaves;
          })
      go (by_read a t z p) = read (record {
        attribute = a;
        asked = t;
        named = z.found;
        whole = part_whole a c.given.store z.place.inside;
        leaves = rw p;
      })
      go (by_write a u b t m z p) = written (record {
        attribute = a;
        about = u;
        body = b;
        asked = t;
        says = m;
        named = z.its.found;
        whole = z.whole;
        leaves = rw p;
      })
      go (by_join a u number total b t m z p) = fragment (record {
        attribute = a;
        about = u;
        number = number;
        total = total;
        body = b;
        asked = t;
        says = m;
        named = z.its.found;
        shaped = z.fits.shaped;
        whole = z.total_len;
        joins = joined_in c.given.work a (piece_of a.id number total b);
        joined_so = refl;
        in_order = λ q. omega (arith, lost_is_fourteen a number total b p q, (demand_1.served_exactly c).1 free);
        leaves = rw p;
      })

  -- what a call that is answered with an error frame has passed: check 1, and check 5 as a long form
  own_fits : 7 ≤ (step_of c).number → c.own ≤ most_address
  unfolding holds_at
  own_fits h = (accepted (setting_of c) c.frame (((demand_1.refused_exactly c (step_of c).number (omega arith)).0 refl).1 1 (omega arith))).own

  in_long : 7 ≤ (step_of c).number → in_short (header_of c.frame) ≡ false
  unfolding step_of outcome_of
  in_long h =
      split (in_short (header_of c.frame))
      (λ t. absurd (omega (arith, short_most (setting_of c) c.frame t c.given)))
      (λ f. f)

  service_fits : 7 ≤ (step_of c).number → lowest_long ≤ (header_of c.frame).service
  unfolding holds_at
  service_fits h =
      let five = ((demand_1.refused_exactly c (step_of c).number (omega arith)).0 refl).1 5 (omega arith) in
      (long_served (header_of c.frame) (eqb-false (header_of c.frame).dlc 0 (in_long h)) ((neither (unserved (header_of c.frame)) _).0 five).0).1

  -- the error frame stands in front of the output: 7 to 12, or 14
  error_in_front : 7 ≤ (step_of c).number → take 10 (step_of c).out ≡ error_for c (step_of c).number
  error_in_front h =
      split (leb (step_of c).number 12)
      (λ t. (demand_1.error_alters_one_frame c h (leb-true (step_of c).number 12 t)).0.front)
      (λ f.
      let fourteen : (step_of c).number ≡ 14 = omega (arith, leb-false (step_of c).number 12 f, demand_1.at_most_fourteen c, demand_1.thirteen_never c) in
      (demand_1.fourteen_drops c fourteen).0.front ∙ ap (error_for c) (sym fourteen))

  refused_why : 7 ≤ (step_of c).number → SaysWhy c (step_of c)
  refused_why h = record {
    code = code_of (step_of c).number;
    entry = refused_has_entry c h;
    says = ap read_of (error_in_front h)
        ∙ error_says c.own (header_of c.frame) (own_fits h) (service_fits h) (ranged c.frame).service (ranged c.frame).object (step_of c).number;
  }

pub demand_2 : Demand2 step_of
demand_2 = record { sends = sent_in_front; serves = served_so; says_why = refused_why }
