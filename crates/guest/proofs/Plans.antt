-- What a plan promises: the facts that checks 1 to 12 leave.
use Rattle.std.proofs.Common.{Option, Some, None}
use Prim.Native.Nat.{ℕ, ◌≤◌}
use mathlib.Core.Path.{◌≡◌, refl, sym, ap, subst, ◌∙◌}
use mathlib.Core.Bool.{Bool, true, false, not, ◌&&◌, ◌||◌, and-eq-true_iff}
use mathlib.Mathlib.Data.Bool.Basic.{or-eq-false-eq-eq-false-and-eq-false as neither}
use mathlib.Core.List.{List}
use native.Mathlib.Omega.{arith}
use lib.ListN.{length}
use lib.Dec.{eqb, leb, ltb}
use borrow.Author.Tests.{ltb-false, eqb-true, eqb-false, eq-eqb, not-false}
use Rattle.laws.specs.Checks.{first_of, holds_at}
use Rattle.laws.proofs.Tests.{split, clash, not_both, halves}
use Rattle.laws.proofs.Checks.{none_holds}
use Rattle.octets.specs.declared.Data.{Data}
use Rattle.octets.specs.Data.{bytes_of, tidy}
use Rattle.octets.proofs.Datas.{bytes_length, tidy_more}
use Rattle.codec.specs.declared.Header.{Header}
use Rattle.std.specs.Prelude.{Result, Ok}
use Rattle.codec.specs.declared.Subject.{Subject}
use Rattle.codec.specs.declared.Message.{Message}
use Rattle.codec.specs.declared.Message.TheVariants.{Short, Plain, Fragment}
use Rattle.codec.specs.Names.{frame_size, most_address, write_service, read_service}
use Rattle.codec.specs.Fields.{header_of}
use Rattle.codec.specs.Reading.{header_checks, barred, unserved, short_of, message_of, read_of}
use Rattle.codec.specs.Writing.{subject_fits, carried}
use Rattle.codec.proofs.Headers.{long_served, long_passes, short_passes, ranged}
use Rattle.codec.proofs.Long.{got, message_short, message_plain, message_fragment}
use Rattle.codec.proofs.Trips.{read_is_carried}
use Rattle.table.specs.declared.Attribute.{Attribute}
use Rattle.table.specs.Table.{lengths_fit, LengthsFit, attributes, writable, well_formed, find, first_network, single_boolean}
use Rattle.table.proofs.Tables.{lengths_fit_in_words, Placed, found_placed, found_named, network_placed, network_its, single_byte}
use Rattle.join.specs.Work.{area_size}
use Rattle.join.specs.History as Join
use Rattle.join.proofs.Joins.{simple_fit}
use Rattle.guest.specs.declared.Plan.{Plan}
use Rattle.guest.specs.declared.Plan.TheVariants.{Error, Read, Write, Join}
use Rattle.guest.specs.Checks.{Setting, least_out, misfit, in_short, short_write, takes_state, no_service, action_or_event, bad_shape, unknown, wrong_length, wrong_piece, fragment_bytes, joiner, piece_of, sought_in, plan_checks}
use Rattle.guest.specs.Step.{served, served_write, Judged, quiet, switches, asks, state_of, switched, passing, judged_of}

-- what check 1 leaves
pub record Accepted (s : Setting) (r : List ℕ) : Type 0 where
  pub ten : length r ≡ frame_size
  pub lengths : LengthsFit (length s.table) s.store_len
  pub work : s.work_len ≡ area_size
  pub out : least_out ≤ s.out_len
  pub own : s.own ≤ most_address

pub accepted : (s : Setting) (r : List ℕ) → misfit s r ≡ false → Accepted s r
accepted s r e =
    let own = (neither _ (ltb most_address s.own)).0 e in
    let out = (neither _ (ltb s.out_len least_out)).0 own.0 in
    let work = (neither _ (not (eqb s.work_len area_size))).0 out.0 in
    let front = (neither (not (eqb (length r) frame_size)) (not (lengths_fit (length s.table) s.store_len))).0 work.0 in
    record {
      ten = eqb-true (length r) frame_size (not-false _ front.0);
      lengths = (lengths_fit_in_words (length s.table) s.store_len).0 (not-false _ front.1);
      work = eqb-true s.work_len area_size (not-false _ work.1);
      out = ltb-false s.out_len least_out out.1;
      own = ltb-false most_address s.own own.1;
    }

-- check 8 lets no Read with the flag set pass
unflagged : (h : Header) → bad_shape h ≡ false → h.service ≡ read_service → h.flag ≡ 1 → ⊥
unflagged h b t f =
    let a = ((neither (eqb h.service read_service && (eqb h.flag 1 || not (eqb h.dlc 2))) _).0 b).0 in
    clash (eq-eqb h.flag 1 f)
    ((neither (eqb h.flag 1) (not (eqb h.dlc 2))).0 (simp (eq-eqb h.service read_service t) at a)).0

-- with the flag set, what check 8 lets pass is a Write of DLC 4 up
flagged : (h : Header) → bad_shape h ≡ false → ((h.service ≡ read_service → ⊥) → h.service ≡ write_service) → h.flag ≡ 1 → 4 ≤ h.dlc
flagged h b which f =
    let set = eq-eqb h.flag 1 f in
    let parts = (neither (eqb h.service read_service && (eqb h.flag 1 || not (eqb h.dlc 2))) _).0 b in
    split (eqb h.service read_service)
    (λ t. absurd (unflagged h b (eqb-true h.service read_service t) f))
    (λ t.
    let w = eq-eqb h.service write_service (which (eqb-false h.service read_service t)) in
    ltb-false h.dlc 4 (simp (w, set) at parts.1))

-- what checks 3 to 8 leave of a header in long form: the codec reads its record
pub record Passed (h : Header) : Type 0 where
  pub long : 2 ≤ h.dlc
  pub named : 4 ≤ h.service
  pub services : (h.service ≡ read_service → ⊥) → h.service ≡ write_service
  pub plain_read : h.service ≡ read_service → h.flag ≡ 1 → ⊥
  pub unrefused : first_of (header_checks h) ≡ 0

pub passed : (h : Header) → (h.dlc ≡ 0 → ⊥) → barred h ≡ false → unserved h ≡ false → action_or_event h ≡ false → bad_shape h ≡ false → Passed h
passed h z b n a p =
    let five = long_served h z n in
    let dlc = five.0 in
    let service = five.1 in
    let most = ltb-false 5 h.service a in
    let which : (h.service ≡ read_service → ⊥) → h.service ≡ write_service = λ n. omega arith in
    record {
      long = dlc;
      named = service;
      services = which;
      plain_read = unflagged h p;
      unrefused = long_passes h b dlc service (flagged h p which);
    }

-- ---- a record in long form

-- what is known of a setting and a record in long form that pass checks 1 to 12
pub record Unrefused (s : Setting) (r : List ℕ) : Type 0 where
  pub long : in_short (header_of r) ≡ false
  pub sizes : Accepted s r
  pub well : well_formed s.table s.store_len ≡ true
  pub read : read_of r ≡ Ok (message_of r)
  pub frame : Passed (header_of r)
  pub known : unknown (sought_in s.table (header_of r)) ≡ false
  pub length_fits : wrong_length (header_of r) (message_of r) (sought_in s.table (header_of r)) ≡ false
  pub piece_fits : wrong_piece (message_of r) ≡ false

pub unrefused : (s : Setting) (r : List ℕ) → in_short (header_of r) ≡ false → first_of (plan_checks s r) ≡ 0 → Unrefused s r
unfolding holds_at
unrefused s r long e =
    let none = (none_holds (plan_checks s r) refl).0 e in
    let sizes = accepted s r (none 1) in
    let served = ((neither (unserved (header_of r)) _).0 (none 5)).0 in
    let action = applies _ (none 7) in
    let shape = applies _ (none 8) in
    let frame = passed (header_of r) (eqb-false (header_of r).dlc 0 long) (none 3) served action shape in
    record {
      long = long;
      sizes = sizes;
      frame = frame;
      well = not-false _ (none 2);
      read = got r sizes.ten frame.unrefused;
      known = applies _ (none 9);
      length_fits = applies _ (none 11);
      piece_fits = applies _ (none 12);
    }
  where
    -- of a long form, each of checks 6 to 12 is asked
    applies : (b : Bool) → not (in_short (header_of r)) && b ≡ false → b ≡ false
    applies b e = not_both (not (in_short (header_of r))) b e (rw long)

-- ---- sound plans

-- what is known of the attribute that a frame in long form is served with
pub record Its (s : Setting) (h : Header) (a : Attribute) : Type 0 where
  pub found : find s.table h.object h.id ≡ Some a
  pub place : Placed (attributes s.table) s.store_len a
  pub object : a.object ≡ h.object
  pub id : a.id ≡ h.id
  pub area : s.work_len ≡ area_size

pub record ForWrite (s : Setting) (h : Header) (a : Attribute) (b : Data) : Type 0 where
  pub its : Its s h a
  pub tidied : tidy 6 b ≡ true
  pub whole : length (bytes_of b) ≡ a.len

pub record ForJoin (s : Setting) (h : Header) (a : Attribute) (number total : ℕ) (b : Data) : Type 0 where
  pub its : Its s h a
  pub tidied : tidy 4 b ≡ true
  pub total_len : total ≡ a.len
  pub fits : Join.Fit joiner (piece_of a.id number total b)

-- what is owed to each plan
abbrev pub Sound : Setting → Header → Plan → Type 0
Sound s h (Error n object) = object ≤ 31
Sound s h (Read a) = Its s h a
Sound s h (Write a b) = ForWrite s h a b
Sound s h (Join a number total b) = ForJoin s h a number total b

sound_write : (s : Setting) (r : List ℕ) (a : Attribute) → Its s (header_of r) a → (header_of r).service ≡ write_service
    → (m : Message) → carried m ≡ true → wrong_length (header_of r) m (Some a) ≡ false → wrong_piece m ≡ false
    → Sound s (header_of r) (served_write a m)
unfolding carried
sound_write s r a its w (Short d q v) c l p = its.place.fits.object
sound_write s r a its w (Plain u b) c l p =
    let t = ((and-eq-true_iff (subject_fits u) (tidy 6 b)).0 c).1 in
    let n : not (eqb b.len a.len) ≡ false = simp (eq-eqb (header_of r).service write_service w) at l in
    record { its = its; tidied = t; whole = bytes_length b t ∙ eqb-true b.len a.len (not-false _ n) }
sound_write s r a its w (Fragment u number total b) c l p =
    let q = ((and-eq-true_iff (subject_fits u) (tidy 4 b)).0 c).1 in
    let t = tidy_more 4 6 b (omega arith) q in
    let n : not (eqb total a.len) ≡ false = simp (eq-eqb (header_of r).service write_service w) at l in
    let len = eqb-true total a.len (not-false _ n) in
    record {
      its = its;
      tidied = q;
      total_len = len;
      fits = simple_fit fragment_bytes a.id total number (bytes_of b) (omega (arith, its.place.fits.short)) (rw (bytes_length b t) (not-false _ p));
    }

-- what a frame is about
pub sought_long : (t : List ℕ) (h : Header) → in_short h ≡ false → sought_in t h ≡ find t h.object h.id
unfolding sought_in
sought_long t h l = simp l

pub sought_short : (t : List ℕ) (h : Header) → in_short h ≡ true → sought_in t h ≡ first_network t 0
unfolding sought_in
sought_short t h l = simp l

pub its_of : (s : Setting) (r : List ℕ) → Unrefused s r → (a : Attribute) → sought_in s.table (header_of r) ≡ Some a → Its s (header_of r) a
its_of s r u a e =
    let found = sym (sought_long s.table (header_of r) u.long) ∙ e in
    let name = found_named s.table (header_of r).object (header_of r).id a found in
    record {
      found = found;
      place = found_placed s.table s.store_len (header_of r).object (header_of r).id a u.well found;
      object = name.0;
      id = name.1;
      area = u.sizes.work;
    }

pub sound_served : (s : Setting) (r : List ℕ) → Unrefused s r → (f : Option Attribute) → sought_in s.table (header_of r) ≡ f
    → Sound s (header_of r) (served (header_of r) (message_of r) f)
sound_served s r u None e = (ranged r).object
sound_served s r u (Some a) e =
    let its = its_of s r u a e in
    split (eqb (header_of r).service read_service)
    (λ t. simp t its)
    (λ t. simp t (sound_write s r a its (u.frame.services (eqb-false (header_of r).service read_service t)) (message_of r)
    (read_is_carried r (message_of r) u.read)
    (subst (λ (f : Option Attribute). wrong_length (header_of r) (message_of r) f ≡ false) e u.length_fits) u.piece_fits))

-- ---- a record in short form

-- what is known of the attribute that a short Write gives its state to
pub record ForSwitch (s : Setting) (h : Header) (a : Attribute) : Type 0 where
  pub found : first_network s.table 0 ≡ Some a
  pub asked : short_write h ≡ true
  pub single : single_boolean a ≡ true
  pub may : writable a ≡ true
  pub place : Placed (attributes s.table) s.store_len a
  pub object : a.object ≡ 0
  pub one : a.len ≡ 1
  pub area : s.work_len ≡ area_size

-- what check 5 leaves of a short form
pub taken_by : (h : Header) (f : Option Attribute) → in_short h ≡ true → no_service h f ≡ false → short_write h && takes_state f ≡ true
taken_by h f q e =
    let refused = ((neither (unserved h) _).0 e).1 in
    not-false _ (not_both (in_short h) (not (short_write h && takes_state f)) refused q)

for_switch : (s : Setting) (r : List ℕ) → in_short (header_of r) ≡ true → first_of (plan_checks s r) ≡ 0
    → (a : Attribute) → sought_in s.table (header_of r) ≡ Some a → ForSwitch s (header_of r) a
unfolding holds_at
for_switch s r q e a f =
    let none = (none_holds (plan_checks s r) refl).0 e in
    let well = not-false _ (none 2) in
    let found = sym (sought_short s.table (header_of r) q) ∙ f in
    let taken = halves (short_write (header_of r)) (taken_by (header_of r) (Some a) q (subst (λ (g : Option Attribute). no_service (header_of r) g ≡ false) f (none 5))) in
    let takes = halves (single_boolean a) taken.1 in
    record {
      found = found;
      asked = taken.0;
      single = takes.0;
      may = takes.1;
      place = network_placed s.table s.store_len 0 a well found;
      object = (network_its s.table 0 a found).0;
      one = single_byte a takes.0;
      area = (accepted s r (none 1)).work;
    }

-- ---- any record

-- what is owed to what is judged of a frame
abbrev pub SoundJudged : Setting → Header → Judged → Type 0
SoundJudged s h (quiet n) = Unit {0}
SoundJudged s h (switches a state) = ForSwitch s h a
SoundJudged s h (asks p) = Sound s h p

sound_switched : (s : Setting) (r : List ℕ) → in_short (header_of r) ≡ true → first_of (plan_checks s r) ≡ 0
    → (f : Option Attribute) → sought_in s.table (header_of r) ≡ f → SoundJudged s (header_of r) (switched (header_of r) f)
sound_switched s r q e None g = tt
sound_switched s r q e (Some a) g = for_switch s r q e a g

sound_passing : (s : Setting) (r : List ℕ) → first_of (plan_checks s r) ≡ 0 → (f : Option Attribute) → sought_in s.table (header_of r) ≡ f
    → SoundJudged s (header_of r) (passing (header_of r) (message_of r) f)
sound_passing s r e f g =
    split (in_short (header_of r))
    (λ q. simp q (sound_switched s r q e f g))
    (λ q. simp q (sound_served s r (unrefused s r q e) f g))

pub sound : (s : Setting) (r : List ℕ) → SoundJudged s (header_of r) (judged_of s r)
unfolding judged_of
sound s r =
    split (eqb (first_of (plan_checks s r)) 0)
    (λ t. simp t (sound_passing s r (eqb-true _ 0 t) (sought_in s.table (header_of r)) refl))
    (λ t. split (leb (first_of (plan_checks s r)) 6) (λ q. simp (t, q) tt) (λ q. simp (t, q) (ranged r).object))

-- ---- what a frame that passes checks 1 to 12 is served as

pub data ServedBy (s : Setting) (r : List ℕ) : Type 0 where
  by_switch : (a : Attribute) → read_of r ≡ Ok (short_of (header_of r)) → ForSwitch s (header_of r) a
      → judged_of s r ≡ switches a (state_of (header_of r)) → ServedBy s r
  by_read : (a : Attribute) → (header_of r).service ≡ read_service → Its s (header_of r) a → judged_of s r ≡ asks (Read a) → ServedBy s r
  by_write : (a : Attribute) (u : Subject) (b : Data) → (header_of r).service ≡ write_service → read_of r ≡ Ok (Plain u b)
      → ForWrite s (header_of r) a b → judged_of s r ≡ asks (Write a b) → ServedBy s r
  by_join : (a : Attribute) (u : Subject) (number total : ℕ) (b : Data) → (header_of r).service ≡ write_service → read_of r ≡ Ok (Fragment u number total b)
      → ForJoin s (header_of r) a number total b → judged_of s r ≡ asks (Join a number total b) → ServedBy s r

judged_passing : (s : Setting) (r : List ℕ) → first_of (plan_checks s r) ≡ 0 → (f : Option Attribute) → sought_in s.table (header_of r) ≡ f
    → judged_of s r ≡ passing (header_of r) (message_of r) f
unfolding judged_of
judged_passing s r e f q = simp (eq-eqb (first_of (plan_checks s r)) 0 e) (ap (λ (f : Option Attribute). passing (header_of r) (message_of r) f) q)

-- in short form it finds a record that takes its state
pub short_found : (s : Setting) (r : List ℕ) → in_short (header_of r) ≡ true → first_of (plan_checks s r) ≡ 0 → sought_in s.table (header_of r) ≡ None → ⊥
unfolding holds_at
short_found s r l e q =
    let five = (none_holds (plan_checks s r) refl).0 e 5 in
    let taken = halves (short_write (header_of r)) (taken_by (header_of r) None l (subst (λ (f : Option Attribute). no_service (header_of r) f ≡ false) q five)) in
    clash {P = ⊥} taken.1 refl

served_short : (s : Setting) (r : List ℕ) → in_short (header_of r) ≡ true → first_of (plan_checks s r) ≡ 0 → ServedBy s r
unfolding holds_at
served_short s r l e = found (sought_in s.table (header_of r)) refl
  where
    none : (n : ℕ) → holds_at (plan_checks s r) n ≡ false
    none = (none_holds (plan_checks s r) refl).0 e

    zero : (header_of r).dlc ≡ 0
    zero = eqb-true (header_of r).dlc 0 l

    says : read_of r ≡ Ok (short_of (header_of r))
    says = got r (accepted s r (none 1)).ten (short_passes (header_of r) (none 3) zero) ∙ ap {B = Result Message ℕ} Ok (message_short r zero)

    found : (f : Option Attribute) → sought_in s.table (header_of r) ≡ f → ServedBy s r
    found None q = absurd (short_found s r l e q)
    found (Some a) q = by_switch a says (for_switch s r l e a q) (judged_passing s r e (Some a) q ∙ simp l)

served_long : (s : Setting) (r : List ℕ) → in_short (header_of r) ≡ false → first_of (plan_checks s r) ≡ 0 → ServedBy s r
served_long s r l e = found (sought_in s.table (header_of r)) refl
  where
    h : Header
    h = header_of r

    u : Unrefused s r
    u = unrefused s r l e

    long : h.dlc ≡ 0 → ⊥
    long q = omega (arith, u.frame.long)

    plan : (f : Option Attribute) → sought_in s.table h ≡ f → judged_of s r ≡ asks (served h (message_of r) f)
    plan f q = judged_passing s r e f q ∙ simp l

    is_sound : (p : Plan) → judged_of s r ≡ asks p → Sound s h p
    is_sound p q = subst (SoundJudged s h) q (sound s r)

    found : (f : Option Attribute) → sought_in s.table h ≡ f → ServedBy s r
    found None q = clash (ap unknown q) u.known
    found (Some a) q =
        split (eqb h.service read_service)
        (λ t. let p : judged_of s r ≡ asks (Read a) = plan (Some a) q ∙ simp t in by_read a (eqb-true h.service read_service t) (is_sound (Read a) p) p)
        (λ t.
        let w = u.frame.services (eqb-false h.service read_service t) in
        split (eqb h.flag 1)
        (λ f.
        let m = message_fragment r long (eqb-true h.flag 1 f) in
        let p = plan (Some a) q ∙ simp (t, m) in
        by_join a _ _ _ _ w (u.read ∙ ap {B = Result Message ℕ} Ok m) (is_sound _ p) p)
        (λ f.
        let m = message_plain r long (eqb-false h.flag 1 f) in
        let p = plan (Some a) q ∙ simp (t, m) in
        by_write a _ _ w (u.read ∙ ap {B = Result Message ℕ} Ok m) (is_sound _ p) p))

pub served_by : (s : Setting) (r : List ℕ) → first_of (plan_checks s r) ≡ 0 → ServedBy s r
served_by s r e = split (in_short (header_of r)) (λ l. served_short s r l e) (λ l. served_long s r l e)
