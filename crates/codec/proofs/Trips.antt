-- Both round trips, by the form of the message.
use Prim.Native.Nat.{ℕ, suc, ◌+◌, ◌-◌, ◌*◌, ◌/◌, ◌%◌, ◌<◌, ◌≤◌}
use mathlib.Core.Path.{◌≡◌, ap, ◌∙◌}
use mathlib.Core.Bool.{true, and-eq-true_iff}
use mathlib.Core.List.{List, [], ◌∷◌}
use native.Mathlib.Omega.{arith}
use lib.ListN.{length, take, drop, length-drop}
use lib.Seq.{length-take-le}
use lib.Dec.{eqb}
use borrow.Author.Tests.{eqb-true, eqb-false, eq-eqb, le-ltb}
use Rattle.laws.specs.Bytes.{Bytes, padded}
use Rattle.laws.specs.Checks.{first_of}
use Rattle.laws.proofs.Tests.{split}
use Rattle.laws.proofs.Bytes.{bytes_nil, bytes_cons, bytes_padded, bytes_take}
use Rattle.octets.specs.declared.Data.{Data}
use Rattle.octets.specs.Data.{data_of, places_of, bytes_of, tidy}
use Rattle.octets.proofs.Datas.{tidy_most, tidy_more, tidy_data, bytes_length, data_bytes}
use Rattle.codec.specs.declared.Header.{Header}
use Rattle.codec.specs.declared.Subject.{Subject}
use Rattle.std.specs.Prelude.{Ok, Err}
use Rattle.codec.specs.declared.Message.{Message}
use Rattle.codec.specs.declared.Message.TheVariants.{Short, Plain, Fragment}
use Rattle.codec.specs.Fields.{header_of}
use Rattle.codec.specs.Reading.{header_checks, subject_of, payload_of, short_of, long_of, message_of, read_of}
use Rattle.codec.specs.Writing.{Octets, subject_fits, can_header, long_frame, frame_of, image_of, carried, cleared_of, write_number, written_of}
use Rattle.codec.proofs.Headers.{Ranged, ranged, unbarred, Long, long_of_lem}
use Rattle.codec.proofs.Fits.{SubjectFits, subject_fits_lem, ShortFits, short_fits_lem}
use Rattle.codec.proofs.Long.{Shape, long_read, long_back, long_carried}

-- ---- what was written is read back

short_read : (d a s : ℕ) → ShortFits d a s → read_of (image_of (Short d a s)) ≡ Ok (Short d a s)
unfolding image_of frame_of header_of message_of read_of
short_read d a s f =
    let e0 : (d * 128 + a) / 128 % 2 ≡ d = omega arith in
    let e1 : (d * 128 + a) / 1 % 128 ≡ a = omega arith in
    let e2 : (s * 32 + 0) / 32 % 8 ≡ s = omega arith in
    let e3 : (s * 32 + 0) / 16 % 2 ≡ 0 = omega arith in
    let e4 : (s * 32 + 0) / 1 % 16 ≡ 0 = omega arith in
    simp (e0, e1, e2, e3, e4, le-ltb 125 a f.address)

plain_shape : (b : Data) → tidy 6 b ≡ true → Shape 0 (bytes_of b)
plain_shape b t = record { bit = omega arith; room = omega (arith, bytes_length b t, tidy_most 6 b t); numbered = λ z. absurd (omega arith) }

fragment_shape : (n k : ℕ) (b : Data) → tidy 4 b ≡ true → Shape 1 (n ∷ k ∷ bytes_of b)
fragment_shape n k b t = record {
  bit = omega arith;
  room = omega (arith, bytes_length b (tidy_more 4 6 b (omega arith) t), tidy_most 4 b t);
  numbered = λ z. omega arith;
}

pub written_read : (m : Message) → carried m ≡ true → read_of (image_of m) ≡ Ok m
unfolding carried image_of frame_of long_of
written_read (Short d a s) e = short_read d a s ((short_fits_lem d a s).0 e)
written_read (Plain u b) e =
    let f = (and-eq-true_iff (subject_fits u) (tidy 6 b)).0 e in
    long_read u 0 (bytes_of b) (plain_shape b f.1) ((subject_fits_lem u).0 f.0) ∙ ap (λ (d : Data). Ok (Plain u d)) (data_bytes b f.1)
written_read (Fragment u n k b) e =
    let f = (and-eq-true_iff (subject_fits u) (tidy 4 b)).0 e in
    long_read u 1 (n ∷ k ∷ bytes_of b) (fragment_shape n k b f.1) ((subject_fits_lem u).0 f.0)
    ∙ ap (λ (d : Data). Ok (Fragment u n k d)) (data_bytes b (tidy_more 4 6 b (omega arith) f.1))

-- ---- what was read is written back

-- what is read is the message of a record that no check refuses
record Read (r : List ℕ) (m : Message) : Type 0 where
  ten : length r ≡ 10
  unrefused : first_of (header_checks (header_of r)) ≡ 0
  is : message_of r ≡ m

read_by : (r : List ℕ) (m : Message) → read_of r ≡ Ok m → Read r m
unfolding read_of
read_by r m e =
    split (eqb (length r) 10)
    (λ t. split (eqb (first_of (header_checks (header_of r))) 0)
    (λ z. let w : Ok (message_of r) ≡ Ok m = simp (t, z) at e in record { ten = eqb-true _ _ t; unrefused = eqb-true _ _ z; is = cc })
    (λ z. let w : Err (first_of (header_checks (header_of r))) ≡ Ok m = simp (t, z) at e in let z : ◌≡◌ {A = ℕ} 0 1 = cc in absurd (omega arith)))
    (λ t. let w : Err 1 ≡ Ok m = simp t at e in let z : ◌≡◌ {A = ℕ} 0 1 = cc in absurd (omega arith))

subject_of_fits : (h : Header) → Ranged h → first_of (header_checks h) ≡ 0 → Long h → subject_fits (subject_of h) ≡ true
subject_of_fits h g e l = (subject_fits_lem (subject_of h)).1 (record {
  dir = g.dir;
  address = (unbarred h e).address;
  named = l.service;
  service = g.service;
  response = g.response;
  object = g.object;
})

module _ (r : List ℕ) (n : length r ≡ 10) (e : first_of (header_checks (header_of r)) ≡ 0) where
  long_shape : (h : Long (header_of r)) → Shape (header_of r).flag (payload_of r)
  long_shape h =
      let k : length (payload_of r) ≡ (header_of r).dlc - 2 = length-take-le ((header_of r).dlc - 2) (drop 4 r) (rw length-drop (omega (arith, h.most))) in
      record { bit = (ranged r).flag; room = omega (arith, h.most); numbered = λ f. omega (arith, h.flagged f) }

  read_carried : carried (message_of r) ≡ true
  unfolding carried message_of
  read_carried =
      split (eqb (header_of r).dlc 0)
      (λ z. simp z ((short_fits_lem _ _ _).1 (record { dir = (ranged r).dir; address = (unbarred (header_of r) e).address; service = (ranged r).service })))
      (λ z.
      let h = long_of_lem (header_of r) e (eqb-false _ 0 z) in
      simp z (long_carried (subject_of (header_of r)) (header_of r).flag (payload_of r) (long_shape h)
      (subject_of_fits (header_of r) (ranged r) e h)))

module _ (a b c i : ℕ) (l : List ℕ) (n : length l ≡ 6) (ha : a < 256) (hb : b < 256) (hc : c < 256)
    (e : first_of (header_checks (header_of (a ∷ b ∷ c ∷ i ∷ l))) ≡ 0) where
  -- RTR is 0, so service and DLC are all that byte 1 holds
  byte1 : b / 32 % 8 * 32 + b / 1 % 16 ≡ b
  unfolding header_of
  byte1 =
      let q : b / 16 % 2 ≡ 0 = omega (arith, (unbarred (header_of (a ∷ b ∷ c ∷ i ∷ l)) e).rtr) in
      omega arith

  short_back : (header_of (a ∷ b ∷ c ∷ i ∷ l)).dlc ≡ 0
      → frame_of (short_of (header_of (a ∷ b ∷ c ∷ i ∷ l))) ≡ take ((header_of (a ∷ b ∷ c ∷ i ∷ l)).dlc + 2) (a ∷ b ∷ c ∷ i ∷ l)
  unfolding header_of frame_of
  short_back z =
      let e0 : a / 128 % 2 * 128 + a / 1 % 128 ≡ a = omega arith in
      let e1 : b / 32 % 8 * 32 + 0 ≡ b = rw (← z) byte1 in
      simp (z, e0, e1)

  long_frame_lem : Long (header_of (a ∷ b ∷ c ∷ i ∷ l))
      → long_frame (subject_of (header_of (a ∷ b ∷ c ∷ i ∷ l))) (header_of (a ∷ b ∷ c ∷ i ∷ l)).flag (take ((header_of (a ∷ b ∷ c ∷ i ∷ l)).dlc - 2) l)
      ≡ take ((header_of (a ∷ b ∷ c ∷ i ∷ l)).dlc + 2) (a ∷ b ∷ c ∷ i ∷ l)
  unfolding header_of long_frame
  long_frame_lem h =
      let p = take (b / 1 % 16 - 2) l in
      let k : length p ≡ b / 1 % 16 - 2 = length-take-le (b / 1 % 16 - 2) l (omega (arith, h.most)) in
      let e0 : a / 128 % 2 * 128 + a / 1 % 128 ≡ a = omega arith in
      let e1 : b / 32 % 8 * 32 + (length p + 2) ≡ b = omega (arith, h.least, byte1) in
      let e2 : c / 64 % 4 * 64 + c / 32 % 2 * 32 + c / 1 % 32 ≡ c = omega arith in
      let m : suc (suc (suc (suc (b / 1 % 16 - 2)))) ≡ b / 1 % 16 + 2 = omega (arith, h.least) in
      simp (e0, e1, e2) (ap (λ (j : ℕ). take j (a ∷ b ∷ c ∷ i ∷ l)) m)

-- the frame of what is read is the record, up to its DLC
frame_back : (r : List ℕ) → Bytes r → length r ≡ 10 → first_of (header_checks (header_of r)) ≡ 0
    → frame_of (message_of r) ≡ take ((header_of r).dlc + 2) r
unfolding message_of
frame_back [] h n e = absurd (omega arith)
frame_back (a ∷ []) h n e = absurd (omega arith)
frame_back (a ∷ b ∷ []) h n e = absurd (omega arith)
frame_back (a ∷ b ∷ c ∷ []) h n e = absurd (omega arith)
frame_back (a ∷ b ∷ c ∷ i ∷ l) h n e =
    let r = a ∷ b ∷ c ∷ i ∷ l in
    let k : length l ≡ 6 = omega arith in
    split (eqb (header_of r).dlc 0)
    (λ z. simp z (short_back a b c i l k (h 0) (h 1) (h 2) e (eqb-true _ 0 z)))
    (λ z.
    let g = long_of_lem (header_of r) e (eqb-false _ 0 z) in
    simp z (long_back (subject_of (header_of r)) (header_of r).flag (take ((header_of r).dlc - 2) l) (long_shape r n e g)
    ∙ long_frame_lem a b c i l k (h 0) (h 1) (h 2) e g))

pub read_written : (r : List ℕ) (m : Message) → Bytes r → read_of r ≡ Ok m → image_of m ≡ cleared_of r
unfolding image_of cleared_of
read_written r m h e =
    let d = read_by r m e in
    rw (← d.is) (ap (padded 10) (frame_back r h d.ten d.unrefused))

pub read_is_carried : (r : List ℕ) (m : Message) → read_of r ≡ Ok m → carried m ≡ true
read_is_carried r m e = let d = read_by r m e in rw (← d.is) (read_carried r d.ten d.unrefused)

-- ---- a written record is a record of bytes

long_octets : (u : Subject) (f : ℕ) (p : List ℕ) → Shape f p → SubjectFits u → u.id < 256 → Bytes p → Bytes (long_frame u f p)
unfolding long_frame
long_octets u f p s t i h =
    let a0 : ℕ = u.dir * 128 + u.address in
    let a1 : ℕ = u.service * 32 + (length p + 2) in
    let a2 : ℕ = u.response * 64 + f * 32 + u.object in
    bytes_cons a0 (a1 ∷ a2 ∷ u.id ∷ p) (omega arith)
    (bytes_cons a1 (a2 ∷ u.id ∷ p) (omega (arith, s.room))
    (bytes_cons a2 (u.id ∷ p) (omega (arith, s.bit)) (bytes_cons u.id p i h)))

pub image_octets : (m : Message) → Octets m → carried m ≡ true → Bytes (image_of m)
unfolding image_of frame_of carried bytes_of
image_octets (Short d a s) o e =
    let f = (short_fits_lem d a s).0 e in
    bytes_padded 10 (can_header d a s 0) (bytes_cons (d * 128 + a) ((s * 32 + 0) ∷ []) (omega arith) (bytes_cons (s * 32 + 0) [] (omega arith) bytes_nil))
image_octets (Plain u b) o e =
    let f = (and-eq-true_iff (subject_fits u) (tidy 6 b)).0 e in
    bytes_padded 10 (long_frame u 0 (bytes_of b)) (long_octets u 0 (bytes_of b) (plain_shape b f.1) ((subject_fits_lem u).0 f.0) o.0 (bytes_take b.len (places_of b) o.1))
image_octets (Fragment u n k b) o e =
    let f = (and-eq-true_iff (subject_fits u) (tidy 4 b)).0 e in
    bytes_padded 10 (long_frame u 1 (n ∷ k ∷ bytes_of b)) (long_octets u 1 (n ∷ k ∷ bytes_of b) (fragment_shape n k b f.1) ((subject_fits_lem u).0 f.0) o.0
    (bytes_cons n (k ∷ bytes_of b) o.1 (bytes_cons k (bytes_of b) o.2 (bytes_take b.len (places_of b) o.3))))

-- ---- messages made of lists of bytes, for who answers

pub short_carried : (d a s : ℕ) → ShortFits d a s → carried (Short d a s) ≡ true
unfolding carried
short_carried d a s f = (short_fits_lem d a s).1 f

pub plain_carried : (u : Subject) (l : List ℕ) → SubjectFits u → length l ≤ 6 → carried (Plain u (data_of l)) ≡ true
unfolding carried
plain_carried u l f h = simp ((subject_fits_lem u).1 f, tidy_data l h 6 h)

pub fragment_carried : (u : Subject) (n k : ℕ) (l : List ℕ) → SubjectFits u → length l ≤ 4 → carried (Fragment u n k (data_of l)) ≡ true
unfolding carried
fragment_carried u n k l f h = simp ((subject_fits_lem u).1 f, tidy_data l (omega arith) 4 h)

-- what is read is the record's message
pub read_message : (r : List ℕ) (m : Message) → read_of r ≡ Ok m → message_of r ≡ m
read_message r m e = (read_by r m e).is

-- a message that fits is written, whatever the record held
pub carried_is_written : (m : Message) (r : List ℕ) → length r ≡ 10 → carried m ≡ true → (write_number m r ≡ 0) × (written_of m r ≡ image_of m)
unfolding write_number written_of
carried_is_written m r n e = (simp (eq-eqb (length r) 10 n, e), simp (eq-eqb (length r) 10 n, e))
