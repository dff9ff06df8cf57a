-- The refusals as the code groups them are 02's list.
use Prim.Native.Nat.{ℕ, ◌+◌, ◌-◌, ◌≤◌, min}
use mathlib.Core.Path.{◌≡◌, refl, sym, ap, ◌∙◌}
use mathlib.Core.Bool.{Bool, true, false, cond}
use mathlib.Core.List.{List, [], ◌∷◌}
use native.Mathlib.Omega.{arith}
use lib.ListN.{length, take, drop, length-take, length-drop}
use lib.Seq.{take_all}
use lib.Dec.{eqb}
use borrow.Author.Tests.{eqb-true, eqb-false, eq-eqb, ne_eqb, le-ltb}
use Rattle.laws.specs.Bytes.{byte_at}
use Rattle.laws.specs.Checks.{Check, first_of}
use Rattle.laws.proofs.Tests.{split, halves}
use Rattle.octets.specs.declared.Data.{Data}
use Rattle.octets.specs.Data.{data_of}
use Rattle.octets.proofs.Datas.{bytes_data}
use Rattle.codec.specs.declared.Subject.{Subject}
use Rattle.codec.specs.declared.Message.{Message}
use Rattle.codec.specs.declared.Message.TheVariants.{Short, Plain, Fragment}
use Rattle.std.specs.Prelude.{Ok, Err}
use Rattle.codec.specs.Names.{most_address, most_fragment_data, read_service, successful}
use Rattle.codec.specs.Fields.{header_of}
use Rattle.codec.specs.Reading.{read_checks, subject_of, payload_of, message_of, read_of}
use Rattle.codec.specs.Code.{payload_in}
use Rattle.codec.specs.Writing.{subject_fits, carried}
use Rattle.codec.proofs.Headers.{unbarred, long_of_lem, ten_of}
use Rattle.codec.proofs.Fits.{subject_fits_lem}
use Rattle.codec.proofs.Images.{payload_is}
use Rattle.codec.proofs.Long.{got, message_short, message_plain, message_fragment}
use Rattle.codec.proofs.Trips.{read_is_carried, read_message}
use Rattle.join.specs.Work.{data_size, Piece, shaped_by}
use Rattle.std.specs.Prelude.{None}
use Rattle.collect.specs.Checks.{collect_size, answers_read, no_read_response, no_total, wrong_piece, bad_shape, piece_of}
use Rattle.collect.specs.Step.{Answer, Judged, nobodys, spoilt, piece, guest_of, passing, refused, judged_of, gives, answer_to, work_after, answer_of, work_of}
use Rattle.collect.specs.Code.{whole_judged, fragment_judged, message_judged, payload_judged, header_judged, Placed, Numbered, Ready}

-- of a guest's message about a Read, the response decides
pub answers_by_response : (u : Subject) → u.dir ≡ 1 → u.service ≡ read_service → eqb u.response successful ≡ answers_read u
answers_by_response u d s = simp (eq-eqb u.dir 1 d, eq-eqb u.service read_service s)

-- 1: a work area of another length
pub misfit_judged : (size : ℕ) (r : List ℕ) → (size ≡ collect_size → ⊥) → judged_of size r ≡ nobodys 1
unfolding judged_of
misfit_judged size r n = simp (ne_eqb size collect_size n)

-- 2: a frame that the codec refuses
pub malformed_judged : (size : ℕ) (r : List ℕ) → size ≡ collect_size → (first_of (read_checks r) ≡ 0 → ⊥) → judged_of size r ≡ nobodys 2
unfolding judged_of
malformed_judged size r s e = simp (eq-eqb size collect_size s, ne_eqb (first_of (read_checks r)) 0 e)

-- 3 to 5, by the form of the message
pub as_read : (r : List ℕ) (m : Message) → read_of r ≡ Ok m → eqb (first_of (read_checks r)) 0 ≡ true
unfolding read_of
as_read r m e =
    split (eqb (first_of (read_checks r)) 0)
    (λ t. t)
    (λ t. let none : Err (first_of (read_checks r)) ≡ Ok m = simp t at e in let q : ◌≡◌ {A = ℕ} 0 1 = cc in absurd (omega arith))

abbrev form_checks : Message → List Check
form_checks m = (no_read_response m, 3) ∷ (no_total m, 4) ∷ (bad_shape m, 5) ∷ []

by_form : (m : Message) → cond (eqb (first_of (form_checks m)) 0) (passing m) (refused (first_of (form_checks m)) (guest_of m)) ≡ message_judged m
unfolding message_judged whole_judged fragment_judged
by_form (Short dir address service) = refl
by_form (Plain u b) = split (answers_read u) (λ t. split (eqb b.len 0) (λ z. simp (t, z)) (λ z. simp (t, z))) (λ t. simp t)
by_form (Fragment u number total b) =
    split (answers_read u)
    (λ t. split (eqb total 0)
    (λ z. simp (t, z))
    (λ z. split (wrong_piece total number b.len) (λ w. simp (t, z, w)) (λ w. simp (t, z, w))))
    (λ t. simp t)

pub message_judged_lem : (size : ℕ) (r : List ℕ) (m : Message) → size ≡ collect_size → read_of r ≡ Ok m → judged_of size r ≡ message_judged m
unfolding judged_of
message_judged_lem size r m s e = rw (read_message r m e) (simp (eq-eqb size collect_size s, as_read r m e) (by_form m))

-- the guest of a long message that the codec reads has a record
pub plain_below : (r : List ℕ) (u : Subject) (b : Data) → read_of r ≡ Ok (Plain u b) → u.address ≤ most_address
unfolding carried
plain_below r u b e = ((subject_fits_lem u).0 (halves (subject_fits u) (read_is_carried r (Plain u b) e)).0).address

pub fragment_below : (r : List ℕ) (u : Subject) (number total : ℕ) (b : Data) → read_of r ≡ Ok (Fragment u number total b) → u.address ≤ most_address
unfolding carried
fragment_below r u number total b e = ((subject_fits_lem u).0 (halves (subject_fits u) (read_is_carried r (Fragment u number total b) e)).0).address

-- ---- a fragment, group by group

module _ (u : Subject) (number total : ℕ) (b : Data) where
  pub without_total : total ≡ 0 → fragment_judged u number total b ≡ spoilt u.address 4
  unfolding fragment_judged
  without_total z = simp (eq-eqb total 0 z)

  pub of_wrong_shape : (total ≡ 0 → ⊥) → shaped_by most_fragment_data total number b.len ≡ false → fragment_judged u number total b ≡ spoilt u.address 5
  unfolding fragment_judged
  of_wrong_shape n s = simp (ne_eqb total 0 n, s)

  -- a total that is a byte has room
  pub right_piece : total ≤ data_size → shaped_by most_fragment_data total number b.len ≡ true → wrong_piece total number b.len ≡ false
  right_piece t s = simp (s, le-ltb data_size total t)

  pub judged_piece : (total ≡ 0 → ⊥) → wrong_piece total number b.len ≡ false → fragment_judged u number total b ≡ piece u (piece_of u number total b)
  unfolding fragment_judged
  judged_piece n w = simp (ne_eqb total 0 n, w)

-- the code asks for the shape of what stands behind number and total, by its length
pub shaped_as : (total number : ℕ) (p : List ℕ) (t : Bool) → t ≡ shaped_by most_fragment_data total number (length p - 2) → (b : Bool) → t ≡ b
    → shaped_by most_fragment_data total number (data_of (drop 2 p)).len ≡ b
unfolding data_of
shaped_as total number p t e b f = ap (shaped_by most_fragment_data total number) (length-drop 2 p) ∙ sym e ∙ f

-- what stands behind them, as the code cuts it: at four bytes, which is all of it
module _ (p : List ℕ) (z : Numbered (length p)) (len : ℕ) (le : len ≡ min (length p - 2) most_fragment_data) where
  pub len_is : len ≡ length p - 2
  len_is = omega (arith, le, z.most)

  rest_is : take (2 + len - 2) (drop 2 p) ≡ drop 2 p
  rest_is = take_all (2 + len - 2) (drop 2 p) (rw (length-drop 2 p) (omega (arith, len_is)))

  -- so a fragment of its shape is ready to be joined, and is judged so
  module _ (u : Subject) (byte : byte_at p 1 ≤ data_size) (t : Bool) (e : t ≡ shaped_by most_fragment_data (byte_at p 1) (byte_at p 0) len) (f : t ≡ true) where
    abbrev rest : Piece
    rest = record { key = u.id ∷ u.object ∷ []; total = byte_at p 1; number = byte_at p 0; bytes = take (2 + len - 2) (drop 2 p) }

    right_rest : wrong_piece (byte_at p 1) (byte_at p 0) (data_of (drop 2 p)).len ≡ false
    right_rest = right_piece u (byte_at p 0) (byte_at p 1) (data_of (drop 2 p)) byte
        (shaped_as (byte_at p 1) (byte_at p 0) p t (e ∙ ap (shaped_by most_fragment_data (byte_at p 1) (byte_at p 0)) len_is) true f)

    pub rest_ready : (size : ℕ) → Placed size u.address → Ready size u rest
    unfolding data_of
    rest_ready size y = record { placed = y; right = rw rest_is right_rest; keyed = refl }

    same_rest : piece_of u (byte_at p 0) (byte_at p 1) (data_of (drop 2 p)) ≡ rest
    same_rest = λ i. record {
      key = u.id ∷ u.object ∷ [];
      total = byte_at p 1;
      number = byte_at p 0;
      bytes = (bytes_data (drop 2 p) (rw (length-drop 2 p) (omega (arith, z.most))) ∙ sym rest_is) i;
    }

    pub rest_judged : (byte_at p 1 ≡ 0 → ⊥) → payload_judged u p ≡ piece u rest
    rest_judged n = judged_piece u (byte_at p 0) (byte_at p 1) (data_of (drop 2 p)) n right_rest ∙ ap (piece u) same_rest

-- ---- one call, by the header

-- an answer in one frame leaves the work area, as does what is refused of it
whole_leaves : (u : Subject) (n : ℕ) (work : List ℕ) → work ≡ work_after (whole_judged u n) work
unfolding whole_judged work_after
whole_leaves u n work = split (eqb n 0) (λ z. simp z) (λ z. simp z)

-- what the codec reads, by the header
module _ (r : List ℕ) (e : first_of (read_checks r) ≡ 0) where
  pub by_header : judged_of collect_size r ≡ header_judged (header_of r) (payload_of r)
  unfolding header_judged message_judged data_of
  by_header =
      let h = header_of r in
      let t = ten_of r e in
      message_judged_lem collect_size r (message_of r) refl (got r t.0 t.1)
      ∙ split (eqb h.dlc 0)
      (λ z. rw (message_short r (eqb-true h.dlc 0 z)) (simp z))
      (λ z.
      let long = eqb-false h.dlc 0 z in
      split (eqb h.flag 1)
      (λ f. rw (message_fragment r long (eqb-true h.flag 1 f)) (simp (z, f)))
      (λ f.
      let n : length (payload_of r) ≡ h.dlc - 2 = simp (length-take, length-drop) (omega (arith, t.0, (long_of_lem h t.1 long).most)) in
      rw (message_plain r long (eqb-false h.flag 1 f), n) (simp (z, f))))

  -- the guest of a frame in long form has a record, and a fragment's number and total stand behind its ID
  pub guest_below : (header_of r).address ≤ most_address
  guest_below = (unbarred (header_of r) (ten_of r e).1).address

  pub payload_part : payload_in (header_of r).dlc r ≡ payload_of r
  payload_part = payload_is (header_of r).dlc r (ten_of r e).0 (unbarred (header_of r) (ten_of r e).1).dlc

  pub numbered : ((header_of r).dlc ≡ 0 → ⊥) → (header_of r).flag ≡ 1 → Numbered (length (payload_of r))
  numbered z f =
      let t = ten_of r e in
      let l = long_of_lem (header_of r) t.1 z in
      let n : length (payload_of r) ≡ (header_of r).dlc - 2 = simp (length-take, length-drop) (omega (arith, t.0, l.most)) in
      record { least = omega (arith, n, l.flagged f); most = omega (arith, n, l.most) }

module _ (r work : List ℕ) where
  pub misfit_call : (length work ≡ collect_size → ⊥) → (c : Answer) → c ≡ gives 1 None false → (c ≡ answer_of r work) × (work ≡ work_of r work)
  unfolding answer_to work_after
  misfit_call n c e = rw (misfit_judged (length work) r n) (e, refl)

  module _ (s : length work ≡ collect_size) where
    pub malformed_call : (first_of (read_checks r) ≡ 0 → ⊥) → (c : Answer) → c ≡ gives 2 None false → (c ≡ answer_of r work) × (work ≡ work_of r work)
    unfolding answer_to work_after
    malformed_call d c e = rw (malformed_judged (length work) r s d) (e, refl)

    module _ (d : first_of (read_checks r) ≡ 0) where
      -- what the header says is what is answered
      by_call : (j : Judged) → header_judged (header_of r) (payload_of r) ≡ j → (c : Answer) (m : List ℕ) → (c ≡ answer_to j work) × (m ≡ work_after j work)
          → (c ≡ answer_of r work) × (m ≡ work_of r work)
      by_call j q c m e = rw (s, by_header r d, q) e

      pub short_call : (header_of r).dlc ≡ 0 → (c : Answer) → c ≡ gives 3 None false → (c ≡ answer_of r work) × (work ≡ work_of r work)
      unfolding answer_to work_after header_judged
      short_call z c e = by_call (nobodys 3) (simp (eq-eqb (header_of r).dlc 0 z)) c work (e, refl)

      module _ (z : (header_of r).dlc ≡ 0 → ⊥) where
        pub unanswering_call : answers_read (subject_of (header_of r)) ≡ false → (c : Answer) → c ≡ gives 3 None false
            → (c ≡ answer_of r work) × (work ≡ work_of r work)
        unfolding answer_to work_after header_judged
        unanswering_call a c e = by_call (nobodys 3) (simp (ne_eqb (header_of r).dlc 0 z, a)) c work (e, refl)

        module _ (a : answers_read (subject_of (header_of r)) ≡ true) where
          pub whole_call : ((header_of r).flag ≡ 1 → ⊥) → (c : Answer) → ((w : List ℕ) → c ≡ answer_to (whole_judged (subject_of (header_of r)) ((header_of r).dlc - 2)) w)
              → (c ≡ answer_of r work) × (work ≡ work_of r work)
          unfolding header_judged
          whole_call f c e =
              by_call (whole_judged (subject_of (header_of r)) ((header_of r).dlc - 2)) (simp (ne_eqb (header_of r).dlc 0 z, a, ne_eqb (header_of r).flag 1 f))
              c work (e work, whole_leaves (subject_of (header_of r)) ((header_of r).dlc - 2) work)

          pub fragment_call : (header_of r).flag ≡ 1 → (c : Answer) (m : List ℕ)
              → (c ≡ answer_to (payload_judged (subject_of (header_of r)) (payload_of r)) work) × (m ≡ work_after (payload_judged (subject_of (header_of r)) (payload_of r)) work)
              → (c ≡ answer_of r work) × (m ≡ work_of r work)
          unfolding header_judged
          fragment_call f = by_call (payload_judged (subject_of (header_of r)) (payload_of r)) (simp (ne_eqb (header_of r).dlc 0 z, a, eq-eqb (header_of r).flag 1 f))
