-- The 16 bytes of a message, place by place; and what reading leaves there.
use Prim.Native.Nat.{ℕ}
use mathlib.Core.Path.{◌≡◌, sym, ap, ◌∙◌}
use mathlib.Core.Bool.{◌&&◌, true, and-eq-true_iff}
use mathlib.Core.List.{List, ◌∷◌, ◌++◌}
use native.Mathlib.Omega.{arith}
use lib.ListN.{length, drop, replicate, length-drop, drop_of_length-le}
use lib.Dec.{eqb}
use borrow.Author.Tests.{eqb-true, eqb-false, eq-eqb}
use Rattle.laws.specs.Bytes.{byte_at}
use Rattle.laws.specs.Checks.{first_of}
use Rattle.laws.proofs.Tests.{split}
use Rattle.laws.proofs.Bytes.{zeros_are, places, places_back}
use Rattle.octets.specs.Data.{data_of}
use Rattle.std.specs.Prelude.{Some}
use Rattle.codec.specs.declared.Message.TheVariants.{Plain, Fragment}
use Rattle.codec.specs.Fields.{header_of}
use Rattle.codec.specs.Reading.{read_checks, short_of, message_of}
use Rattle.codec.proofs.Long.{payload_plain, payload_fragment}
use Rattle.sds.specs.Border.{long_message, record_message, message_in, long_bytes, message_bytes, subject_at, data_at, message_at, bordered}

-- sixteen bytes, one by one, or the first four of them
module _ (l : List ℕ) (n : length l ≡ 16) where
  all_places : places 16 0 l ≡ l
  all_places = sym (ap (λ (t : List ℕ). places 16 0 l ++ t) (drop_of_length-le l {i = 16} (omega arith))) ∙ places_back 16 0 l (omega arith)

  four_places : places 4 0 l ++ drop 4 l ≡ l
  four_places = places_back 4 0 l (omega arith)

  -- the bytes of the message that they hold, where its kind is one of the three and its unused places are 0
  pub bordered_back : bordered l ≡ true → message_bytes (message_at l) ≡ l
  unfolding bordered message_at message_bytes long_bytes subject_at data_at data_of
  bordered_back b =
      split (eqb (byte_at l 0) 0)
      (λ t.
      let k : length (drop 4 l) ≡ 12 = simp length-drop (omega arith) in
      let kind = eqb-true (byte_at l 0) 0 t in
      let rest : drop 4 l ≡ replicate 12 0 = zeros_are (drop 4 l) (simp t at b) ∙ ap (λ (j : ℕ). replicate j 0) k in
      simp t
      (ap (λ (j : ℕ). j ∷ places 3 1 l ++ replicate 12 0) (sym kind) ∙ ap (λ (m : List ℕ). places 4 0 l ++ m) (sym rest) ∙ four_places))
      (λ f. split (eqb (byte_at l 0) 1)
      (λ t.
      let z = (and-eq-true_iff (eqb (byte_at l 7) 0) (eqb (byte_at l 8) 0)).0 (simp (f, t) at b) in
      let kind = eqb-true (byte_at l 0) 1 t in
      let number = eqb-true (byte_at l 7) 0 z.0 in
      let total = eqb-true (byte_at l 8) 0 z.1 in
      simp (f, t)
      (ap (λ (j : ℕ). j ∷ places 6 1 l ++ 0 ∷ 0 ∷ places 7 9 l) (sym kind)
      ∙ ap (λ (j : ℕ). places 7 0 l ++ j ∷ 0 ∷ places 7 9 l) (sym number)
      ∙ ap (λ (j : ℕ). places 8 0 l ++ j ∷ places 7 9 l) (sym total)
      ∙ all_places))
      (λ g.
      let kind = eqb-true (byte_at l 0) 2 (simp (f, g) at b) in
      simp (f, g) (ap (λ (j : ℕ). j ∷ places 15 1 l) (sym kind) ∙ all_places)))

-- the message of a whole one's bytes and of a fragment's, as the code takes them apart
pub plain_in : (l : List ℕ) → byte_at l 0 ≡ 1 → (eqb (byte_at l 7) 0 && eqb (byte_at l 8) 0) ≡ true → Some (Plain (subject_at l) (data_at l)) ≡ message_in l
unfolding bordered message_at
plain_in l k u = simp (k, u)

pub fragment_in : (l : List ℕ) → byte_at l 0 ≡ 2 → Some (Fragment (subject_at l) (byte_at l 7) (byte_at l 8) (data_at l)) ≡ message_in l
unfolding bordered message_at
fragment_in l k = simp k

-- ---- a record's message, off its places

-- the message of a short form
message_short : (r : List ℕ) → (header_of r).dlc ≡ 0 → message_of r ≡ short_of (header_of r)
unfolding message_of
message_short r z = simp (eq-eqb (header_of r).dlc 0 z)

-- of a record that is read, what is put is its message's bytes
pub put_is_message : (r : List ℕ) → first_of (read_checks r) ≡ 0 → record_message r ≡ message_bytes (message_of r)
unfolding record_message long_message message_bytes
put_is_message r e =
    split (eqb (header_of r).dlc 0)
    (λ t. rw (message_short r (eqb-true (header_of r).dlc 0 t)) (simp t))
    (λ t.
    let long = eqb-false (header_of r).dlc 0 t in
    split (eqb (header_of r).flag 1)
    (λ f. rw (payload_fragment r e long (eqb-true (header_of r).flag 1 f)) (simp (t, f)))
    (λ f. rw (payload_plain r e long (eqb-false (header_of r).flag 1 f)) (simp (t, f))))
