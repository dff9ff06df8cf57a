-- The ten bytes of a written record, one by one.
use Prim.Native.Nat.{ℕ, suc, ◌+◌, ◌-◌, ◌%◌, ◌≤◌}
use mathlib.Core.Path.{◌≡◌, refl, sym, ap, ◌∙◌}
use mathlib.Core.Bool.{true, ◌&&◌, and-eq-true_iff}
use mathlib.Core.List.{List, ◌∷◌, ◌++◌}
use native.Mathlib.Omega.{arith}
use lib.ListN.{length, drop, length-drop}
use lib.Seq.{get_or-drop}
use borrow.Author.Tests.{eq-eqb, le-leb}
use Rattle.laws.specs.Bytes.{padded}
use Rattle.laws.proofs.Bytes.{length_padded}
use Rattle.octets.specs.declared.Data.{Data}
use Rattle.octets.specs.Data.{most_data, data_of, places_of, bytes_of, tidy}
use Rattle.octets.proofs.Datas.{tidy_most, tidy_more, tidy_data, bytes_data, bytes_length, places_padded, byte_place}
use Rattle.codec.specs.declared.Subject.{Subject}
use Rattle.codec.specs.declared.Message.TheVariants.{Short, Plain, Fragment}
use Rattle.codec.specs.Names.{frame_size, most_dlc, most_fragment_data}
use Rattle.codec.specs.Reading.{payload_to}
use Rattle.codec.specs.Writing.{subject_fits, short_fits, carried, long_header, long_frame, frame_of, image_of, write_number, written_of}
use Rattle.codec.specs.Code.{payload_in, prefixed, unprefixed, cut_of, long_places, short_places, put_long, put_short}
use Rattle.codec.proofs.Fits.{subject_fits_lem, short_fits_lem}

-- four bytes, then what stands behind the ID, padded
pub long_padded : (u : Subject) (flag : ℕ) (p : List ℕ) → length p ≤ 6
    → padded 10 (long_frame u flag p) ≡ long_header u flag (length p + 2) ++ padded 6 p
unfolding long_frame
long_padded u flag p h =
    let q : 10 - suc (suc (suc (suc (length p)))) ≡ 6 - length p = omega arith in
    rw q

pub long_length : (u : Subject) (flag : ℕ) (p : List ℕ) → length p ≤ 6 → length (padded 10 (long_frame u flag p)) ≡ 10
long_length u flag p h = ap length (long_padded u flag p h) ∙ ap (λ (k : ℕ). suc (suc (suc (suc k)))) (length_padded 6 p h)

long_bytes : (u : Subject) (flag : ℕ) (d : Data) → tidy 6 d ≡ true
    → padded 10 (long_frame u flag (bytes_of d)) ≡ long_header u flag (d.len + 2) ++ places_of d
long_bytes u flag d t =
    let n = bytes_length d t in
    long_padded u flag (bytes_of d) (omega (arith, tidy_most 6 d t)) ∙ rw (places_padded d t, n)

-- what stands behind a fragment's ID is at most six bytes
pub fragment_payload : (n k : ℕ) (d : Data) → tidy 4 d ≡ true
    → (tidy 6 (data_of (n ∷ k ∷ bytes_of d)) ≡ true) × (bytes_of (data_of (n ∷ k ∷ bytes_of d)) ≡ n ∷ k ∷ bytes_of d)
fragment_payload n k d t =
    let h : length (n ∷ k ∷ bytes_of d) ≤ 6 = omega (arith, bytes_length d (tidy_more 4 6 d (omega arith) t), tidy_most 4 d t) in
    (tidy_data (n ∷ k ∷ bytes_of d) h 6 h, bytes_data (n ∷ k ∷ bytes_of d) h)

-- a frame made of so many bytes is a record of ten, whatever its other fields hold
pub plain_length : (u : Subject) (l : List ℕ) → length l ≤ 6 → length (image_of (Plain u (data_of l))) ≡ 10
unfolding image_of frame_of
plain_length u l h = rw (bytes_data l h) (long_length u 0 l h)

pub short_length : (d a s : ℕ) → length (image_of (Short d a s)) ≡ 10
unfolding image_of frame_of
short_length d a s = refl

pub fragment_length : (u : Subject) (n k : ℕ) (l : List ℕ) → length l ≤ 4 → length (image_of (Fragment u n k (data_of l))) ≡ 10
unfolding image_of frame_of
fragment_length u n k l h = rw (bytes_data l (omega arith)) (long_length u 1 (n ∷ k ∷ l) (omega arith))

-- what fits is not altered by the cut of its fields
cut_is_same : (u : Subject) → subject_fits u ≡ true → cut_of u ≡ u
cut_is_same u f =
    let r = (subject_fits_lem u).0 f in
    let dir : u.dir % 2 ≡ u.dir = omega arith in
    let address : u.address % 128 ≡ u.address = omega arith in
    let service : u.service % 8 ≡ u.service = omega arith in
    let response : u.response % 4 ≡ u.response = omega arith in
    let object : u.object % 32 ≡ u.object = omega arith in
    simp (dir, address, service, response, object)

pub places_are_image : (u : Subject) (flag : ℕ) (d : Data) → subject_fits u ≡ true → flag ≤ 1 → tidy most_data d ≡ true
    → long_places u flag d ≡ padded frame_size (long_frame u flag (bytes_of d))
unfolding long_places
places_are_image u flag d f g t =
    let bit : flag % 2 ≡ flag = omega arith in
    let len : d.len % 8 ≡ d.len = omega (arith, tidy_most most_data d t) in
    ap (λ (w : Subject). long_header w (flag % 2) (d.len % 8 + 2) ++ places_of d) (cut_is_same u f) ∙ rw (bit, len) (sym (long_bytes u flag d t))

pub short_places_are_image : (dir address service : ℕ) → short_fits dir address service ≡ true
    → short_places dir address service ≡ image_of (Short dir address service)
unfolding short_places image_of frame_of
short_places_are_image dir address service f =
    let r = (short_fits_lem dir address service).0 f in
    let a : dir % 2 ≡ dir = omega arith in
    let b : address % 128 ≡ address = omega arith in
    let c : service % 8 ≡ service = omega arith in
    rw (a, b, c)

pub prefixed_is : (n k : ℕ) (d : Data) → tidy 4 d ≡ true → prefixed n k d ≡ data_of (n ∷ k ∷ bytes_of d)
unfolding prefixed data_of
prefixed_is n k d t =
    let s = tidy_more 4 6 d (omega arith) t in
    let e : suc (suc (length (bytes_of d))) ≡ d.len % 8 + 2 = omega (arith, bytes_length d s, tidy_most 4 d t) in
    simp (e, byte_place d s 0, byte_place d s 1, byte_place d s 2, byte_place d s 3)

-- and the way back
pub data_unprefixed : (d : Data) → tidy 6 d ≡ true → unprefixed d ≡ data_of (drop 2 (bytes_of d))
unfolding data_of unprefixed
data_unprefixed d t =
    simp (length-drop, bytes_length d t, get_or-drop 2 (bytes_of d), byte_place d t 2, byte_place d t 3, byte_place d t 4, byte_place d t 5, byte_place d t 6, byte_place d t 7)

-- what stands behind the ID, as a part of the record
pub payload_is : (dlc : ℕ) (r : List ℕ) → length r ≡ frame_size → dlc ≤ most_dlc → payload_in dlc r ≡ payload_to dlc r
unfolding payload_in
payload_is dlc r ten most = simp (eq-eqb (length r) frame_size ten, le-leb dlc most_dlc most)

-- ---- what is put of a message that fits is the record of its frame

module _ (r : List ℕ) (ten : length r ≡ frame_size) where
  pub short_put : (dir address service : ℕ) → carried (Short dir address service) ≡ true → put_short dir address service r ≡ image_of (Short dir address service)
  unfolding carried put_short
  short_put dir address service e = simp (eq-eqb (length r) frame_size ten) (short_places_are_image dir address service e)

  pub plain_put : (u : Subject) (b : Data) → carried (Plain u b) ≡ true → put_long u 0 b r ≡ image_of (Plain u b)
  unfolding carried image_of frame_of put_long
  plain_put u b e =
      let f = (and-eq-true_iff (subject_fits u) (tidy most_data b)).0 e in
      simp (eq-eqb (length r) frame_size ten) (places_are_image u 0 b f.0 (omega arith) f.1)

  pub fragment_put : (u : Subject) (n total : ℕ) (b : Data) → carried (Fragment u n total b) ≡ true
      → put_long u 1 (prefixed n total b) r ≡ image_of (Fragment u n total b)
  unfolding carried image_of frame_of put_long
  fragment_put u n total b e =
      let f = (and-eq-true_iff (subject_fits u) (tidy most_fragment_data b)).0 e in
      let w = fragment_payload n total b f.1 in
      simp (eq-eqb (length r) frame_size ten, prefixed_is n total b f.1)
      (places_are_image u 1 _ f.0 (omega arith) w.0 ∙ ap (λ (p : List ℕ). padded frame_size (long_frame u 1 p)) w.1)

  pub fragment_written : (u : Subject) (n total : ℕ) (b : Data) → true ≡ (subject_fits u && tidy most_fragment_data b) → (x : List ℕ)
      → x ≡ put_long u 1 (prefixed n total b) r → (0 ≡ write_number (Fragment u n total b) r) × (x ≡ written_of (Fragment u n total b) r)
  unfolding carried write_number written_of
  fragment_written u n total b e x q =
      let s = eq-eqb (length r) frame_size ten in
      (simp (s, ← e), q ∙ fragment_put u n total b (sym e) ∙ simp (s, ← e))
