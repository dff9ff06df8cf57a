-- Frames written into the output.
use Prim.Native.Nat.{ℕ, ◌+◌, ◌-◌, ◌*◌, ◌/◌, ◌<◌, ◌≤◌}
use mathlib.Core.Path.{◌≡◌, refl, sym, ap, ◌∙◌}
use mathlib.Core.Bool.{true, and-eq-true_iff}
use mathlib.Core.Logic.{◌↔◌}
use Rattle.std.specs.Prelude.{slice_index}
use mathlib.Core.List.{List, [], ◌∷◌, ◌++◌, append_assoc, append-nil}
use native.Mathlib.Numerals.{add-one}
use native.Mathlib.Omega.{arith}
use lib.ListN.{length, take, drop, length-append, length-take, length-drop}
use lib.Seq.{drop-drop, take_all, take_at, drop-append-add}
use Rattle.std.proofs.lemmas.List.{drop_at}
use lib.Dec.{leb}
use borrow.Author.Tests.{eq-eqb, leb-true, le-leb}
use Rattle.laws.specs.Put.{put}
use Rattle.laws.proofs.Put.{put_nothing, put_front, part_back}
use Rattle.octets.specs.declared.Data.{Data}
use Rattle.octets.specs.Data.{most_data, data_of, tidy}
use Rattle.octets.proofs.Datas.{tidy_data}
use Rattle.codec.specs.declared.Header.{Header}
use Rattle.codec.specs.declared.Message.TheVariants.{Short, Plain}
use Rattle.codec.specs.declared.Subject.{Subject}
use Rattle.codec.specs.Names.{frame_size, most_address, most_fragment_data, lowest_long, successful, erroneous}
use Rattle.codec.specs.Writing.{subject_fits, frame_of, image_of}
use Rattle.codec.specs.Code.{long_places, short_places, put_ten, put_long, put_short}
use Rattle.codec.proofs.Fits.{subject_fits_lem, short_fits_lem}
use Rattle.codec.proofs.Images.{places_are_image, short_places_are_image}
use Rattle.guest.specs.Checks.{least_out, fragment_bytes}
use Rattle.guest.specs.Errors.{code_of}
use Rattle.guest.specs.Step.{answering, error_frame, success_frame, acknowledge_of, short_frame, fragment_part, fragment_frame, fragment_frames, read_frames, flat, sent}
use Rattle.guest.proofs.Frames.{fragment_ten, fragments_ten, fragments_count, flat_length, answering_fits, acknowledge_fits}
use Rattle.answers.specs.Code.{Answerable, answerable, in_front, single, refused_with, acknowledged_with, short_acknowledged, part_fits, part_count, part_sent}

-- a record of the output, lent to the codec: its ten bytes are put there
ten_there : (l : List ℕ) → length l ≡ frame_size → (out : List ℕ) (at : ℕ) → at + frame_size ≤ length out
    → take at out ++ (put_ten l (take frame_size (drop at out)) ++ drop frame_size (drop at out)) ≡ put out at l
ten_there l ten out at h =
    let n : length (take frame_size (drop at out)) ≡ frame_size = simp (length-take, length-drop) (omega arith) in
    simp (eq-eqb (length (take frame_size (drop at out))) frame_size n) (part_back out l at frame_size ten)

pub put_there : (u : Subject) (flag : ℕ) (d : Data) (out : List ℕ) (at : ℕ) → at + frame_size ≤ length out
    → take at out ++ (put_long u flag d (take frame_size (drop at out)) ++ drop frame_size (drop at out)) ≡ put out at (long_places u flag d)
unfolding put_long long_places
put_there u flag d out at h = ten_there (long_places u flag d) refl out at h

pub put_short_there : (dir address service : ℕ) (out : List ℕ) → frame_size ≤ length out
    → put_short dir address service (take frame_size out) ++ drop frame_size out ≡ put out 0 (short_places dir address service)
unfolding put_short short_places
put_short_there dir address service out h = ten_there (short_places dir address service) refl out 0 h

-- a frame that is put right behind the others
pub put_next : (l m bs : List ℕ) (n : ℕ) → length l ≡ n → length bs ≤ length m → put (l ++ m) n bs ≡ (l ++ bs) ++ drop (length bs) m
unfolding put
put_next l m bs n e h = rw (take_at l m n e, ← e, drop-append-add l m (length bs))

flat_append : (fs gs : List (List ℕ)) → flat (fs ++ gs) ≡ flat fs ++ flat gs
flat_append [] gs = refl
flat_append (f ∷ fs) gs = ap (λ (l : List ℕ). f ++ l) (flat_append fs gs) ∙ sym (append_assoc f (flat fs) (flat gs))

-- the output after the first n fragments, and one more of them
pub fragments_none : (u : Subject) (bs out : List ℕ) → out ≡ sent (fragment_frames u bs 0) out
fragments_none u bs out = sym (put_nothing out 0)

pub fragments_more : (u : Subject) (bs out : List ℕ) (n : ℕ) → (n + 1) * frame_size ≤ length out
    → put (sent (fragment_frames u bs n) out) (n * frame_size) (fragment_frame u bs n) ≡ sent (fragment_frames u bs (n + 1)) out
fragments_more u bs out n h =
    let fs = fragment_frames u bs n in
    let f = fragment_frame u bs n in
    let k : length (flat fs) ≡ n * frame_size = flat_length fs (fragments_ten u bs n) ∙ omega (arith, fragments_count u bs n) in
    let ten = fragment_ten u bs n in
    let all : flat (fragment_frames u bs (n + 1)) ≡ flat fs ++ f =
    ap (λ (j : ℕ). flat (fragment_frames u bs j)) (add-one n) ∙ flat_append fs (f ∷ []) ∙ ap (λ (l : List ℕ). flat fs ++ l) (append-nil f) in
    rw (put_front out (flat fs), put_next (flat fs) (drop (length (flat fs)) out) f (n * frame_size) k (simp length-drop (omega arith)), drop-drop (length f) (length (flat fs)) out, ← length-append (flat fs) f)
    (sym (put_front out (flat (fragment_frames u bs (n + 1))) ∙ rw all))

pub sent_one : (f out : List ℕ) → sent (f ∷ []) out ≡ put out 0 f
sent_one f out = ap (put out 0) (append-nil f)

-- a record put in front is the one frame of a reply
front_sent : (l f out : List ℕ) → least_out ≤ length out → l ≡ f → in_front l out ≡ sent (f ∷ []) out
front_sent l f out room e = simp (le-leb frame_size (length out) (omega arith)) (rw e (sym (sent_one f out)))

-- the data of a fragment has places in its frame
pub part_tidy : (bs : List ℕ) (n : ℕ) → tidy most_fragment_data (data_of (fragment_part bs n)) ≡ true
part_tidy bs n =
    let most : length (fragment_part bs n) ≤ fragment_bytes = rw length-take (omega arith) in
    tidy_data (fragment_part bs n) (omega arith) most_fragment_data most

-- the rest of a part, at most one fragment's, as a slice gives it
pub rest_cut : (bs : List ℕ) (n : ℕ) → length bs ≤ fragment_bytes * n + fragment_bytes
    → take most_data (take (length bs - fragment_bytes * n) (drop (fragment_bytes * n) bs)) ≡ fragment_part bs n
rest_cut bs n h =
    let behind = drop (fragment_bytes * n) bs in
    let k : length behind ≡ length bs - fragment_bytes * n = length-drop (fragment_bytes * n) bs in
    rw (take_all (length bs - fragment_bytes * n) behind (omega arith))
    (take_all most_data behind (omega arith) ∙ sym (take_all fragment_bytes behind (omega arith)))

-- the bytes of a full fragment
pub full_data : (four : List ℕ) → length four ≡ fragment_bytes → data_of (take most_data four) ≡ data_of four
full_data four e = ap data_of (take_all most_data four (omega arith))

-- its bytes one by one are the fragment
pub four_bytes : (four : List ℕ) → length four ≡ fragment_bytes → slice_index four 0 ∷ slice_index four 1 ∷ slice_index four 2 ∷ slice_index four 3 ∷ [] ≡ four
four_bytes [] e = absurd (omega (arith, e))
four_bytes (a ∷ []) e = absurd (omega (arith, e))
four_bytes (a ∷ b ∷ []) e = absurd (omega (arith, e))
four_bytes (a ∷ b ∷ c ∷ []) e = absurd (omega (arith, e))
four_bytes (a ∷ b ∷ c ∷ d ∷ []) e = refl
four_bytes (a ∷ b ∷ c ∷ d ∷ f ∷ l) e = absurd (omega (arith, e))

pub full_tidy : (four : List ℕ) → length four ≡ fragment_bytes → tidy most_fragment_data (data_of four) ≡ true
full_tidy four e = tidy_data four (omega arith) most_fragment_data (omega arith)

-- cutting full fragments off a part: after n of them this rest is left
pub record Cut (bs rest : List ℕ) (n : ℕ) : Type 0 where
  pub behind : rest ≡ drop (fragment_bytes * n) bs
  pub inside : fragment_bytes * n ≤ length bs

pub cut_begun : (bs : List ℕ) → Cut bs bs 0
cut_begun bs = record { behind = refl; inside = omega arith }

cut_length : (bs rest : List ℕ) (n : ℕ) → Cut bs rest n → length rest ≡ length bs - fragment_bytes * n
cut_length bs rest n c = ap length c.behind ∙ length-drop (fragment_bytes * n) bs

module _ (bs rest four more : List ℕ) (n : ℕ) (c : Cut bs rest n) (e : rest ≡ four ++ more) (k : length four ≡ fragment_bytes) where
  pub cut_room : fragment_bytes * n + fragment_bytes ≤ length bs
  cut_room = omega (arith, c.inside, k, cut_length bs rest n c, ap length e ∙ length-append four more)

  pub cut_part : four ≡ fragment_part bs n
  cut_part = sym (ap (take fragment_bytes) (sym c.behind ∙ e) ∙ take_at four more fragment_bytes k)

  pub cut_next : Cut bs more (n + 1)
  cut_next = record {
    behind =
        sym (drop_at four more fragment_bytes k) ∙ ap (drop fragment_bytes) (sym e ∙ c.behind)
        ∙ drop-drop fragment_bytes (fragment_bytes * n) bs ∙ ap (λ (i : ℕ). drop i bs) (omega arith);
    inside = omega (arith, cut_room);
  }

-- where no full one is left, all of them are cut
pub cut_all : (bs rest : List ℕ) (n : ℕ) → Cut bs rest n → length rest < fragment_bytes → n ≡ length bs / fragment_bytes
cut_all bs rest n c z = omega (arith, c.inside, z, cut_length bs rest n c)

-- ---- what is put is what 01 says, of what fits

pub answerable_exactly : (own : ℕ) (h : Header) (out : ℕ) → (answerable own h out ≡ true) ↔ Answerable own h out
unfolding answerable
answerable_exactly own h out = (ranges, λ f. simp (le-leb _ _ f.address, le-leb _ _ f.named, le-leb _ _ f.service, le-leb _ _ f.object, le-leb _ _ f.room))
  where
    ranges : answerable own h out ≡ true → Answerable own h out
    ranges e =
        let a = (and-eq-true_iff _ (leb least_out out)).0 e in
        let b = (and-eq-true_iff _ (leb h.object 31)).0 a.0 in
        let c = (and-eq-true_iff _ (leb h.service 7)).0 b.0 in
        let d = (and-eq-true_iff (leb own most_address) (leb lowest_long h.service)).0 c.0 in
        record {
          address = leb-true _ _ d.0;
          named = leb-true _ _ d.1;
          service = leb-true _ _ c.1;
          object = leb-true _ _ b.1;
          room = leb-true _ _ a.1;
        }

module _ (own : ℕ) (h : Header) (out : List ℕ) (f : Answerable own h (length out)) where
  pub subject_ready : (response : ℕ) → response ≤ 3 → subject_fits (answering own h response) ≡ true
  subject_ready response m = (subject_fits_lem (answering own h response)).1 (answering_fits own h response f.address f.named f.service m f.object)

  pub single_sent : (response : ℕ) (bs : List ℕ) → response ≤ 3 → length bs ≤ most_data
      → single own h response (data_of bs) out ≡ sent (image_of (Plain (answering own h response) (data_of bs)) ∷ []) out
  unfolding single image_of frame_of
  single_sent response bs m k =
      let u = answering own h response in
      front_sent (long_places u 0 (data_of bs)) (image_of (Plain u (data_of bs))) out f.room
      (places_are_image u 0 (data_of bs) (subject_ready response m) (omega arith) (tidy_data bs k most_data k))

  pub refused : (number : ℕ) → refused_with own h number out ≡ sent (error_frame own h number ∷ []) out
  unfolding error_frame
  refused number = single_sent erroneous (code_of number ∷ []) (omega arith) (omega arith)

  pub acknowledged : acknowledged_with own h out ≡ sent (success_frame own h ∷ []) out
  unfolding success_frame
  acknowledged = single_sent successful [] (omega arith) (omega arith)

  module _ (bs : List ℕ) (m : length bs ≤ 255) where
    part_fits_lem : part_fits own h bs (length out) ≡ true
    unfolding part_fits
    part_fits_lem = simp (le-leb (length bs) 255 m, (answerable_exactly own h (length out)).1 f)

    pub part_count_lem : part_count own h bs out ≡ length (read_frames own h bs)
    unfolding part_count
    part_count_lem = simp part_fits_lem

    pub part_sent_lem : part_sent own h bs out ≡ sent (read_frames own h bs) out
    unfolding part_sent
    part_sent_lem = simp part_fits_lem

-- the acknowledge of a short Write
pub short_acknowledged_lem : (own : ℕ) (h : Header) (out : List ℕ) → own ≤ most_address → least_out ≤ length out
    → short_acknowledged own h out ≡ sent (short_frame own h ∷ []) out
unfolding short_acknowledged short_frame
short_acknowledged_lem own h out o room =
    front_sent (short_places 1 own (acknowledge_of h)) (image_of (Short 1 own (acknowledge_of h))) out room
    (short_places_are_image 1 own (acknowledge_of h) ((short_fits_lem 1 own (acknowledge_of h)).1 (acknowledge_fits own h o)))
