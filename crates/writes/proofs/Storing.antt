-- What is stored and kept is what 01 says, of what is ready.
use Prim.Native.Nat.{ℕ, ◌+◌, ◌-◌, ◌<◌, ◌≤◌}
use mathlib.Core.Path.{◌≡◌, refl, ap, ◌∙◌}
use mathlib.Core.Bool.{true, cond}
use mathlib.Core.List.{List, [], ◌∷◌, ◌++◌}
use native.Mathlib.Omega.{arith}
use lib.ListN.{length, take, drop}
use borrow.Author.Tests.{le-leb, lt-ltb}
use borrow.Rule.Slice.PartMut.{put_mid, put_same, mid_len}
use Rattle.laws.specs.Put.{put}
use Rattle.octets.proofs.Copies.{copied_whole}
use Rattle.laws.proofs.Tests.{split}
use Rattle.octets.specs.declared.Data.{Data}
use Rattle.octets.specs.Data.{most_data, bytes_of}
use Rattle.octets.proofs.Datas.{bytes_counted}
use Rattle.table.specs.declared.Attribute.{Attribute}
use Rattle.table.specs.Table.{end_of}
use Rattle.join.specs.Work.{record_size, base, last, kept, area_after}
use Rattle.join.specs.Code.{keep_fits, join_fits, joined_from}
use Rattle.join.proofs.Joins.{number_most}
use Rattle.join.proofs.Parts.{fit_keeps, fit_joins, joins_whole, put_mid_lem}
use Rattle.join.proofs.Places.{base_inside}
use Rattle.guest.specs.Checks.{fragment_bytes, joiner, piece_of}
use Rattle.writes.specs.Code.{WriteReady, KeepReady, stored_data, stored_state, joined_bytes, joined_fits, stored_joined, kept_piece}

-- ---- what the code leaves, from what the functions that it calls leave

-- the part of the store that a whole Write's bytes were copied into, put back
pub data_back : (a : Attribute) (b : Data) → b.len ≤ most_data → (body : List ℕ) → body ≡ bytes_of b
    → (store m : List ℕ) → a.offset + length body ≤ length store
    → (let part = take (a.offset + length body - a.offset) (drop a.offset store) in m ≡ take (length part) body ++ drop (length body) part)
    → put_mid a.offset (a.offset + length body - a.offset) store m ≡ stored_data a b store
unfolding stored_data
data_back a b h body be store m k e =
    let start = a.offset in
    let end = start + length body in
    let long : length body ≡ b.len = ap length be ∙ bytes_counted b h in
    let whole = copied_whole body (take (end - start) (drop start store)) (omega (arith, mid_len start end store k)) in
    simp (le-leb b.len most_data h, le-leb (start + b.len) (length store) (omega (arith, k, long)))
    (put_mid_lem start end store m (bytes_of b) (omega (arith, long, bytes_counted b h)) (e ∙ whole ∙ be))

-- the joined bytes are as long as the part that the joiner puts them into
joined_long : (a : Attribute) (number : ℕ) (b : Data) (work : List ℕ) → b.len ≤ most_data
    → join_fits (length work) (base a.object) fragment_bytes number b.len a.len ≡ true → length (joined_bytes a number b work) ≡ a.len
joined_long a number b work h t = joins_whole work (base a.object) fragment_bytes number a.len (bytes_of b) (rw (bytes_counted b h) t)

-- what the joiner leaves, given a fragment's bytes and the place of its object's record
module _ (a : Attribute) (number : ℕ) (b : Data) (h : b.len ≤ most_data) (work : List ℕ)
    (at : ℕ) (ae : at ≡ base a.object) (body : List ℕ) (be : body ≡ bytes_of b) where
  pub kept_back : (total : ℕ) (m : List ℕ)
      → m
      ≡ cond (keep_fits (length work) at fragment_bytes number (length body))
      (area_after joiner at (record { key = a.id ∷ []; total = total; number = number; bytes = body }) kept work)
      work
      → m ≡ kept_piece a number total b work
  unfolding kept_piece
  kept_back total m e = e ∙ rw (ae, be, bytes_counted b h) (simp (le-leb b.len most_data h))

  -- the attribute's part of the store, put back: filled where the message has its length
  pub joined_back : (store m : List ℕ) → end_of a ≤ length store
      → (let part = take (end_of a - a.offset) (drop a.offset store) in
      m ≡ cond (join_fits (length work) at fragment_bytes number (length body) (length part)) (joined_from work at fragment_bytes number body) part)
      → put_mid a.offset (end_of a - a.offset) store m ≡ stored_joined a number b work store
  unfolding stored_joined joined_fits
  joined_back store m k e =
      let start = a.offset in
      let end = end_of a in
      let size : length (take (end - start) (drop start store)) ≡ a.len = mid_len start end store k ∙ omega arith in
      rw (e, ae, be, bytes_counted b h, size)
      (simp (le-leb b.len most_data h, le-leb end (length store) k)
      (split (join_fits (length work) (base a.object) fragment_bytes number b.len a.len)
      (λ t. simp t (put_mid_lem start end store _ (joined_bytes a number b work) (omega (arith, joined_long a number b work h t)) refl))
      (λ f. simp f (put_same start (end - start) store))))

-- ---- of what is ready

pub data_stored : (a : Attribute) (b : Data) (store : List ℕ) → WriteReady a b (length store) → stored_data a b store ≡ put store a.offset (bytes_of b)
unfolding stored_data
data_stored a b store r =
    simp (le-leb b.len most_data r.bytes, le-leb (a.offset + b.len) (length store) (omega (arith, r.inside, r.whole)))

pub state_stored : (a : Attribute) (state : ℕ) (store : List ℕ) → a.offset < length store → stored_state a state store ≡ put store a.offset (state ∷ [])
unfolding stored_state
state_stored a state store h = simp (lt-ltb a.offset (length store) h)

module _ (a : Attribute) (number total : ℕ) (b : Data) (work : List ℕ) (r : KeepReady a number total b (length work)) where
  -- its object's record is inside the area
  room : base a.object + record_size ≤ length work
  room = rw r.area (base_inside a.object r.object)

  pub piece_kept : kept_piece a number total b work ≡ area_after joiner (base a.object) (piece_of a.id number total b) kept work
  unfolding kept_piece
  piece_kept =
      -- its number is at most 63, so that the next one is a byte
      let highest = number_most fragment_bytes 63 total number _ (omega arith) r.fits.room r.fits.shaped in
      let fits = fit_keeps fragment_bytes (piece_of a.id number total b) r.fits (omega (arith, highest)) (length work) (base a.object) room in
      simp (le-leb b.len most_data r.bytes, ← bytes_counted b r.bytes, fits)

  -- a last fragment's message is as long as the attribute
  pub message_stored : (store : List ℕ) → end_of a ≤ length store → last joiner (piece_of a.id number total b) ≡ true
      → stored_joined a number b work store ≡ put store a.offset (joined_bytes a number b work)
  unfolding stored_joined joined_fits
  message_stored store h t =
      let fits = fit_joins fragment_bytes (piece_of a.id number total b) r.fits t (length work) (base a.object) room in
      simp (le-leb b.len most_data r.bytes, le-leb (end_of a) (length store) h, ← bytes_counted b r.bytes, ← r.whole, fits)
