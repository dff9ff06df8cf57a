-- One work record, at a base place of a lent area (01, "Object table, store, work area" and "Served fragment"; 02, 2026-07 and 2026-13).
use Rattle.std.specs.Prelude.{ℕ, ◌+◌, ◌*◌, ◌-◌, ◌/◌, min, Bool, true, false, cond, not, ◌&&◌, ◌||◌, List, [], ◌∷◌, ◌++◌, length, take, drop, eqb, leb, ltb}
use Rattle.laws.specs.Bytes.{byte_at}
use Rattle.laws.specs.Put.{put}

-- ---- places

-- "32 records of 260 bytes, one per object"
abbrev pub record_size : ℕ
record_size = 260

abbrev pub record_count : ℕ
record_count = 32

abbrev pub area_size : ℕ
area_size = record_count * record_size

-- the place of an object's record, and which record a byte of the area is of
abbrev pub base : ℕ → ℕ
base o = record_size * o

abbrev pub record_of : ℕ → ℕ
record_of i = i / record_size

-- "Byte 0 status, 1 attribute ID, 2 total, 3 next number k, 4..258 data, 259 unused" (02, 2026-07: "byte 259 now holds the object"): how many bytes
-- stand before the data, how many the data has, and the place behind it
abbrev pub head_size : ℕ
head_size = 4

abbrev pub data_size : ℕ
data_size = 255

abbrev pub second_key : ℕ
second_key = head_size + data_size

-- ---- what is joined

-- what joiners differ in (01; 02, 2026-07 and 2026-13)
pub record Joiner : Type 0 where
  -- the bytes of every fragment but the last
  pub width : ℕ
  -- how many bytes a key has: one, at byte 1 of a record, or two, the second at byte 259
  pub keyed : ℕ
  -- whether the last fragment's bytes are stored too
  pub stores_last : Bool

-- 01's: the key is the ID, and the last fragment's bytes are not stored
abbrev pub simple : ℕ → Joiner
simple w = record { width = w; keyed = 1; stores_last = false }

-- 02, 2026-07's: the key is the ID and the object, which byte 259 holds, "and the last fragment's bytes are stored too"
abbrev pub collecting : ℕ → Joiner
collecting w = record { width = w; keyed = 2; stores_last = true }

-- a fragment: which message it is of, its number there, and its data
pub record Piece : Type 0 where
  pub key : List ℕ
  pub total : ℕ
  pub number : ℕ
  pub bytes : List ℕ

pub record Work : Type 0 where
  pub status : ℕ
  pub key : List ℕ
  pub total : ℕ
  pub next : ℕ
  pub held : List ℕ

unfoldable pub load : Joiner → ℕ → List ℕ → Work
load j base l = record {
  status = byte_at l base;
  key = take j.keyed (byte_at l (base + 1) ∷ byte_at l (base + second_key) ∷ []);
  total = byte_at l (base + 2);
  next = byte_at l (base + 3);
  held = take data_size (drop (base + head_size) l);
}

abbrev pub same_key : List ℕ → List ℕ → Bool
same_key [] [] = true
same_key [] (b ∷ m) = false
same_key (a ∷ k) [] = false
same_key (a ∷ k) (b ∷ m) = eqb a b && same_key k m

-- ---- the tests, w bytes to a fragment where 01 says 4

-- what check 12 lets pass: it refuses "number n with 4n not below total, or data not min(4, total - 4n) bytes"
unfoldable pub shaped_by : (w total number len : ℕ) → Bool
shaped_by w total number len = ltb (w * number) total && eqb len (min w (total - w * number))

abbrev pub shaped : Joiner → Piece → Bool
shaped j p = shaped_by j.width p.total p.number (length p.bytes)

-- "A record is filling if status is 1, k is at least 1 and 4k is less than the total. Every other record counts as idle"
abbrev pub filling : Joiner → Work → Bool
filling j r = eqb r.status 1 && leb 1 r.next && ltb (j.width * r.next) r.total

-- check 14: "n not 0, and the record is idle or differs in ID, total or next number"
unfoldable pub astray : Joiner → Work → Piece → Bool
astray j r p =
    not (eqb p.number 0)
    && (not (filling j r) || not (same_key r.key p.key) || not (eqb r.total p.total) || not (eqb r.next p.number))

-- "the last (4n + 4 at least total)"
abbrev pub last : Joiner → Piece → Bool
last j p = leb p.total (j.width * p.number + j.width)

-- ---- what is done

-- what a fragment brings about: it is kept, or completes its message, or is out of order
pub data Joined : Type 0 where
  kept : Joined
  done : List ℕ → Joined
  lost : Joined

-- the joined bytes are those held before the fragment's place, and its own
unfoldable pub joined : Joiner → Piece → Work → Joined
joined j p r = cond (astray j r p) lost (cond (last j p) (done (take (j.width * p.number) r.held ++ p.bytes)) kept)

-- a fragment sets "its four data bytes at 4 + 4n"
abbrev pub with_data : Joiner → ℕ → Piece → List ℕ → List ℕ
with_data j base p l = put l (base + head_size + j.width * p.number) p.bytes

-- and "status 1, ID, total, next number"
abbrev pub head_of : Piece → List ℕ
head_of p = 1 ∷ byte_at p.key 0 ∷ p.total ∷ (p.number + 1) ∷ []

-- "sets status to 0": what a record holds is dropped
abbrev pub dropped : ℕ → List ℕ → List ℕ
dropped base l = put l base (0 ∷ [])

-- the area afterwards: "Unless it is the last" a fragment sets all that; the last one and one out of order set status to 0. (02, 2026-07: byte 259 is
-- "set where the ID is, and the last fragment's bytes are stored too".) "Other bytes of the work area stay"
unfoldable pub area_after : Joiner → ℕ → Piece → Joined → List ℕ → List ℕ
area_after j base p kept l = put (put (with_data j base p l) base (head_of p)) (base + second_key) (drop 1 p.key)
area_after j base p (done bs) l = dropped base (cond j.stores_last (with_data j base p l) l)
area_after j base p lost l = dropped base l
