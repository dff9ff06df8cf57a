-- The cases marked P of the scope page (01, "Sample device"), as one table; of an error frame 01 has the number, and 02, 2026-06, the DLC and the byte.
use Rattle.std.specs.Prelude.{ℕ, ◌+◌, ◌*◌}
use mathlib.Core.List.{List, [], ◌∷◌, ◌++◌, map, flat_map}
use Rattle.laws.specs.Bytes.{up_from}
use Rattle.laws.specs.Put.{put}
use Rattle.laws.specs.Mixing.{run, trace}
use Rattle.guest.specs.Checks.{Setting}
use Rattle.guest.specs.Step.{Areas, areas, setting, Reply, reply, next, answer}
use Rattle.demands.specs.Sample.{sample, fresh, fresh_out}

-- a record, byte by byte
abbrev pub frame : ℕ → ℕ → ℕ → ℕ → ℕ → ℕ → ℕ → ℕ → ℕ → ℕ → List ℕ
frame b0 b1 b2 b3 b4 b5 b6 b7 b8 b9 = b0 ∷ b1 ∷ b2 ∷ b3 ∷ b4 ∷ b5 ∷ b6 ∷ b7 ∷ b8 ∷ b9 ∷ []

-- one row: the records sent one after another to the sample device with fresh areas, the answer to each, and the areas at the end
pub record Case : Type 0 where
  pub frames : List (List ℕ)
  pub replies : List Reply
  pub store : List ℕ
  pub work : List ℕ

-- one record that alters neither area: its number and the frames put
abbrev pub only : List ℕ → ℕ → List (List ℕ) → Case
only r number frames = record { frames = r ∷ []; replies = reply number frames ∷ []; store = fresh.store; work = fresh.work }

-- with no frame, and with one
abbrev pub quiet : List ℕ → ℕ → Case
quiet r number = only r number []

abbrev pub error : List ℕ → ℕ → List ℕ → Case
error r number f = only r number (f ∷ [])

-- "P5 DLC 0, DLC 1: 5", for a service
abbrev pub short : ℕ → List Case
short service =
    quiet (frame 0x09 (service * 0x20) 0x00 0x00 0x00 0x00 0x00 0x00 0x00 0x00) 5
    ∷ quiet (frame 0x09 (service * 0x20 + 1) 0x00 0x00 0x00 0x00 0x00 0x00 0x00 0x00) 5 ∷ []

-- P1: the record, the frame that answers it, and the store afterwards
abbrev pub p1 : List ℕ
p1 = frame 0x09 0x84 0x03 0x0A 0x2C 0x01 0x00 0x00 0x00 0x00

abbrev pub p1_answer : List ℕ
p1_answer = frame 0x89 0x82 0x43 0x0A 0x00 0x00 0x00 0x00 0x00 0x00

abbrev pub p1_store : List ℕ
p1_store = put fresh.store 33 (0x2C ∷ 0x01 ∷ [])

unfoldable pub cases : List Case
cases =
    -- "P1 Request Write, object 3, ID 10, DLC 4, data 2C 01: 0; store 33, 34 hold 2C 01; one frame, byte 0 is 89 hex"
    record { frames = p1 ∷ []; replies = reply 0 (p1_answer ∷ []) ∷ []; store = p1_store; work = fresh.work }
    -- "P2 the same with DLC 3: 11"
    ∷ error (frame 0x09 0x83 0x03 0x0A 0x2C 0x00 0x00 0x00 0x00 0x00) 11 (frame 0x89 0x83 0x83 0x0A 0x09 0x00 0x00 0x00 0x00 0x00)
    -- "P3 DLC 9: 3"
    ∷ quiet (frame 0x09 0x89 0x03 0x0A 0x2C 0x01 0x00 0x00 0x00 0x00) 3
    -- "P4 address 10: 4; address 126: 3"
    ∷ quiet (frame 0x0A 0x84 0x03 0x0A 0x2C 0x01 0x00 0x00 0x00 0x00) 4
    ∷ quiet (frame 0x7E 0x84 0x03 0x0A 0x2C 0x01 0x00 0x00 0x00 0x00) 3
    -- "P5 DLC 0, DLC 1: 5", for each of the eight services
    ∷ flat_map short (up_from 0 8)
    -- "P6 Write object 2, ID 18: 10"
    ++ error (frame 0x09 0x83 0x02 0x12 0x01 0x00 0x00 0x00 0x00 0x00) 10 (frame 0x89 0x83 0x82 0x12 0x02 0x00 0x00 0x00 0x00 0x00)
    -- "P7 ID 19: 9"
    ∷ error (frame 0x09 0x83 0x02 0x13 0x01 0x00 0x00 0x00 0x00 0x00) 9 (frame 0x89 0x83 0x82 0x13 0x01 0x00 0x00 0x00 0x00 0x00)
    -- "P8 fragment 0 of object 2, ID 56, total 32, DLC 8: 0, no frame. Then number 2: 14, dropped"
    ∷ record {
      frames =
          frame 0x09 0x88 0x22 0x38 0x00 0x20 0x41 0x42 0x43 0x44
          ∷ frame 0x09 0x88 0x22 0x38 0x02 0x20 0x45 0x46 0x47 0x48 ∷ [];
      replies = reply 0 [] ∷ reply 14 (frame 0x89 0x83 0x82 0x38 0x0E 0x00 0x00 0x00 0x00 0x00 ∷ []) ∷ [];
      store = fresh.store;
      work = put fresh.work 520 (0x00 ∷ 0x38 ∷ 0x20 ∷ 0x01 ∷ 0x41 ∷ 0x42 ∷ 0x43 ∷ 0x44 ∷ []);
    }
    -- "Fragments of the same tag, work area cleared: P9 number 7 with DLC 7: 12"
    ∷ error (frame 0x09 0x87 0x22 0x38 0x07 0x20 0x41 0x42 0x43 0x00) 12 (frame 0x89 0x83 0x82 0x38 0x09 0x00 0x00 0x00 0x00 0x00)
    -- "P10 number 8: 12"
    ∷ error (frame 0x09 0x88 0x22 0x38 0x08 0x20 0x41 0x42 0x43 0x44) 12 (frame 0x89 0x83 0x82 0x38 0x09 0x00 0x00 0x00 0x00 0x00)
    -- "P11 total 31: 11"
    ∷ error (frame 0x09 0x88 0x22 0x38 0x00 0x1F 0x41 0x42 0x43 0x44) 11 (frame 0x89 0x83 0x82 0x38 0x09 0x00 0x00 0x00 0x00 0x00)
    ∷ []

-- "P12 descriptors 0100, 010F, 0143, 0040, 0110, 073F hex: 1, 2, 2, 2, 4, 32 bytes; 0128 and 0000 refused", and by 02: "Descriptor 0110 in P12 becomes 3"
unfoldable pub descriptors : List (ℕ × ℕ)
descriptors =
    (0x0100, 1) ∷ (0x010F, 2) ∷ (0x0143, 2) ∷ (0x0040, 2) ∷ (0x0110, 3) ∷ (0x073F, 32) ∷ (0x0128, 0) ∷ (0x0000, 0) ∷ []

-- what the definitions make of a row's records
abbrev pub played : Case → List Reply × Areas
played c = (map (λ t. t.1) (trace (next sample) (answer sample) c.frames fresh), run (next sample) c.frames fresh)

-- what the row says
abbrev pub expected : Case → List Reply × Areas
expected c = (c.replies, areas c.store c.work)

-- ---- the tags of objects 2 and 3

-- fragment n of an object's tag, ID 56, whose 32 bytes rise from b on
abbrev pub tag_fragment : ℕ → ℕ → ℕ → List ℕ
tag_fragment object b n =
    frame 0x09 0x88 (0x20 + object) 0x38 n 0x20 (b + 4 * n) (b + 4 * n + 1) (b + 4 * n + 2) (b + 4 * n + 3)

-- "Fragments 0 to 7 to object 2 and to object 3 by turns"
unfoldable pub by_turns : List (List ℕ)
by_turns = flat_map (λ n. tag_fragment 2 0x41 n ∷ tag_fragment 3 0x61 n ∷ []) (up_from 0 8)

-- ---- a photo-eye: object 0 is one Boolean, which may be read and written

-- the table of such a device, whose address is that of 000's example; its byte holds neither state before
unfoldable pub eye_table : List ℕ
eye_table = 0x00 ∷ 0x13 ∷ 0x07 ∷ 0x01 ∷ 0x00 ∷ 0x00 ∷ 0x00 ∷ 0x81 ∷ []

unfoldable pub eye_fresh : Areas
eye_fresh = areas (0x55 ∷ []) fresh.work

unfoldable pub eye : Setting
eye = setting 36 eye_table eye_fresh fresh_out

-- 000, 5.1.3: Write ON to address 36; and Write OFF
abbrev pub write_on_to36 : List ℕ
write_on_to36 = frame 0x24 0xA0 0x00 0x00 0x00 0x00 0x00 0x00 0x00 0x00

abbrev pub write_off_to36 : List ℕ
write_off_to36 = frame 0x24 0x80 0x00 0x00 0x00 0x00 0x00 0x00 0x00 0x00

-- 000, 5.1.4: its acknowledge, "Write ON State ACK"; and that of Write OFF
abbrev pub write_on_ack_from36 : List ℕ
write_on_ack_from36 = frame 0xA4 0xE0 0x00 0x00 0x00 0x00 0x00 0x00 0x00 0x00

abbrev pub write_off_ack_from36 : List ℕ
write_off_ack_from36 = frame 0xA4 0xC0 0x00 0x00 0x00 0x00 0x00 0x00 0x00 0x00
