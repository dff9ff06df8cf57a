-- What the code puts, for every input; `refused`, `acknowledged`, `short_acknowledged_lem` and `part_sent_lem` say that of what fits it is what 01
-- and 02 say.
use Rattle.std.specs.Prelude.{ℕ, ◌+◌, ◌*◌, ◌≤◌, ◌≡◌, Bool, true, cond, ◌&&◌, List, [], ◌∷◌, length, leb}
use Rattle.laws.specs.Put.{put}
use Rattle.octets.specs.declared.Data.{Data}
use Rattle.octets.specs.Data.{data_of}
use Rattle.codec.specs.declared.Header.{Header}
use Rattle.codec.specs.declared.Subject.{Subject}
use Rattle.codec.specs.Names.{frame_size, most_address, lowest_long, successful, erroneous}
use Rattle.codec.specs.Writing.{subject_fits}
use Rattle.codec.specs.Code.{long_places, short_places}
use Rattle.guest.specs.Checks.{least_out}
use Rattle.guest.specs.Errors.{code_of}
use Rattle.guest.specs.Step.{answering, acknowledge_of, read_frames, sent}

-- what an answer needs: an address, a service and an object that a frame carries, and room for the most frames of a reply
pub record Answerable (own : ℕ) (h : Header) (out : ℕ) : Type 0 where
  pub address : own ≤ most_address
  pub named : lowest_long ≤ h.service
  pub service : h.service ≤ 7
  pub object : h.object ≤ 31
  pub room : least_out ≤ out

-- the same as a test
unfoldable pub answerable : ℕ → Header → ℕ → Bool
answerable own h out =
    leb own most_address && leb lowest_long h.service && leb h.service 7 && leb h.object 31 && leb least_out out

-- the output after a record is put in front; one that has no room stays
abbrev pub in_front : List ℕ → List ℕ → List ℕ
in_front f out = cond (leb frame_size (length out)) (put out 0 f) out

-- after one frame, flag clear, with this data: each field is cut to the bits that it has in the record
unfoldable pub single : ℕ → Header → ℕ → Data → List ℕ → List ℕ
single own h response body out = in_front (long_places (answering own h response) 0 body) out

-- after a refusal: the frame says its code
abbrev pub refused_with : ℕ → Header → ℕ → List ℕ → List ℕ
refused_with own h number out = single own h erroneous (data_of (code_of number ∷ [])) out

-- after a Write that is done
abbrev pub acknowledged_with : ℕ → Header → List ℕ → List ℕ
acknowledged_with own h out = single own h successful (data_of []) out

-- after a short Write that is done
unfoldable pub short_acknowledged : ℕ → Header → List ℕ → List ℕ
short_acknowledged own h out = in_front (short_places 1 own (acknowledge_of h)) out

-- what fragment n of so many bytes needs: a subject that a frame carries, number and total of one byte, and room in its place
pub record PieceReady (about : Subject) (n total out : ℕ) : Type 0 where
  pub subject : subject_fits about ≡ true
  pub number : n ≤ 255
  pub whole : total ≤ 255
  pub room : n * frame_size + frame_size ≤ out

-- the frames of a Read, and how many: none where they do not fit
unfoldable pub part_fits : ℕ → Header → List ℕ → ℕ → Bool
part_fits own h bs out = leb (length bs) 255 && answerable own h out

unfoldable pub part_count : ℕ → Header → List ℕ → List ℕ → ℕ
part_count own h bs out = cond (part_fits own h bs (length out)) (length (read_frames own h bs)) 0

unfoldable pub part_sent : ℕ → Header → List ℕ → List ℕ → List ℕ
part_sent own h bs out = cond (part_fits own h bs (length out)) (sent (read_frames own h bs) out) out
