-- What is handed over, said from the frames alone and reading no work area. A history is a list of records, the newest first.
use Rattle.std.specs.Prelude.{ℕ, cond, List, [], ◌∷◌, eqb, Option, None}
use Rattle.codec.specs.Reading.{payload_of}
use Rattle.join.specs.Work.{Piece, Joined, kept, done, lost, last}
use Rattle.join.specs.History.{chain, message}
use Rattle.collect.specs.declared.Value.{Value}
use Rattle.collect.specs.Checks.{collect_size, joiner}
use Rattle.collect.specs.Step.{Judged, nobodys, spoilt, whole, piece, judged_of, Whole, join_number, join_value}

-- the fragments from one guest that pass 1 to 5, in order: one frame's, in front of the earlier ones
abbrev pub with_piece : ℕ → Judged → List Piece → List Piece
with_piece guest (nobodys n) h = h
with_piece guest (spoilt g n) h = h
with_piece guest (whole u n) h = h
with_piece guest (piece u p) h = cond (eqb u.address guest) (p ∷ h) h

abbrev pub pieces_of : ℕ → List (List ℕ) → List Piece
pieces_of guest [] = []
pieces_of guest (r ∷ h) = with_piece guest (judged_of collect_size r) (pieces_of guest h)

-- what the history makes of a fragment: out of order where the fragments just before it from its guest are not the others of its message (numbers 0 up,
-- the same object, ID and total); else it is kept, or completes the message
unfoldable pub joined_by : List (List ℕ) → ℕ → Piece → Joined
joined_by h guest p =
    cond (chain p.key p.total p.number (pieces_of guest h))
    (cond (last joiner p) (done (message (pieces_of guest h) p)) kept) lost

-- the bytes that a fragment brings together
abbrev pub joined_bytes : Joined → List ℕ
joined_bytes kept = []
joined_bytes (done bs) = bs
joined_bytes lost = []

-- the number of a frame's answer, what is handed over, and its bytes, from the history before it. A whole frame hands over its own
pub record Told : Type 0 where
  pub number : ℕ
  pub value : Option Value
  pub bytes : List ℕ

abbrev pub tells : ℕ → Option Value → List ℕ → Told
tells number value bytes = record { number = number; value = value; bytes = bytes }

unfoldable pub told_by : List (List ℕ) → List ℕ → Judged → Told
told_by h r (nobodys n) = tells n None []
told_by h r (spoilt guest n) = tells n None []
told_by h r (whole u n) = tells 0 (Whole u.address u.object u.id n) (payload_of r)
told_by h r (piece u p) =
    tells (join_number (joined_by h u.address p)) (join_value u p (joined_by h u.address p)) (joined_bytes (joined_by h u.address p))

abbrev pub told : List (List ℕ) → List ℕ → Told
told h r = told_by h r (judged_of collect_size r)
