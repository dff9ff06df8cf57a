-- What a list of frames shows, said from the frames alone and reading no work area (01, "Completed messages"). A history is a list of records, the newest first.
use Rattle.std.specs.Prelude.{ℕ, cond, List, [], ◌∷◌, eqb}
use Rattle.codec.specs.Fields.{header_of}
use Rattle.table.specs.declared.Attribute.{Attribute}
use Rattle.join.specs.Work.{Piece, Joined, kept, done, lost, last}
use Rattle.join.specs.History.{chain, message}
use Rattle.guest.specs.declared.Plan.TheVariants.{Read, Write, Join}
use Rattle.guest.specs.Checks.{Setting, joiner, piece_of}
use Rattle.guest.specs.Step.{Judged, quiet, errs, switches, asks, judged_of, Effect, effect_of, store_after, Reply, reply_to}

-- "Take all fragmented Writes to one object that pass checks 1 to 12, in order" (01 has 13; 02, 2026-05, took that check out): one frame's, in front of
-- the earlier ones
abbrev pub with_piece : ℕ → Judged → List Piece → List Piece
with_piece o (quiet n) h = h
with_piece o (errs n q) h = h
with_piece o (switches a state) h = h
with_piece o (asks (Read a)) h = h
with_piece o (asks (Write a b)) h = h
with_piece o (asks (Join a number total b)) h = cond (eqb a.object o) (piece_of a.id number total b ∷ h) h

abbrev pub pieces_of : Setting → ℕ → List (List ℕ) → List Piece
pieces_of s o [] = []
pieces_of s o (r ∷ h) = with_piece o (judged_of s r) (pieces_of s o h)

-- what the history makes of a fragment: out of order where the fragments just before it are not the others of its message; else it is kept, or
-- completes the message
abbrev pub joined_by : Setting → List (List ℕ) → Attribute → Piece → Joined
joined_by s h a p =
    cond (chain p.key p.total p.number (pieces_of s a.object h))
    (cond (last joiner p) (done (message (pieces_of s a.object h) p)) kept) lost

-- what a frame does, from the history before it
abbrev pub effect_by : Setting → List (List ℕ) → List ℕ → Effect
effect_by s h r = effect_of (joined_by s h) (judged_of s r)

-- the store that the whole writes of a history leave: "A fragmented write counts as one whole write at its last fragment"
abbrev pub shown : Setting → List ℕ → List (List ℕ) → List ℕ
shown s store [] = store
shown s store (r ∷ h) = store_after (effect_by s h r) (shown s store h)

-- the answer to a frame, from the history before it and the store at the start
abbrev pub said : Setting → List ℕ → List (List ℕ) → List ℕ → Reply
said s store h r = reply_to s.own (header_of r) (effect_by s h r) (shown s store h)
