-- Buffers that are filled from the front, and the line that tells what was refused.
use Rattle.std.specs.Prelude.{ℕ, ◌+◌, ◌-◌, ◌%◌, ◌^◌, ◌≡◌, min, Bool, cond, ◌&&◌, ltb, leb, List, [], ◌∷◌, ◌++◌, length, take}
use Rattle.laws.specs.Bytes.{padded}
use Rattle.laws.specs.Put.{put}
use Rattle.pipes.specs.declared.buffer.Buffer.{Buffer}

-- how many of so many bytes find room in a buffer of which so many are used
abbrev pub fitting : List ℕ → ℕ → List ℕ → List ℕ
fitting part used buffer = take (length buffer - used) part

-- the buffer with them behind those, and how many are used then
unfoldable pub appended : List ℕ → ℕ → List ℕ → List ℕ
appended part used buffer = put buffer used (fitting part used buffer)

unfoldable pub appended_count : List ℕ → ℕ → List ℕ → ℕ
appended_count part used buffer = used + min (length part) (length buffer - used)

-- a buffer after bytes were put behind those that it held
abbrev pub Added : {N : ℕ} → Buffer N → List ℕ → Buffer N → Type 0
Added b part c = (c.used ≡ appended_count part b.used b.bytes) × (c.bytes ≡ appended part b.used b.bytes)

-- behind how many bytes more are put, where those that wait are written first if there is no room
abbrev pub lacks_room : List ℕ → ℕ → List ℕ → Bool
lacks_room part used buffer = leb used (length buffer) && ltb (length buffer - used) (length part)

unfoldable pub sent_from : List ℕ → ℕ → List ℕ → ℕ
sent_from part used buffer = cond (lacks_room part used buffer) 0 used

-- a count of 64 bits "stops at its largest value"
abbrev pub next_of : ℕ → ℕ
next_of n = min (n + 1) (2 ^ 64 - 1)

abbrev pub complaint_room : ℕ
complaint_room = 128

-- `line 7: 3 words` and the line's end: what is refused, its number among its like, the number of the refusal, and the rule; cut where it has no room
unfoldable pub complaint_text : List ℕ → List ℕ → ℕ → List ℕ → List ℕ
complaint_text kind place number rule =
    take complaint_room (kind ++ (32 ∷ []) ++ place ++ (58 ∷ 32 ∷ (48 + number % 10) ∷ 32 ∷ []) ++ rule ++ (10 ∷ []))

unfoldable pub complaint_of : List ℕ → List ℕ → ℕ → List ℕ → Buffer complaint_room
complaint_of kind place number rule = record {
  bytes = padded complaint_room (complaint_text kind place number rule);
  used = length (complaint_text kind place number rule);
}
