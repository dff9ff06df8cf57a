-- When the code's lent slices have room for what it is asked to do; where they have not, it alters nothing. Work, body and part are lengths.
use Rattle.std.specs.Prelude.{ℕ, ◌+◌, ◌*◌, ◌≤◌, ◌≡◌, Bool, false, cond, ◌&&◌, List, ◌++◌, take, drop, eqb, leb, ltb}
use Rattle.join.specs.Work.{record_size, head_size, data_size, Joiner, Piece}
use Rattle.join.specs.declared.Piece as Declared

-- a fragment's data end inside the area, and its next number is a byte
unfoldable pub keep_fits : (work at w number body : ℕ) → Bool
keep_fits work at w number body = ltb number 255 && leb (at + head_size + w * number + body) work

-- what is held before a fragment's place is inside the area, and the part is just as long as the joined bytes
unfoldable pub join_fits : (work at w number body part : ℕ) → Bool
join_fits work at w number body part = leb (at + head_size + w * number) work && eqb part (w * number + body)

-- the whole record is inside the area, a fragment's data end inside the record's, and its next number is a byte
unfoldable pub record_fits : (work at w number body : ℕ) → Bool
record_fits work at w number body = ltb number 255 && leb (at + record_size) work && leb (w * number + body) data_size

-- and by the bytes of its key: the first of them stands before the data, the second behind them, at the record's end; a third has no place
unfoldable pub key_fits : (keyed work at w number body : ℕ) → Bool
key_fits keyed work at w number body = cond (eqb keyed 1) (keep_fits work at w number body) (eqb keyed 2 && record_fits work at w number body)

-- the joined bytes, read off the area
abbrev pub joined_from : List ℕ → (at w number : ℕ) → List ℕ → List ℕ
joined_from work at w number body = take (w * number) (drop (at + head_size) work) ++ body

-- where a fragment's data begin among the joined bytes: the width and the number are bytes, so it takes more than eight bits
pub record Start (w number start : ℕ) : Type 0 where
  pub times : start ≡ w * number
  pub small : start ≤ 255 * 255

-- a joiner with a key of so many bytes. What is asked of a fragment, and what one with more to come leaves, does not depend on the third thing that
-- joiners differ in: whether the last one's bytes are stored too
abbrev pub keyed_by : (keyed width : ℕ) → Joiner
keyed_by k w = record { width = w; keyed = k; stores_last = false }

-- the code's fragment
abbrev pub fragment : {K : ℕ} → Declared.Piece K → Piece
fragment p = record { key = p.key; total = p.total; number = p.number; bytes = p.body.now }
