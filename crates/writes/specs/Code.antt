-- What the code leaves of store and work area, for every input; `data_stored`, `message_stored` and `piece_kept` say that of what is ready it is
-- what 01 says.
use Rattle.std.specs.Prelude.{ℕ, ◌+◌, ◌≤◌, ◌≡◌, Bool, cond, ◌&&◌, List, [], ◌∷◌, length, leb, ltb}
use Rattle.laws.specs.Put.{put}
use Rattle.octets.specs.declared.Data.{Data}
use Rattle.octets.specs.Data.{most_data, bytes_of}
use Rattle.table.specs.declared.Attribute.{Attribute}
use Rattle.table.specs.Table.{end_of}
use Rattle.join.specs.Work.{area_size, base, kept, area_after}
use Rattle.join.specs.History.{Fit}
use Rattle.join.specs.Code.{keep_fits, join_fits, joined_from}
use Rattle.guest.specs.Checks.{fragment_bytes, joiner, piece_of}

-- what a whole Write needs of the store
pub record WriteReady (a : Attribute) (b : Data) (store : ℕ) : Type 0 where
  pub inside : end_of a ≤ store
  pub whole : b.len ≡ a.len
  pub bytes : b.len ≤ most_data

-- what keeping a fragment needs of the work area, and joining also of the store
pub record KeepReady (a : Attribute) (number total : ℕ) (b : Data) (work : ℕ) : Type 0 where
  pub area : work ≡ area_size
  pub object : a.object ≤ 31
  pub whole : total ≡ a.len
  pub bytes : b.len ≤ most_data
  pub fits : Fit joiner (piece_of a.id number total b)

abbrev pub JoinReady : Attribute → ℕ → ℕ → Data → ℕ → ℕ → Type 0
JoinReady a number total b store work = KeepReady a number total b work × (end_of a ≤ store)

-- the store after a whole Write: it stays where the data would run past its end, or counts more bytes than it has places for
unfoldable pub stored_data : Attribute → Data → List ℕ → List ℕ
stored_data a b store = cond (leb b.len most_data && leb (a.offset + b.len) (length store)) (put store a.offset (bytes_of b)) store

-- and after a short Write, which gives its one byte a state
unfoldable pub stored_state : Attribute → ℕ → List ℕ → List ℕ
stored_state a state store = cond (ltb a.offset (length store)) (put store a.offset (state ∷ [])) store

-- the bytes of a message whose last fragment has come: those that the object's record holds, and the fragment's own
abbrev pub joined_bytes : Attribute → ℕ → Data → List ℕ → List ℕ
joined_bytes a number b work = joined_from work (base a.object) fragment_bytes number (bytes_of b)

-- the data has places for its bytes, the attribute ends inside the store, what was kept before is inside the work area, and the message has the
-- attribute's length; work and store are lengths
unfoldable pub joined_fits : Attribute → ℕ → Data → ℕ → ℕ → Bool
joined_fits a number b work store =
    leb b.len most_data && leb (end_of a) store && join_fits work (base a.object) fragment_bytes number b.len a.len

-- the store after a last fragment: it stays where that does not hold
unfoldable pub stored_joined : Attribute → ℕ → Data → List ℕ → List ℕ → List ℕ
stored_joined a number b work store = cond (joined_fits a number b (length work) (length store)) (put store a.offset (joined_bytes a number b work)) store

-- the work area after a fragment before the last: it stays where the data has no places for its bytes or the area no room for them, or the next
-- number is no byte
unfoldable pub kept_piece : Attribute → ℕ → ℕ → Data → List ℕ → List ℕ
kept_piece a number total b work =
    cond (leb b.len most_data && keep_fits (length work) (base a.object) fragment_bytes number b.len)
    (area_after joiner (base a.object) (piece_of a.id number total b) kept work)
    work
