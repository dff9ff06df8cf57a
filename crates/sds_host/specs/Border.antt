-- What C sees of captures and of the collector: lines, records, values and a tally, lent (include/sds_host.h).
use Rattle.std.specs.Prelude.{ℕ, ◌+◌, ◌*◌, ◌/◌, ◌%◌, ◌≡◌, false, cond, List, [], ◌∷◌, length, eqb, Option, Some, None}
use Rattle.codec.specs.Names.{frame_size}
use Rattle.candump.specs.Importing.{import_of}
use Rattle.candump.specs.Exporting.{put_of}
use Rattle.collect.specs.declared.Value.{Value}
use Rattle.collect.specs.declared.Place.{Place}
use Rattle.collect.specs.declared.Place.TheVariants.{Frame, Work}
use Rattle.collect.specs.declared.Tally.{Tally}
use Rattle.collect.specs.Step.{Answer, gives, answer_of, work_of, place_of}
use Rattle.collect.specs.Tally.{tallied}

-- "a record buffer not of ten bytes is 5, asked before all else"
unfoldable pub border_import_number : List ℕ → List ℕ → ℕ
border_import_number l r = cond (eqb (length r) frame_size) (import_of l).number 5

-- the record afterwards: "on any refusal the record stays"
unfoldable pub border_import : List ℕ → List ℕ → List ℕ
border_import l r = cond (eqb (border_import_number l r) 0) (import_of l).frame r

-- "number + 256 * bytes of the line": 1 and 2 as the exporter, then 3, "a buffer shorter than 36 bytes"
unfoldable pub border_export_answer : List ℕ → List ℕ → ℕ
border_export_answer r l = (put_of r l).number + 256 * (put_of r l).len

-- ---- the collector

-- a value is 8 bytes: 0 nothing handed over, 1 a part of the record, 2 a part of the work area; guest; object; ID; length; 0; the part's place, two
-- bytes, low first
abbrev pub value_size : ℕ
value_size = 8

abbrev pub value_at : (kind guest object id len place : ℕ) → List ℕ
value_at kind guest object id len place = kind ∷ guest ∷ object ∷ id ∷ len ∷ 0 ∷ (place % 256) ∷ (place / 256 % 256) ∷ []

abbrev pub kind_of : Place → ℕ
kind_of Frame = 1
kind_of Work = 2

unfoldable pub value_bytes : Option Value → List ℕ
value_bytes None = value_at 0 0 0 0 0 0
value_bytes (Some v) = value_at (kind_of v.place) v.guest v.object v.id v.len (place_of (Some v))

-- a value buffer not of 8 bytes is 1 too, and nothing alters then but the tally
unfoldable pub border_answer : (r work value : List ℕ) → Answer
border_answer r work value = cond (eqb (length value) value_size) (answer_of r work) (gives 1 None false)

unfoldable pub border_work : (r work value : List ℕ) → List ℕ
border_work r work value = cond (eqb (length value) value_size) (work_of r work) work

-- with number 0 all eight are set (all 0 where a fragment was kept); on a refusal they stay
unfoldable pub border_value : (r work value : List ℕ) → List ℕ
border_value r work value = cond (eqb (border_answer r work value).number 0) (value_bytes (border_answer r work value).value) value

-- a call that is lent these: its number, and what is there afterwards
pub record BorderCollected (r work value : List ℕ) (t : Tally) (number : ℕ) (work' value' : List ℕ) (t' : Tally) : Type 0 where
  pub answers : number ≡ (border_answer r work value).number
  pub leaves : work' ≡ border_work r work value
  pub shows : value' ≡ border_value r work value
  pub counts : t' ≡ tallied t (border_answer r work value)
