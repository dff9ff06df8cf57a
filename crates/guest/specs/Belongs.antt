-- What belongs to an object: the bytes of its attributes, and those of its work record.
use Rattle.std.specs.Prelude.{ℕ, ◌≡◌, List, length}
use Rattle.laws.specs.Put.{Agree}
use Rattle.table.specs.Table.{attributes, owner_in}
use Rattle.join.specs.Work.{record_of}
use Rattle.guest.specs.Checks.{Setting}
use Rattle.guest.specs.Step.{Areas}

abbrev pub InPart : List ℕ → ℕ → ℕ → Type 0
InPart table o i = owner_in (attributes table) i ≡ o

abbrev pub InRecord : ℕ → ℕ → Type 0
InRecord o j = record_of j ≡ o

-- two states agree on all that belongs to an object
pub record Same (table : List ℕ) (o : ℕ) (x y : Areas) : Type 0 where
  pub store : Agree (InPart table o) x.store y.store
  pub work : Agree (InRecord o) x.work y.work

-- the areas have the lengths that the setting says
pub record Good (s : Setting) (x : Areas) : Type 0 where
  pub store : length x.store ≡ s.store_len
  pub work : length x.work ≡ s.work_len
