-- What belongs to a guest: the bytes of its work record.
use Rattle.std.specs.Prelude.{ℕ, ◌≡◌, List, length}
use Rattle.std.proofs.Math.Option.{Option}
use Rattle.laws.specs.Put.{Agree}
use Rattle.join.specs.Work.{record_of}
use Rattle.collect.specs.declared.Tally.{Tally}
use Rattle.collect.specs.Checks.{collect_size}
use Rattle.collect.specs.Step.{Answer, judged_of, owner, answer_of, work_of, part_of}
use Rattle.collect.specs.Tally.{tallied}

abbrev pub InRecord : ℕ → ℕ → Type 0
InRecord guest i = record_of i ≡ guest

-- two work areas agree on all that belongs to a guest
abbrev pub Same : ℕ → List ℕ → List ℕ → Type 0
Same guest = Agree (InRecord guest)

abbrev pub Good : List ℕ → Type 0
Good work = length work ≡ collect_size

-- whose a frame is, in a work area of its size
abbrev pub owner_of : List ℕ → Option ℕ
owner_of r = owner (judged_of collect_size r)

-- what a caller sees of one call: the answer, and the bytes that are handed over
abbrev pub Seen : Type 0
Seen = Answer × List ℕ

abbrev pub seen_of : List ℕ → List ℕ → Seen
seen_of r work = (answer_of r work, part_of (answer_of r work).value r (work_of r work))

-- what is lent from call to call: the work area and the tally
pub record Kept : Type 0 where
  pub work : List ℕ
  pub tally : Tally

-- one call, of any frame: what both hold then, and what the caller sees
abbrev pub next : List ℕ → Kept → Kept
next r k = record { work = work_of r k.work; tally = tallied k.tally (answer_of r k.work) }

abbrev pub seen : List ℕ → Kept → Seen
seen r k = seen_of r k.work
