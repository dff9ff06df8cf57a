-- BOTH ENDS MEET (02, 2026-07). What the device answers to a Read that no check refuses, frame by frame into the collector, hands over the attribute's bytes,
-- once and at the last frame, whatever frames were collected before.
use Rattle.std.specs.Prelude.{ℕ, ◌-◌, ◌≤◌, ◌≡◌, false, cond, List, [], ◌∷◌, ◌++◌, map, length, replicate, leb, Option, None}
use Rattle.laws.specs.Checks.{holds_at}
use Rattle.laws.specs.Mixing.{run, trace}
use Rattle.octets.specs.Data.{most_data}
use Rattle.codec.specs.Names.{read_service}
use Rattle.codec.specs.Fields.{header_of}
use Rattle.table.specs.declared.Attribute.{Attribute}
use Rattle.table.specs.Table.{part_of}
use Rattle.guest.specs.Checks.{in_short}
use Rattle.guest.specs.Step.{Call}
use Rattle.collect.specs.declared.Value.{Value}
use Rattle.collect.specs.Step.{Whole, Complete}
use Rattle.collect.specs.Checks.{collect_size}
use Rattle.collect.specs.Belongs.{Seen, Kept, next, seen}
use Rattle.collect.specs.History.{Told, tells}
use Rattle.collect.specs.Mixes.{told_of}
use Rattle.demands.specs.Demand1.{checks_of}
use Rattle.demands.specs.Demand2.{frames_for, Names}

-- a Read: in the short form, DLC 0, the same service code is another's
pub record IsRead (c : Call) : Type 0 where
  pub long : in_short (header_of c.frame) ≡ false
  pub service : (header_of c.frame).service ≡ read_service

-- what frames hand over, one after another
abbrev pub handed_over : List (List ℕ) → Kept → List Told
handed_over fs k = map (λ (t : List ℕ × Seen). told_of t.1) (trace next seen fs k)

-- at each of n frames nothing, and at the one behind them a value of these bytes; no frame is refused
abbrev pub only_last : ℕ → Option Value → List ℕ → List Told
only_last n v bs = replicate n (tells 0 None []) ++ tells 0 v bs ∷ []

-- whose the bytes are: up to six came in one frame, more in fragments
abbrev pub value_for : Call → Attribute → Option Value
value_for c a = cond (leb a.len most_data) (Whole c.own a.object a.id a.len) (Complete c.own a.object a.id a.len)

-- the collector began with a cleared work area and has since been given any frames, these of the device among them or not
pub record Meets (c : Call) : Type 0 where
  pub attribute : Attribute
  pub named : Names c attribute
  pub some : 1 ≤ attribute.len
  pub short : attribute.len ≤ 255
  pub handed_over_lem : (k : Kept) → k.work ≡ replicate collect_size 0 → (before : List (List ℕ))
      → handed_over (frames_for c) (run next before k) ≡ only_last (length (frames_for c) - 1) (value_for c attribute) (part_of attribute c.given.store)

abbrev pub BothEnds : Type 0
BothEnds = (c : Call) → ((n : ℕ) → holds_at (checks_of c) n ≡ false) → IsRead c → Meets c
