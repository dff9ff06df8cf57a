-- What the device's functions say of themselves: what a plan needs to be carried out, and what it leaves of a call.
use Rattle.std.specs.Prelude.{ℕ, ◌≤◌, ◌≡◌, true, List}
use Rattle.codec.specs.declared.Header.{Header}
use Rattle.codec.specs.Names.{most_address}
use Rattle.table.specs.Table.{well_formed}
use Rattle.guest.specs.declared.Plan.{Plan}
use Rattle.guest.specs.declared.Plan.TheVariants.{Read, Write, Join}
use Rattle.guest.specs.Checks.{least_out}
use Rattle.guest.specs.Step.{switched, plan_effect, effect_of, joined_in, Areas, Outcome, outcome_of}
use Rattle.judge.specs.Code.{point_for}
use Rattle.answers.specs.Code.{Answerable}
use Rattle.writes.specs.Code.{WriteReady, JoinReady}

-- what a plan needs of the lengths of store, work area and output: every plan that the checks let through has it
abbrev pub Ready : Plan → ℕ → Header → ℕ → ℕ → ℕ → Type 0
Ready (Read a) own h store work out = Answerable own h out × (a.len ≤ 255)
Ready (Write a b) own h store work out = Answerable own h out × WriteReady a b store
Ready (Join a number total b) own h store work out = Answerable own h out × JoinReady a number total b store work

-- what a short form needs where checks 1 and 2 have let it pass
pub record SwitchReady (own : ℕ) (table : List ℕ) (store out : ℕ) : Type 0 where
  pub address : own ≤ most_address
  pub well : well_formed table store ≡ true
  pub room : least_out ≤ out

-- what a plan leaves of a call
abbrev pub carried_out : Plan → ℕ → Header → Areas → List ℕ → Outcome
carried_out p own h x out = outcome_of own h (plan_effect (joined_in x.work) p) x out

-- and a short form, by the record that the code finds for it
abbrev pub switched_out : List ℕ → ℕ → Header → Areas → List ℕ → Outcome
switched_out table own h x out = outcome_of own h (effect_of (joined_in x.work) (switched h (point_for table h))) x out
