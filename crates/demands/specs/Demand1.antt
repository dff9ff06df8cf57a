-- DEMAND 1. "Every frame record, object table, store and work area gets an answer, and every call ends. Each refusal is given exactly when its condition
-- holds and no earlier one's does. Refusals 1 to 6 alter nothing, 7 to 12 only the ten bytes of one error frame, 14 also drops that object's half-built
-- message." (It read "7 to 13", and there were fourteen refusals, until 02, 2026-05.)
-- Said of any device, for every record, address, table, store, work area and output, of any length and content. A device here is a function, so it answers
-- every call; that the code is the function `step_of` and ends is the contract of `step`.
use Rattle.std.specs.Prelude.{ℕ, ◌≤◌, ◌<◌, ◌≡◌, ◌↔◌, ◌≢◌, false, List, [], ◌∷◌, length, get_or, take, drop}
use Rattle.laws.specs.Checks.{Check, holds_at, FirstAt}
use Rattle.codec.specs.Fields.{header_of}
use Rattle.join.specs.Work.{base}
use Rattle.guest.specs.Checks.{checks}
use Rattle.guest.specs.Step.{error_frame, Call, setting_of, Outcome}

-- what a device does with a call
abbrev pub Device : Type 0
Device = Call → Outcome

-- the checks of a call, in 01's order
abbrev pub checks_of : Call → List Check
checks_of c = checks (setting_of c) c.frame c.given.work

-- "thirteen refusals" (02, 2026-05): the numbers of these checks
abbrev pub refusals : List ℕ
refusals = 1 ∷ 2 ∷ 3 ∷ 4 ∷ 5 ∷ 6 ∷ 7 ∷ 8 ∷ 9 ∷ 10 ∷ 11 ∷ 12 ∷ 14 ∷ []

-- nothing is altered, and no frame put
pub record Untouched (c : Call) (o : Outcome) : Type 0 where
  pub no_frame : o.count ≡ 0
  pub same_areas : o.left ≡ c.given
  pub same_output : o.out ≡ c.out

-- the frame that a refused call is answered with, where it is answered with one
abbrev pub error_for : Call → ℕ → List ℕ
error_for c number = error_frame c.own (header_of c.frame) number

-- one frame stands in front of the output, whose other bytes are the caller's
pub record OneFrame (frame : List ℕ) (c : Call) (o : Outcome) : Type 0 where
  pub one_frame : o.count ≡ 1
  pub ten : length frame ≡ 10
  pub front : take 10 o.out ≡ frame
  pub rest : drop 10 o.out ≡ drop 10 c.out
  pub same_length : length o.out ≡ length c.out

-- the status byte of an object's work record is 0, and every other byte of the work area stays
pub record Dropped (object : ℕ) (before after : List ℕ) : Type 0 where
  pub status : get_or after (base object) 0 ≡ 0
  pub others : (i : ℕ) → i ≢ base object → get_or after i 0 ≡ get_or before i 0
  pub same_length : length after ≡ length before

pub record Demand1 (D : Device) : Type 0 where
  -- each refusal is given exactly when its condition holds and no earlier one's does
  pub refused_exactly : (c : Call) (n : ℕ) → 0 < n → ((D c).number ≡ n) ↔ FirstAt (checks_of c) n
  -- and a frame is served exactly when no condition holds
  pub served_exactly : (c : Call) → ((D c).number ≡ 0) ↔ ((n : ℕ) → holds_at (checks_of c) n ≡ false)
  -- there is no other number
  pub at_most_fourteen : (c : Call) → (D c).number ≤ 14
  -- "The number 13 is not used again" (02, 2026-05)
  pub thirteen_never : (c : Call) → (D c).number ≢ 13
  -- 1 to 6
  pub quiet_alters_nothing : (c : Call) → 1 ≤ (D c).number → (D c).number ≤ 6 → Untouched c (D c)
  -- 7 to 12
  pub error_alters_one_frame : (c : Call) → 7 ≤ (D c).number → (D c).number ≤ 12
      → OneFrame (error_for c (D c).number) c (D c) × ((D c).left ≡ c.given)
  -- 14
  pub fourteen_drops : (c : Call) → (D c).number ≡ 14
      → OneFrame (error_for c 14) c (D c) × ((D c).left.store ≡ c.given.store)
      × Dropped (header_of c.frame).object c.given.work (D c).left.work
