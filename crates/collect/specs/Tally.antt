-- The tally (02, 2026-07): "A tally of frames seen, values finished and messages dropped is lent to the collector and updated there".
use Rattle.std.specs.Prelude.{ℕ, ◌+◌, min, Bool, true, false, cond, ltb, Option, Some, None}
use Rattle.collect.specs.declared.Value.{Value}
use Rattle.collect.specs.declared.Tally.{Tally}
use Rattle.collect.specs.Step.{Answer}

-- the largest value of 32 bits
abbrev pub most : ℕ
most = 4294967295

-- "Each number stops at its largest value"
abbrev pub one_more : ℕ → Bool → ℕ
one_more n on = cond on (cond (ltb n most) (n + 1) n) n

abbrev pub hands_over : Option Value → Bool
hands_over None = false
hands_over (Some v) = true

-- "every call counts as a frame seen, and each filling record lost .. as dropped"
unfoldable pub tallied : Tally → Answer → Tally
tallied t c = record {
  seen = one_more t.seen true;
  finished = one_more t.finished (hands_over c.value);
  dropped = one_more t.dropped c.dropped;
}

-- so much more, up to the largest value
abbrev pub up_by : ℕ → ℕ → ℕ
up_by n k = min (n + k) most

-- the tally after calls of which so many handed over a value and so many lost a message
abbrev pub tallied_by : (calls finished dropped : ℕ) → Tally → Tally
tallied_by calls finished dropped t = record { seen = up_by t.seen calls; finished = up_by t.finished finished; dropped = up_by t.dropped dropped }
