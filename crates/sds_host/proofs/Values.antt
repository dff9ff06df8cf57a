-- What a call of the collector leaves in C's buffers, from what the calls below it give.
use Prim.Native.Nat.{ℕ}
use mathlib.Core.Path.{◌≡◌, sym, ap, ◌∙◌}
use mathlib.Core.Bool.{true, false}
use mathlib.Core.List.{List}
use lib.ListN.{length}
use lib.Dec.{eqb}
use borrow.Author.Tests.{eq-eqb, ne_eqb}
use Rattle.std.specs.Prelude.{Option, None, Ok, Err}
use Rattle.collect.specs.declared.Value.{Value}
use Rattle.collect.specs.declared.Refusal.{Refusal}
use Rattle.collect.specs.declared.Collected.{Collected}
use Rattle.collect.specs.Code.{refusal_number, number_of, value_of, answered}
use Rattle.collect.proofs.Refusals.{refused_number}
use Rattle.collect.specs.declared.Tally.{Tally}
use Rattle.collect.specs.Step.{Answer, gives, answer_of, work_of}
use Rattle.collect.specs.Tally.{tallied}
use Rattle.sds_host.specs.Border.{value_size, value_bytes, border_answer, border_work, border_value, BorderCollected}

module _ (r work value : List ℕ) (t : Tally) where
  -- a value buffer of another length
  pub no_value : (length value ≡ value_size → ⊥) → (t' : Tally) → t' ≡ tallied t (gives 1 None false) → BorderCollected r work value t 1 work value t'
  unfolding border_answer border_work border_value
  no_value h t' e =
      let f = ne_eqb (length value) value_size h in
      record { answers = simp f; leaves = simp f; shows = simp f; counts = e ∙ simp f }

  module _ (eight : length value ≡ value_size) (c : Collected) (ce : answered c ≡ answer_of r work) (work' : List ℕ) (we : work' ≡ work_of r work) (t' : Tally) (te : t' ≡ tallied t (answered c)) where
    abbrev is_eight : eqb (length value) value_size ≡ true
    is_eight = eq-eqb (length value) value_size eight

    -- a refusal leaves the value, and else it is shown
    pub refused_call : (why : Refusal) → c.outcome ≡ Err why → (n : ℕ) → n ≡ refusal_number why → BorderCollected r work value t n work' value t'
    unfolding border_answer border_work border_value
    refused_call why q n e =
        let its : refusal_number why ≡ (answer_of r work).number = ap number_of (sym q) ∙ ap (λ (a : Answer). a.number) ce in
        record {
          answers = e ∙ its ∙ simp is_eight;
          leaves = we ∙ simp is_eight;
          shows = simp (is_eight, ne_eqb (answer_of r work).number 0 (λ z. refused_number c.outcome why q (ap (λ (a : Answer). a.number) ce ∙ z)));
          counts = te ∙ ap (tallied t) ce ∙ simp is_eight;
        }

    pub shown_call : (what : Option Value) → c.outcome ≡ Ok what → (value' : List ℕ) → value' ≡ value_bytes what → BorderCollected r work value t 0 work' value' t'
    unfolding border_answer border_work border_value
    shown_call what q value' ve =
        let zero : 0 ≡ (answer_of r work).number = ap number_of (sym q) ∙ ap (λ (a : Answer). a.number) ce in
        let its : what ≡ (answer_of r work).value = ap value_of (sym q) ∙ ap (λ (a : Answer). a.value) ce in
        record {
          answers = zero ∙ simp is_eight;
          leaves = we ∙ simp is_eight;
          shows = ve ∙ ap value_bytes its ∙ simp (is_eight, eq-eqb (answer_of r work).number 0 (sym zero));
          counts = te ∙ ap (tallied t) ce ∙ simp is_eight;
        }
