-- Demand 3 is met (specs/Demand3), and "completes" is what 01 says.
use Prim.Native.Nat.{ℕ, ◌*◌, ◌≤◌}
use mathlib.Core.Path.{◌≡◌, refl, ap, ◌∙◌}
use mathlib.Core.Logic.{◌↔◌}
use mathlib.Core.Bool.{true}
use mathlib.Core.Option.{none, some}
use mathlib.Core.List.{List, reverse}
use native.Mathlib.Omega.{arith}
use lib.ListN.{length, get_or, take, replicate, length-replicate, get_or-replicate}
use Rattle.laws.specs.Bytes.{byte_at}
use Rattle.laws.specs.Checks.{first_of}
use Rattle.laws.specs.Mixing.{run}
use Rattle.laws.proofs.Mixing.{Local, mixed, in_series_lem, in_turn, free_anywhere, local_as, run_as}
use Rattle.codec.specs.Fields.{header_of}
use Rattle.join.specs.Work.{record_count, area_size, base, Piece, load}
use Rattle.join.specs.History.{completes, Completes}
use Rattle.join.proofs.Places.{base_inside}
use Rattle.join.proofs.Joins.{completes_in_words}
use Rattle.guest.specs.Checks.{Setting, in_short, joiner, plan_checks}
use Rattle.guest.specs.Step.{judged_of, Areas, flat, next, answer, owner_of, call, setting, outcome_of, step_of}
use Rattle.guest.specs.Belongs.{Same, Good}
use Rattle.guest.proofs.Short.{served_owner, refused_owner, same_judged, same_answer}
use Rattle.guest.proofs.Mixed.{device_local, owner_below}
use Rattle.guest.proofs.Shown.{since, run_since, store_shown, answer_shown}
use Rattle.demands.specs.Demand3.{seen, after, answered, its, whose, Mixes, Demand3}
use Rattle.demands.proofs.Demand2.{demand_2}

module _ (own : ℕ) (table out : List ℕ) (x : Areas) where
  abbrev s : Setting
  s = its step_of own table out x

  -- lengths stay, so that the setting is the same at every frame
  setting_stays : (y : Areas) → Good s y → setting own table y out ≡ s
  setting_stays y g = λ i. record { own = own; table = table; store_len = g.store i; work_len = g.work i; out_len = length out }

  does_same : (r : List ℕ) (y : Areas) → Good s y → after step_of own table out r y ≡ next s r y
  unfolding step_of outcome_of
  does_same r y g = ap (λ (t : Setting). next t r y) (setting_stays y g)

  says_same : (r : List ℕ) (y : Areas) → Good s y → answered step_of own table out r y ≡ seen (answer s r y)
  unfolding step_of outcome_of
  says_same r y g =
      let front : take (10 * (step_of (call r own table y out)).count) (step_of (call r own table y out)).out ≡ flat (answer (setting own table y out) r y).frames =
      (demand_2.sends (call r own table y out)).front in
      ap (λ (l : List ℕ). ((step_of (call r own table y out)).number, l)) front
      ∙ ap (λ (t : Setting). seen (answer t r y)) (setting_stays y g)

  local : Local (after step_of own table out) (answered step_of own table out) (whose step_of own table out x) (Good s) (Same table)
  local = local_as (device_local s) seen does_same says_same

  module _ (start : x.work ≡ replicate area_size 0) where
    good : Good s x
    good = record { store = refl; work = refl }

    sized : s.work_len ≡ area_size
    sized = ap length start ∙ length-replicate {A = ℕ} area_size 0

    clear : (o : ℕ) → o ≤ 31 → (load joiner (base o) x.work).status ≡ 0
    unfolding load
    clear o l = ap (λ (w : List ℕ). get_or w (base o) 0) start ∙ get_or-replicate {A = ℕ} area_size (base o) 0 0 (omega (arith, base_inside o l))

    ran_since : (fs : List (List ℕ)) → run (after step_of own table out) fs x ≡ since s x (reverse fs)
    ran_since fs = (run_as (device_local s) seen does_same says_same fs x good).0 ∙ run_since s fs x

    mixes : Mixes step_of own table out x
    mixes = record {
      any_mix = λ fs gs h. mixed local fs gs x good h;
      one_after_another = λ os each fs. in_series_lem local record_count (owner_below s) os each fs x good;
      at_its_turn = λ o ps absent before behind r m. in_turn local o ps absent before behind r x good m;
      nobodys = λ before r m. free_anywhere local before r x good m;
      whole_writes = λ fs. ap (λ (y : Areas). y.store) (ran_since fs) ∙ store_shown s sized x good clear (reverse fs);
      answers_from_history = λ before r.
          let e = run_as (device_local s) seen does_same says_same before x good in
          ap (answered step_of own table out r) e.0
          ∙ says_same r (run (next s) before x) e.1
          ∙ ap (λ (y : Areas). seen (answer s r y)) (run_since s before x)
          ∙ ap seen (answer_shown s sized x good clear (reverse before) r);
    }

pub demand_3 : Demand3 step_of
demand_3 own table out x start = mixes own table out x start

-- "completes" is what 01 says: "the m frames just before it in that list carry numbers 0 to m-1, the same ID and the same total"
pub completes_as_01_says : (h : List Piece) (p : Piece) → (completes joiner h p ≡ true) ↔ Completes joiner h p
completes_as_01_says h p = completes_in_words joiner h p

-- ---- frames in short form (02, 2026-01: "In demand 3 such a frame is one of object 0's and a whole write")

module _ (s : Setting) (r : List ℕ) (l : in_short (header_of r) ≡ true) where
  -- one that is served is object 0's, whatever object its third byte would name
  pub served_short_is_object_0s : first_of (plan_checks s r) ≡ 0 → owner_of s r ≡ some 0
  served_short_is_object_0s = served_owner s r l

  -- one that is refused is nobody's
  pub refused_short_is_nobodys : (first_of (plan_checks s r) ≡ 0 → ⊥) → owner_of s r ≡ none
  refused_short_is_nobodys = refused_owner s r l

  -- nothing behind its first two bytes is looked at: a record of the same length that agrees in those is judged the same, and answered the same
  pub short_is_two_bytes : (t : List ℕ) → length t ≡ length r → byte_at t 0 ≡ byte_at r 0 → byte_at t 1 ≡ byte_at r 1
      → (judged_of s t ≡ judged_of s r) × ((x : Areas) → answer s t x ≡ answer s r x)
  short_is_two_bytes t n e0 e1 = (same_judged s r t n e0 e1 l, same_answer s r t n e0 e1 l)
