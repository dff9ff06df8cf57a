-- The five useless devices (01, "What the guarantees have to determine"): each is shut out by the demand that 01 names, whatever else it does.
use Rattle.std.proofs.Common.{Option, Some, None}
use Prim.Native.Nat.{ℕ, suc}
use mathlib.Core.Path.{◌≡◌, refl, sym, ap, ◌∙◌}
use mathlib.Core.Logic.{◌≢◌}
use mathlib.Core.Bool.{false}
use mathlib.Core.List.{List, [], ◌∷◌, map, reverse}
use native.Mathlib.Omega.{arith}
use lib.ListN.{length, get_or}
use Rattle.laws.specs.Bytes.{byte_at, up_from}
use Rattle.laws.specs.Checks.{holds_at}
use Rattle.laws.specs.Put.{put}
use Rattle.laws.specs.Mixing.{run}
use Rattle.laws.proofs.Checks.{none_holds}
use Rattle.octets.specs.Data.{bytes_of}
use Rattle.codec.specs.declared.Message.{Message}
use Rattle.codec.specs.declared.Message.TheVariants.{Short, Plain, Fragment}
use Rattle.std.specs.Prelude.{Result, Ok, Err}
use Rattle.codec.specs.Fields.{header_of}
use Rattle.codec.specs.Reading.{read_of}
use Rattle.join.specs.History.{chain, gather, message}
use Rattle.table.specs.declared.Attribute.{Attribute}
use Rattle.guest.specs.Step.{Areas, areas, Call, Outcome, outcome, outcome_of}
use Rattle.guest.specs.History.{shown}
use Rattle.demands.specs.Demand1.{Device, checks_of}
use Rattle.demands.specs.Demand2.{frames_for, Served, switched, read, written, fragment, Demand2}
use Rattle.demands.specs.Demand3.{after, Demand3}
use Rattle.demands.specs.Sample.{sample_table, fresh, fresh_out, sample, to_sample}
use Rattle.demands.specs.Cases.{p1, p1_answer, p1_store, tag_fragment}
use Rattle.demands.proofs.Cases.{computing}

-- ---- P1 to the sample device

abbrev pub at_p1 : Call
at_p1 = to_sample p1

abbrev pub after_p1 : Outcome
after_p1 = outcome 0 1 (areas p1_store fresh.work) (put fresh_out 0 p1_answer)

-- no check refuses it
unrefused : (n : ℕ) → holds_at (checks_of at_p1) n ≡ false
unfolding computing
unrefused = (none_holds (checks_of at_p1) refl).0 refl

-- what a search finds and a frame says, by its places
offset_of : Option Attribute → ℕ
offset_of (Some a) = a.offset
offset_of None = 0

plain_bytes : Result Message ℕ → List ℕ
plain_bytes (Ok (Short dir address service)) = []
plain_bytes (Ok (Plain u b)) = bytes_of b
plain_bytes (Ok (Fragment u number total b)) = []
plain_bytes (Err n) = []

module _ (D : Device) (meets : Demand2 D) where
  -- demand 2 leaves one outcome
  pub p1_met : D at_p1 ≡ after_p1
  unfolding computing read_of offset_of plain_bytes outcome_of
  p1_met = go (meets.serves at_p1 unrefused)
    where
      go : Served at_p1 (D at_p1) → D at_p1 ≡ after_p1
      go (switched z) = let q : ◌≡◌ {A = ℕ} 2 0 = ap (λ (m : Result Message ℕ). length (plain_bytes m)) z.says in absurd (omega arith)
      go (read z) = let q : ◌≡◌ {A = ℕ} 4 5 = z.asked in absurd (omega arith)
      go (written z) =
          let at : z.attribute.offset ≡ 33 = ap offset_of (sym z.named) in
          let bytes : bytes_of z.body ≡ 0x2C ∷ 0x01 ∷ [] = ap plain_bytes (sym z.says) in
          z.leaves ∙ rw (at, bytes)
      go (fragment z) = let q : ◌≡◌ {A = ℕ} 2 0 = ap (λ (m : Result Message ℕ). length (plain_bytes m)) z.says in absurd (omega arith)

  -- "One that always answers 4"
  pub always_four : ((c : Call) → (D c).number ≡ 4) → ⊥
  always_four four = omega (arith, ap (λ o. o.number) p1_met, four at_p1)

  -- "one that always answers 0 with no frames"
  pub always_silent : ((c : Call) → ((D c).number ≡ 0) × ((D c).count ≡ 0)) → ⊥
  always_silent silent = omega (arith, ap (λ o. o.count) p1_met, (silent at_p1).1)

  -- "one that touches nothing"
  pub touches_nothing : ((c : Call) → ((D c).left ≡ c.given) × ((D c).out ≡ c.out)) → ⊥
  unfolding put fresh
  touches_nothing untouched =
      let z : ◌≡◌ {A = ℕ} 0x2C 0 = ap (λ x. get_or x.store 33 0) (sym (ap (λ o. o.left) p1_met) ∙ (untouched at_p1).0) in omega arith

  -- "One that makes up the frame count": whatever it counts at a call, demand 2 "ties the count to the records written"
  pub counts_by_itself : (c : Call) (made_up : ℕ) → (D c).count ≡ made_up → made_up ≢ length (frames_for c) → ⊥
  counts_by_itself c made_up counts other = other (sym counts ∙ (meets.sends c).counted)

-- ---- the sample device, frame by frame

-- a device that alters the store at no fragment whose number is not 0
abbrev pub Acknowledges : (List ℕ → Areas → Areas) → Type 0
Acknowledges next = (r : List ℕ) (x : Areas) → (header_of r).flag ≡ 1 → byte_at r 4 ≢ 0 → (next r x).store ≡ x.store

module _ (D : Device) (meets : Demand3 D) (acknowledges : Acknowledges (after D 9 sample_table fresh_out)) where
  abbrev next : List ℕ → Areas → Areas
  next = after D 9 sample_table fresh_out

  later : (ks : List ℕ) (x : Areas) → (run next (map (λ k. tag_fragment 2 0x41 (suc k)) ks) x).store ≡ x.store
  unfolding header_of
  later [] x = refl
  later (k ∷ ks) x = later ks (next (tag_fragment 2 0x41 (suc k)) x) ∙ acknowledges (tag_fragment 2 0x41 (suc k)) x refl (omega arith)

  shows : (fs : List (List ℕ)) → (run next fs fresh).store ≡ shown sample fresh.store (reverse fs)
  unfolding fresh sample
  shows fs = (meets 9 sample_table fresh_out fresh refl).whole_writes fs

  -- "One that joins only fragment 0 and afterwards merely acknowledges": object 2's tag never shows
  pub joins_only_the_first : ⊥
  unfolding computing chain gather message
  joins_only_the_first =
      let first = tag_fragment 2 0x41 0 in
      let tag = map (tag_fragment 2 0x41) (up_from 0 8) in
      let same = sym (shows tag) ∙ later (up_from 0 7) (next first fresh) ∙ shows (first ∷ []) in
      let z : ◌≡◌ {A = ℕ} 0x41 0 = ap (λ l. get_or l 1 0) same in omega arith
