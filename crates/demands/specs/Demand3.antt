-- DEMAND 3. "One address, a well-formed table with its store, a cleared work area, buffers of accepted sizes: mix the frames of different objects in any order
-- that keeps each object's own order, and every frame gets the answer and response frames it would get with the objects served one after another, and the
-- final store is the same. A fragmented write counts as one whole write at its last fragment. An unfinished one never shows."
-- Said of any device, which is lent one address, one table and one output, and at each frame what it left at the one before.
use Rattle.std.specs.Prelude.{ℕ, ◌*◌, ◌<◌, ◌≡◌, List, ◌∷◌, ◌++◌, reverse, take, replicate}
use Rattle.std.proofs.Math.Option.{Option, none, some}
use Rattle.laws.specs.Mixing.{inputs_of, answers_of, serially, occurrences, run, trace}
use Rattle.join.specs.Work.{record_count, area_size}
use Rattle.guest.specs.Checks.{Setting}
use Rattle.guest.specs.Step.{Areas, Reply, owner_of, call, setting, flat}
use Rattle.guest.specs.History.{shown, said}
use Rattle.demands.specs.Demand1.{Device}

-- an answer as it is seen: the number, and the bytes of the response frames
abbrev pub Seen : Type 0
Seen = ℕ × List ℕ

abbrev pub seen : Reply → Seen
seen y = (y.number, flat y.frames)

-- every object, once
abbrev pub EachOnce : List ℕ → Type 0
EachOnce os = (o : ℕ) → o < record_count → occurrences o os ≡ 1

module _ (D : Device) (own : ℕ) (table out : List ℕ) where
  -- one frame: what the device keeps then, and its answer; the count says how much of the output is frames
  abbrev pub after : List ℕ → Areas → Areas
  after r x = (D (call r own table x out)).left

  abbrev pub answered : List ℕ → Areas → Seen
  answered r x = ((D (call r own table x out)).number, take (10 * (D (call r own table x out)).count) (D (call r own table x out)).out)

  module _ (x : Areas) where
    -- what it is to every frame; whose a frame is (those that checks 1 to 6 refuse are nobody's); frames with their answers; what it keeps after them
    abbrev pub its : Setting
    its = setting own table x out

    abbrev pub whose : List ℕ → Option ℕ
    whose = owner_of its

    abbrev pub traced : List (List ℕ) → List (List ℕ × Seen)
    traced fs = trace after answered fs x

    abbrev pub ran : List (List ℕ) → Areas
    ran fs = run after fs x

    -- frames are records of any length and content
    pub record Mixes : Type 0 where
      -- two orders that keep each object's own order: each object's frames get the same answers and response frames, and store and work area end the same
      pub any_mix : (fs gs : List (List ℕ)) → ((o : ℕ) → inputs_of whose o fs ≡ inputs_of whose o gs)
          → ((o : ℕ) → answers_of whose o (traced fs) ≡ answers_of whose o (traced gs)) × (ran fs ≡ ran gs)
      -- one such order serves the objects one after another, in whatever order of objects
      pub one_after_another : (os : List ℕ) → EachOnce os → (fs : List (List ℕ))
          → ((o : ℕ) → answers_of whose o (traced fs) ≡ answers_of whose o (traced (serially whose os fs))) × (ran fs ≡ ran (serially whose os fs))
      -- frame by frame: r is answered as at its turn, behind the objects ps and the earlier frames of its own object
      pub at_its_turn : (o : ℕ) (ps : List ℕ) → occurrences o ps ≡ 0 → (before behind : List (List ℕ)) (r : List ℕ) → whose r ≡ some o
          → answered r (ran before) ≡ answered r (ran (serially whose ps (before ++ r ∷ behind) ++ inputs_of whose o before))
      -- a frame of no object is answered the same anywhere
      pub nobodys : (before : List (List ℕ)) (r : List ℕ) → whose r ≡ none → answered r (ran before) ≡ answered r x
      -- the store shows whole writes only, a fragmented one at the frame that completes it: `shown` reads the frames and no work area
      pub whole_writes : (fs : List (List ℕ)) → (ran fs).store ≡ shown its x.store (reverse fs)
      -- so do the answers: a Read between is cut from the shown store
      pub answers_from_history : (before : List (List ℕ)) (r : List ℕ) → answered r (ran before) ≡ seen (said its x.store (reverse before) r)

-- a cleared work area of the accepted size. (Nothing is asked of the table, the address and the other sizes: where checks 1 or 2 refuse them, every frame gets
-- that answer)
abbrev pub Demand3 : Device → Type 0
Demand3 D = (own : ℕ) (table out : List ℕ) (x : Areas) → x.work ≡ replicate area_size 0 → Mixes D own table out x
