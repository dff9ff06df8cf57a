-- MIXING GUESTS (02, 2026-07). "Mixing guests' frames gives the same result as guest by guest": from a cleared work area, what frames of any length and content
-- are answered and hand over, and what work area and tally are then.
use Rattle.std.specs.Prelude.{ℕ, ◌<◌, ◌≡◌, List, ◌∷◌, ◌++◌, reverse, length}
use Rattle.std.proofs.Math.Option.{none, some}
use Rattle.laws.specs.Mixing.{inputs_of, answers_of, nobodys, serially, occurrences, run, trace}
use Rattle.collect.specs.Checks.{guest_count}
use Rattle.collect.specs.Belongs.{owner_of, Seen, Kept, next, seen}
use Rattle.collect.specs.History.{Told, tells, told}

-- every guest, once
abbrev pub EachOnce : List ℕ → Type 0
EachOnce os = (o : ℕ) → o < guest_count → occurrences o os ≡ 1

-- what is promised of an answer from the history: all of it but whether a message was lost
abbrev pub told_of : Seen → Told
told_of s = tells s.0.number s.0.value s.1

module _ (k : Kept) where
  abbrev pub traced : List (List ℕ) → List (List ℕ × Seen)
  traced fs = trace next seen fs k

  abbrev pub ran : List (List ℕ) → Kept
  ran fs = run next fs k

  pub record Mixes : Type 0 where
    -- two orders of as many frames that keep each guest's own order: each guest's frames get the same answers and values, and work area and tally end the same
    pub any_mix : (fs gs : List (List ℕ)) → length fs ≡ length gs → ((o : ℕ) → inputs_of owner_of o fs ≡ inputs_of owner_of o gs)
        → ((o : ℕ) → answers_of owner_of o (traced fs) ≡ answers_of owner_of o (traced gs)) × (ran fs ≡ ran gs)
    -- one such order has the guests one after another, in whatever order of guests, and then what is nobody's
    pub one_after_another : (os : List ℕ) → EachOnce os → (fs : List (List ℕ))
        → ((o : ℕ) → answers_of owner_of o (traced fs) ≡ answers_of owner_of o (traced (serially owner_of os fs ++ nobodys owner_of fs)))
        × (ran fs ≡ ran (serially owner_of os fs ++ nobodys owner_of fs))
    -- frame by frame: r is answered as at its turn, behind the guests ps and the earlier frames of its own guest
    pub at_its_turn : (o : ℕ) (ps : List ℕ) → occurrences o ps ≡ 0 → (before behind : List (List ℕ)) (r : List ℕ) → owner_of r ≡ some o
        → seen r (ran before) ≡ seen r (ran (serially owner_of ps (before ++ r ∷ behind) ++ inputs_of owner_of o before))
    -- a frame of no guest is answered the same anywhere
    pub nobodys_anywhere : (before : List (List ℕ)) (r : List ℕ) → owner_of r ≡ none → seen r (ran before) ≡ seen r k
    -- what is handed over is said by the frames alone: `told` reads no work area
    pub from_history : (before : List (List ℕ)) (r : List ℕ) → told_of (seen r (ran before)) ≡ told (reverse before) r
