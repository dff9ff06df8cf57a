-- The store and the answers after any list of frames, from the history alone.
use Prim.Native.Nat.{ℕ, ◌≤◌}
use mathlib.Core.Path.{◌≡◌, refl, sym, ap, subst, ◌∙◌}
use mathlib.Core.Logic.{◌≢◌}
use mathlib.Core.Option.{Option, some}
use mathlib.Core.List.{List, [], ◌∷◌, ◌++◌, reverse, reverse-cons}
use lib.Dec.{eqb}
use borrow.Author.Tests.{eqb-true, eqb-false}
use Rattle.laws.specs.Mixing.{run}
use Rattle.laws.proofs.Tests.{split}
use Rattle.octets.specs.declared.Data.{Data}
use Rattle.codec.specs.declared.Header.{Header}
use Rattle.codec.specs.Fields.{header_of}
use Rattle.table.specs.declared.Attribute.{Attribute}
use Rattle.join.specs.Work.{area_size, base, Piece, load, Joined, kept, done, lost, joined, area_after}
use Rattle.join.specs.History.{Fit, All}
use Rattle.join.proofs.Places.{in_record}
use Rattle.join.proofs.Records.{load_same, load_after, held_size, stepped}
use Rattle.join.proofs.Joins.{after, history}
use Rattle.guest.specs.declared.Plan.TheVariants.{Read, Write, Join}
use Rattle.guest.specs.Checks.{Setting, joiner, piece_of}
use Rattle.guest.specs.Step.{Judged, quiet, errs, switches, asks, judged_of, Effect, join_effect, plan_effect, effect_of, joined_in, Areas, store_after, work_after, perform, reply_to, effect_in, next, answer, owner_of, owner}
use Rattle.guest.specs.Belongs.{InRecord, Good}
use Rattle.guest.specs.History.{with_piece, pieces_of, joined_by, effect_by, shown, said}
use Rattle.guest.proofs.Plans.{SoundJudged, sound, ForJoin}
use Rattle.guest.proofs.Mixed.{room, record_of_lem, next_good, others}

module _ (s : Setting) where
  -- the state after a history
  abbrev pub since : Areas → List (List ℕ) → Areas
  since x [] = x
  since x (r ∷ h) = next s r (since x h)

  since_append : (h k : List (List ℕ)) (x : Areas) → since x (h ++ k) ≡ since (since x k) h
  since_append [] k x = refl
  since_append (r ∷ h) k x = ap (next s r) (since_append h k x)

  pub run_since : (fs : List (List ℕ)) (x : Areas) → run (next s) fs x ≡ since x (reverse fs)
  run_since [] x = refl
  run_since (r ∷ fs) x = run_since fs (next s r x) ∙ sym (since_append (reverse fs) (r ∷ []) x) ∙ ap (since x) (sym (reverse-cons r fs))

  since_good : (x : Areas) (h : List (List ℕ)) → Good s x → Good s (since x h)
  since_good x [] g = g
  since_good x (r ∷ h) g = next_good s r (since x h) (since_good x h g)

  -- every fragment that counts has the shape that check 12 asks
  all_shaped : (o : ℕ) (h : List (List ℕ)) → All (Fit joiner) (pieces_of s o h)
  all_shaped o [] = tt
  all_shaped o (r ∷ h) = go (judged_of s r) (sound s r) (all_shaped o h)
    where
      go : (p : Judged) → SoundJudged s (header_of r) p → All (Fit joiner) (pieces_of s o h) → All (Fit joiner) (with_piece o p (pieces_of s o h))
      go (quiet n) z ih = ih
      go (errs n q) z ih = ih
      go (switches a state) z ih = ih
      go (asks (Read a)) z ih = ih
      go (asks (Write a b)) z ih = ih
      go (asks (Join a number total b)) z ih = split (eqb a.object o) (λ t. simp t (z.fits, ih)) (λ t. simp t ih)

  -- what a fragment does to the work area is what the joiner says
  join_area : (a : Attribute) (p : Piece) (j : Joined) (l : List ℕ) → work_after (join_effect a p j) l ≡ area_after joiner (base a.object) p j l
  unfolding area_after
  join_area a p kept l = refl
  join_area a p (done bs) l = refl
  join_area a p lost l = refl

  module _ (sized : s.work_len ≡ area_size) where
    -- a record after a fragment of its object
    joins : (h : Header) (a : Attribute) (number total : ℕ) (b : Data) → ForJoin s h a number total b → (y : Areas) → Good s y
        → load joiner (base a.object) (perform (plan_effect (joined_in y.work) (Join a number total b)) y).work
        ≡ stepped joiner (piece_of a.id number total b) (load joiner (base a.object) y.work)
    unfolding perform joined_in
    joins h a number total b z y g =
        let k : Piece = piece_of a.id number total b in
        ap (load joiner (base a.object)) (join_area a k (joined_in y.work a k) y.work)
        ∙ load_after joiner (base a.object) k z.fits y.work (record_of_lem s h a z.its y g)

    -- the work record of an object is the joiner's, after that object's fragments
    loads : (o : ℕ) (x : Areas) (h : List (List ℕ)) → o ≤ 31 → Good s x
        → load joiner (base o) (since x h).work ≡ after joiner (load joiner (base o) x.work) (pieces_of s o h)
    unfolding perform
    loads o x [] l g = refl
    loads o x (r ∷ h) l g = go (judged_of s r) refl (sound s r) (loads o x h l g)
      where
        y : Areas
        y = since x h

        gy : Good s y
        gy = since_good x h g

        gn : Good s (next s r y)
        gn = next_good s r y gy

        untold : owner_of s r ≢ some o → load joiner (base o) (next s r y).work ≡ load joiner (base o) y.work
        untold ne =
            load_same joiner (base o) (InRecord o) (in_record o) (next s r y).work y.work
            (room o (next s r y).work l (gn.work ∙ sized)) (room o y.work l (gy.work ∙ sized)) (others s o r y ne gy).work

        go : (p : Judged) → judged_of s r ≡ p → SoundJudged s (header_of r) p → load joiner (base o) y.work ≡ after joiner (load joiner (base o) x.work) (pieces_of s o h)
            → load joiner (base o) (perform (effect_of (joined_in y.work) p) y).work ≡ after joiner (load joiner (base o) x.work) (with_piece o p (pieces_of s o h))
        go (quiet n) e z ih = ih
        go (errs n q) e z ih = ih
        go (switches a state) e z ih = ih
        go (asks (Read a)) e z ih = ih
        go (asks (Write a b)) e z ih = ih
        go (asks (Join a number total b)) e z ih =
            let k : Piece = piece_of a.id number total b in
            let f : Judged → Type 0 = λ (p : Judged). load joiner (base o) (perform (effect_of (joined_in y.work) p) y).work ≡ load joiner (base o) y.work in
            split (eqb a.object o)
            (λ t.
            let m = eqb-true a.object o t in
            simp t
            (subst (λ (q : ℕ). load joiner (base q) (perform (plan_effect (joined_in y.work) (Join a number total b)) y).work ≡ stepped joiner k (load joiner (base q) y.work)) m
            (joins (header_of r) a number total b z y gy)
            ∙ ap (stepped joiner k) ih))
            (λ t. simp t (subst f e (untold (λ w. eqb-false a.object o t (let v : ◌≡◌ {A = Option ℕ} (some a.object) (some o) = ap owner (sym e) ∙ w in cc))) ∙ ih))

    module _ (x : Areas) (good : Good s x) (cleared : (o : ℕ) → o ≤ 31 → (load joiner (base o) x.work).status ≡ 0) where
      -- what the joiner gives at a fragment, from the history alone
      gives : (h : List (List ℕ)) (r : List ℕ) (a : Attribute) (number total : ℕ) (b : Data) → ForJoin s (header_of r) a number total b
          → joined_in (since x h).work a (piece_of a.id number total b) ≡ joined_by s h a (piece_of a.id number total b)
      unfolding joined_in
      gives h r a number total b z =
          let k : Piece = piece_of a.id number total b in
          let o = z.its.place.fits.object in
          ap (joined joiner k) (loads a.object x h o good)
          ∙ history joiner (load joiner (base a.object) x.work) (cleared a.object o)
          (held_size joiner (base a.object) x.work (room a.object x.work o (good.work ∙ sized)))
          (pieces_of s a.object h) k (all_shaped a.object h) z.fits

      -- so what a frame does is said by the history before it
      does : (h : List (List ℕ)) (r : List ℕ) → effect_in s r (since x h) ≡ effect_by s h r
      does h r = go (judged_of s r) (sound s r)
        where
          go : (p : Judged) → SoundJudged s (header_of r) p → effect_of (joined_in (since x h).work) p ≡ effect_of (joined_by s h) p
          go (quiet n) z = refl
          go (errs n q) z = refl
          go (switches a state) z = refl
          go (asks (Read a)) z = refl
          go (asks (Write a b)) z = refl
          go (asks (Join a number total b)) z = ap (join_effect a (piece_of a.id number total b)) (gives h r a number total b z)

      -- COMPLETED MESSAGES: the store is what the whole writes made it, a fragmented one counting at the frame that completes it
      pub store_shown : (h : List (List ℕ)) → (since x h).store ≡ shown s x.store h
      unfolding perform
      store_shown [] = refl
      store_shown (r ∷ h) =
          ap (λ (e : Effect). store_after e (since x h).store) (does h r) ∙ ap (store_after (effect_by s h r)) (store_shown h)

      -- and so are the answers: a Read between is cut from the shown store
      pub answer_shown : (h : List (List ℕ)) (r : List ℕ) → answer s r (since x h) ≡ said s x.store h r
      answer_shown h r =
          ap (λ (e : Effect). reply_to s.own (header_of r) e (since x h).store) (does h r)
          ∙ ap (reply_to s.own (header_of r) (effect_by s h r)) (store_shown h)
