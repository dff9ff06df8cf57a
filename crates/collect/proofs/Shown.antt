-- What is handed over after any list of frames, from the history alone.
use Prim.Native.Nat.{ℕ, ◌+◌, ◌≤◌}
use mathlib.Core.Path.{◌≡◌, refl, sym, ap, subst, ◌∙◌}
use mathlib.Core.Logic.{◌≢◌}
use mathlib.Core.Option.{Option, some}
use mathlib.Core.List.{List, [], ◌∷◌, ◌++◌, reverse, reverse-cons}
use native.Mathlib.Omega.{arith}
use lib.ListN.{length}
use lib.Dec.{eqb}
use borrow.Author.Tests.{eqb-true, eqb-false, le-leb}
use Rattle.laws.specs.Mixing.{run}
use Rattle.laws.proofs.Tests.{split}
use Rattle.codec.specs.declared.Subject.{Subject}
use Rattle.codec.specs.Names.{most_address}
use Rattle.join.specs.Work.{head_size, base, Piece, load, Joined, kept, done, lost, joined, area_after}
use Rattle.join.specs.History.{Fit, All}
use Rattle.join.proofs.Places.{in_record}
use Rattle.join.proofs.Records.{load_same, load_after, area_length, held_size, stepped, stored_last}
use Rattle.join.proofs.Joins.{after, history}
use Rattle.collect.specs.Checks.{collect_size, joiner}
use Rattle.collect.specs.Step.{Whole, Judged, nobodys, spoilt, whole, piece, owner, judged_of, join_number, join_value, joined_in, answer_to, work_after, part_of, work_of}
use Rattle.collect.specs.Belongs.{InRecord, Good, owner_of, seen_of}
use Rattle.collect.specs.History.{with_piece, pieces_of, joined_by, joined_bytes, tells, told_by, told}
use Rattle.collect.specs.Mixes.{told_of}
use Rattle.collect.proofs.Sound.{Sound, sound, room}
use Rattle.collect.proofs.Mixed.{stays, others}

-- the work area after a history
abbrev pub since : List ℕ → List (List ℕ) → List ℕ
since x [] = x
since x (r ∷ h) = work_of r (since x h)

since_append : (h k : List (List ℕ)) (x : List ℕ) → since x (h ++ k) ≡ since (since x k) h
since_append [] k x = refl
since_append (r ∷ h) k x = ap (work_of r) (since_append h k x)

pub run_since : (fs : List (List ℕ)) (x : List ℕ) → run work_of fs x ≡ since x (reverse fs)
run_since [] x = refl
run_since (r ∷ fs) x = run_since fs (work_of r x) ∙ sym (since_append (reverse fs) (r ∷ []) x) ∙ ap (since x) (sym (reverse-cons r fs))

pub since_good : (x : List ℕ) (h : List (List ℕ)) → Good x → Good (since x h)
since_good x [] g = g
since_good x (r ∷ h) g = stays r (since x h) (since_good x h g)

-- every fragment that counts fits a record
all_fit : (o : ℕ) (h : List (List ℕ)) → All (Fit joiner) (pieces_of o h)
all_fit o [] = tt
all_fit o (r ∷ h) = go (judged_of collect_size r) (sound r) (all_fit o h)
  where
    go : (j : Judged) → Sound r j → All (Fit joiner) (pieces_of o h) → All (Fit joiner) (with_piece o j (pieces_of o h))
    go (nobodys n) z ih = ih
    go (spoilt guest n) z ih = ih
    go (whole u n) z ih = ih
    go (piece u p) z ih = split (eqb u.address o) (λ t. simp t (z.1, ih)) (λ t. simp t ih)

-- the work record of a guest is the joiner's, after that guest's fragments
loads : (o : ℕ) (x : List ℕ) (h : List (List ℕ)) → o ≤ most_address → Good x
    → load joiner (base o) (since x h) ≡ after joiner (load joiner (base o) x) (pieces_of o h)
unfolding work_after joined_in
loads o x [] l g = refl
loads o x (r ∷ h) l g = rw gy (go (judged_of collect_size r) refl (sound r) (loads o x h l g))
  where
    y : List ℕ
    y = since x h

    gy : Good y
    gy = since_good x h g

    untold : owner_of r ≢ some o → load joiner (base o) (work_of r y) ≡ load joiner (base o) y
    untold ne =
        load_same joiner (base o) (InRecord o) (in_record o) (work_of r y) y (room o (work_of r y) l (stays r y gy)) (room o y l gy) (others o r y ne gy)

    go : (j : Judged) → judged_of collect_size r ≡ j → Sound r j → load joiner (base o) y ≡ after joiner (load joiner (base o) x) (pieces_of o h)
        → load joiner (base o) (work_after j y) ≡ after joiner (load joiner (base o) x) (with_piece o j (pieces_of o h))
    go (nobodys n) e z ih = ih
    go (spoilt guest n) e z ih = ih
    go (whole u n) e z ih = ih
    go (piece u p) e z ih =
        split (eqb u.address o)
        (λ t.
        let m = eqb-true u.address o t in
        simp t
        (subst (λ (q : ℕ). load joiner (base q) (work_after (piece u p) y) ≡ stepped joiner p (load joiner (base q) y)) m
        (load_after joiner (base u.address) p z.1 y (room u.address y z.0 gy))
        ∙ ap (stepped joiner p) ih))
        (λ t.
        let f : Judged → Type 0 = λ (j : Judged). load joiner (base o) (work_after j y) ≡ load joiner (base o) y in
        let there = untold (λ w. eqb-false u.address o t (let v : ◌≡◌ {A = Option ℕ} (some u.address) (some o) = ap owner (sym e) ∙ w in cc)) in
        simp t (subst f e (rw gy at there) ∙ ih))

module _ (x : List ℕ) (good : Good x) (cleared : (o : ℕ) → o ≤ most_address → (load joiner (base o) x).status ≡ 0) where
  -- what the joiner gives at a fragment, from the history alone
  gives_by : (h : List (List ℕ)) (r : List ℕ) (u : Subject) (p : Piece) → Sound r (piece u p) → joined_in (since x h) u.address p ≡ joined_by h u.address p
  unfolding joined_in joined_by
  gives_by h r u p z =
      ap (joined joiner p) (loads u.address x h z.0 good)
      ∙ history joiner (load joiner (base u.address) x) (cleared u.address z.0) (held_size joiner (base u.address) x (room u.address x z.0 good))
      (pieces_of u.address h) p (all_fit u.address h) z.1

  -- the bytes that a fragment hands over are those that the joiner brought together
  shows : (r : List ℕ) (u : Subject) (p : Piece) → Sound r (piece u p) → (y : List ℕ) → Good y → (k : Joined) → joined_in y u.address p ≡ k
      → part_of (join_value u p k) r (area_after joiner (base u.address) p k y) ≡ joined_bytes k
  unfolding part_of joined_in
  shows r u p z y g kept e = refl
  shows r u p z y g lost e = refl
  shows r u p z y g (done bs) e =
      let at = base u.address in
      let long = area_length joiner at p z.1 (done bs) y (room u.address y z.0 g) in
      let fit : at + head_size + p.total ≤ length (area_after joiner at p (done bs) y) = omega (arith, z.1.room, room u.address y z.0 g, long) in
      simp (le-leb (at + head_size + p.total) (length (area_after joiner at p (done bs) y)) fit)
      (stored_last joiner refl at p z.1 y (room u.address y z.0 g) bs e)

  told_by_lem : (h : List (List ℕ)) (r : List ℕ) (j : Judged) → Sound r j
      → tells (answer_to j (since x h)).number (answer_to j (since x h)).value (part_of (answer_to j (since x h)).value r (work_after j (since x h))) ≡ told_by h r j
  unfolding answer_to work_after told_by part_of
  told_by_lem h r (nobodys n) z = refl
  told_by_lem h r (spoilt guest n) z = refl
  told_by_lem h r (whole u n) z = ap (tells 0 (Whole u.address u.object u.id n)) z.1
  told_by_lem h r (piece u p) z =
      let y : List ℕ = since x h in
      let k = gives_by h r u p z in
      ap (tells (join_number (joined_in y u.address p)) (join_value u p (joined_in y u.address p)))
      (shows r u p z y (since_good x h good) (joined_in y u.address p) refl)
      ∙ ap (λ (d : Joined). tells (join_number d) (join_value u p d) (joined_bytes d)) k

  -- FROM THE HISTORY: the number, what is handed over and its bytes are said by the frames before, and no work area
  pub told_is : (h : List (List ℕ)) (r : List ℕ) → told_of (seen_of r (since x h)) ≡ told h r
  told_is h r = rw (since_good x h good) (told_by_lem h r (judged_of collect_size r) (sound r))
