-- Counting inputs or answers: how many a test takes is decided by what each owner has of them, whatever the order.
use Prim.Native.Nat.{ℕ, zero, suc, ◌+◌, ◌<◌}
use mathlib.Core.Path.{◌≡◌, refl, sym, ap, ◌∙◌}
use mathlib.Core.Logic.{◌≢◌}
use mathlib.Core.Bool.{Bool, true, false, cond, not}
use mathlib.Core.Option.{Option, none, some}
use mathlib.Core.List.{List, [], ◌∷◌, ◌++◌, append-nil}
use native.Mathlib.Omega.{arith}
use lib.ListN.{length}
use lib.Dec.{eqb}
use borrow.Author.Tests.{eqb-true, eqb-false}
use Rattle.laws.specs.Mixing.{those, is_of, inputs_of, serially, is_owned, nobodys, occurrences}
use Rattle.laws.proofs.Tests.{split, clash}
use Rattle.laws.proofs.Mixing.{is_other, those_append, own_serially}

-- what has no owner is nobody's, and what is somebody's has one
not_its : (w : Option ℕ) → is_owned w ≡ false → (o : ℕ) → is_of o w ≡ false
not_its none e o = refl
not_its (some k) e o = clash refl e

its_own : (w : Option ℕ) (o : ℕ) → is_of o w ≡ true → is_owned w ≡ true
its_own none o e = e
its_own (some k) o e = refl

-- a test that nothing passes takes no element
those_none : {X : Type 0} (q : X → Bool) → ((x : X) → q x ≡ false) → (xs : List X) → those q xs ≡ []
those_none q h [] = refl
those_none q h (x ∷ xs) = simp (h x) (those_none q h xs)

-- the owner is none of those below n
abbrev NoneBelow : ℕ → Option ℕ → Type 0
NoneBelow n w = (o : ℕ) → o < n → w ≢ some o

-- and none of those below n + 1, where it is not n either
none_below : (n : ℕ) (w : Option ℕ) → NoneBelow n w → is_of n w ≡ false → NoneBelow (suc n) w
none_below n w h m o l e =
    split (eqb o n) (λ k. is_other n w m (e ∙ ap {B = Option ℕ} some (eqb-true o n k))) (λ k. h o (omega (arith, eqb-false)) e)

module _ {X : Type 0} (owner : X → Option ℕ) where
  -- a test that passes over one owner's elements
  abbrev besides : ℕ → (X → Bool) → X → Bool
  besides o q x = cond (is_of o (owner x)) false (q x)

  -- a test takes so many of one owner's elements, and so many of the others
  parted : (o : ℕ) (q : X → Bool) (xs : List X) → length (those q xs) ≡ length (those q (inputs_of owner o xs)) + length (those (besides o q) xs)
  parted o q [] = refl
  parted o q (x ∷ xs) =
      let ih = parted o q xs in
      split (is_of o (owner x))
      (λ m. split (q x) (λ e. simp (m, e) (omega arith)) (λ e. simp (m, e) ih))
      (λ m. split (q x) (λ e. simp (m, e) (omega arith)) (λ e. simp (m, e) ih))

  -- a test that takes elements of the owners below n only, and two lists that hold the same of each owner: it takes as many of both, one owner after another
  counted : (xs ys : List X) → ((o : ℕ) → inputs_of owner o xs ≡ inputs_of owner o ys)
      → (n : ℕ) (q : X → Bool) → ((x : X) → NoneBelow n (owner x) → q x ≡ false) → length (those q xs) ≡ length (those q ys)
  counted xs ys same zero q h =
      let nothing : (l : List X) → those q l ≡ [] = those_none q (λ x. h x (λ o l. absurd (omega arith))) in
      rw (nothing xs, nothing ys)
  counted xs ys same (suc n) q h =
      let others = counted xs ys same n (besides n q)
      (λ x b. split (is_of n (owner x)) (λ m. simp m) (λ m. simp m (h x (none_below n (owner x) b m)))) in
      parted n q xs ∙ rw (same n, others) (sym (parted n q ys))

  module _ (n : ℕ) (bound : (x : X) (o : ℕ) → owner x ≡ some o → o < n) where
    -- HOW MANY: with owners below n, a test that takes no element of no owner takes as many of two lists that hold the same of each owner
    pub counted_alike : (q : X → Bool) → ((x : X) → owner x ≡ none → q x ≡ false)
        → (xs ys : List X) → ((o : ℕ) → inputs_of owner o xs ≡ inputs_of owner o ys) → length (those q xs) ≡ length (those q ys)
    counted_alike q free xs ys same = counted xs ys same n q (λ x. go x (owner x) refl)
      where
        go : (x : X) (w : Option ℕ) → owner x ≡ w → NoneBelow n (owner x) → q x ≡ false
        go x none e h = free x e
        go x (some o) e h = absurd (h o (bound x o e) e)

    -- ---- the owners one after another, and then what is nobody's: as many inputs, and each owner's own in their order

    both_kinds : (xs : List X) → length xs ≡ length (those (λ x. is_owned (owner x)) xs) + length (nobodys owner xs)
    both_kinds [] = refl
    both_kinds (x ∷ xs) = split (is_owned (owner x)) (λ t. simp t (omega (arith, both_kinds xs))) (λ t. simp t (omega (arith, both_kinds xs)))

    none_owned : (o : ℕ) (xs : List X) → inputs_of owner o (nobodys owner xs) ≡ []
    none_owned o [] = refl
    none_owned o (x ∷ xs) =
        split (is_owned (owner x)) (λ t. simp t (none_owned o xs)) (λ t. simp (t, not_its (owner x) t o) (none_owned o xs))

    all_owned : (o : ℕ) (xs : List X) → nobodys owner (inputs_of owner o xs) ≡ []
    all_owned o [] = refl
    all_owned o (x ∷ xs) =
        split (is_of o (owner x)) (λ t. simp (t, its_own (owner x) o t) (all_owned o xs)) (λ t. simp t (all_owned o xs))

    serial_owned : (os : List ℕ) (xs : List X) → nobodys owner (serially owner os xs) ≡ []
    serial_owned [] xs = refl
    serial_owned (o ∷ os) xs =
        those_append (λ x. not (is_owned (owner x))) (inputs_of owner o xs) (serially owner os xs) ∙ rw (all_owned o xs, serial_owned os xs)

    nobodys_twice : (xs : List X) → nobodys owner (nobodys owner xs) ≡ nobodys owner xs
    nobodys_twice [] = refl
    nobodys_twice (x ∷ xs) = split (is_owned (owner x)) (λ t. simp t (nobodys_twice xs)) (λ t. simp t (ap {B = List X} (λ l. x ∷ l) (nobodys_twice xs)))

    module _ (os : List ℕ) (each : (o : ℕ) → o < n → occurrences o os ≡ 1) (xs : List X) where
      abbrev pub in_series : List X
      in_series = serially owner os xs ++ nobodys owner xs

      pub series_own : (o : ℕ) → inputs_of owner o xs ≡ inputs_of owner o in_series
      series_own o =
          own_serially owner n bound os each o xs
          ∙ sym (those_append (λ x. is_of o (owner x)) (serially owner os xs) (nobodys owner xs)
          ∙ rw (none_owned o xs) (append-nil _))

      pub series_long : length xs ≡ length in_series
      series_long =
          let rest : nobodys owner in_series ≡ nobodys owner xs =
          those_append (λ x. not (is_owned (owner x))) (serially owner os xs) (nobodys owner xs) ∙ rw (serial_owned os xs, nobodys_twice xs) in
          let some-ones = counted_alike (λ x. is_owned (owner x)) (λ x e. simp e) xs in_series series_own in
          omega (arith, both_kinds xs, both_kinds in_series, some-ones, ap length rest)
