-- THE MIX: inputs of several owners in any order, against each owner's inputs alone.
use Prim.Native.Nat.{ℕ, suc, ◌<◌}
use mathlib.Core.Path.{◌≡◌, refl, sym, ap, ◌∙◌, subst}
use mathlib.Core.Logic.{◌≢◌}
use mathlib.Core.Bool.{Bool, true, false, cond, true≢false, false≢true}
use mathlib.Core.Option.{Option, none, some}
use mathlib.Core.List.{List, [], ◌∷◌, ◌++◌, append-nil}
use native.Mathlib.Omega.{arith}
use lib.Dec.{eqb, ltb}
use borrow.Author.Tests.{eqb-true, eq-eqb, ltb-true, ltb-false}
use Rattle.laws.specs.Mixing.{those, is_of, inputs_of, answers_of, serially, occurrences, run, trace}
use Rattle.laws.proofs.Tests.{split}

module _ {X : Type 0} where
  pub those_append : (p : X → Bool) (xs ys : List X) → those p (xs ++ ys) ≡ those p xs ++ those p ys
  those_append p [] ys = refl
  those_append p (x ∷ xs) ys = split (p x) (λ t. simp t (ap {B = List X} (λ l. x ∷ l) (those_append p xs ys))) (λ f. simp f (those_append p xs ys))

pub is_of_lem : (o : ℕ) (x : Option ℕ) → is_of o x ≡ true → x ≡ some o
is_of_lem o none e = absurd (false≢true e)
is_of_lem o (some k) e = ap {B = Option ℕ} some (eqb-true k o e)

pub is_self : (o : ℕ) (x : Option ℕ) → x ≡ some o → is_of o x ≡ true
is_self o x e = rw e (eq-eqb o o refl)

pub is_other : (o : ℕ) (x : Option ℕ) → is_of o x ≡ false → x ≢ some o
is_other o x e h = true≢false (sym (is_self o x h) ∙ e)

-- inputs in two parts: the second goes on from the state that the first leaves
module _ {F S : Type 0} (next : F → S → S) where
  pub run_append : (fs gs : List F) (s : S) → run next (fs ++ gs) s ≡ run next gs (run next fs s)
  run_append [] gs s = refl
  run_append (f ∷ fs) gs s = run_append fs gs (next f s)

  pub trace_append : {A : Type 0} (answer : F → S → A) (fs gs : List F) (s : S)
      → trace next answer (fs ++ gs) s ≡ trace next answer fs s ++ trace next answer gs (run next fs s)
  trace_append {A} answer [] gs s = refl
  trace_append {A} answer (f ∷ fs) gs s = ap {B = List (F × A)} (λ ts. (f, answer f s) ∷ ts) (trace_append answer fs gs (next f s))

-- What a machine owes for its inputs to be mixed. `Same o s t`: s and t agree on all that belongs to o. `Good`: what every state of a run has
pub record Local {F S A : Type 0} (next : F → S → S) (answer : F → S → A) (owner : F → Option ℕ) (Good : S → Type 0) (Same : ℕ → S → S → Type 0) : Type 0 where
  pub good_next : (f : F) (s : S) → Good s → Good (next f s)
  pub same_refl : (o : ℕ) (s : S) → Same o s s
  pub same_sym : (o : ℕ) (s t : S) → Same o s t → Same o t s
  pub same_trans : (o : ℕ) (s t u : S) → Same o s t → Same o t u → Same o s u
  pub others : (o : ℕ) (f : F) (s : S) → owner f ≢ some o → Good s → Same o (next f s) s
  pub own_next : (o : ℕ) (f : F) (s t : S) → owner f ≡ some o → Good s → Good t → Same o s t → Same o (next f s) (next f t)
  pub own_answer : (o : ℕ) (f : F) (s t : S) → owner f ≡ some o → Good s → Good t → Same o s t → answer f s ≡ answer f t
  pub free_answer : (f : F) (s t : S) → owner f ≡ none → Good s → Good t → answer f s ≡ answer f t
  pub all_same : (s t : S) → Good s → Good t → ((o : ℕ) → Same o s t) → s ≡ t

module _ {F S A : Type 0} {next : F → S → S} {answer : F → S → A} {owner : F → Option ℕ} {Good : S → Type 0} {Same : ℕ → S → S → Type 0}
    (L : Local next answer owner Good Same) where
  run_good : (fs : List F) (s : S) → Good s → Good (run next fs s)
  run_good [] s g = g
  run_good (f ∷ fs) s g = run_good fs (next f s) (L.good_next f s g)

  -- a run leaves o what the run of o's own inputs leaves it
  run_own : (o : ℕ) (fs : List F) (s t : S) → Good s → Good t → Same o s t → Same o (run next fs s) (run next (inputs_of owner o fs) t)
  run_own o [] s t gs gt e = e
  run_own o (f ∷ fs) s t gs gt e =
      split (is_of o (owner f))
      (λ q. simp q (run_own o fs (next f s) (next f t) (L.good_next f s gs) (L.good_next f t gt) (L.own_next o f s t (is_of_lem o (owner f) q) gs gt e)))
      (λ q. simp q (run_own o fs (next f s) t (L.good_next f s gs) gt (L.same_trans o (next f s) s t (L.others o f s (is_other o (owner f) q) gs) e)))

  -- and o's inputs get the answers that they get alone
  trace_own : (o : ℕ) (fs : List F) (s t : S) → Good s → Good t → Same o s t
      → answers_of owner o (trace next answer fs s) ≡ trace next answer (inputs_of owner o fs) t
  trace_own o [] s t gs gt e = refl
  trace_own o (f ∷ fs) s t gs gt e =
      split (is_of o (owner f))
      (λ q.
      let m : owner f ≡ some o = is_of_lem o (owner f) q in
      let ih = trace_own o fs (next f s) (next f t) (L.good_next f s gs) (L.good_next f t gt) (L.own_next o f s t m gs gt e) in
      simp q (λ i. (f, L.own_answer o f s t m gs gt e i) ∷ ih i))
      (λ q. simp q (trace_own o fs (next f s) t (L.good_next f s gs) gt (L.same_trans o (next f s) s t (L.others o f s (is_other o (owner f) q) gs) e)))

  -- two orders of the inputs that keep each owner's own order: the same answers to each owner's inputs, and the same state at the end
  pub mixed : (fs gs : List F) (s : S) → Good s → ((o : ℕ) → inputs_of owner o fs ≡ inputs_of owner o gs)
      → ((o : ℕ) → answers_of owner o (trace next answer fs s) ≡ answers_of owner o (trace next answer gs s))
      × (run next fs s ≡ run next gs s)
  mixed fs gs s g h = (
    λ o. trace_own o fs s s g g (L.same_refl o s)
        ∙ ap (λ (l : List F). trace next answer l s) (h o)
        ∙ sym (trace_own o gs s s g g (L.same_refl o s)),
    L.all_same (run next fs s) (run next gs s) (run_good fs s g) (run_good gs s g)
        (λ o.
        L.same_trans o _ _ _
        (subst (λ (l : List F). Same o (run next fs s) (run next l s)) (h o) (run_own o fs s s g g (L.same_refl o s)))
        (L.same_sym o _ _ (run_own o gs s s g g (L.same_refl o s)))),
  )

  -- one input: its answer is the one that it gets after the earlier inputs of its inputs_of owner alone
  pub alone : (o : ℕ) (before : List F) (f : F) (s : S) → Good s → owner f ≡ some o
      → answer f (run next before s) ≡ answer f (run next (inputs_of owner o before) s)
  alone o before f s g m =
      L.own_answer o f _ _ m (run_good before s g) (run_good (inputs_of owner o before) s g) (run_own o before s s g g (L.same_refl o s))

  -- an input of no owner: its answer is the one that it gets first
  pub free_anywhere : (before : List F) (f : F) (s : S) → Good s → owner f ≡ none → answer f (run next before s) ≡ answer f s
  free_anywhere before f s g m = L.free_answer f _ _ m (run_good before s g) g

-- ---- the owners one after another

module _ {F : Type 0} (owner : F → Option ℕ) where
  own_own : (o p : ℕ) (fs : List F) → inputs_of owner o (inputs_of owner p fs) ≡ cond (eqb p o) (inputs_of owner o fs) []
  own_own o p [] = split (eqb p o) (λ t. simp t) (λ t. simp t)
  own_own o p (f ∷ fs) =
      split (is_of p (owner f))
      (λ q.
      let m : is_of o (owner f) ≡ eqb p o = ap (is_of o) (is_of_lem p (owner f) q) in
      split (eqb p o)
      (λ t. simp (q, m, t) (ap {B = List F} (λ l. f ∷ l) (own_own o p fs ∙ simp t)))
      (λ t. simp (q, m, t) (own_own o p fs ∙ simp t)))
      (λ q.
      split (eqb p o)
      (λ t.
      let m : is_of o (owner f) ≡ false = subst (λ (k : ℕ). is_of k (owner f) ≡ false) (eqb-true p o t) q in
      simp (q, m, t) (own_own o p fs ∙ simp t))
      (λ t. simp (q, t) (own_own o p fs ∙ simp t)))

  -- an owner that does not stand in the list has no input in the series, and one that stands there once has all of its own
  own_absent : (o : ℕ) (os : List ℕ) (fs : List F) → occurrences o os ≡ 0 → inputs_of owner o (serially owner os fs) ≡ []
  own_absent o [] fs c = refl
  own_absent o (p ∷ os) fs c =
      split (eqb p o)
      (λ t. let z : suc (occurrences o os) ≡ 0 = simp t at c in absurd (omega arith))
      (λ t.
      those_append (λ f. is_of o (owner f)) (inputs_of owner p fs) (serially owner os fs)
      ∙ rw (own_own o p fs) (simp t (own_absent o os fs (simp t at c))))

  own_once : (o : ℕ) (os : List ℕ) (fs : List F) → occurrences o os ≡ 1 → inputs_of owner o (serially owner os fs) ≡ inputs_of owner o fs
  own_once o [] fs c = absurd (omega arith)
  own_once o (p ∷ os) fs c =
      those_append (λ f. is_of o (owner f)) (inputs_of owner p fs) (serially owner os fs)
      ∙ split (eqb p o)
      (λ t.
      let z : suc (occurrences o os) ≡ 1 = simp t at c in
      rw (own_own o p fs, own_absent o os fs (omega arith)) (simp t (append-nil _)))
      (λ t. rw (own_own o p fs) (simp t (own_once o os fs (simp t at c))))

  -- an owner of no input has none
  own_none : (o : ℕ) (fs : List F) → ((f : F) → owner f ≢ some o) → inputs_of owner o fs ≡ []
  own_none o [] h = refl
  own_none o (f ∷ fs) h =
      split (is_of o (owner f)) (λ q. absurd (h f (is_of_lem o (owner f) q))) (λ q. simp q (own_none o fs h))

  -- so a series of all owners below n, each once, keeps each owner's own order
  pub own_serially : (n : ℕ) → ((f : F) (o : ℕ) → owner f ≡ some o → o < n)
      → (os : List ℕ) → ((o : ℕ) → o < n → occurrences o os ≡ 1)
      → (o : ℕ) (fs : List F) → inputs_of owner o fs ≡ inputs_of owner o (serially owner os fs)
  own_serially n bound os each o fs =
      split (ltb o n)
      (λ t. sym (own_once o os fs (each o (ltb-true o n t))))
      (λ t.
      let none : (gs : List F) → inputs_of owner o gs ≡ [] = λ gs. own_none o gs (λ f e. let k : o < n = bound f o e in absurd (omega (arith, ltb-false o n t))) in
      none fs ∙ sym (none (serially owner os fs)))

module _ {F S A : Type 0} {next : F → S → S} {answer : F → S → A} {owner : F → Option ℕ} {Good : S → Type 0} {Same : ℕ → S → S → Type 0}
    (L : Local next answer owner Good Same) (n : ℕ) (bound : (f : F) (o : ℕ) → owner f ≡ some o → o < n)
    (os : List ℕ) (each : (o : ℕ) → o < n → occurrences o os ≡ 1) where
  -- any mix, against the owners one after another, in any order of owners
  pub in_series_lem : (fs : List F) (s : S) → Good s
      → ((o : ℕ) → answers_of owner o (trace next answer fs s) ≡ answers_of owner o (trace next answer (serially owner os fs) s))
      × (run next fs s ≡ run next (serially owner os fs) s)
  in_series_lem fs s g = mixed L fs (serially owner os fs) s g (λ o. own_serially owner n bound os each o fs)

-- one input at its turn: behind the inputs of the owners before its own, and the earlier ones of its own
module _ {F S A : Type 0} {next : F → S → S} {answer : F → S → A} {owner : F → Option ℕ} {Good : S → Type 0} {Same : ℕ → S → S → Type 0}
    (L : Local next answer owner Good Same) where
  pub in_turn : (o : ℕ) (ps : List ℕ) → occurrences o ps ≡ 0 → (before behind : List F) (f : F) (s : S) → Good s → owner f ≡ some o
      → answer f (run next before s) ≡ answer f (run next (serially owner ps (before ++ f ∷ behind) ++ inputs_of owner o before) s)
  in_turn o ps absent before behind f s g m =
      let earlier : List F = serially owner ps (before ++ f ∷ behind) ++ inputs_of owner o before in
      let same : inputs_of owner o earlier ≡ inputs_of owner o before =
      those_append (λ x. is_of o (owner x)) (serially owner ps (before ++ f ∷ behind)) (inputs_of owner o before)
      ∙ rw (own_absent owner o ps (before ++ f ∷ behind) absent, own_own owner o o before) (simp (eq-eqb o o refl)) in
      alone L o before f s g m
      ∙ ap (λ (l : List F). answer f (run next l s)) (sym same)
      ∙ sym (alone L o earlier f s g m)

-- ---- a machine that does the same, and whose answers say what the other's do

module _ {F S A B : Type 0} {next next' : F → S → S} {answer : F → S → A} {answer' : F → S → B} {owner : F → Option ℕ} {Good : S → Type 0}
    {Same : ℕ → S → S → Type 0} (L : Local next answer owner Good Same) (says : A → B)
    (does_same : (f : F) (s : S) → Good s → next' f s ≡ next f s) (says_same : (f : F) (s : S) → Good s → answer' f s ≡ says (answer f s)) where
  pub local_as : Local next' answer' owner Good Same
  local_as = record {
    good_next = λ f s g. subst Good (sym (does_same f s g)) (L.good_next f s g);
    same_refl = L.same_refl;
    same_sym = L.same_sym;
    same_trans = L.same_trans;
    others = λ o f s ne g. subst (λ t. Same o t s) (sym (does_same f s g)) (L.others o f s ne g);
    own_next = λ o f s t m gs gt e.
        subst (λ u. Same o u (next' f t)) (sym (does_same f s gs))
        (subst (λ u. Same o (next f s) u) (sym (does_same f t gt)) (L.own_next o f s t m gs gt e));
    own_answer = λ o f s t m gs gt e. says_same f s gs ∙ ap says (L.own_answer o f s t m gs gt e) ∙ sym (says_same f t gt);
    free_answer = λ f s t m gs gt. says_same f s gs ∙ ap says (L.free_answer f s t m gs gt) ∙ sym (says_same f t gt);
    all_same = L.all_same;
  }

  pub run_as : (fs : List F) (s : S) → Good s → (run next' fs s ≡ run next fs s) × Good (run next fs s)
  run_as [] s g = (refl, g)
  run_as (f ∷ fs) s g =
      let h = run_as fs (next f s) (L.good_next f s g) in
      (ap (run next' fs) (does_same f s g) ∙ h.0, h.1)
