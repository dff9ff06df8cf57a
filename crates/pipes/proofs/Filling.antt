-- What a buffer holds after bytes were put behind those that it held.
use Prim.Native.Nat.{ℕ, ◌+◌, ◌-◌, ◌%◌, ◌≤◌, min}
use mathlib.Core.Path.{◌≡◌, refl, sym, ap, ◌∙◌, subst}
use mathlib.Core.Bool.{true, false, true≢false}
use mathlib.Core.List.{List, [], ◌∷◌, ◌++◌, append-nil, append_assoc}
use native.Mathlib.Omega.{arith}
use lib.ListN.{length, take, drop, replicate, length-append, length-take}
use lib.Seq.{take-nil, take_all, take_at, take-append-le, take-append-add, drop-append-add, length-take-le}
use lib.Dec.{ltb}
use borrow.Author.Tests.{ltb-true, ltb-false}
use Rattle.std.specs.Prelude.{Option, Some, None, Result, Ok, Err, IfSome, OnOk, is_ok}
use Rattle.std.specs.List.{FoldsTo, concat}
use Rattle.std.specs.Fmt.{WritesInCalls, WritesText}
use Rattle.std.proofs.lemmas.List.{take-append-drop}
use Rattle.laws.specs.Bytes.{padded}
use Rattle.laws.specs.Put.{put}
use Rattle.laws.proofs.Bytes.{length_padded, drop_zeros}
use Rattle.laws.proofs.Put.{put_nothing, part_back}
use Rattle.laws.proofs.Tests.{split}
use Rattle.pipes.specs.declared.buffer.Buffer.{Buffer}
use Rattle.pipes.specs.Buffers.{fitting, appended, appended_count, lacks_room, sent_from, Added, complaint_room, complaint_text, complaint_of}

take_min : (m : ℕ) (p : List ℕ) → take (min (length p) m) p ≡ take m p
take_min m p =
    split (ltb (length p) m)
    (λ t.
    let h = ltb-true (length p) m t in
    take_all (min (length p) m) p (omega arith) ∙ sym (take_all m p (omega arith)))
    (λ f.
    let h = ltb-false (length p) m f in
    let e : min (length p) m ≡ m = omega arith in
    rw e)

module _ (p : List ℕ) (u : ℕ) (b : List ℕ) where
  abbrev Left : ℕ → List ℕ → Type 0
  Left n x = (n ≡ appended_count p u b) × (x ≡ appended p u b)

  -- a part of the buffer was lent for so many bytes, and came back with them
  pub put_in : u ≤ length b → (n : ℕ) → n ≡ min (length p) (length b - u) → (x : List ℕ)
      → x ≡ take n p
      → Left (u + n) (take u b ++ (x ++ drop (u + n - u) (drop u b)))
  unfolding appended_count appended
  put_in h n e x f =
      let k : u + n - u ≡ n = omega arith in
      let m : length (take n p) ≡ n = length-take-le n p (omega arith) in
      let same : take n p ≡ fitting p u b = ap (λ (j : ℕ). take j p) e ∙ take_min (length b - u) p in
      (omega arith, rw k (part_back b x u n (ap length f ∙ m) ∙ ap (put b u) (f ∙ same)))

  pub no_room : length b ≤ u → Left u b
  unfolding appended_count appended
  no_room h =
      let none : length b - u ≡ 0 = omega arith in
      (omega arith, rw none (sym (put_nothing b u)))

-- ---- parts one behind the other over zeros

take_both : (n : ℕ) (a b : List ℕ) → take n (a ++ b) ≡ take n a ++ take (n - length (take n a)) b
take_both n a b =
    split (ltb n (length a))
    (λ t.
    let h = ltb-true n (length a) t in
    let m : length (take n a) ≡ n = length-take-le n a (omega arith) in
    let z : n - n ≡ 0 = omega arith in
    take-append-le n a b (omega arith) ∙ rw (m, z) (sym (append-nil (take n a))))
    (λ f.
    let h = ltb-false n (length a) f in
    let whole = take_all n a h in
    let k : length a + (n - length a) ≡ n = omega arith in
    ap (λ (j : ℕ). take j (a ++ b)) (sym k) ∙ take-append-add a b (n - length a) ∙ rw whole)

-- a buffer of so many bytes holds as much of a text as it has room for, and then zeros
pub record Filled (room : ℕ) (t : List ℕ) (u : ℕ) (b : List ℕ) : Type 0 where
  pub used : u ≡ length (take room t)
  pub holds : b ≡ padded room (take room t)

pub filled_none : (room u : ℕ) (b : List ℕ) → (u ≡ 0) × (b ≡ replicate room 0) → Filled room [] u b
filled_none room u b n =
    let e : room - 0 ≡ room = omega arith in
    rw (n.0, n.1) record { used = rw (take-nil {A = ℕ} room); holds = rw (take-nil {A = ℕ} room, e) }

pub filled_more : (room : ℕ) (t p : List ℕ) (u : ℕ) (b : List ℕ) → Filled room t u b → (n : ℕ) (x : List ℕ)
    → (n ≡ appended_count p u b) × (x ≡ appended p u b) → Filled room (t ++ p) n x
unfolding appended_count appended put
filled_more room t p u b f n x e =
    let l = take room t in
    let fits : length l ≤ room = rw (length-take room t) (omega arith) in
    let z = room - length l in
    let q = take z p in
    let zeros : List ℕ = replicate z 0 in
    let lb : length b ≡ room = ap length f.holds ∙ length_padded room l fits in
    let left : length b - u ≡ z = omega (arith, f.used) in
    let k : length q ≡ min z (length p) = length-take z p in
    let text : take room (t ++ p) ≡ l ++ q = take_both room t p in
    let both : length (l ++ q) ≡ length l + length q = length-append l q in
    let before : take u b ≡ l = rw f.holds (take_at l zeros u (sym f.used)) in
    let behind : drop (u + length q) b ≡ replicate (z - length q) 0 =
    rw (f.used, f.holds) (drop-append-add l zeros (length q) ∙ drop_zeros (length q) z) in
    let rest : room - length (l ++ q) ≡ z - length q = omega arith in
    record {
      used = rw text (e.0 ∙ omega (arith, f.used));
      holds = rw text (e.1 ∙ rw (left, before, behind, rest));
    }

pub complaint_made : (kind place : List ℕ) (number : ℕ) (rule : List ℕ) {n : ℕ} {x : List ℕ}
    → Filled complaint_room (kind ++ (32 ∷ []) ++ place ++ (58 ∷ 32 ∷ (48 + number % 10) ∷ 32 ∷ []) ++ rule ++ (10 ∷ [])) n x
    → record { bytes = x; used = n } ≡ complaint_of kind place number rule
unfolding complaint_of complaint_text
complaint_made kind place number rule f = rw (f.used, f.holds)

-- as many bytes as a complaint says are its text
pub complaint_read : (kind place : List ℕ) (number : ℕ) (rule : List ℕ) (c : Buffer complaint_room) → c ≡ complaint_of kind place number rule
    → take c.used c.bytes ≡ complaint_text kind place number rule
unfolding complaint_of
complaint_read kind place number rule c e =
    let t = complaint_text kind place number rule in
    let zeros : List ℕ = replicate (complaint_room - length t) 0 in
    rw e (take_at t zeros (length t) refl)

-- ---- what is displayed into a buffer, call by call

filled_calls : (room : ℕ) (t : List ℕ) (parts : List (List ℕ)) (w v : Buffer room) → Filled room t w.used w.bytes → FoldsTo Added w parts v
    → Filled room (t ++ concat parts) v.used v.bytes
filled_calls room t [] w v f e = rw (append-nil t, ← e) f
filled_calls room t (p ∷ parts) w v f (x, step, rest) =
    rw (sym (append_assoc t p (concat parts))) (filled_calls room (t ++ p) parts x v (filled_more room t p w.used w.bytes f x.used x.bytes step) rest)

filled_words : (bs : List ℕ) (w v : Buffer complaint_room) → (w.used ≡ 0) × (w.bytes ≡ replicate complaint_room 0) → WritesInCalls Added w bs v
    → take v.used v.bytes ≡ take complaint_room bs
filled_words bs w v n x =
    let f = filled_calls complaint_room [] x.parts w v (filled_none complaint_room w.used w.bytes n) x.calls in
    let l = take complaint_room bs in
    let u : v.used ≡ length l = f.used ∙ ap (λ (t : List ℕ). length (take complaint_room t)) x.whole in
    let b : v.bytes ≡ padded complaint_room l = f.holds ∙ ap (λ (t : List ℕ). padded complaint_room (take complaint_room t)) x.whole in
    let zeros : List ℕ = replicate (complaint_room - length l) 0 in
    rw (u, b) (take_at l zeros (length l) refl)

pub displayed : {T E : Type 0} (o : Option (List ℕ)) (w v : Buffer complaint_room) (r : Result T E) → (w.used ≡ 0) × (w.bytes ≡ replicate complaint_room 0)
    → is_ok r ≡ true → OnOk r (WritesText Added w o v) → IfSome o (λ words. take v.used v.bytes ≡ take complaint_room words)
displayed None w v r n k x = tt
displayed (Some bs) w v (Ok y) n k x = filled_words bs w v n x
displayed (Some bs) w v (Err y) n k x = absurd (true≢false (sym k))

-- words that are cut to the room beforehand make the same line
cut_twice : (n : ℕ) (a t e : List ℕ) → take n (a ++ take n t ++ e) ≡ take n (a ++ t ++ e)
cut_twice n a t e =
    split (ltb (length t) n)
    (λ h. let k = ltb-true (length t) n h in ap (λ (x : List ℕ). take n (a ++ x ++ e)) (take_all n t (omega arith)))
    (λ h.
    let k = ltb-false (length t) n h in
    let m : length (take n t) ≡ n = length-take-le n t k in
    let l : n ≤ length (a ++ take n t) = rw (length-append a (take n t)) (omega arith) in
    let l' : n ≤ length (a ++ t) = rw (length-append a t) (omega arith) in
    let whole : a ++ t ≡ a ++ take n t ++ drop n t = ap (λ (x : List ℕ). a ++ x) (sym (take-append-drop n t)) ∙ sym (append_assoc a (take n t) (drop n t)) in
    take-append-le n (a ++ take n t) e l
    ∙ sym (take-append-le n (a ++ take n t) (drop n t) l)
    ∙ ap (take n) (sym whole)
    ∙ sym (take-append-le n (a ++ t) e l'))

pub told : (kind place : List ℕ) (number : ℕ) (P : List ℕ → Type 0) (o : Option (List ℕ)) (held : List ℕ) → IfSome o (λ words. held ≡ take complaint_room words)
    → P (complaint_text kind place number held) → IfSome o (λ words. P (complaint_text kind place number words))
unfolding complaint_text
told kind place number P None held h p = tt
told kind place number P (Some words) held h p =
    subst P (rw h (cut_twice complaint_room (kind ++ (32 ∷ []) ++ place ++ (58 ∷ 32 ∷ (48 + number % 10) ∷ 32 ∷ [])) words (10 ∷ []))) p

-- ---- what waits is written where there is no room

module _ (p : List ℕ) (u : ℕ) (b : List ℕ) where
  pub from_front : lacks_room p u b ≡ true → sent_from p u b ≡ 0
  unfolding sent_from
  from_front h = simp h

  pub from_behind : lacks_room p u b ≡ false → sent_from p u b ≡ u
  unfolding sent_from
  from_behind h = simp h
