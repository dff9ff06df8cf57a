-- What stands where: a time and an identifier as the code tests them, place by place.
use Prim.Native.Nat.{ℕ, suc, ◌+◌, ◌-◌, ◌<◌, ◌≤◌}
use mathlib.Core.Path.{◌≡◌, refl, sym, ap, ◌∙◌, subst}
use mathlib.Core.Bool.{Bool, true, false, true≢false, ◌&&◌}
use mathlib.Core.List.{List, [], ◌∷◌, ◌++◌, append_assoc, append-nil}
use native.Mathlib.Omega.{arith}
use native.Mathlib.Numerals.{add-one}
use lib.ListN.{length, get_or, take, drop, replicate, length-append, length-drop}
use lib.Seq.{take_at, take_all, take-suc, get_or_at, get_or-drop, drop-append-add, split_at, length-take-le}
use lib.Dec.{leb}
use borrow.Author.Tests.{le-leb, leb-true}
use Rattle.std.specs.Prelude.{Option, Some, None}
use Rattle.std.specs.Option.{unwrap_or, is_some}
use Rattle.laws.proofs.Bytes.{places_back}
use Rattle.laws.proofs.Tests.{split, halves}
use Rattle.candump.specs.Text.Kind.{Decimal, Hex}
use Rattle.candump.specs.Text.{opening, point, closing, mark, all_are}
use Rattle.candump.specs.Importing.{is_time, identifier_in, is_identified}
use Rattle.candump.specs.Code.{identifier_said}
use Rattle.candump.proofs.Cuts.{index_found}
use Rattle.candump.proofs.Parts.{identified}
use Rattle.candump.proofs.Grammar.{time, timed, time_passes, all_are_lem, frame_passes, three_of}

-- a test that cannot hold
pub refuted : (b : Bool) → (b ≡ true → ⊥) → false ≡ b
refuted true h = absurd (h refl)
refuted false h = refl

-- two tests, each of which holds where the other does
pub same_test : (a b : Bool) → (a ≡ true → b ≡ true) → (b ≡ true → a ≡ true) → a ≡ b
same_test true b to from = sym (to refl)
same_test false b to from = refuted b (λ e. true≢false (sym (from e)))

-- ---- a time

pub record Placed (t : List ℕ) : Type 0 where
  pub least : 10 ≤ length t
  pub opens : get_or t 0 0 ≡ opening
  pub points : get_or t (length t - 8) 0 ≡ point
  pub closes : get_or t (length t - 1) 0 ≡ closing
  pub seconds : all_are Decimal (take (length t - 8 - 1) (drop 1 t)) ≡ true
  pub micros : all_are Decimal (take (length t - 1 - (length t - 8 + 1)) (drop (length t - 8 + 1) t)) ≡ true

pub time_placed : (t : List ℕ) → is_time t ≡ true → Placed t
time_placed t e =
    let x = timed t e in
    let s = x.seconds in
    let m = x.micros in
    let rest = m ++ closing ∷ [] in
    let whole : t ≡ (opening ∷ s) ++ point ∷ rest = x.is ∙ append_assoc (opening ∷ s) (point ∷ m) (closing ∷ []) in
    let k : length rest ≡ 7 = length-append m (closing ∷ []) ∙ ap (λ (n : ℕ). n + 1) x.six_micros in
    let n : length t ≡ length s + 9 = ap length whole ∙ length-append (opening ∷ s) (point ∷ rest) ∙ omega arith in
    let front : length ((opening ∷ s) ++ point ∷ m) ≡ length s + 8 = length-append (opening ∷ s) (point ∷ m) ∙ omega (arith, x.six_micros) in
    let at : length t - 8 ≡ length s + 1 = omega arith in
    let few : length t - 8 - 1 ≡ length s = omega arith in
    let six : length t - 1 - (length t - 8 + 1) ≡ 6 = omega arith in
    let past : length t - 8 + 1 ≡ length (opening ∷ s) + 1 = omega arith in
    let last : length t - 1 ≡ length s + 8 = omega arith in
    let before : take (length t - 8 - 1) (drop 1 t) ≡ s =
    ap (λ (j : ℕ). take j (drop 1 t)) few ∙ ap (λ (l : List ℕ). take (length s) (drop 1 l)) whole ∙ take_at s (point ∷ rest) (length s) refl in
    let behind : drop (length t - 8 + 1) t ≡ rest =
    ap (λ (j : ℕ). drop j t) past ∙ ap (drop (length (opening ∷ s) + 1)) whole ∙ drop-append-add (opening ∷ s) (point ∷ rest) 1 in
    record {
      least = omega (arith, x.some_seconds);
      opens = ap (λ (l : List ℕ). get_or l 0 0) whole;
      points = ap (λ (j : ℕ). get_or t j 0) at ∙ ap (λ (l : List ℕ). get_or l (length s + 1) 0) whole ∙ get_or_at (opening ∷ s) point rest 0 (length s + 1) (omega arith);
      closes = ap (λ (j : ℕ). get_or t j 0) last ∙ ap (λ (l : List ℕ). get_or l (length s + 8) 0) x.is ∙ get_or_at ((opening ∷ s) ++ point ∷ m) closing [] 0 (length s + 8) front;
      seconds = rw before (all_are_lem Decimal s x.decimal_seconds);
      micros = rw (behind, six) (rw (take_at m (closing ∷ []) 6 x.six_micros) (all_are_lem Decimal m x.decimal_micros));
    }

pub placed_time : (t : List ℕ) → Placed t → is_time t ≡ true
placed_time [] p = absurd (omega (arith, p.least))
placed_time (c ∷ t) p =
    let w = c ∷ t in
    let n = length w in
    let s = take (n - 8 - 1) t in
    let rest = drop (n - 8 + 1) w in
    let m = take 6 rest in
    let six : n - 1 - (n - 8 + 1) ≡ 6 = omega (arith, p.least) in
    let seven : length rest ≡ 7 = length-drop (n - 8 + 1) w ∙ omega (arith, p.least) in
    let k : n - 8 ≡ suc (n - 8 - 1) = omega (arith, p.least) in
    let j : n - 8 + 1 + 6 ≡ n - 1 = omega (arith, p.least) in
    let last : get_or rest 6 0 ≡ closing = get_or-drop (n - 8 + 1) w 6 0 ∙ ap (λ (i : ℕ). get_or w i 0) j ∙ p.closes in
    let end : rest ≡ m ++ closing ∷ [] = sym (take_all 7 rest (omega arith)) ∙ take-suc rest 6 0 (omega arith) ∙ ap (λ (x : ℕ). m ++ x ∷ []) last in
    let front : take (n - 8) w ≡ opening ∷ s = ap (λ (i : ℕ). take i w) k ∙ ap (λ (x : ℕ). x ∷ s) p.opens in
    let cut : w ≡ take (n - 8) w ++ point ∷ rest =
    split_at w (n - 8) 0 (omega (arith, p.least)) ∙ rw (p.points, add-one (n - 8)) in
    let whole : w ≡ time s m =
    cut ∙ ap (λ (x : List ℕ). x ++ point ∷ rest) front ∙ ap (λ (x : List ℕ). (opening ∷ s) ++ point ∷ x) end ∙ sym (append_assoc (opening ∷ s) (point ∷ m) (closing ∷ [])) in
    let some : length s ≡ n - 8 - 1 = length-take-le (n - 8 - 1) t (omega (arith, p.least)) in
    rw whole
    (time_passes s m p.seconds (rw six at p.micros) (omega (arith, p.least)) (length-take-le 6 rest (omega arith)))

-- ---- an identifier

-- an identified frame has its mark in the fourth place, and its three digits say the number
module _ (f : List ℕ) where
  abbrev said : Option ℕ
  said = identifier_said (get_or f 0 0) (get_or f 1 0) (get_or f 2 0)

  pub identified_places : is_identified f ≡ true → (3 < length f) × (get_or f 3 0 ≡ mark) × (said ≡ Some (identifier_in f))
  unfolding identifier_said identifier_in
  identified_places e =
      let x = identified f e in
      let long : 3 < length f = omega (arith, x.found, x.three) in
      let hex : all_are Hex (get_or f 0 0 ∷ get_or f 1 0 ∷ get_or f 2 0 ∷ []) ≡ true =
      subst (λ (l : List ℕ). all_are Hex l ≡ true) (ap (λ (k : ℕ). take k f) x.three ∙ three_of f long) x.hex in
      (long, ap (λ (k : ℕ). get_or f k 0) (sym x.three) ∙ index_found mark f x.found, simp (hex, le-leb (identifier_in f) 2047 x.most))

  pub places_identified : 3 < length f → get_or f 3 0 ≡ mark → (i : ℕ) → said ≡ Some i → (is_identified f ≡ true) × (i ≡ identifier_in f)
  unfolding identifier_said identifier_in
  places_identified long e i s =
      let h = get_or f 0 0 in
      let m = get_or f 1 0 in
      let l = get_or f 2 0 in
      let d = drop 4 f in
      let whole : f ≡ h ∷ m ∷ l ∷ mark ∷ d = sym (places_back 4 0 f (omega arith)) ∙ ap (λ (x : ℕ). h ∷ m ∷ l ∷ x ∷ d) e in
      split (all_are Hex (h ∷ m ∷ l ∷ []) && leb (identifier_in f) 2047)
      (λ t.
      let a = halves (all_are Hex (h ∷ m ∷ l ∷ [])) t in
      (ap is_identified whole ∙ frame_passes h m l d a.0 (leb-true (identifier_in f) 2047 a.1), sym (ap (λ (o : Option ℕ). unwrap_or o 0) (simp t at s))))
      (λ n. absurd (true≢false (sym (ap is_some (simp n at s)))))

  -- so one of which a part is missing is none
  pub no_frame : length f < 4 → is_identified f ≡ false
  no_frame h = sym (refuted (is_identified f) (λ e. omega (arith, (identified_places e).0)))

  pub no_mark : (get_or f 3 0 ≡ mark → ⊥) → is_identified f ≡ false
  no_mark h = sym (refuted (is_identified f) (λ e. h (identified_places e).1))

  pub no_identifier : said ≡ None → is_identified f ≡ false
  no_identifier n = sym (refuted (is_identified f) (λ e. true≢false (ap is_some (sym (identified_places e).2 ∙ n))))

-- ---- a record of its header and its data bytes, each put over zeros

pub joined : (p h b : List ℕ) (put : List ℕ) → p ≡ h → length p ≡ 2 → length b ≡ 8 → put ≡ b → take 2 (p ++ replicate 8 0) ++ (put ++ drop 8 (drop 2 (p ++ replicate 8 0))) ≡ h ++ b
joined [] h b put e two eight f = absurd (omega arith)
joined (x ∷ []) h b put e two eight f = absurd (omega arith)
joined (x ∷ y ∷ []) h b put e two eight f = rw (f, ← e, append-nil b) refl
joined (x ∷ y ∷ z ∷ p) h b put e two eight f = absurd (omega arith)
