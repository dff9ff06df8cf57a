-- A line is imported exactly when it is one of the grammar: each part by itself, and then the line.
use Prim.Native.Nat.{ℕ, suc, ◌+◌, ◌-◌, ◌*◌, ◌/◌, ◌%◌, ◌<◌, ◌≤◌}
use mathlib.Core.Path.{◌≡◌, refl, sym, ap, ◌∙◌, subst}
use mathlib.Core.Bool.{true, false, ◌&&◌, ◌||◌}
use mathlib.Core.List.{List, [], ◌∷◌, ◌++◌, append_assoc}
use native.Mathlib.Omega.{arith}
use lib.ListN.{length, get_or, take, length-append}
use lib.Seq.{take_at, get_or_at, take_all, take-suc, length-take-le}
use lib.Dec.{eqb, ltb, leb}
use borrow.Author.Tests.{eqb-true, ltb-true, ltb-false, leb-true, eq-eqb, ne_eqb, lt-ltb, le-leb, not-false}
use Rattle.laws.specs.Checks.{first_of, holds_at}
use Rattle.laws.proofs.Tests.{split, clash, halves}
use Rattle.laws.proofs.Checks.{none_holds}
use Rattle.candump.specs.Importing.{Imported}
use Rattle.candump.specs.Text.{Kind}
use Rattle.candump.specs.Text.Kind.{Decimal, Visible, Hex}
use Rattle.candump.specs.Text.{opening, point, closing, space, mark, remote, within, hex_value, is_a, all_are, index_of, up_to, behind}
use Rattle.candump.specs.Frame.{can, record_of}
use Rattle.candump.specs.Importing.{most_line, most_interface, time_of, interface_of, frame_of, is_seconds, is_micros, is_time, is_interface, identifier_in, is_identified, is_remote, is_bytes, bytes_in, remote_dlc, record_in, import_checks, imported, frame_imported, import_of}
use Rattle.candump.specs.Grammar.{All, Spells, Says, Line}
use Rattle.candump.specs.Grammar.All.{none, more}
use Rattle.candump.specs.Grammar.Spells.{end, pair}
use Rattle.candump.specs.Grammar.Says.{whole, bare, sized}
use Rattle.candump.proofs.Cuts.{index_most, length_up_to, rejoined, found_before, cut, cut_before, cut_behind, all_both}
use Rattle.candump.proofs.Digits.{inside, from_within}
use Rattle.candump.proofs.Stores.{bytes_count}
use Rattle.candump.proofs.Parts as parts

-- ---- bytes of a kind, as a list and as a test

pub all_are_lem : (k : Kind) (l : List ℕ) → All k l → all_are k l ≡ true
all_are_lem k [] none = refl
all_are_lem k (c ∷ l) (more h a) = simp (h, all_are_lem k l a)

pub are_all : (k : Kind) (l : List ℕ) → all_are k l ≡ true → All k l
are_all k [] e = none
are_all k (c ∷ l) e = let h = halves (is_a k c) e in more h.0 (are_all k l h.1)

-- ---- what stands behind the "#"

spells_counts : (d b : List ℕ) → Spells d b → length d ≡ 2 * length b
spells_counts [] [] end = refl
spells_counts [] (x ∷ b) s = elim s [ ]
spells_counts (h ∷ []) b s = elim s [ ]
spells_counts (h ∷ l ∷ d) [] s = elim s [ ]
spells_counts (h ∷ l ∷ d) (x ∷ b) (pair p q s) = let n = spells_counts d b s in omega arith

spells_hex : (d b : List ℕ) → Spells d b → all_are Hex d ≡ true
spells_hex [] [] end = refl
spells_hex [] (x ∷ b) s = elim s [ ]
spells_hex (h ∷ []) b s = elim s [ ]
spells_hex (h ∷ l ∷ d) [] s = elim s [ ]
spells_hex (h ∷ l ∷ d) (x ∷ b) (pair p q s) = simp (p, q, spells_hex d b s)

spells_bytes : (d b : List ℕ) → Spells d b → bytes_in d ≡ b
unfolding bytes_in
spells_bytes [] [] end = refl
spells_bytes [] (x ∷ b) s = elim s [ ]
spells_bytes (h ∷ []) b s = elim s [ ]
spells_bytes (h ∷ l ∷ d) [] s = elim s [ ]
spells_bytes (h ∷ l ∷ d) (x ∷ b) (pair p q s) = ap (λ (t : List ℕ). (hex_value h * 16 + hex_value l) ∷ t) (spells_bytes d b s)

pub spelled : (d : List ℕ) → all_are Hex d ≡ true → length d % 2 ≡ 0 → Spells d (bytes_in d)
unfolding bytes_in
spelled [] a e = end
spelled (h ∷ []) a e = absurd (omega arith)
spelled (h ∷ l ∷ d) a e =
    let p = halves (is_a Hex h) a in
    let q = halves (is_a Hex l) p.1 in
    pair p.0 q.0 (spelled d q.1 (omega arith))

-- no hex digit is an R
hex_is_not_remote : (d : List ℕ) → all_are Hex d ≡ true → is_remote d ≡ false
unfolding is_remote is_a hex_value
hex_is_not_remote [] a = refl
hex_is_not_remote (c ∷ d) a =
    split (eqb c remote) (λ t. clash (halves (is_a Hex c) a).0 (rw (eqb-true c remote t))) (λ f. simp f)

-- what may stand there passes the tests, and makes its record
pub says_data : (i : ℕ) {d r : List ℕ} → Says i d r → (is_remote d || is_bytes d ≡ true) × (record_in i d ≡ r)
unfolding record_in is_remote is_bytes
says_data i (whole d b s h) =
    let n = spells_counts d b s in
    let x = spells_hex d b s in
    let w : is_bytes d ≡ true = simp (eq-eqb (length d % 2) 0 (omega arith), le-leb (length d) 16 (omega arith), x) in
    let half : length d / 2 ≡ length b = omega arith in
    let no = hex_is_not_remote d x in
    (rw (no, w), rw (no, half, spells_bytes d b s))
says_data i bare = (refl, refl)
says_data i (sized dlc h) =
    let yes = inside 48 56 (48 + dlc) (omega arith) (omega arith) in
    let back : 48 + dlc - 48 ≡ dlc = omega arith in
    (simp yes, simp (yes, back))

-- and what passes the tests is one of them
remote_says : (i : ℕ) (d : List ℕ) → is_remote d ≡ true → Says i d (record_of (can i 1 (remote_dlc d)) [])
unfolding is_remote
remote_says i [] e = clash e refl
remote_says i (c ∷ []) e = rw (eqb-true c remote (halves (eqb c remote) e).0) bare
remote_says i (c ∷ n ∷ []) e =
    let h = halves (eqb c remote) e in
    let w = from_within 48 56 n h.1 in
    let back : 48 + (n - 48) ≡ n = omega arith in
    rw (eqb-true c remote h.0) (subst (λ (m : ℕ). Says i (remote ∷ m ∷ []) (record_of (can i 1 (n - 48)) [])) back (sized (n - 48) (omega arith)))
remote_says i (c ∷ n ∷ x ∷ d) e =
    let k = suc (suc (suc (length d))) in
    clash (halves (eqb c remote) e).1 (simp (ne_eqb k 1 (λ z. omega arith), ne_eqb k 2 (λ z. omega arith)))

pub data_says : (i : ℕ) (d : List ℕ) → is_remote d || is_bytes d ≡ true → Says i d (record_in i d)
unfolding record_in
data_says i d e =
    split (is_remote d)
    (λ t. simp t (remote_says i d t))
    (λ f.
    let w = parts.whole d (simp f at e) in
    let n : length d / 2 ≡ length (bytes_in d) = sym (bytes_count d) in
    simp (f, n) (whole d (bytes_in d) (spelled d w.hex w.even) (omega (arith, w.most))))

-- ---- the time

digit_visible : (l : List ℕ) → all_are Decimal l ≡ true → all_are Visible l ≡ true
unfolding is_a
digit_visible [] e = refl
digit_visible (c ∷ l) e =
    let h = halves (within 48 57 c) e in
    let w = from_within 48 57 c h.0 in
    simp (inside 33 126 c (omega arith) (omega arith), digit_visible l h.1)

abbrev pub time : List ℕ → List ℕ → List ℕ
time s m = opening ∷ s ++ point ∷ m ++ closing ∷ []

module _ (s m : List ℕ) (ds : all_are Decimal s ≡ true) (dm : all_are Decimal m ≡ true) where
  time_visible : all_are Visible (time s m) ≡ true
  unfolding is_a
  time_visible =
      all_both Visible (opening ∷ s ++ point ∷ m) (closing ∷ [])
      (all_both Visible (opening ∷ s) (point ∷ m) (digit_visible s ds) (digit_visible m dm)) refl

  micros_pass : length m ≡ 6 → is_micros (m ++ closing ∷ []) ≡ true
  unfolding is_micros
  micros_pass n =
      simp (eq-eqb (length (m ++ closing ∷ [])) 7 (length-append m (closing ∷ []) ∙ omega arith), get_or_at m closing [] 0 6 n, take_at m (closing ∷ []) 6 n, dm)

  pub time_passes : 0 < length s → length m ≡ 6 → is_time (time s m) ≡ true
  unfolding is_time is_seconds is_a
  time_passes h n =
      let inner : s ++ point ∷ m ++ closing ∷ [] ≡ s ++ point ∷ (m ++ closing ∷ []) = append_assoc s (point ∷ m) (closing ∷ []) in
      let rest = m ++ closing ∷ [] in
      simp (inner, cut_before Decimal point refl s rest ds, cut_behind Decimal point refl s rest ds, lt-ltb 0 (length s) h, ds, micros_pass n)

-- what passes the test is such a time
pub record Timed (t : List ℕ) : Type 0 where
  pub seconds : List ℕ
  pub micros : List ℕ
  pub is : t ≡ time seconds micros
  pub some_seconds : 0 < length seconds
  pub decimal_seconds : All Decimal seconds
  pub six_micros : length micros ≡ 6
  pub decimal_micros : All Decimal micros

pub timed : (t : List ℕ) → is_time t ≡ true → Timed t
unfolding is_time is_seconds is_micros
timed [] e = clash e refl
timed (c ∷ t) e =
    let front = up_to point t in
    let rest = behind point t in
    let a = halves (eqb c opening && is_seconds front) e in
    let b = halves (eqb c opening) a.0 in
    let s = halves (ltb 0 (length front)) b.1 in
    let m = halves (eqb (length rest) 7 && eqb (get_or rest 6 0) closing) a.1 in
    let n = halves (eqb (length rest) 7) m.0 in
    let seven = eqb-true (length rest) 7 n.0 in
    let last : rest ≡ take 6 rest ++ closing ∷ [] =
    sym (take_all 7 rest (omega arith)) ∙ take-suc rest 6 0 (omega arith) ∙ ap (λ (x : ℕ). take 6 rest ++ x ∷ []) (eqb-true (get_or rest 6 0) closing n.1) in
    let inner : t ≡ front ++ point ∷ (take 6 rest ++ closing ∷ []) = rejoined point t (found_before point t (omega arith)) ∙ ap (λ (x : List ℕ). front ++ point ∷ x) last in
    record {
      seconds = front;
      micros = take 6 rest;
      is = rw (eqb-true c opening b.0) (ap (λ (x : List ℕ). opening ∷ x) (inner ∙ sym (append_assoc front (point ∷ take 6 rest) (closing ∷ []))));
      some_seconds = ltb-true 0 (length front) s.0;
      decimal_seconds = are_all Decimal front s.1;
      six_micros = length-take-le 6 rest (omega arith);
      decimal_micros = are_all Decimal (take 6 rest) m.1;
    }

-- ---- the frame

module _ (h m n : ℕ) (d : List ℕ) (x : all_are Hex (h ∷ m ∷ n ∷ []) ≡ true) where
  mark_third : index_of mark (h ∷ m ∷ n ∷ mark ∷ d) ≡ 3
  unfolding is_a hex_value
  mark_third = cut Hex mark refl (h ∷ m ∷ n ∷ []) d x

  pub frame_passes : hex_value h * 256 + hex_value m * 16 + hex_value n ≤ 2047 → is_identified (h ∷ m ∷ n ∷ mark ∷ d) ≡ true
  unfolding is_identified identifier_in
  frame_passes b =
      simp (mark_third, lt-ltb 3 (length (h ∷ m ∷ n ∷ mark ∷ d)) (omega arith), x, le-leb (hex_value h * 256 + hex_value m * 16 + hex_value n) 2047 b)

pub three_of : (f : List ℕ) → 3 < length f → take 3 f ≡ get_or f 0 0 ∷ get_or f 1 0 ∷ get_or f 2 0 ∷ []
three_of [] h = absurd (omega arith)
three_of (a ∷ []) h = absurd (omega arith)
three_of (a ∷ b ∷ []) h = absurd (omega arith)
three_of (a ∷ b ∷ c ∷ f) h = refl

-- ---- the line

pub line_imported : {l r : List ℕ} → Line l r → import_of l ≡ imported 0 r
unfolding is_interface is_a identifier_in
line_imported {l} {r} x =
    let ds = all_are_lem Decimal x.seconds x.decimal_seconds in
    let dm = all_are_lem Decimal x.micros x.decimal_micros in
    let vi = all_are_lem Visible x.interface x.visible in
    let hx = all_are_lem Hex (x.h ∷ x.m ∷ x.n ∷ []) x.hex_digits in
    let frame = x.h ∷ x.m ∷ x.n ∷ mark ∷ x.behind in
    let tail = x.interface ++ space ∷ frame in
    let clock = time x.seconds x.micros in
    let seen = time_visible x.seconds x.micros ds dm in
    let t : time_of l ≡ clock = ap (up_to space) x.parts ∙ cut_before Visible space refl clock tail seen in
    let b : behind space l ≡ tail = ap (behind space) x.parts ∙ cut_behind Visible space refl clock tail seen in
    let i : interface_of l ≡ x.interface = ap (up_to space) b ∙ cut_before Visible space refl x.interface frame vi in
    let f : frame_of l ≡ frame = ap (behind space) b ∙ cut_behind Visible space refl x.interface frame vi in
    let timely = ap is_time t ∙ time_passes x.seconds x.micros ds dm x.some_seconds x.six_micros in
    let named : is_interface (interface_of l) ≡ true =
    rw i (simp (lt-ltb 0 (length x.interface) x.named, le-leb (length x.interface) 15 x.short_name, vi)) in
    let said = says_data _ x.says in
    sym (parts.line_frame l x.fits timely named)
    ∙ ap frame_imported f
    ∙ sym (parts.frame_data frame (frame_passes x.h x.m x.n x.behind hx x.eleven_bits) _ _ refl refl)
    ∙ parts.data_imported_lem _ x.behind said.0
    ∙ ap (imported 0) said.1

-- what is imported passes each test, and its bytes are those that its frame says
module _ (l r : List ℕ) (e : import_of l ≡ imported 0 r) where
  number_none : first_of (import_checks l) ≡ 0
  unfolding import_of
  number_none =
      split (eqb (first_of (import_checks l)) 0)
      (λ t. eqb-true (first_of (import_checks l)) 0 t)
      (λ f. ap (λ (x : Imported). x.number) (simp f at e))

  bytes_said : record_in (identifier_in (frame_of l)) (behind mark (frame_of l)) ≡ r
  unfolding import_of
  bytes_said = ap (λ (x : Imported). x.frame) (simp number_none at e)

  pub imported_line : Line l r
  unfolding holds_at is_interface identifier_in
  imported_line =
      let none = (none_holds (import_checks l) refl).0 number_none in
      let front = halves (is_time (time_of l)) (not-false _ (none 2)) in
      let clock = timed (time_of l) front.0 in
      let b = behind space l in
      let name = interface_of l in
      let a = halves (ltb 0 (length name) && leb (length name) 15) front.1 in
      let c = halves (ltb 0 (length name)) a.0 in
      let some = ltb-true 0 (length name) c.0 in
      let f = frame_of l in
      let id = parts.identified f (not-false _ (none 3)) in
      let digits = three_of f (omega (arith, id.found, id.three)) in
      let d = behind mark f in
      let up : up_to mark f ≡ get_or f 0 0 ∷ get_or f 1 0 ∷ get_or f 2 0 ∷ [] = ap (λ (k : ℕ). take k f) id.three ∙ digits in
      let frame = rejoined mark f id.found ∙ ap (λ (x : List ℕ). x ++ mark ∷ d) up in
      let rest = rejoined space b (found_before space b (omega (arith, id.found))) ∙ ap (λ (x : List ℕ). name ++ space ∷ x) frame in
      let line = rejoined space l (found_before space l (omega (arith, length_up_to space b, index_most space b))) in
      record {
        seconds = clock.seconds;
        micros = clock.micros;
        interface = name;
        h = get_or f 0 0;
        m = get_or f 1 0;
        n = get_or f 2 0;
        behind = d;
        parts = line ∙ ap (λ (x : List ℕ). x ++ space ∷ b) clock.is ∙ ap (λ (x : List ℕ). time clock.seconds clock.micros ++ space ∷ x) rest;
        fits = ltb-false most_line (length l) (none 1);
        some_seconds = clock.some_seconds;
        decimal_seconds = clock.decimal_seconds;
        six_micros = clock.six_micros;
        decimal_micros = clock.decimal_micros;
        named = some;
        short_name = leb-true (length name) most_interface c.1;
        visible = are_all Visible name a.1;
        hex_digits = are_all Hex _ (subst (λ (x : List ℕ). all_are Hex x ≡ true) up id.hex);
        eleven_bits = id.most;
        says = subst (λ (x : List ℕ). Says (identifier_in f) d x) bytes_said (data_says (identifier_in f) d (not-false _ (none 4)));
      }
