-- A record's line is one of the grammar, and says the record with its unused bytes cleared.
use Prim.Native.Nat.{ℕ, suc, ◌+◌, ◌-◌, ◌*◌, ◌/◌, ◌%◌, ◌<◌, ◌≤◌}
use mathlib.Core.Path.{◌≡◌, refl, sym, subst}
use mathlib.Core.List.{List, [], ◌∷◌, append_assoc}
use native.Mathlib.Omega.{arith}
use lib.ListN.{length, take, drop, replicate, length-take, length-drop}
use lib.Seq.{take-add, length-take-le}
use lib.Dec.{eqb}
use borrow.Author.Tests.{eqb-true, eqb-false}
use Rattle.laws.specs.Bytes.{Bytes, padded}
use Rattle.laws.proofs.Bytes.{bytes_take, bytes_drop}
use Rattle.laws.proofs.Tests.{split}
use Rattle.codec.specs.declared.Can.{Can}
use Rattle.codec.specs.Fields.{header_of, can_of, can_bytes}
use Rattle.codec.specs.Writing.{cleared_of}
use Rattle.codec.proofs.Headers.{ranged}
use Rattle.codec.proofs.Cans.{can_back}
use Rattle.candump.specs.Text.Kind.{Decimal, Visible}
use Rattle.candump.specs.Text.{zero_digit, hex_value, hex_digit, is_a}
use Rattle.candump.specs.Frame.{can, hex_of, identifier_digits, data_text, text, record_of, unused_cleared}
use Rattle.candump.specs.Grammar.{Spells, Says, Line}
use Rattle.candump.specs.Grammar.All.{none, more}
use Rattle.candump.specs.Grammar.Spells.{end, pair}
use Rattle.candump.specs.Grammar.Says.{whole, sized}
use Rattle.candump.specs.Exporting.{line_of}
use Rattle.candump.proofs.Digits.{digit_value, digit_is_hex}
use Rattle.candump.proofs.Grammar.{are_all}
use Rattle.candump.proofs.Texts.{data_most}

-- a byte's two digits say the byte, and so do those of bytes
byte_back : (b : ℕ) → b < 256 → hex_value (hex_digit (b / 16)) * 16 + hex_value (hex_digit (b % 16)) ≡ b
byte_back b h = rw (digit_value (b / 16) (omega arith), digit_value (b % 16) (omega arith)) (omega arith)

bytes_spelled : (l : List ℕ) → Bytes l → Spells (hex_of l) l
unfolding hex_of
bytes_spelled [] h = end
bytes_spelled (b ∷ l) h =
    let below : b < 256 = h 0 in
    subst (λ (x : ℕ). Spells (hex_of (b ∷ l)) (x ∷ l)) (byte_back b below)
    (pair (digit_is_hex (b / 16) (omega arith)) (digit_is_hex (b % 16) (omega arith)) (bytes_spelled l (λ i. h (suc i))))

-- and an identifier's three
identifier_back : (i : ℕ) → i < 2048
    → hex_value (hex_digit (i / 256 % 16)) * 256 + hex_value (hex_digit (i / 16 % 16)) * 16 + hex_value (hex_digit (i % 16)) ≡ i
identifier_back i h =
    rw (digit_value (i / 256 % 16) (omega arith), digit_value (i / 16 % 16) (omega arith), digit_value (i % 16) (omega arith)) (omega arith)

-- ---- what stands behind the "#"

module _ (r : List ℕ) (ten : length r ≡ 10) (b : Bytes r) where
  abbrev c : Can
  c = can_of r

  ranges : (c.identifier < 2048) × (c.rtr ≤ 1)
  unfolding can_of
  ranges = (omega (arith, b 0, (ranged r).service), (ranged r).rtr)

  header_back : (k : ℕ) → c.rtr ≡ k → can_bytes (can c.identifier k c.dlc) ≡ take 2 r
  header_back k e = rw (← e) (can_back r b (omega arith))

  remote_trip : c.rtr ≡ 1 → record_of (can c.identifier 1 c.dlc) [] ≡ padded 10 (take 2 r)
  unfolding record_of
  remote_trip e =
      let two : length (take 2 r) ≡ 2 = length-take-le 2 r (omega arith) in
      rw (header_back 1 e, two)

  bytes_trip : c.rtr ≡ 0 → c.dlc ≤ 8 → record_of (can c.identifier 0 (length (take c.dlc (drop 2 r)))) (take c.dlc (drop 2 r)) ≡ cleared_of r
  unfolding record_of cleared_of can_of
  bytes_trip e h =
      let d = (header_of r).dlc in
      let n : length (take d (drop 2 r)) ≡ d = length-take-le d (drop 2 r) (simp length-drop (omega arith)) in
      let k : d + 2 ≡ 2 + d = omega arith in
      let m : length (take (2 + d) r) ≡ 2 + d = length-take-le (2 + d) r (omega arith) in
      let room : 10 - (2 + d) ≡ 8 - d = omega arith in
      rw (n, header_back 0 e, k, m, room, take-add 2 d r) (sym (append_assoc (take 2 r) (take d (drop 2 r)) (replicate (8 - d) 0)))

  data_trip : c.dlc ≤ 8 → Says c.identifier (data_text c (drop 2 r)) (unused_cleared r)
  unfolding data_text unused_cleared
  data_trip h =
      let bytes = take c.dlc (drop 2 r) in
      let few : length bytes ≤ 8 = rw (length-take c.dlc (drop 2 r)) (omega arith) in
      split (eqb c.rtr 1)
      (λ t. simp t (rw (← remote_trip (eqb-true c.rtr 1 t)) (sized c.dlc h)))
      (λ f.
      let zero : c.rtr ≡ 0 = omega (arith, ranges.1, eqb-false c.rtr 1 f) in
      simp f (rw (← bytes_trip zero h) (whole (hex_of bytes) bytes (bytes_spelled bytes (bytes_take c.dlc (drop 2 r) (bytes_drop 2 r b))) few)))

  pub record_line : c.dlc ≤ 8 → Line (line_of r) (unused_cleared r)
  unfolding line_of text identifier_digits is_a
  record_line h =
      let i = c.identifier in
      let back = identifier_back i ranges.0 in
      record {
        seconds = zero_digit ∷ [];
        micros = zero_digit ∷ zero_digit ∷ zero_digit ∷ zero_digit ∷ zero_digit ∷ zero_digit ∷ [];
        interface = 99 ∷ 97 ∷ 110 ∷ zero_digit ∷ [];
        h = hex_digit (i / 256 % 16);
        m = hex_digit (i / 16 % 16);
        n = hex_digit (i % 16);
        behind = data_text c (drop 2 r);
        parts = refl;
        fits = omega (arith, data_most c (drop 2 r) h);
        some_seconds = omega arith;
        decimal_seconds = are_all Decimal _ refl;
        six_micros = refl;
        decimal_micros = are_all Decimal _ refl;
        named = omega arith;
        short_name = omega arith;
        visible = are_all Visible _ refl;
        hex_digits = more (digit_is_hex (i / 256 % 16) (omega arith)) (more (digit_is_hex (i / 16 % 16) (omega arith)) (more (digit_is_hex (i % 16) (omega arith)) none));
        eleven_bits = omega (arith, back, ranges.0);
        says = rw back (data_trip h);
      }
