-- What is known of a header that no check refuses.
use Prim.Native.Nat.{ℕ, ◌-◌, ◌≤◌}
use mathlib.Core.Path.{◌≡◌, refl, ap, ◌∙◌}
use mathlib.Core.Bool.{true, false, ◌&&◌, ◌||◌}
use mathlib.Mathlib.Data.Bool.Basic.{or-eq-false-eq-eq-false-and-eq-false as neither}
use native.Mathlib.Omega.{arith}
use mathlib.Core.List.{List}
use lib.Dec.{ltb, leb, eqb}
use lib.ListN.{length, length-take, length-drop}
use borrow.Author.Tests.{ltb-false, eqb-true, eqb-false, eq-eqb, ne_eqb, le-leb, lt-leb, le-ltb}
use Rattle.laws.specs.Checks.{first_of, holds_at}
use Rattle.laws.proofs.Tests.{split, not_both}
use Rattle.laws.proofs.Checks.{none_holds}
use Rattle.octets.specs.declared.Data.{Data}
use Rattle.octets.specs.Data.{data_of, tidy, bytes_of}
use Rattle.octets.proofs.Datas.{bytes_data, tidy_data}
use Rattle.codec.specs.declared.Header.{Header}
use Rattle.codec.specs.Fields.{header_of}
use Rattle.codec.specs.Reading.{header_checks, read_checks, barred, unserved, payload_of}
use Rattle.codec.specs.Code.{payload_data}

-- every field of a header is within its bits, whatever the record
pub record Ranged (h : Header) : Type 0 where
  pub dir : h.dir ≤ 1
  pub address : h.address ≤ 127
  pub service : h.service ≤ 7
  pub rtr : h.rtr ≤ 1
  pub dlc : h.dlc ≤ 15
  pub response : h.response ≤ 3
  pub flag : h.flag ≤ 1
  pub object : h.object ≤ 31

pub ranged : (r : List ℕ) → Ranged (header_of r)
unfolding header_of
ranged r = omega arith

-- a header that check 3 lets pass
pub record Unbarred (h : Header) : Type 0 where
  pub rtr : h.rtr ≡ 1 → ⊥
  pub dlc : h.dlc ≤ 8
  pub address : h.address ≤ 125

pub unbarred : (h : Header) → first_of (header_checks h) ≡ 0 → Unbarred h
unfolding holds_at
unbarred h e =
    let none = (none_holds (header_checks h) refl).0 e in
    let a = (neither (eqb h.rtr 1 || ltb 8 h.dlc) (ltb 125 h.address)).0 (none 3) in
    let b = (neither (eqb h.rtr 1) (ltb 8 h.dlc)).0 a.0 in
    record {
      rtr = eqb-false h.rtr 1 b.0;
      dlc = ltb-false 8 h.dlc b.1;
      address = ltb-false 125 h.address a.1;
    }

-- a long form that check 5 lets pass
pub long_served : (h : Header) → (h.dlc ≡ 0 → ⊥) → unserved h ≡ false → (2 ≤ h.dlc) × (4 ≤ h.service)
long_served h z e =
    let a = (neither (eqb h.dlc 1) (leb 2 h.dlc && ltb h.service 4)).0 e in
    let one = eqb-false h.dlc 1 a.0 in
    let least : 2 ≤ h.dlc = omega arith in
    (least, ltb-false h.service 4 (not_both (leb 2 h.dlc) (ltb h.service 4) a.1 (le-leb 2 h.dlc least)))

-- and one that no check refuses
pub record Long (h : Header) : Type 0 where
  pub least : 2 ≤ h.dlc
  pub most : h.dlc ≤ 8
  pub service : 4 ≤ h.service
  pub flagged : h.flag ≡ 1 → 4 ≤ h.dlc

pub long_of_lem : (h : Header) → first_of (header_checks h) ≡ 0 → (h.dlc ≡ 0 → ⊥) → Long h
unfolding holds_at
long_of_lem h e z =
    let none = (none_holds (header_checks h) refl).0 e in
    let five = long_served h z (none 5) in
    let two = le-leb 2 h.dlc five.0 in
    record {
      least = five.0;
      most = (unbarred h e).dlc;
      service = five.1;
      flagged = λ f. ltb-false h.dlc 4 (not_both (leb 2 h.dlc && eqb h.flag 1) (ltb h.dlc 4) (none 8) (simp (two, eq-eqb h.flag 1 f)));
    }

-- and the other way round
pub long_passes : (h : Header) → barred h ≡ false → 2 ≤ h.dlc → 4 ≤ h.service → (h.flag ≡ 1 → 4 ≤ h.dlc) → first_of (header_checks h) ≡ 0
long_passes h b l s f =
    let one = ne_eqb h.dlc 1 (omega arith) in
    let two = le-leb 2 h.dlc l in
    let four = le-ltb h.service 4 s in
    split (eqb h.flag 1)
    (λ e. simp (b, one, two, four, e, le-ltb h.dlc 4 (f (eqb-true h.flag 1 e))))
    (λ e. simp (b, one, two, four, e))

pub short_passes : (h : Header) → barred h ≡ false → h.dlc ≡ 0 → first_of (header_checks h) ≡ 0
short_passes h b z = simp (b, ne_eqb h.dlc 1 (omega arith), lt-leb 2 h.dlc (omega arith))

-- a record that is read is ten bytes long, and its header passes
pub ten_of : (r : List ℕ) → first_of (read_checks r) ≡ 0 → (length r ≡ 10) × (first_of (header_checks (header_of r)) ≡ 0)
ten_of r e =
    split (eqb (length r) 10)
    (λ t. (eqb-true (length r) 10 t, simp t at e))
    (λ f. let z : ◌≡◌ {A = ℕ} 1 0 = simp f at e in absurd (omega arith))

-- what stands behind the ID of a long form that is read
pub record Payload (r : List ℕ) (p : Data) : Type 0 where
  pub long : Long (header_of r)
  pub len : p.len ≡ (header_of r).dlc - 2
  pub tidied : tidy 6 p ≡ true
  pub bytes : bytes_of p ≡ payload_of r

pub payload_read : (r : List ℕ) → first_of (read_checks r) ≡ 0 → ((header_of r).dlc ≡ 0 → ⊥) → Payload r (payload_data r)
unfolding payload_data data_of
payload_read r e z =
    let t = ten_of r e in
    let l = long_of_lem (header_of r) t.1 z in
    let n : length (payload_of r) ≡ (header_of r).dlc - 2 = simp (length-take, length-drop) (omega (arith, t.0, l.most)) in
    let q : payload_data r ≡ data_of (payload_of r) = simp (eq-eqb (length r) 10 t.0, le-leb (header_of r).dlc 8 l.most) in
    record {
      long = l;
      len = ap (λ (d : Data). d.len) q ∙ n;
      tidied = rw q (tidy_data (payload_of r) (omega (arith, n, l.most)) 6 (omega (arith, n, l.most)));
      bytes = ap bytes_of q ∙ bytes_data (payload_of r) (omega (arith, n, l.most));
    }
