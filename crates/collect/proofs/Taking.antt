-- What the joiner's functions leave of a fragment is what 02 says, of what is ready.
use Prim.Native.Nat.{ℕ, ◌+◌, ◌≤◌, ◌<◌}
use mathlib.Core.Path.{◌≡◌, refl, sym, ap, ◌∙◌}
use mathlib.Core.Bool.{Bool, true, false, cond, not, ◌&&◌}
use mathlib.Mathlib.Data.Bool.Basic.{or-eq-false-eq-eq-false-and-eq-false as neither}
use mathlib.Core.List.{List, []}
use native.Mathlib.Omega.{arith}
use lib.ListN.{length}
use lib.Dec.{eqb, ltb}
use borrow.Author.Tests.{not-false, ltb-false, lt-ltb}
use Rattle.laws.proofs.Tests.{split}
use Rattle.octets.specs.declared.Data.{Data}
use Rattle.octets.specs.Data.{most_data}
use Rattle.octets.proofs.Datas.{bytes_counted}
use Rattle.codec.specs.declared.Subject.{Subject}
use Rattle.codec.specs.Names.{most_fragment_data}
use Rattle.join.specs.Work.{record_size, data_size, base, Piece, load, filling, kept, done, shaped_by, last, astray, joined, dropped, area_after}
use Rattle.join.specs.History.{ShapedBy, Fit}
use Rattle.join.specs.Code.{record_fits, key_fits, keyed_by}
use Rattle.join.proofs.Joins.{shaped_by_in_words, number_most}
use Rattle.join.proofs.Records.{data_room}
use Rattle.join.proofs.Parts.{by_two}
use Rattle.join.proofs.Two.{in_room}
use Rattle.collect.specs.declared.Value.{Value}
use Rattle.std.specs.Prelude.{Option, None}
use Rattle.collect.specs.Checks.{wrong_piece, joiner, piece_of}
use Rattle.collect.specs.Step.{Answer, gives, piece, filling_in, joined_in, answer_to, work_after}
use Rattle.collect.specs.Code.{Placed, Ready, taken_value, taken_work}

-- each guest's record is inside the work area
pub guest_inside : (size guest : ℕ) → Placed size guest → base guest + record_size ≤ size
guest_inside size guest p = omega (arith, p.sized, p.below)

-- what check 5 leaves of a fragment
pub record Right (total number len : ℕ) : Type 0 where
  pub shaped : ShapedBy most_fragment_data total number len
  pub room : total ≤ data_size
  pub few : len ≤ most_data
  pub byte : number < 255

pub right : (total number len : ℕ) → wrong_piece total number len ≡ false → Right total number len
right total number len e =
    let n = (neither (not (shaped_by most_fragment_data total number len)) (ltb data_size total)).0 e in
    let s = (shaped_by_in_words most_fragment_data total number len).0 (not-false _ n.0) in
    let t = ltb-false data_size total n.1 in
    record { shaped = s; room = t; few = omega (arith, s.fit); byte = omega (arith, number_most most_fragment_data 63 total number len (omega arith) t s) }

-- so it fits a record
pub fits_by : (p : Piece) → length p.key ≡ 2 → wrong_piece p.total p.number (length p.bytes) ≡ false → Fit joiner p
fits_by p k e =
    let r = right p.total p.number (length p.bytes) e in
    record { shaped = r.shaped; room = r.room; keyed = k; at_most_two = omega arith }

pub fits : (u : Subject) (number total : ℕ) (b : Data) → wrong_piece total number b.len ≡ false → Fit joiner (piece_of u number total b)
fits u number total b e =
    let r = right total number b.len e in
    fits_by (piece_of u number total b) refl (rw (bytes_counted b r.few) e)

module _ (u : Subject) (p : Piece) (work : List ℕ) (z : Ready (length work) u p) where
  its_fit : Fit joiner p
  its_fit = fits_by p (ap length z.keyed) z.right

  in_record : record_fits (length work) (base u.address) most_fragment_data p.number (length p.bytes) ≡ true
  in_record =
      in_room (length work) (base u.address) most_fragment_data p.number (length p.bytes)
      (record {
        byte = (right p.total p.number (length p.bytes) z.right).byte;
        inside = guest_inside (length work) u.address z.placed;
        body_fits = data_room joiner p its_fit;
      })

  module _ (at : ℕ) (ae : at ≡ base u.address) (m : List ℕ) where
    pub finished_work : last joiner p ≡ true
        → m ≡ cond (record_fits (length work) at most_fragment_data p.number (length p.bytes)) (area_after joiner at p (done []) work) work
        → m ≡ taken_work u p work
    unfolding taken_work area_after
    finished_work l f = f ∙ rw ae (simp (in_record, l))

    pub kept_work : last joiner p ≡ false
        → m ≡ cond (key_fits 2 (length work) at most_fragment_data p.number (length p.bytes)) (area_after (keyed_by 2 most_fragment_data) at p kept work) work
        → m ≡ taken_work u p work
    unfolding taken_work area_after
    kept_work l f = f ∙ rw (ae, by_two 2 (length work) (base u.address) most_fragment_data p.number (length p.bytes) refl) (simp (in_record, l))

  -- ---- the fragment joined

  module _ (at : ℕ) (ae : at ≡ base u.address) (strays : Bool)
      (se : strays ≡ astray (keyed_by 2 most_fragment_data) (load (keyed_by 2 most_fragment_data) at work) p) where
    fills : filling_in work u.address ≡ filling joiner (load joiner at work)
    unfolding filling_in
    fills = rw (← ae)

    in_order : (t : Bool) → strays ≡ t → astray joiner (load joiner (base u.address) work) p ≡ t
    unfolding astray load
    in_order t q = ap (λ (n : ℕ). astray joiner (load joiner n work) p) (sym ae) ∙ sym se ∙ q

    pub lost_join : strays ≡ true → (filled : Bool) → filled ≡ filling joiner (load joiner at work) → (c : Answer) → c ≡ gives 6 None filled
        → (m : List ℕ) → m ≡ cond (ltb at (length work)) (dropped at work) work
        → (c ≡ answer_to (piece u p) work) × (m ≡ work_after (piece u p) work)
    unfolding answer_to work_after joined_in joined area_after
    lost_join t filled fe c ce m me =
        let a = in_order true t in (
          ce ∙ rw fe (simp (fills, a)),
          me ∙ simp (lt-ltb at (length work) (omega (arith, ae, guest_inside (length work) u.address z.placed))) (rw ae (simp a)),
        )

    pub taken_join : strays ≡ false → (d : Bool) → d ≡ (filling joiner (load joiner at work) && eqb p.number 0) → (v : Option Value) → v ≡ taken_value u p
        → (m : List ℕ) → m ≡ taken_work u p work
        → (gives 0 v d ≡ answer_to (piece u p) work) × (m ≡ work_after (piece u p) work)
    unfolding answer_to work_after joined_in joined area_after taken_value taken_work
    taken_join f d de v ve m me =
        let a = in_order false f in
        split (last joiner p)
        (λ l. (rw (de, ve) (simp (fills, a, l)), me ∙ simp (a, l)))
        (λ l. (rw (de, ve) (simp (fills, a, l)), me ∙ simp (a, l)))
