-- What the entry points answer and leave, from what the calls below them give.
use Prim.Native.Nat.{ℕ, ◌+◌, ◌*◌, ◌≤◌}
use mathlib.Core.Path.{◌≡◌, refl, ◌∙◌}
use mathlib.Core.List.{List, ◌++◌}
use native.Mathlib.Omega.{arith}
use lib.ListN.{length, take, drop}
use borrow.Author.Tests.{eq-eqb, ne_eqb}
use Rattle.octets.proofs.Copies.{copied_whole}
use Rattle.codec.specs.Names.{frame_size}
use Rattle.candump.specs.Importing.{Imported, import_of}
use Rattle.candump.specs.Exporting.{Put, put_of}
use Rattle.candump.proofs.Promises.{import_size, put_small}
use Rattle.sds_host.specs.Border.{border_import_number, border_import, border_export_answer}

module _ (l r : List ℕ) where
  abbrev Left : ℕ → List ℕ → Type 0
  Left n x = (n ≡ border_import_number l r) × (x ≡ border_import l r)

  pub no_record : (length r ≡ frame_size → ⊥) → Left 5 r
  unfolding border_import_number border_import
  no_record h = let f = ne_eqb (length r) frame_size h in (simp f, simp f)

  module _ (ten : length r ≡ frame_size) (got : Imported) (e : got ≡ import_of l) where
    pub not_imported_lem : (got.number ≡ 0 → ⊥) → Left got.number r
    unfolding border_import_number border_import
    not_imported_lem h =
        let t = eq-eqb (length r) frame_size ten in
        (simp (t, ← e), simp (t, ← e, ne_eqb got.number 0 h))

    pub imported : got.number ≡ 0 → (x : List ℕ) → x ≡ take (length r) got.frame ++ drop (length got.frame) r → Left 0 x
    unfolding border_import_number border_import
    imported z x f =
        let t = eq-eqb (length r) frame_size ten in
        let n : length got.frame ≡ frame_size = rw e (import_size l) in
        (simp (t, ← e, z), f ∙ copied_whole got.frame r (omega arith) ∙ simp (t, ← e, z))

-- a number and a length are small
pub put_fits : (r l : List ℕ) (p : Put) → p ≡ put_of r l → (p.number ≤ 3) × (p.len ≤ 36)
put_fits r l p e = rw e (put_small r l)

-- and make the answer
pub put_shown : (r l : List ℕ) (p : Put) → p ≡ put_of r l → p.number + 256 * p.len ≡ border_export_answer r l
unfolding border_export_answer
put_shown r l p e = rw e refl
