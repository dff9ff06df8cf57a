-- A table as its records: what the definitions say of its bytes, said of them.
use Prim.Native.Nat.{ℕ, zero, suc, ◌+◌, ◌/◌, ◌<◌, ◌≤◌}
use mathlib.Core.Path.{◌≡◌, refl, ap}
use mathlib.Core.Bool.{Bool, true, cond, ◌&&◌}
use mathlib.Core.List.{List, [], ◌∷◌, map}
use native.Mathlib.Omega.{arith}
use lib.ListN.{length, get_or, take, drop, drop_of_length-le}
use lib.Dec.{leb}
use borrow.Author.Tests.{le-leb}
use lib.Seq.{get_or-take, drop-cons}
use Rattle.std.proofs.Common.{Option, Some}
use Rattle.std.specs.List.{find}
use Rattle.std.specs.Simd.{first_chunks}
use Rattle.table.specs.declared.Attribute.{Attribute}
use Rattle.table.specs.Code.{records}
use Rattle.table.specs.Table.{entry_size, attribute_of, attributes_of, attributes, pair_of, end_of, follows, well_from, well_formed, first_in}

-- a record is the front of what stands at its place
front : (t : List ℕ) → attribute_of (take entry_size t) ≡ attribute_of t
unfolding attribute_of
front t =
    simp (get_or-take entry_size t 0 0 (omega arith), get_or-take entry_size t 1 0 (omega arith), get_or-take entry_size t 2 0 (omega arith), get_or-take entry_size t 3 0 (omega arith), get_or-take entry_size t 4 0 (omega arith), get_or-take entry_size t 5 0 (omega arith), get_or-take entry_size t 6 0 (omega arith), get_or-take entry_size t 7 0 (omega arith))

said : (n : ℕ) (t : List ℕ) → map attribute_of (first_chunks entry_size n t) ≡ attributes_of n t
said zero t = refl
said (suc n) t = rw (front t, said n (drop entry_size t))

pub attributes_said : (t : List ℕ) → map attribute_of (records t) ≡ attributes t
unfolding attributes
attributes_said t = said (length t / entry_size) t

-- the first that a test takes, in std's words
pub first_found : (test : Attribute → Bool) (es : List Attribute) → find test es ≡ first_in test es
unfolding first_in
first_found test [] = refl
first_found test (a ∷ es) = ap (λ (f : Option Attribute). cond (test a) (Some a) f) (first_found test es)

-- a pass over the records: at one of them, and behind the last
pub well_turn : (rs : List (List ℕ)) (i : ℕ) (a : Attribute) → i < length rs → a ≡ attribute_of (get_or rs i []) → (least end size : ℕ) (b : Bool)
    → follows least end a ≡ b
    → well_from least end (map attribute_of (drop i rs)) size ≡ (b && well_from (pair_of a + 1) (end_of a) (map attribute_of (drop (i + 1) rs)) size)
unfolding well_from
well_turn rs i a h e least end size b y =
    let k : suc i ≡ i + 1 = omega arith in
    rw (drop-cons rs i [] h, ← e, y, ← k)

pub well_ends : (rs : List (List ℕ)) (i : ℕ) → length rs ≤ i → (least end size : ℕ) → well_from least end (map attribute_of (drop i rs)) size ≡ leb end size
unfolding well_from
well_ends rs i h least end size = rw (drop_of_length-le rs {i = i} h) refl

-- a table without records is well formed
pub none_well : (t : List ℕ) (size : ℕ) → length t < entry_size → well_formed t size ≡ true
unfolding well_formed attributes well_from
none_well t size h = let z : length t / entry_size ≡ 0 = omega arith in rw z (le-leb 0 size (omega arith))
