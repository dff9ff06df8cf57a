-- Lengths that fit and a well-formed table, in words; and what a search in a well-formed table finds.
use Rattle.std.proofs.Common.{Some}
use Prim.Native.Nat.{ℕ, zero, suc, ◌+◌, ◌*◌, ◌%◌, ◌≤◌, ◌<◌}
use mathlib.Core.Path.{◌≡◌, refl, subst}
use mathlib.Core.Bool.{Bool, true, ◌&&◌}
use mathlib.Core.List.{List, [], ◌∷◌}
use mathlib.Core.Logic.{◌↔◌}
use native.Mathlib.Omega.{arith}
use lib.ListN.{length, get_or, take, drop, length-take, length-drop}
use lib.Dec.{eqb}
use borrow.Author.Tests.{leb-true, eqb-true, lt-ltb, le-ltb, le-leb, eq-eqb}
use Rattle.laws.proofs.Tests.{split, halves}
use Rattle.table.specs.declared.Attribute.{Attribute}
use Rattle.table.specs.Descriptor.{boolean_type, type_of, elements_of}
use Rattle.table.specs.Table.{entry_size, most_entries, most_store, lengths_fit, LengthsFit, attributes, network, described, entry_fits, pair_of, end_of, well_from, well_formed, Ordered, WellFormed, first_in, named, find, searched, network_of, first_network, single_boolean, part_of, owner_in}

-- lengths that fit, in words
pub lengths_fit_in_words : (table size : ℕ) → (lengths_fit table size ≡ true) ↔ LengthsFit table size
unfolding lengths_fit
lengths_fit_in_words table size = (
  λ e. let p = halves _ e in
      let q = halves _ p.0 in
      record { whole = eqb-true _ _ q.0; most = leb-true _ _ q.1; store = leb-true _ _ p.1 },
  λ w. simp (eq-eqb (table % entry_size) 0 w.whole, le-leb table (most_entries * entry_size) w.most, le-leb size most_store w.store),
)

-- a record of the table by itself, in words
pub record EntryFits (a : Attribute) : Type 0 where
  pub object : a.object ≤ 31
  pub access : a.access ≤ 7
  pub some : 1 ≤ a.len
  pub short : a.len ≤ 255
  pub described : described a ≡ true

pub entry_fits_lem : (a : Attribute) → entry_fits a ≡ true → EntryFits a
unfolding entry_fits
entry_fits_lem a e =
    let p = halves _ e in
    let q = halves _ p.0 in
    let r = halves _ q.0 in
    let s = halves _ r.0 in
    record {
      object = leb-true _ _ s.0;
      access = leb-true _ _ s.1;
      some = leb-true _ _ r.1;
      short = leb-true _ _ q.1;
      described = p.1;
    }

-- and back: what the descriptor decides of one whose fields are in their ranges
pub fits_by_descriptor : (a : Attribute) → a.object ≤ 31 → a.access ≤ 7 → 1 ≤ a.len → a.len ≤ 255 → entry_fits a ≡ described a
unfolding entry_fits
fits_by_descriptor a o x l m = simp (le-leb a.object 31 o, le-leb a.access 7 x, le-leb 1 a.len l, le-leb a.len 255 m)

-- the first record of a table that is well formed from a place on, and the rest
record Row (least end : ℕ) (a : Attribute) (es : List Attribute) (size : ℕ) : Type 0 where
  fits : entry_fits a ≡ true
  pair : least ≤ pair_of a
  offset : a.offset ≡ end
  rest : well_from (pair_of a + 1) (end_of a) es size ≡ true

row : (least end : ℕ) (a : Attribute) (es : List Attribute) (size : ℕ) → well_from least end (a ∷ es) size ≡ true → Row least end a es size
unfolding well_from
row least end a es size e =
    let p = halves _ e in
    let q = halves _ p.0 in
    let r = halves _ q.0 in
    record { fits = r.0; pair = leb-true _ _ r.1; offset = eqb-true _ _ q.1; rest = p.1 }

-- such a table begins no later than the store ends
ends : (least end : ℕ) (es : List Attribute) (size : ℕ) → well_from least end es size ≡ true → end ≤ size
unfolding well_from
ends least end [] size e = leb-true end size e
ends least end (a ∷ es) size e =
    let p = row least end a es size e in
    let h : end_of a ≤ size = ends (pair_of a + 1) (end_of a) es size p.rest in
    omega (arith, p.offset)

-- ---- the first record that a test takes

pub found_passes : (test : Attribute → Bool) (es : List Attribute) (a : Attribute) → first_in test es ≡ Some a → test a ≡ true
unfolding first_in
found_passes test [] a e = let z : ◌≡◌ {A = ℕ} 0 1 = cc in absurd (omega arith)
found_passes test (x ∷ es) a e =
    split (test x)
    (λ t. let q : x ≡ a = let y : Some x ≡ Some a = simp t at e in cc in rw (← q) t)
    (λ f. found_passes test es a (simp f at e))

-- in a well-formed table it fits by itself, its part stands in the store, and the bytes there are its object's
pub record Placed (es : List Attribute) (size : ℕ) (a : Attribute) : Type 0 where
  pub fits : EntryFits a
  pub inside : end_of a ≤ size
  pub its : (i : ℕ) → a.offset ≤ i → i < end_of a → owner_in es i ≡ a.object

-- from a place on: it stands there or behind
placed_from : (test : Attribute → Bool) (least end : ℕ) (es : List Attribute) (size : ℕ) (a : Attribute) → well_from least end es size ≡ true
    → first_in test es ≡ Some a → (end ≤ a.offset) × Placed es size a
unfolding first_in owner_in
placed_from test least end [] size a w e = let z : ◌≡◌ {A = ℕ} 0 1 = cc in absurd (omega arith)
placed_from test least end (x ∷ es) size a w e =
    let p = row least end x es size w in
    split (test x)
    (λ t.
    let q : x ≡ a = let y : Some x ≡ Some a = simp t at e in cc in
    subst (λ (b : Attribute). (end ≤ b.offset) × Placed (x ∷ es) size b) q (
      omega (arith, p.offset),
      record {
        fits = entry_fits_lem x p.fits;
        inside = ends (pair_of x + 1) (end_of x) es size p.rest;
        its = λ i l h. simp (lt-ltb i (end_of x) h);
      },
    ))
    (λ f.
    let h = placed_from test (pair_of x + 1) (end_of x) es size a p.rest (simp f at e) in (
      omega (arith, h.0, p.offset),
      record {
        fits = h.1.fits;
        inside = h.1.inside;
        its = λ i l k. simp (le-ltb i (end_of x) (omega (arith, h.0))) (h.1.its i l k);
      },
    ))

pub placed : (test : Attribute → Bool) (t : List ℕ) (size : ℕ) (a : Attribute) → well_formed t size ≡ true → first_in test (attributes t) ≡ Some a
    → Placed (attributes t) size a
unfolding well_formed
placed test t size a w e = (placed_from test 0 0 (attributes t) size a w e).1

-- the record of (object, ID)
pub found_placed : (t : List ℕ) (size object id : ℕ) (a : Attribute) → well_formed t size ≡ true → find t object id ≡ Some a
    → Placed (attributes t) size a
unfolding find
found_placed t size object id a w e = placed (named object id) t size a w e

pub found_named : (t : List ℕ) (object id : ℕ) (a : Attribute) → find t object id ≡ Some a → (a.object ≡ object) × (a.id ≡ id)
unfolding find
found_named t object id a e =
    let n = halves _ (found_passes (named object id) (attributes t) a e) in
    (eqb-true _ _ n.0, eqb-true _ _ n.1)

-- in an ordered table the code's search gives that record
pub search_finds : (t : List ℕ) (object id : ℕ) → Ordered t → searched t object id ≡ find t object id
search_finds t object id o = refl

-- the first network record of an object
pub network_placed : (t : List ℕ) (size object : ℕ) (a : Attribute) → well_formed t size ≡ true → first_network t object ≡ Some a
    → Placed (attributes t) size a
unfolding first_network
network_placed t size object a w e = placed (network_of object) t size a w e

pub network_its : (t : List ℕ) (object : ℕ) (a : Attribute) → first_network t object ≡ Some a → (a.object ≡ object) × (network a ≡ true)
unfolding first_network
network_its t object a e =
    let n = halves _ (found_passes (network_of object) (attributes t) a e) in
    (eqb-true _ _ n.1, n.0)

-- a single Boolean takes one byte
pub single_byte : (a : Attribute) → single_boolean a ≡ true → a.len ≡ 1
unfolding single_boolean
single_byte a e = eqb-true a.len 1 (halves (eqb (type_of a.descriptor) boolean_type && eqb (elements_of a.descriptor) 1) e).1

-- ---- well-formedness in words

-- the same, from a least pair and an end on
record InWords (least end : ℕ) (es : List Attribute) (size : ℕ) (d : Attribute) : Type 0 where
  fits : (i : ℕ) → i < length es → entry_fits (get_or es i d) ≡ true
  rises : (i : ℕ) → suc i < length es → pair_of (get_or es i d) < pair_of (get_or es (suc i) d)
  next : (i : ℕ) → suc i < length es → (get_or es (suc i) d).offset ≡ end_of (get_or es i d)
  last : (i : ℕ) → suc i ≡ length es → end_of (get_or es i d) ≤ size
  low : 0 < length es → least ≤ pair_of (get_or es 0 d)
  begins : 0 < length es → (get_or es 0 d).offset ≡ end
  none : length es ≡ 0 → end ≤ size

to_words : (least end : ℕ) (es : List Attribute) (size : ℕ) (d : Attribute) → well_from least end es size ≡ true → InWords least end es size d
to_words least end [] size d e = record {
  fits = λ i h. absurd (omega arith);
  rises = λ i h. absurd (omega arith);
  next = λ i h. absurd (omega arith);
  last = λ i h. absurd (omega arith);
  low = λ h. absurd (omega arith);
  begins = λ h. absurd (omega arith);
  none = λ h. ends least end [] size e;
}
to_words least end (a ∷ es) size d e =
    let p = row least end a es size e in
    let w = to_words (pair_of a + 1) (end_of a) es size d p.rest in
    record {
      fits = elim [ zero ↦ λ h. p.fits | suc i ↦ λ h. w.fits i (omega arith) ];
      rises = elim [ zero ↦ λ h. omega (arith, w.low (omega arith)) | suc i ↦ λ h. w.rises i (omega arith) ];
      next = elim [ zero ↦ λ h. w.begins (omega arith) | suc i ↦ λ h. w.next i (omega arith) ];
      last = elim [ zero ↦ λ h. w.none (omega arith) | suc i ↦ λ h. w.last i (omega arith) ];
      low = λ h. p.pair;
      begins = λ h. p.offset;
      none = λ h. absurd (omega arith);
    }

of_words : (least end : ℕ) (es : List Attribute) (size : ℕ) (d : Attribute) → InWords least end es size d → well_from least end es size ≡ true
unfolding well_from
of_words least end [] size d w = le-leb end size (w.none refl)
of_words least end (a ∷ es) size d w =
    let rest = of_words (pair_of a + 1) (end_of a) es size d
    (record {
      fits = λ i h. w.fits (suc i) (omega arith);
      rises = λ i h. w.rises (suc i) (omega arith);
      next = λ i h. w.next (suc i) (omega arith);
      last = λ i h. w.last (suc i) (omega arith);
      low = λ h. omega (arith, w.rises 0 (omega arith));
      begins = λ h. w.next 0 (omega arith);
      none = λ h. w.last 0 (omega arith);
    }) in
    simp (w.fits 0 (omega arith), le-leb least (pair_of a) (w.low (omega arith)), eq-eqb a.offset end (w.begins (omega arith)), rest)

pub well_formed_in_words : (t : List ℕ) (size : ℕ) (d : Attribute) → (well_formed t size ≡ true) ↔ WellFormed (attributes t) size d
unfolding well_formed
well_formed_in_words t size d = (
  λ e. let w = to_words 0 0 (attributes t) size d e in
      record { fits = w.fits; rises = w.rises; first = w.begins; next = w.next; last = w.last },
  λ w. of_words 0 0 (attributes t) size d (record {
    fits = w.fits;
    rises = w.rises;
    next = w.next;
    last = w.last;
    low = λ h. omega arith;
    begins = w.first;
    none = λ h. omega arith;
  }),
)

-- ---- an attribute's part of a store that has room for it

pub part_is : (a : Attribute) (store : List ℕ) → end_of a ≤ length store → part_of a store ≡ take a.len (drop a.offset store)
unfolding part_of
part_is a store h = simp (le-leb (end_of a) (length store) h)

pub part_whole : (a : Attribute) (store : List ℕ) → end_of a ≤ length store → length (part_of a store) ≡ a.len
part_whole a store h = rw (part_is a store h) (simp (length-take, length-drop) (omega arith))
