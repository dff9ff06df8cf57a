-- What only the code has: the types and the sizes of descriptors as values, a table as its records, and what a search by any test gives.
use Rattle.std.specs.Prelude.{ℕ, ◌≡◌, ◌/◌, Bool, cond, List, length, eqb, Option, Some, None}
use Rattle.std.specs.Simd.{first_chunks}
use Rattle.table.specs.declared.Attribute.{Attribute}
use Rattle.table.specs.declared.descriptor.Kind.{Kind}
use Rattle.table.specs.declared.descriptor.Kind.TheVariants.{Signed, Boolean, Unsigned, Extended, Real, Character}
use Rattle.table.specs.Descriptor.{signed_type, boolean_type, unsigned_type, extended_type, real_type, character_type}
use Rattle.table.specs.Table.{entry_size, attributes, first_in}

-- the whole records of a table, of eight bytes each
abbrev pub records : List ℕ → List (List ℕ)
records t = first_chunks entry_size (length t / entry_size) t

-- it is the first attribute that a test takes, which says so of each
abbrev pub IsFirst : (Attribute → Bool → Type 0) → List ℕ → Option Attribute → Type 0
IsFirst says t found = (test : Attribute → Bool) → ((a : Attribute) (yes : Bool) → says a yes → yes ≡ test a) → found ≡ first_in test (attributes t)

-- a size of a definition, where 0 says that a descriptor is refused
abbrev pub sized : ℕ → Option ℕ
sized n = cond (eqb n 0) None (Some n)

-- the number of a type that is served, and the type of a number
abbrev pub number_of : Kind → ℕ
number_of Signed = signed_type
number_of Boolean = boolean_type
number_of Unsigned = unsigned_type
number_of Extended = extended_type
number_of Real = real_type
number_of Character = character_type

abbrev pub kind_of : ℕ → Option Kind
kind_of n =
    cond (eqb n signed_type)
    (Some Signed)
    (cond (eqb n boolean_type)
    (Some Boolean)
    (cond (eqb n unsigned_type)
    (Some Unsigned)
    (cond (eqb n extended_type)
    (Some Extended)
    (cond (eqb n real_type)
    (Some Real)
    (cond (eqb n character_type)
    (Some Character)
    None)))))
