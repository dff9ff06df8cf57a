-- The object table and the store (01, "Object table, store, work area").
use Rattle.std.specs.Prelude.{ℕ, zero, suc, ◌+◌, ◌*◌, ◌/◌, ◌%◌, ◌≤◌, ◌<◌, ◌≡◌, Bool, true, cond, ◌&&◌, List, [], ◌∷◌, length, get_or, take, drop, eqb, leb, ltb, Option, Some, None}
use Rattle.laws.specs.Bytes.{bits, byte_at}
use Rattle.table.specs.declared.Attribute.{Attribute}
use Rattle.table.specs.Descriptor.{boolean_type, type_of, elements_of, descriptor_size}

-- "8-byte records, no header, at most 1,024"
abbrev pub entry_size : ℕ
entry_size = 8

abbrev pub most_entries : ℕ
most_entries = 1024

-- "The store has at most 32,768 bytes"
abbrev pub most_store : ℕ
most_store = 32768

-- the lengths of a table and of a store fit. Check 1 refuses others: "table not a multiple of 8 or over 8,192; store over 32,768"
unfoldable pub lengths_fit : ℕ → ℕ → Bool
lengths_fit table size = eqb (table % entry_size) 0 && leb table (most_entries * entry_size) && leb size most_store

-- the same in words
pub record LengthsFit (table size : ℕ) : Type 0 where
  pub whole : table % entry_size ≡ 0
  pub most : table ≤ most_entries * entry_size
  pub store : size ≤ most_store

-- "low byte first"
abbrev pub word_at : List ℕ → ℕ → ℕ
word_at l i = byte_at l i + 256 * byte_at l (i + 1)

unfoldable pub attribute_of : List ℕ → Attribute
attribute_of e = record {
  object = byte_at e 0;
  id = byte_at e 1;
  access = byte_at e 2;
  len = byte_at e 3;
  offset = word_at e 4;
  descriptor = word_at e 6;
}

-- the first n records of a table, and all of them
abbrev pub attributes_of : ℕ → List ℕ → List Attribute
attributes_of zero t = []
attributes_of (suc n) t = attribute_of t ∷ attributes_of n (drop entry_size t)

unfoldable pub attributes : List ℕ → List Attribute
attributes t = attributes_of (length t / entry_size) t

-- "access: 1 read, 2 write, 4 network data"
abbrev pub readable : Attribute → Bool
readable a = eqb (bits 0 0 a.access) 1

abbrev pub writable : Attribute → Bool
writable a = eqb (bits 1 1 a.access) 1

abbrev pub network : Attribute → Bool
network a = eqb (bits 2 2 a.access) 1

-- "0 unless network data"; "a network record's length is the size of its descriptor" (a refused descriptor has size 0, which no length is)
abbrev pub described : Attribute → Bool
described a = cond (network a) (eqb a.len (descriptor_size a.descriptor)) (eqb a.descriptor 0)

-- a record by itself: "object 0..31", "other bits 0", "length 1..255"
unfoldable pub entry_fits : Attribute → Bool
entry_fits a = leb a.object 31 && leb a.access 7 && leb 1 a.len && leb a.len 255 && described a

-- "pairs (object, ID)", as one number
abbrev pub pair_of : Attribute → ℕ
pair_of a = 256 * a.object + a.id

abbrev pub end_of : Attribute → ℕ
end_of a = a.offset + a.len

-- "pairs (object, ID) strictly rise; the first offset is 0 and each next one is the end of the record before": a record behind others, by the least
-- pair that may come and their end
abbrev pub follows : ℕ → ℕ → Attribute → Bool
follows least end a = entry_fits a && leb least (pair_of a) && eqb a.offset end

-- "Well formed: ..", from a least pair and an end on; "the last end is at most the store's length"
unfoldable pub well_from : ℕ → ℕ → List Attribute → ℕ → Bool
well_from least end [] size = leb end size
well_from least end (a ∷ es) size = follows least end a && well_from (pair_of a + 1) (end_of a) es size

unfoldable pub well_formed : List ℕ → ℕ → Bool
well_formed t size = well_from 0 0 (attributes t) size

-- well formed for a store of some length: what a search may rest on
abbrev pub Ordered : List ℕ → Type 0
Ordered t = (size : ℕ) × (well_formed t size ≡ true)

-- the same in words
pub record WellFormed (es : List Attribute) (size : ℕ) (default : Attribute) : Type 0 where
  pub fits : (i : ℕ) → i < length es → entry_fits (get_or es i default) ≡ true
  pub rises : (i : ℕ) → suc i < length es → pair_of (get_or es i default) < pair_of (get_or es (suc i) default)
  pub first : 0 < length es → (get_or es 0 default).offset ≡ 0
  pub next : (i : ℕ) → suc i < length es → (get_or es (suc i) default).offset ≡ end_of (get_or es i default)
  pub last : (i : ℕ) → suc i ≡ length es → end_of (get_or es i default) ≤ size

-- the first record that a test takes, in every table, well formed or not
unfoldable pub first_in : (Attribute → Bool) → List Attribute → Option Attribute
first_in test [] = None
first_in test (a ∷ es) = cond (test a) (Some a) (first_in test es)

-- the record of an object and an attribute ID (check 9: "no such (object, attribute)")
abbrev pub named : ℕ → ℕ → Attribute → Bool
named object id a = eqb a.object object && eqb a.id id

unfoldable pub find : List ℕ → ℕ → ℕ → Option Attribute
find t object id = first_in (named object id) (attributes t)

-- what the code's search gives, in every table; where the table is ordered this is what `find` gives (`search_finds`), and only there it need be
abbrev pub searched : List ℕ → ℕ → ℕ → Option Attribute
searched t object id = find t object id

-- the first network record of an object (02, 2026-01)
abbrev pub network_of : ℕ → Attribute → Bool
network_of object a = network a && eqb a.object object

unfoldable pub first_network : List ℕ → ℕ → Option Attribute
first_network t object = first_in (network_of object) (attributes t)

-- "a single Boolean (N = 1, one byte)" (02, 2026-01)
unfoldable pub single_boolean : Attribute → Bool
single_boolean a = eqb (type_of a.descriptor) boolean_type && eqb (elements_of a.descriptor) 1 && eqb a.len 1

-- "the attribute's bytes, which the lookup hands back as a part of the caller's store": of the record that `find` gives; empty where it would
-- run past the store's end
unfoldable pub part_of : Attribute → List ℕ → List ℕ
part_of a store = cond (leb (end_of a) (length store)) (take a.len (drop a.offset store)) []

-- whose a byte of the store is: the object of the first record that ends behind it; 32, which is no object, where none does. In a well-formed
-- table that record's part holds the byte
unfoldable pub owner_in : List Attribute → ℕ → ℕ
owner_in [] i = 32
owner_in (a ∷ es) i = cond (ltb i (end_of a)) a.object (owner_in es i)
