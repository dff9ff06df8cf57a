-- Data: up to six bytes as a value.
use Rattle.std.specs.Prelude.{ℕ, Bool, ◌&&◌, List, [], ◌∷◌, length, take, drop, leb}
use Rattle.std.proofs.Math.Path.{refl}
use Rattle.laws.specs.Bytes.{byte_at, zeros}
use Rattle.octets.specs.declared.Data.{Data}

-- "The Data field holds up to 6 bytes." (000, 3.2.2.2.1.2; figure 3.13: a DLC of at most 8 counts byte 2 and the ID too)
abbrev pub most_data : ℕ
most_data = 6

-- six places, from those of a list on: 0 where it has none
abbrev pub six : List ℕ → List ℕ
six l = byte_at l 0 ∷ byte_at l 1 ∷ byte_at l 2 ∷ byte_at l 3 ∷ byte_at l 4 ∷ byte_at l 5 ∷ []

-- up to six bytes; the places that they do not use hold 0
unfoldable pub data_of : List ℕ → Data
data_of l = record { len = length l; places = six l; six = refl }

-- the six places of data, and the bytes among them that count
abbrev pub places_of : Data → List ℕ
places_of d = six d.places

unfoldable pub bytes_of : Data → List ℕ
bytes_of d = take d.len (places_of d)

-- at most so many bytes, and 0 in each place that they do not use
unfoldable pub tidy : ℕ → Data → Bool
tidy most d = leb d.len most && zeros (drop d.len (places_of d))
