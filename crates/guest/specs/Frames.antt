-- The frames of a reply, as a host reads them.
use Rattle.std.specs.Prelude.{ℕ, ◌≡◌, List, [], ◌∷◌, ◌++◌, length, Result, Ok, Err}
use Rattle.octets.specs.Data.{bytes_of}
use Rattle.codec.specs.declared.Message.{Message}
use Rattle.codec.specs.declared.Message.TheVariants.{Short, Plain, Fragment}
use Rattle.codec.specs.Reading.{read_of}

-- each frame is a record of ten bytes
abbrev pub Tens : List (List ℕ) → Type 0
Tens [] = Unit {0}
Tens (f ∷ fs) = (length f ≡ 10) × Tens fs

-- the data that a frame carries
abbrev pub data_of_message : Message → List ℕ
data_of_message (Short dir address service) = []
data_of_message (Plain u b) = bytes_of b
data_of_message (Fragment u number total b) = bytes_of b

abbrev pub data_of_answer : Result Message ℕ → List ℕ
data_of_answer (Ok m) = data_of_message m
data_of_answer (Err n) = []

-- the data of frames, one behind the other, each read by the codec
abbrev pub data_of_frames : List (List ℕ) → List ℕ
data_of_frames [] = []
data_of_frames (f ∷ fs) = data_of_answer (read_of f) ++ data_of_frames fs
