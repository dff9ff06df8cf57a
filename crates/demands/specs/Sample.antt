-- The sample device (01, "Sample device"): "Address 9, store 67 bytes, four records".
use Rattle.std.specs.Prelude.{ℕ, List, [], ◌∷◌, replicate}
use Rattle.join.specs.Work.{area_size}
use Rattle.guest.specs.Checks.{Setting, least_out}
use Rattle.guest.specs.Step.{Areas, areas, Call, call, setting}

unfoldable pub sample_table : List ℕ
sample_table =
    0x02 ∷ 0x12 ∷ 0x05 ∷ 0x01 ∷ 0x00 ∷ 0x00 ∷ 0x00 ∷ 0x01
    ∷ 0x02 ∷ 0x38 ∷ 0x07 ∷ 0x20 ∷ 0x01 ∷ 0x00 ∷ 0x3F ∷ 0x07
    ∷ 0x03 ∷ 0x0A ∷ 0x03 ∷ 0x02 ∷ 0x21 ∷ 0x00 ∷ 0x00 ∷ 0x00
    ∷ 0x03 ∷ 0x38 ∷ 0x07 ∷ 0x20 ∷ 0x23 ∷ 0x00 ∷ 0x3F ∷ 0x07 ∷ []

-- lent whole: 67 bytes of store, the work area, room for 64 frames
unfoldable pub fresh : Areas
fresh = areas (replicate 67 0) (replicate area_size 0)

unfoldable pub fresh_out : List ℕ
fresh_out = replicate least_out 0

-- a frame sent to it
abbrev pub to_sample : List ℕ → Call
to_sample r = call r 9 sample_table fresh fresh_out

-- and what it is to every frame
unfoldable pub sample : Setting
sample = setting 9 sample_table fresh fresh_out
