-- The cases marked P of the scope page and its two tags by turns (01, "Sample device"), and a photo-eye's examples of 000, by computation.
use mathlib.Core.Path.{◌≡◌, refl}
use mathlib.Core.List.{[], ◌∷◌, map, flat_map}
use lib.ListN.{take}
use Rattle.laws.specs.Bytes.{up_from}
use Rattle.laws.specs.Put.{put}
use Rattle.laws.specs.Mixing.{run, trace}
use Rattle.octets.specs.Data.{data_of, bytes_of}
use Rattle.codec.specs.Fields.{header_of}
use Rattle.codec.specs.Reading.{long_of, message_of}
use Rattle.codec.specs.Writing.{long_frame, frame_of, image_of}
use Rattle.table.specs.Descriptor.{size_by, descriptor_size}
use Rattle.table.specs.Table.{attribute_of, lengths_fit, attributes, entry_fits, well_from, well_formed, first_in, find, first_network, single_boolean}
use Rattle.join.specs.Work.{load, shaped_by, astray, joined, area_after}
use Rattle.guest.specs.Checks.{sought_in}
use Rattle.guest.specs.Errors.{code_of}
use Rattle.guest.specs.Step.{judged_of, joined_in, perform, areas, error_frame, success_frame, short_frame, reply, reply_to, next, answer}
use Rattle.demands.specs.Sample.{sample_table, fresh, fresh_out, sample}
use Rattle.demands.specs.Cases.{cases, descriptors, played, expected, by_turns, eye_table, eye_fresh, eye, write_on_to36, write_off_to36, write_on_ack_from36, write_off_ack_from36}

-- what computes here: `unfolding computing` unfolds all that its own line names
unfoldable pub computing : Unit {0}
unfolding put header_of data_of long_of message_of bytes_of long_frame frame_of image_of size_by descriptor_size attribute_of lengths_fit attributes entry_fits well_from well_formed first_in find first_network single_boolean sought_in load shaped_by astray joined area_after judged_of joined_in perform code_of error_frame success_frame short_frame reply_to sample_table fresh fresh_out sample flat_map
computing = tt

-- "Cases marked P go together as a single tabled statement about the definitions": P1 to P11, and P12
pub cases_hold : (map played cases ≡ map expected cases) × (map (λ d. descriptor_size d.0) descriptors ≡ map (λ d. d.1) descriptors)
unfolding computing cases descriptors
cases_hold = (refl, refl)

-- "both tags written", object 2's at 1 and object 3's at 35; and nothing of either shows before its last fragment
pub tags_by_turns :
    ((run (next sample) by_turns fresh).store ≡ put (put fresh.store 1 (up_from 0x41 32)) 35 (up_from 0x61 32))
    × ((run (next sample) (take 14 by_turns) fresh).store ≡ fresh.store)
unfolding computing by_turns
tags_by_turns = (refl, refl)

-- 000, 5.1.3 and 5.1.4, and the same for OFF: the answers, and what the store holds after the first and after both
pub eye_switches :
    (map (λ t. t.1) (trace (next eye) (answer eye) (write_on_to36 ∷ write_off_to36 ∷ []) eye_fresh)
    ≡ reply 0 (write_on_ack_from36 ∷ []) ∷ reply 0 (write_off_ack_from36 ∷ []) ∷ [])
    × (run (next eye) (write_on_to36 ∷ []) eye_fresh ≡ areas (0x01 ∷ []) eye_fresh.work)
    × (run (next eye) (write_on_to36 ∷ write_off_to36 ∷ []) eye_fresh ≡ areas (0x00 ∷ []) eye_fresh.work)
unfolding computing eye_table eye_fresh eye
eye_switches = (refl, refl, refl)
