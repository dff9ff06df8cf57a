-- Worked examples of 000 against the names of its tables, computed.
use mathlib.Core.Path.{◌≡◌, refl}
use mathlib.Core.List.{[], ◌∷◌, map}
use Rattle.codec.specs.Names.{write_service, read_service, request, successful}
use Rattle.codec.specs.Fields.{header_of}

-- 5.2.1.1 is a Read Request and 5.2.1.2 its Successful Response; 5.2.2.1 and 5.2.2.2 the same of a Write
pub named_services : map (λ r. (header_of r).service) ((0x10 ∷ 0xA2 ∷ []) ∷ (0x90 ∷ 0xA3 ∷ []) ∷ (0x4C ∷ 0x83 ∷ []) ∷ (0xCC ∷ 0x82 ∷ []) ∷ [])
    ≡ read_service ∷ read_service ∷ write_service ∷ write_service ∷ []
unfolding header_of
named_services = refl

pub named_responses : map (λ r. (header_of r).response)
    ((0x10 ∷ 0xA2 ∷ 0x00 ∷ []) ∷ (0x90 ∷ 0xA3 ∷ 0x40 ∷ []) ∷ (0x4C ∷ 0x83 ∷ 0x03 ∷ []) ∷ (0xCC ∷ 0x82 ∷ 0x43 ∷ []) ∷ [])
    ≡ request ∷ successful ∷ request ∷ successful ∷ []
unfolding header_of
named_responses = refl
