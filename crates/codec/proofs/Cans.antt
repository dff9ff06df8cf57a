-- The CAN header of a record and the two bytes that hold it: each is read off the other.
use Prim.Native.Nat.{ℕ, ◌+◌, ◌*◌, ◌/◌, ◌%◌, ◌≤◌, ◌<◌}
use mathlib.Core.Path.{◌≡◌}
use mathlib.Core.List.{List, [], ◌∷◌, ◌++◌}
use native.Mathlib.Omega.{arith}
use lib.ListN.{length, take}
use Rattle.laws.specs.Bytes.{Bytes}
use Rattle.codec.specs.declared.Can.{Can}
use Rattle.codec.specs.Fields.{header_of, can_of, can_bytes}
use Rattle.codec.specs.Writing.{can_header}

-- a service type, RTR and a DLC, as one byte and apart
byte_parts : (y : ℕ) → y < 256 → y / 32 % 8 * 32 + y / 16 % 2 * 16 + y / 1 % 16 ≡ y
byte_parts y h = omega arith

module _ (s r d : ℕ) (p : s < 8) (q : r < 2) (e : d < 16) where
  service_part : (s * 32 + r * 16 + d) / 32 % 8 ≡ s
  service_part = omega arith

  rtr_part : (s * 32 + r * 16 + d) / 16 % 2 ≡ r
  rtr_part = omega arith

  dlc_part : (s * 32 + r * 16 + d) / 1 % 16 ≡ d
  dlc_part = omega arith

pub can_back : (r : List ℕ) → Bytes r → 2 ≤ length r → can_bytes (can_of r) ≡ take 2 r
unfolding header_of can_of can_bytes
can_back [] b h = absurd (omega arith)
can_back (x ∷ []) b h = absurd (omega arith)
can_back (x ∷ y ∷ l) b h =
    let p : x < 256 = b 0 in
    let first : (x * 8 + y / 32 % 8) / 8 % 256 ≡ x = omega arith in
    let service : (x * 8 + y / 32 % 8) % 8 ≡ y / 32 % 8 = omega arith in
    let rtr : y / 16 % 2 % 2 ≡ y / 16 % 2 = omega arith in
    let dlc : y / 1 % 16 % 16 ≡ y / 1 % 16 = omega arith in
    simp (first, service, rtr, dlc, byte_parts y (b 1))

pub can_read : (c : Can) (l : List ℕ) → c.identifier < 2048 → c.rtr < 2 → c.dlc < 16 → can_of (can_bytes c ++ l) ≡ c
unfolding header_of can_of can_bytes
can_read c l i r d =
    let high : c.identifier / 8 % 256 ≡ c.identifier / 8 = omega arith in
    let bit : c.rtr % 2 ≡ c.rtr = omega arith in
    let few : c.dlc % 16 ≡ c.dlc = omega arith in
    let low : c.identifier % 8 < 8 = omega arith in
    let whole : c.identifier / 8 * 8 + c.identifier % 8 ≡ c.identifier = omega arith in
    simp (high, bit, few, service_part (c.identifier % 8) c.rtr c.dlc low r d, rtr_part (c.identifier % 8) c.rtr c.dlc low r d, dlc_part (c.identifier % 8) c.rtr c.dlc low r d, whole)

-- what the writer puts is the CAN header of its fields
pub can_header_lem : (dir address service dlc : ℕ) → dir ≤ 1 → address ≤ 127 → service ≤ 7 → dlc ≤ 15
    → can_header dir address service dlc ≡ can_bytes (record { identifier = (dir * 128 + address) * 8 + service; rtr = 0; dlc = dlc })
unfolding can_bytes
can_header_lem dir address service dlc d a s n =
    let first : ((dir * 128 + address) * 8 + service) / 8 % 256 ≡ dir * 128 + address = omega arith in
    let low : ((dir * 128 + address) * 8 + service) % 8 ≡ service = omega arith in
    let few : service * 32 + 0 % 2 * 16 + dlc % 16 ≡ service * 32 + dlc = omega arith in
    simp (first, low, few)
