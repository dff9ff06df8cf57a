use Prim.Native.Nat.{ℕ, ◌*◌, ◌≤◌}
use mathlib.Core.Path.{refl}
use native.Mathlib.Nat.{mul-le-mul}
use native.Mathlib.Omega.{arith}
use Rattle.join.proofs.place.start_of.Goals as goal

-- Both factors are bytes, so the product is far below what a usize holds.
bytes-times : (w n : ℕ) → w ≤ 255 → n ≤ 255 → w * n ≤ 255 * 255
bytes-times w n h k = mul-le-mul {n₁ = w} {m₁ = n} {n₂ = 255} {m₂ = 255} h k

pub overflow_mul-result : goal.overflow_mul-result
overflow_mul-result c =
    let a = c.args in
    let small = bytes-times a.width a.number (omega arith) (omega arith) in
    omega (arith, small)

pub returns : goal.returns
returns c =
    let a = c.args in
    record { times = refl; small = bytes-times a.width a.number (omega arith) (omega arith) }
