use Prim.Native.Nat.{◌≤◌}
use mathlib.Core.Path.{refl, ap, ◌∙◌}
use mathlib.Core.Bool.{false}
use native.Mathlib.Omega.{arith}
use lib.ListN.{drop}
use Rattle.laws.specs.Bytes.{byte_at}
use Rattle.octets.specs.Data.{data_of}
use Rattle.codec.specs.Names.{most_fragment_data}
use Rattle.codec.specs.Reading.{subject_of}
use Rattle.join.specs.Work.{data_size, shaped_by}
use Rattle.collect.specs.Step.{answer_to, work_after}
use Rattle.collect.proofs.Groups.{without_total, of_wrong_shape, shaped_as, len_is, rest_ready, rest_judged}
use Rattle.collect.proofs.collecting.fragment.Goals as goal

pub returns-then-total-eq0 : goal.returns-then-total-eq0
unfolding answer_to work_after
returns-then-total-eq0 c =
    let a = c.args in
    let p = a.payload.now in
    rw (without_total (subject_of a.h) (byte_at p 0) (byte_at p 1) (data_of (drop 2 p)) c.if-total-eq0.true) (c.refused.ensures, refl)

pub returns-then-not-is_shaped : goal.returns-then-not-is_shaped
unfolding answer_to work_after
returns-then-not-is_shaped c =
    let a = c.args in
    let p = a.payload.now in
    let all = len_is p c.requires.1 _ c.min-len.ensures in
    let wrong = shaped_as (byte_at p 1) (byte_at p 0) p _ (c.is_shaped.ensures ∙ ap (shaped_by most_fragment_data (byte_at p 1) (byte_at p 0)) all)
    false c.if-not-is_shaped.true in
    rw (of_wrong_shape (subject_of a.h) (byte_at p 0) (byte_at p 1) (data_of (drop 2 p)) c.if-total-eq0.false wrong) (c.refused-then-not-is_shaped.ensures, refl)

pub join_piece-requires : goal.join_piece-requires
join_piece-requires c =
    let a = c.args in
    let p = a.payload.now in
    let byte : byte_at p 1 ≤ data_size = omega (arith, c.type_inv.payload 1) in
    rest_ready p c.requires.1 _ c.min-len.ensures (subject_of a.h) byte _ c.is_shaped.ensures c.if-not-is_shaped.false _ c.requires.0

pub returns : goal.returns
returns c =
    let a = c.args in
    let p = a.payload.now in
    let byte : byte_at p 1 ≤ data_size = omega (arith, c.type_inv.payload 1) in
    rw (rest_judged p c.requires.1 _ c.min-len.ensures (subject_of a.h) byte _ c.is_shaped.ensures c.if-not-is_shaped.false c.if-total-eq0.false) c.join_piece.ensures
