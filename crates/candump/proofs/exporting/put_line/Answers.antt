use Rattle.candump.proofs.Texts.{not_ten, too_much, no_room, line_put}
use native.Mathlib.Omega.{arith}
use Prim.Native.Nat.{ℕ}
use mathlib.Core.Path.{refl, ap, ◌∙◌}
use mathlib.Core.List.{List, ◌++◌}
use lib.ListN.{length, drop}
use Rattle.std.proofs.lemmas.List.{take_all}
use Rattle.candump.proofs.exporting.put_line.Goals as goal

pub returns-then-frame-ne-FRAME_SIZE : goal.returns-then-frame-ne-FRAME_SIZE
returns-then-frame-ne-FRAME_SIZE c = let x = c.args in not_ten x.frame.now x.line.now c.if-frame-ne-FRAME_SIZE.true

pub returns-then-can-gt-MOST_DLC : goal.returns-then-can-gt-MOST_DLC
returns-then-can-gt-MOST_DLC c =
    let x = c.args in
    too_much x.frame.now x.line.now c.if-frame-ne-FRAME_SIZE.false c.can_of-can.result c.can_of-can.ensures c.if-can-gt-MOST_DLC.true

pub returns-then-line-lt-LINE_ROOM : goal.returns-then-line-lt-LINE_ROOM
returns-then-line-lt-LINE_ROOM c =
    let x = c.args in
    no_room x.frame.now x.line.now c.if-frame-ne-FRAME_SIZE.false c.can_of-can.result c.can_of-can.ensures c.if-can-gt-MOST_DLC.false c.if-line-lt-LINE_ROOM.true

pub returns : goal.returns
returns c =
    let x = c.args in
    line_put x.frame.now x.line.now c.if-frame-ne-FRAME_SIZE.false c.can_of-can.result c.can_of-can.ensures c.if-can-gt-MOST_DLC.false c.if-line-lt-LINE_ROOM.false _ refl _
    (c.copy.ensures ∙ ap (λ (t : List ℕ). t ++ drop 16 x.line.now) (take_all (length x.line.now) _ (omega (arith, c.if-line-lt-LINE_ROOM.false)))) _ _ c.put_text.ensures.count c.put_text.ensures.front
