use mathlib.Core.Path.{refl, sym, ap, ◌∙◌}
use Rattle.candump.specs.Text.{space}
use Rattle.candump.specs.Importing.{is_time, is_interface, frame_imported}
use Rattle.candump.proofs.Cuts.{split_front, split_behind, split_none}
use Rattle.candump.proofs.Parts.{too_long, bad_time, bad_interface, no_interface, no_frame_part, line_frame}
use Rattle.candump.proofs.importing.import_line.Goals as goal

pub returns-then-line-gt-MOST_LINE : goal.returns-then-line-gt-MOST_LINE
returns-then-line-gt-MOST_LINE c = too_long c.args.line.now c.if-line-gt-MOST_LINE.true

pub returns-then-not-is_time : goal.returns-then-not-is_time
returns-then-not-is_time c =
    let l = c.args.line.now in
    let time = split_front space l l _ _ refl c.place_of.ensures c.split_at.ensures.front in
    bad_time l c.if-line-gt-MOST_LINE.false (ap is_time (sym time) ∙ sym c.is_time.ensures ∙ c.if-not-is_time.true)

pub returns-in_default : goal.returns-in_default
returns-in_default c =
    let l = c.args.line.now in
    no_interface l c.if-line-gt-MOST_LINE.false (split_none space l l _ _ refl c.place_of.ensures c.split_at.ensures.back c.in_default.len_below)

pub returns-then-not-is_interface : goal.returns-then-not-is_interface
returns-then-not-is_interface c =
    let l = c.args.line.now in
    let rest = split_behind space l l _ _ refl c.place_of.ensures c.split_at.ensures.back in
    let name = split_front space _ _ _ _ rest c.place_of-2.ensures c.split_at-2.ensures.front in
    bad_interface l c.if-line-gt-MOST_LINE.false (ap is_interface (sym name) ∙ sym c.is_interface.ensures ∙ c.if-not-is_interface.true)

pub returns-in_default-from : goal.returns-in_default-from
returns-in_default-from c =
    let l = c.args.line.now in
    let time = split_front space l l _ _ refl c.place_of.ensures c.split_at.ensures.front in
    let rest = split_behind space l l _ _ refl c.place_of.ensures c.split_at.ensures.back in
    let name = split_front space _ _ _ _ rest c.place_of-2.ensures c.split_at-2.ensures.front in
    no_frame_part l c.if-line-gt-MOST_LINE.false (ap is_time (sym time) ∙ sym c.is_time.ensures ∙ c.if-not-is_time.false)
    (ap is_interface (sym name) ∙ sym c.is_interface.ensures ∙ c.if-not-is_interface.false)
    (split_none space _ _ _ _ rest c.place_of-2.ensures c.split_at-2.ensures.back c.in_default-from.len_below)

pub returns : goal.returns
returns c =
    let l = c.args.line.now in
    let time = split_front space l l _ _ refl c.place_of.ensures c.split_at.ensures.front in
    let rest = split_behind space l l _ _ refl c.place_of.ensures c.split_at.ensures.back in
    let name = split_front space _ _ _ _ rest c.place_of-2.ensures c.split_at-2.ensures.front in
    let frame = split_behind space _ _ _ _ rest c.place_of-2.ensures c.split_at-2.ensures.back in
    c.import_frame.ensures
    ∙ ap frame_imported frame
    ∙ line_frame l c.if-line-gt-MOST_LINE.false (ap is_time (sym time) ∙ sym c.is_time.ensures ∙ c.if-not-is_time.false)
    (ap is_interface (sym name) ∙ sym c.is_interface.ensures ∙ c.if-not-is_interface.false)
