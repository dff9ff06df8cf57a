use Prim.Native.Nat.{◌+◌, ◌≤◌, ◌<◌}
use mathlib.Core.Path.{◌≡◌, sym, ◌∙◌}
use mathlib.Core.List.{[], ◌∷◌}
use native.Mathlib.Omega.{arith}
use lib.ListN.{length}
use lib.Seq.{sets-eq}
use borrow.Author.Rules.{rules}
use Rattle.laws.specs.Bytes.{byte_at}
use Rattle.laws.specs.Put.{put}
use Rattle.join.specs.Work.{second_key}
use Rattle.join.specs.Code.{keyed_by, fragment}
use Rattle.join.proofs.Parts.{kept_room, by_one, by_two, by_other}
use Rattle.join.proofs.Two.{room_in, one_kept, two_kept}
use Rattle.join.proofs.keeping.keep.Goals as goal

pub put_piece-requires : goal.put_piece-requires
put_piece-requires g c =
    let room = kept_room _ _ _ _ _ (sym c.fits_area.ensures ∙ c.if-fits_area.true) in
    (search rules, room)

pub put_piece-requires-then-fits_record : goal.put_piece-requires-then-fits_record
put_piece-requires-then-fits_record g c =
    let room = room_in _ _ _ _ _ (sym c.fits_record.ensures ∙ c.if-fits_record.true) in
    (search rules, (room.byte, omega (arith, room.inside, room.body_fits)))

pub overflow_add-work : goal.overflow_add-work
overflow_add-work g c =
    let room = room_in _ _ _ _ _ (sym c.fits_record.ensures ∙ c.if-fits_record.true) in
    omega (arith, room.inside)

pub bounds-work-at : goal.bounds-work-at
bounds-work-at g c =
    let room = room_in _ _ _ _ _ (sym c.fits_record.ensures ∙ c.if-fits_record.true) in
    search rules

pub returns-then-piece-lt1 : goal.returns-then-piece-lt1
returns-then-piece-lt1 g c =
    let none : length c.args.piece.now.key < 1 = search rules in
    let a = c.args in
    let p = fragment a.piece.now in
    simp (by_other g.row.K (length a.work.now) a.at a.width p.number (length p.bytes) (λ e. omega arith) (λ e. omega arith))

pub returns-then-fits_area : goal.returns-then-fits_area
returns-then-fits_area g c =
    let a = c.args in
    let p = fragment a.piece.now in
    let one : g.row.K ≡ 1 = omega arith in
    let fits = by_one g.row.K _ _ _ _ _ one ∙ sym c.fits_area.ensures ∙ c.if-fits_area.true in
    simp fits (one_kept (keyed_by g.row.K a.width) a.at p a.work.now _ (omega arith) c.put_piece.ensures)

pub returns-else-fits_area : goal.returns-else-fits_area
returns-else-fits_area g c =
    let one : g.row.K ≡ 1 = omega arith in
    simp (by_one g.row.K _ _ _ _ _ one ∙ sym c.fits_area.ensures ∙ c.if-fits_area.false)

pub returns-then-fits_record : goal.returns-then-fits_record
unfolding put
returns-then-fits_record g c =
    let a = c.args in
    let p = fragment a.piece.now in
    let two : g.row.K ≡ 2 = omega arith in
    let room = room_in _ _ _ _ _ (sym c.fits_record.ensures ∙ c.if-fits_record.true) in
    let fits = by_two g.row.K _ _ _ _ _ two ∙ sym c.fits_record.ensures ∙ c.if-fits_record.true in
    let m = c.put_piece-then-fits_record.new.work in
    let long : length m ≡ length a.work.now = search rules in
    simp fits (two_kept (keyed_by g.row.K a.width) a.at p a.work.now _ _ (omega arith) c.put_piece-then-fits_record.ensures
    (sets-eq (byte_at p.key 1 ∷ []) m (a.at + second_key) (omega (arith, room.inside, long))))

pub returns-else-fits_record : goal.returns-else-fits_record
returns-else-fits_record g c =
    let two : g.row.K ≡ 2 = omega arith in
    simp (by_two g.row.K _ _ _ _ _ two ∙ sym c.fits_record.ensures ∙ c.if-fits_record.false)

pub returns-else-this-lt3 : goal.returns-else-this-lt3
returns-else-this-lt3 g c =
    let many : 3 ≤ length c.args.piece.now.key = search rules in
    let a = c.args in
    let p = fragment a.piece.now in
    simp (by_other g.row.K (length a.work.now) a.at a.width p.number (length p.bytes) (λ e. omega arith) (λ e. omega arith))
