use Rattle.std.specs.Iterator.Adapters.{enumerate_count}
use Prim.Native.Nat.{ℕ, ◌+◌, ◌*◌, ◌/◌}
use mathlib.Core.List.{List}
use mathlib.Core.Path.{◌≡◌, ap, ◌∙◌}
use native.Mathlib.Omega.{arith}
use lib.ListN.{length}
use Rattle.laws.specs.Put.{put}
use Rattle.codec.specs.Names.{frame_size}
use Rattle.guest.specs.Checks.{fragment_bytes}
use Rattle.guest.specs.Step.{fragment_frame, fragment_frames, sent}
use Rattle.answers.proofs.Sending.{fragments_none, fragments_more, cut_begun, cut_room, cut_part, cut_next, cut_all}
use Rattle.answers.proofs.answering.send_fragments.Goals as goal

pub loop-n-init : goal.loop-n-init
loop-n-init c =
    let a = c.args in
    rw (c.into_iter-n-iterator.ensures.into_iter_gives, c.enumerate-n-items.ensures.source, c.enumerate-n-items.ensures.count, c.chunks_exact.ensures.rest)
    record { fours = c.chunks_exact.ensures.size; cut = cut_begun a.part.now; sends = fragments_none a.about a.part.now a.out.now }

pub send_full-requires : goal.send_full-requires
send_full-requires c =
    let i = c.loop-n.invariant in
    let turn = c.in-Some.ensures.steps in
    let four = turn.0.1.1 ∙ i.fours in
    let room = cut_room c.args.part.now _ _ _ _ i.cut turn.0.1.0 four in (
      record { subject = c.requires.0; number = omega (arith, room, turn.1, c.requires.1); whole = c.requires.1; room = omega (arith, room, turn.1, c.requires, c.loop-n.auto.out) },
      four,
    )

pub loop-n-preserved : goal.loop-n-preserved
unfolding fragment_frame
loop-n-preserved c =
    let a = c.args in
    let i = c.loop-n.invariant in
    let turn = c.in-Some.ensures.steps in
    let n = enumerate_count c.loop-n.n-iterator in
    let four = turn.0.1.1 ∙ i.fours in
    let room = cut_room a.part.now _ _ _ _ i.cut turn.0.1.0 four in
    rw turn.2
    record {
      fours = turn.0.0 ∙ i.fours;
      cut = cut_next a.part.now _ _ _ _ i.cut turn.0.1.0 four;
      sends =
          c.send_full.ensures ∙ rw (turn.1, cut_part a.part.now _ _ _ _ i.cut turn.0.1.0 four)
          (ap (λ (o : List ℕ). put o (n * frame_size) (fragment_frame a.about a.part.now n)) i.sends
          ∙ fragments_more a.about a.part.now a.out.now n (omega (arith, room, c.requires)));
    }

pub send_rest-requires : goal.send_rest-requires
send_rest-requires c = (
  record { subject = c.requires.0; number = omega (arith, c.requires.1); whole = c.requires.1; room = omega (arith, c.loop-n.auto.out, c.if-full-count.true, c.requires) },
  omega arith,
  omega arith,
)

pub returns-then-full-count : goal.returns-then-full-count
returns-then-full-count c =
    let a = c.args in
    let i = c.loop-n.invariant in
    let full = length a.part.now / fragment_bytes in
    let n = cut_all a.part.now _ _ i.cut (omega (arith, c.in-None.ensures.steps.0.1.0, i.fours)) in
    let e : full + 1 ≡ a.count = omega (arith, c.if-full-count.true, c.requires.2) in
    c.send_rest.ensures
    ∙ ap (λ (o : List ℕ). put o (full * frame_size) (fragment_frame a.about a.part.now full)) (i.sends ∙ ap (λ (k : ℕ). sent (fragment_frames a.about a.part.now k) a.out.now) n)
    ∙ fragments_more a.about a.part.now a.out.now full (omega (arith, c.if-full-count.true, c.requires))
    ∙ ap (λ (k : ℕ). sent (fragment_frames a.about a.part.now k) a.out.now) e

pub returns-else-full-count : goal.returns-else-full-count
returns-else-full-count c =
    let a = c.args in
    let i = c.loop-n.invariant in
    let n = cut_all a.part.now _ _ i.cut (omega (arith, c.in-None.ensures.steps.0.1.0, i.fours)) in
    let e : length a.part.now / fragment_bytes ≡ a.count = omega (arith, c.if-full-count.false, c.requires.2) in
    i.sends ∙ ap (λ (k : ℕ). sent (fragment_frames a.about a.part.now k) a.out.now) (n ∙ e)
