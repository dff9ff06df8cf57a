use Rattle.std.specs.Iterator.Adapters.{enumerate_source, enumerate_count}
use Rattle.std.specs.Slice.Iter.{chunks_exact_rest, chunks_exact_size}
use mathlib.Core.Path.{◌≡◌}
use Rattle.guest.specs.Checks.{fragment_bytes}
use Rattle.guest.specs.Step.{fragment_frames, sent}
use Rattle.answers.proofs.Sending.{Cut}
use Rattle.answers.proofs.answering.send_fragments.Given as goal

abbrev pub invariant-loop-n : goal.invariant-loop-n
invariant-loop-n l = record {
  fours : chunks_exact_size (enumerate_source l.n-iterator) ≡ fragment_bytes;
  cut : Cut l.part (chunks_exact_rest (enumerate_source l.n-iterator)) (enumerate_count l.n-iterator);
  sends : l.out ≡ sent (fragment_frames l.about l.part (enumerate_count l.n-iterator)) l.initial.out;
}
