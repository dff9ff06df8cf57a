use Rattle.std.specs.Iterator.Adapters.{enumerate_source, enumerate_count}
use Rattle.std.specs.Slice.Iter.{chunks_exact_rest, chunks_exact_size}
use mathlib.Core.Path.{◌≡◌}
use Rattle.candump.proofs.Stores.{Reading}
use Rattle.candump.proofs.importing.bytes_of.Given as goal

abbrev pub invariant-loop-i : goal.invariant-loop-i
invariant-loop-i l = record {
  pairs : chunks_exact_size (enumerate_source l.i-iterator) ≡ 2;
  reading : Reading l.fn.body (chunks_exact_rest (enumerate_source l.i-iterator)) l.bytes (enumerate_count l.i-iterator);
}
