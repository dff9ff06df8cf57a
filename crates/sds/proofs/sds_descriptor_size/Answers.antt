use native.Mathlib.Omega.{arith}
use borrow.Author.Tests.{lt-ltb}
use Rattle.laws.proofs.Tests.{tests}
use Rattle.table.proofs.Served.{size_back}
use Rattle.sds.specs.Border.{border_size}
use Rattle.sds.proofs.sds_descriptor_size.Goals as goal

pub returns-then-descriptor-gt65535 : goal.returns-then-descriptor-gt65535
unfolding border_size
returns-then-descriptor-gt65535 c = simp (lt-ltb 65535 c.args.descriptor (omega arith))

pub returns : goal.returns
unfolding border_size
returns c = search (tests, c.unwrap_or.ensures, c.descriptor_size.ensures, size_back)
