use mathlib.Core.Path.{sym, ◌∙◌}
use Rattle.std.proofs.Common.{None}
use Rattle.table.proofs.Served.{described_by}
use Rattle.table.proofs.descriptor.descriptor_size.Goals as goal

pub returns-in_err-kind : goal.returns-in_err-kind
returns-in_err-kind c =
    let u = sym c.is_unreserved.ensures ∙ c.if-not-is_unreserved.false in
    c.from_residual.ensures ∙ sym (described_by _ None u (sym c.in_err-kind.was ∙ c.type_of.ensures))
