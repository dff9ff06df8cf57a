use Rattle.std.proofs.Common.{rules, ◌≡◌, Err}
use Rattle.candump.proofs.Texts.{export_made, export_refused}
use Rattle.candump.proofs.exporting.export_record.Goals as goal

pub returns-in_err-len : goal.returns-in_err-len
returns-in_err-len c =
    let e : c.from_residual.result ≡ Err c.in_err-len.field-0.0 = search rules in
    rw e (export_refused c.args.frame.now _ c.in_err-len.ensures.0)

pub returns : goal.returns
returns c = export_made c.args.frame.now c.in_ok-len.len c.put_line.new.line c.in_ok-len.ensures.0 c.in_ok-len.ensures.1
