use Rattle.std.proofs.Common.{◌∙◌, ap, sym}
use Rattle.xinu_base.specs.Constants.{SYSERR}
use Rattle.xinu_laws.proofs.Rows.CallRows.{no_family}
use Rattle.xinu_model.specs.Machine.{CallState, Returns}
use Rattle.xinu_model.specs.Rows.{done_by}
use Rattle.kernel.proofs.kernel.begin.Goals as goal

pub returns-in-None-clause-called : goal.returns-in-None-clause-called
returns-in-None-clause-called c =
    let s = c.args.k.now.call.state in
    ap (λ (x : CallState). record { call = x; answer = Returns SYSERR }) c.requires.calling.starts.is
    ∙ sym (ap (λ found. done_by found c.args.call.args s) (no_family c.args.call.number (sym c.in-None.ensures.family)))
