use Rattle.std.proofs.Common.{◌∙◌, ◌%◌, sym, ◌≡◌, subst}
use Rattle.std.specs.Prelude.{IfOk}
use Rattle.reference_switch.specs.Outcomes.{comes_to}
use Rattle.xinu_model.specs.Devices.Calls as model
use Rattle.reference_switch.proofs.Stays.{leaves_same}
use Rattle.reference_switch.proofs.calls.device_putc.Goals as goal

pub returns-in-None : goal.returns-in-None
returns-in-None c = record { putc = c.refuse.ensures.refused ∙ sym (c.in-None.ensures.kind (model.putc_as c.args.dev (c.args.word % 256)) c.args.m.now.state); files = leaves_same c.args.m.now c.refuse.result }

pub returns-in-Some : goal.returns-in-Some
returns-in-Some c = record {
  putc = subst (λ x. IfOk c.putc_as.result (λ r. comes_to c.putc_as.new.m r ≡ x))
      (sym (c.in-Some.ensures.kind (model.putc_as c.args.dev (c.args.word % 256)) c.args.m.now.state)) c.putc_as.ensures.putc;
  files = c.putc_as.ensures.files;
}
