use Rattle.std.proofs.Common.{◌∙◌, sym, ◌≡◌, subst}
use Rattle.std.specs.Prelude.{IfOk}
use Rattle.reference_switch.specs.Outcomes.{comes_to}
use Rattle.xinu_model.specs.Devices.Calls as model
use Rattle.reference_switch.proofs.Stays.{leaves_same}
use Rattle.reference_switch.proofs.calls.device_getc.Goals as goal

pub returns-in-None : goal.returns-in-None
returns-in-None c = record { getc = c.refuse.ensures.refused ∙ sym (c.in-None.ensures.kind (model.getc_as c.args.dev) c.args.m.now.state); files = leaves_same c.args.m.now c.refuse.result }

pub returns-in-Some : goal.returns-in-Some
returns-in-Some c = record {
  getc = subst (λ x. IfOk c.getc_as.result (λ r. comes_to c.getc_as.new.m r ≡ x))
      (sym (c.in-Some.ensures.kind (model.getc_as c.args.dev) c.args.m.now.state)) c.getc_as.ensures.getc;
  files = c.getc_as.ensures.files;
}
