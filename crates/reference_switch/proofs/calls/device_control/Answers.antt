use Rattle.std.proofs.Common.{◌∙◌, sym, ◌≡◌, subst}
use Rattle.std.specs.Prelude.{IfOk}
use Rattle.reference_switch.specs.Outcomes.{comes_to}
use Rattle.xinu_model.specs.Devices.Calls as model
use Rattle.reference_switch.proofs.Stays.{leaves_same}
use Rattle.reference_switch.proofs.calls.device_control.Goals as goal

pub returns-in-None : goal.returns-in-None
returns-in-None c = record { control = c.refuse.ensures.refused ∙ sym (c.in-None.ensures.kind (model.control_as c.args.dev c.args.f c.args.x) c.args.m.now.state); files = leaves_same c.args.m.now c.refuse.result }

pub returns-in-Some : goal.returns-in-Some
returns-in-Some c = record {
  control = subst (λ x. IfOk c.control_as.result (λ r. comes_to c.control_as.new.m r ≡ x))
      (sym (c.in-Some.ensures.kind (model.control_as c.args.dev c.args.f c.args.x) c.args.m.now.state)) c.control_as.ensures.control;
  files = c.control_as.ensures.files;
}
