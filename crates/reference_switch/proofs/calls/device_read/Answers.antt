use Rattle.std.proofs.Common.{◌∙◌, sym, ◌≡◌, subst}
use Rattle.std.specs.Prelude.{IfOk}
use Rattle.reference_switch.specs.Outcomes.{comes_to}
use Rattle.xinu_model.specs.Devices.Calls as model
use Rattle.reference_switch.proofs.Stays.{leaves_same}
use Rattle.reference_switch.proofs.calls.device_read.Goals as goal

pub returns-in-None : goal.returns-in-None
returns-in-None c = record { read = c.refuse.ensures.refused ∙ sym (c.in-None.ensures.kind (model.read_as c.args.dev c.args.at c.args.n) c.args.m.now.state); files = leaves_same c.args.m.now c.refuse.result }

pub returns-in-Some : goal.returns-in-Some
returns-in-Some c = record {
  read = subst (λ x. IfOk c.read_as.result (λ r. comes_to c.read_as.new.m r ≡ x))
      (sym (c.in-Some.ensures.kind (model.read_as c.args.dev c.args.at c.args.n) c.args.m.now.state)) c.read_as.ensures.read;
  files = c.read_as.ensures.files;
}
