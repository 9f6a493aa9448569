use Rattle.std.proofs.Common.{◌∙◌, refl, sym}
use Rattle.xinu_model.specs.Devices.Calls as model
use Rattle.reference_switch.proofs.calls.device_close.Goals as goal

pub returns-in-None : goal.returns-in-None
returns-in-None c = record { close = c.refuse.ensures.refused ∙ sym (c.in-None.ensures.kind (model.close_as c.args.dev) c.args.m.now.state); answers = refl }

pub returns-in-Some : goal.returns-in-Some
returns-in-Some c = record { close = c.close_as.ensures.close ∙ sym (c.in-Some.ensures.kind (model.close_as c.args.dev) c.args.m.now.state); answers = refl }
