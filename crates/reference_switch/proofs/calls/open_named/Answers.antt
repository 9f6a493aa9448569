use Rattle.std.proofs.Common.{◌∙◌, sym}
use Rattle.xinu_model.specs.Devices.Calls as model
use Rattle.reference_switch.proofs.calls.open_named.Goals as goal

pub returns-in-None : goal.returns-in-None
returns-in-None c = record {
  opens = c.refuse.ensures.refused ∙ sym (c.in-None.ensures.kind (model.open_direct c.args.name c.args.mode.now) c.args.m.now.state);
}

pub returns-in-Some : goal.returns-in-Some
returns-in-Some c = record {
  opens = c.open_direct.ensures.opens ∙ sym (c.in-Some.ensures.kind (model.open_direct c.args.name c.args.mode.now) c.args.m.now.state);
}
