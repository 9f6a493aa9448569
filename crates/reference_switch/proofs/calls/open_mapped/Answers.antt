use Rattle.std.proofs.Common.{◌∙◌, Option, ap}
use Rattle.xinu_model.specs.Devices.Calls as model
use Rattle.xinu_model.specs.Names.Mapping.{MappedName}
use Rattle.reference_switch.proofs.calls.open_mapped.Goals as goal

pub returns : goal.returns
returns c = record {
  opens = c.open_target.ensures.opens
      ∙ ap (λ (o : Option MappedName). model.open_mapped o c.args.mode.now c.args.m.now.state) c.in_ok-target.ensures.mapped;
}
