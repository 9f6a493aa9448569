use Rattle.std.proofs.Common.{refl}
use Rattle.io_calls.proofs.DeviceCalls.{no_device}
use Rattle.io_calls.proofs.device_calls.device_open.Goals as goal
use Rattle.xinu_base.specs.declared.devices.Op.TheVariants as op
use Rattle.xinu_model.specs.Devices.Calls.{open_texts}

pub returns-in_default : goal.returns-in_default
returns-in_default c =
    let s = c.args.k.now.call.state in
    let does = open_texts c.args.name c.args.mode in
    record {
      opens = no_device op.Open c.args.dev does c.offering.result s (c.offering.ensures.offered does s) c.args.k.now.call refl c.requires.calling.starts c.in_default.is;
      image = refl;
    }
