use Rattle.std.proofs.Common.{refl}
use Rattle.io_calls.proofs.DeviceCalls.{no_device}
use Rattle.io_calls.proofs.device_calls.device_seek.Goals as goal
use Rattle.xinu_base.specs.declared.devices.Op.TheVariants as op
use Rattle.xinu_model.specs.Devices.Calls.{seek_as}
use Rattle.xinu_model.specs.Words.{signed}

pub returns-in_default : goal.returns-in_default
returns-in_default c =
    let s = c.args.k.now.call.state in
    let does = seek_as c.args.dev (signed c.args.n) in
    record {
      seek = no_device op.Seek c.args.dev does c.offering.result s (c.offering.ensures.offered does s) c.args.k.now.call refl c.requires.calling.starts c.in_default.is;
      image = refl;
    }
