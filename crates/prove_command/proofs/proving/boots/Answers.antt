use Rattle.std.proofs.Common.{map}
use Rattle.image_loader.specs.Images.{loaded_of}
use Rattle.prove_command.proofs.Judged.{unbooted}
use Rattle.prove_command.proofs.Proved.{boots_first}
use Rattle.prove_command.proofs.proving.boots.Goals as goal

pub returns-clause-boots : goal.returns-clause-boots
returns-clause-boots c = boots_first _ (map loaded_of c.args.images.now) c.in-Ok-boot.state.call.state c.in-Ok-boot.ensures.booted.0

pub returns-in-Err-clause-refused : goal.returns-in-Err-clause-refused
returns-in-Err-clause-refused c = unbooted _ (map loaded_of c.args.images.now) c.in-Err.fault c.from.result c.in-Err.ensures.booted c.from.ensures
