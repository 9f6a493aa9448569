use Rattle.std.proofs.Common.{arith}
use Rattle.reference_calls.proofs.creation.padded.Goals as goal
use Rattle.xinu_model.proofs.ProcessNames.{written_over}

pub returns : goal.returns
returns c = record { padded = rw c.copy_from_slice.ensures.after (written_over c.args.name.now 15 15 c.requires.short (omega arith)) }
