use Rattle.std.proofs.Common.{arith}
use Rattle.part_laws.proofs.Consoles.Erasing.{erasing_undoes}
use Rattle.part_laws.proofs.console.erasing_undoes_typing.Goals as goal

pub returns : goal.returns
returns c = record { undone = λ b x cooked h room. erasing_undoes b x cooked h (omega arith) }
