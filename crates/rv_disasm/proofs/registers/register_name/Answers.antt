-- The name that stands at the number.
use Rattle.rv_disasm.proofs.RegisterNames.{name_at, short_at}
use Rattle.rv_disasm.proofs.registers.register_name.Goals as goal

pub returns-clause-name : goal.returns-clause-name
returns-clause-name c = name_at (λ it. it.now) c.register_names-names.result c.args.number _ c.register_names-names.ensures.names c.requires.number

pub returns-clause-size : goal.returns-clause-size
returns-clause-size c = short_at (λ it. it.now) c.register_names-names.result c.args.number _ c.register_names-names.ensures.names c.requires.number
