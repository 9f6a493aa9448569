-- What the quiet host inside emits, the host emits.
use Rattle.std.proofs.Common.{ap}
use Rattle.host_port.specs.declared.memory.MemoryHost.{MemoryHost}
use Rattle.host_port.proofs.HeldLemmas.{held_emits}
use Rattle.host_port.proofs.memory.MemoryHostHost.emit.Goals as goal

pub returns-clause-sent : goal.returns-clause-sent
returns-clause-sent c =
    held_emits c.args.self.now.quiet c.count_call.new.self.quiet c.emit.new.self c.args.self.now.faults c.count_call.new.self.faults c.args.channel c.args.bytes.now c.emit.result (ap (λ (h : MemoryHost). h.quiet) c.count_call.ensures.rest) c.emit.ensures.files c.emit.ensures.sent
