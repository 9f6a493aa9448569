use Rattle.std.proofs.Common.{◌≡◌, ◌-◌}
use Rattle.reference_state.specs.Answers.{IsStart}
use Rattle.xinu_model.specs.Console.Taking as model
use Rattle.reference_devices.proofs.console_reads.reads.Given as goal

abbrev pub invariant-loop-i : goal.invariant-loop-i
invariant-loop-i l = (IsStart l.m) × (model.reads (l.want - l.i) l.at l.i l.m.state ≡ model.reads l.left l.at l.done l.fn.m.state)
