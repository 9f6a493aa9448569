use Rattle.std.proofs.Common.{◌≡◌, subst}
use Rattle.std.specs.Prelude.{IfOk}
use Rattle.reference_state.specs.Answers.{came_to}
use Rattle.reference_devices.proofs.ReadSome.{read_some}
use Rattle.reference_devices.proofs.console_reads.read_bytes.Goals as goal

pub returns-then-n-gt0 : goal.returns-then-n-gt0
returns-then-n-gt0 c = record {
  read = subst (λ r. IfOk c.read_range.result (λ a. came_to c.read_range.new.m a ≡ r))
      (read_some c.args.at c.args.n c.args.m.now.state c.if-n-gt0.true) c.read_range.ensures.read;
}
