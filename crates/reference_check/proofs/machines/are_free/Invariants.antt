use Rattle.std.proofs.Common.{◌≡◌, drop}
use Rattle.std.specs.List.{list_all}
use Rattle.xinu_base.specs.declared.processes.Process.{Process}
use Rattle.xinu_model.specs.Tables.{is_free}
use Rattle.reference_check.proofs.machines.are_free.Given as goal

abbrev pub invariant-loop-process : goal.invariant-loop-process
invariant-loop-process l =
    list_all (λ (p : Process). is_free p.state) (drop l.process-index l.processes) ≡ list_all (λ (p : Process). is_free p.state) l.processes
