-- The numbers so far are free.
use Rattle.std.proofs.Common.{◌≡◌, take, true}
use Rattle.std.specs.List.{list_all}
use Rattle.xinu_model.specs.Tables.{is_free}
use Rattle.process_core.proofs.procs.are_free.Given as goal

abbrev pub invariant-loop-process : goal.invariant-loop-process
invariant-loop-process l = list_all (λ x. is_free x.state) (take l.process-index l.processes) ≡ true
