use Rattle.std.proofs.Common.{◌≡◌, drop}
use Rattle.program_logic.specs.PlaceCheck.{places_check}
use Rattle.program_logic.proofs.checking.first_fault.Given as goal

abbrev pub invariant-loop-k : goal.invariant-loop-k
invariant-loop-k l = places_check l.lock l.first l.table 0 l.table ≡ places_check l.lock l.first l.table l.k (drop l.k l.table)
