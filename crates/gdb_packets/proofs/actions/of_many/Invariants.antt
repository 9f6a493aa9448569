-- The actions that are left decide.
use Rattle.std.proofs.Common.{◌≡◌, ◌+◌, ℕ, List, [], length, Option, Some, None, Bor}
use Rattle.gdb_packets.specs.Actions.{actions_in, of_many}
use Rattle.gdb_packets.specs.declared.actions.Action.{Action}
use Rattle.gdb_packets.proofs.actions.of_many.Given as goal

-- the actions that are left
abbrev pub left : Option (Bor (List ℕ)) → List Action
left None = []
left (Some bytes) = actions_in bytes.now

-- how many bytes are left, and 1 if there is an action
abbrev pub size : Option (Bor (List ℕ)) → ℕ
size None = 0
size (Some bytes) = 1 + length bytes.now

abbrev pub invariant-loop-rest : goal.invariant-loop-rest
invariant-loop-rest l = of_many (actions_in l.bytes) ≡ of_many (left l.rest)

abbrev pub decreases-loop-rest : goal.decreases-loop-rest
decreases-loop-rest l = size l.rest
