-- The slots so far, and those that are left.
use Rattle.std.proofs.Common.{◌≡◌, ◌++◌, map, length}
use Rattle.fault_words.specs.CodeCauses.{seen_slot}
use Rattle.fault_words.specs.Texts.{more_slots}
use Rattle.fault_words.proofs.texts.push_more.Given as goal

abbrev pub invariant-loop-rest : goal.invariant-loop-rest
invariant-loop-rest l =
    l.initial.line.items ++ more_slots (map seen_slot l.slots) ≡ l.line.items ++ more_slots (map seen_slot l.rest)

abbrev pub decreases-loop-rest : goal.decreases-loop-rest
decreases-loop-rest l = length l.rest
