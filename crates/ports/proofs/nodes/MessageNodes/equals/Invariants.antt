use Rattle.std.proofs.Common.{◌≡◌, take}
use Rattle.ports.proofs.nodes.MessageNodes.equals.Given as goal

abbrev pub invariant-loop-q : goal.invariant-loop-q
invariant-loop-q l = take l.q l.self ≡ take l.q l.other
