-- The processes so far are told.
use Rattle.std.proofs.Common.{map}
use Rattle.told_left.specs.Left.{AreTold}
use Rattle.told_left.proofs.left.left_text.Given as goal

abbrev pub invariant-loop-number : goal.invariant-loop-number
invariant-loop-number l = AreTold (map (λ v. v.items) l.files) l.k.call.state l.lives l.number l.told.items
