use Rattle.std.proofs.Common.{rules}
use Rattle.told_left.proofs.ToldLeft.{told_more, told_none}
use Rattle.told_left.proofs.left.left_text.Goals as goal

pub loop-number-init : goal.loop-number-init
loop-number-init c = told_none _ _ _ _ (search rules)

pub loop-number-preserved : goal.loop-number-preserved
loop-number-preserved c =
    let told = c.in_ok-push_process.ensures.told in
    told_more _ _ _ _ _ told.0 _ c.loop-number.invariant told.1.0 told.1.1
