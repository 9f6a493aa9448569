use Rattle.std.proofs.Common.{◌∙◌, sym}
use Rattle.race_tables.proofs.Equal.{are_equal-from, are_equal-same}
use Rattle.race_tables.proofs.outcomes.Outcome.equals.Goals as goal

pub returns-clause-equal : goal.returns-clause-equal
returns-clause-equal c =
    let one = c.args.self.now in
    let other = c.args.other.now in
    (λ is. are_equal-same one other (sym c.are_equal.ensures.test ∙ is), λ is. c.are_equal.ensures.test ∙ are_equal-from one other is)
