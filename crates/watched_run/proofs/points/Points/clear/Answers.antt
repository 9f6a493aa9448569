use Rattle.std.proofs.Common.{rules}
use Rattle.std.proofs.lemmas.Fn.{filter_same}
use Rattle.watched_run.proofs.points.Points.clear.Goals as goal

pub returns-clause-clear : goal.returns-clause-clear
returns-clause-clear c = filter_same _ _ _ (λ x b f' k. search rules) _ _ c.retain.ensures.filtered
