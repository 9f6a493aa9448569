use Rattle.std.proofs.Common.{◌∙◌, ap, map, rules}
use Rattle.std.proofs.lemmas.Fn.{filter_same}
use Rattle.watched_run.proofs.Changes.{areas-filter}
use Rattle.watched_run.specs.Watching.{Area, area_of, is_other}
use Rattle.watched_run.proofs.points.Points.forget.Goals as goal

pub returns-clause-forget : goal.returns-clause-forget
returns-clause-forget c =
    let area : Area = record { at = c.args.at; count = c.args.count } in
    ap (map area_of) (filter_same _ (λ w. is_other area (area_of w)) _ (λ x b f' k. search rules) _ _ c.retain.ensures.filtered)
    ∙ areas-filter area c.args.self.now.watches.items
