use Rattle.std.proofs.Common.{ap, ◌∙◌, nat_le}
use Rattle.lfs_check.specs.Meets.{times_met}
use Rattle.lfs_check.specs.Laid.{Shape}
use Rattle.lfs_check.specs.Checks.{first_block, index_numbers}
use Rattle.lfs_check.proofs.checker.walk_all.Goals as goal

pub returns-clause-rule_6 : goal.returns-clause-rule_6
returns-clause-rule_6 c =
    let g = c.args.geometry in
    let d : Shape = record { header = c.args.header; entries = c.args.entries.now; indexes = c.args.indexes.now; links = c.args.links.now } in
    c.in_ok-met.ensures.rule_6
    ∙ ap (λ m. first_block g (λ i. nat_le 2 (times_met i m)) (λ b. nat_le 2 (times_met b c.deref-3.result.now))) (c.deref-2.ensures.value ∙ c.in_ok-survey.ensures.index_numbers)
    ∙ ap (λ m. first_block g (λ i. nat_le 2 (times_met i (index_numbers g d))) (λ b. nat_le 2 (times_met b m))) (c.deref-3.ensures.value ∙ c.in_ok-survey.ensures.data_numbers)

pub returns-clause-rule_7 : goal.returns-clause-rule_7
returns-clause-rule_7 c =
    let g = c.args.geometry in
    let d : Shape = record { header = c.args.header; entries = c.args.entries.now; indexes = c.args.indexes.now; links = c.args.links.now } in
    c.in_ok-met.ensures.rule_7
    ∙ ap (λ m. first_block g (λ i. nat_le (times_met i m) 0) (λ b. nat_le (times_met b c.deref-3.result.now) 0)) (c.deref-2.ensures.value ∙ c.in_ok-survey.ensures.index_numbers)
    ∙ ap (λ m. first_block g (λ i. nat_le (times_met i (index_numbers g d)) 0) (λ b. nat_le (times_met b m) 0)) (c.deref-3.ensures.value ∙ c.in_ok-survey.ensures.data_numbers)
