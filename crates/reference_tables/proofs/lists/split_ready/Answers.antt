use Rattle.std.proofs.Common.{◌∙◌, ap, rules, int_lt, not, filter, ℤ, ℕ}
use Rattle.std.proofs.lemmas.Fn.{filter_same}
use Rattle.reference_tables.proofs.lists.split_ready.Goals as goal

pub returns : goal.returns
returns c = record {
  before = filter_same _ (λ (x : ℕ × ℤ). not (int_lt x.1 c.args.key)) _ (λ x b f' k. search rules) _ _ c.retain-2.ensures.filtered;
  behind = filter_same _ (λ (x : ℕ × ℤ). not (not (int_lt x.1 c.args.key))) _ (λ x b f' k. search rules) _ _ c.retain.ensures.filtered
      ∙ ap (λ l. filter (λ (x : ℕ × ℤ). not (not (int_lt x.1 c.args.key))) l) (c.in_ok-behind.ensures.copied);
}
