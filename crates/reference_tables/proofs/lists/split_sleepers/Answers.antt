use Rattle.std.proofs.Common.{◌∙◌, ap, rules, nat_le, not, filter, ℕ}
use Rattle.std.proofs.lemmas.Fn.{filter_same}
use Rattle.reference_tables.proofs.lists.split_sleepers.Goals as goal

pub returns : goal.returns
returns c = record {
  before = filter_same _ (λ (x : ℕ × ℕ). nat_le x.1 c.args.wake) _ (λ x b f' k. search rules) _ _ c.retain-2.ensures.filtered;
  behind = filter_same _ (λ (x : ℕ × ℕ). not (nat_le x.1 c.args.wake)) _ (λ x b f' k. search rules) _ _ c.retain.ensures.filtered
      ∙ ap (λ l. filter (λ (x : ℕ × ℕ). not (nat_le x.1 c.args.wake)) l) (c.in_ok-behind.ensures.copied);
}
