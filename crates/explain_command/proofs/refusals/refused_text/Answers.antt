use Rattle.std.proofs.Common.{◌∙◌, List, arith, rules, subst}
use Rattle.explain_command.proofs.ToldRefusals.{told_end, told_next, told_none}
use Rattle.explain_command.specs.Refusals.{AreRefusals}
use Rattle.refused_calls.specs.declared.kinds.Kind.{Kind}
use Rattle.explain_command.proofs.refusals.refused_text.Goals as goal

pub loop-kind-init : goal.loop-kind-init
loop-kind-init c = told_none _ _ (search rules)

pub loop-kind-preserved : goal.loop-kind-preserved
loop-kind-preserved c =
    let told = c.in_ok-push_kind.ensures.told in
    told_next _ c.loop-kind.kind-index c.kind-item.result _ told.0 _ c.loop-kind-test.true c.kind-item.is c.loop-kind.invariant told.1.0 told.1.1

pub returns : goal.returns
returns c = record {
  told =
      subst (λ (kinds : List Kind). AreRefusals kinds c.loop-kind.told.items) (c.as_slice-kind-items.ensures.value ∙ c.in_ok-kinds.ensures.kinds)
      (told_end _ c.loop-kind.kind-index _ (omega (arith, c.loop-kind-test.false)) c.loop-kind.invariant);
}
