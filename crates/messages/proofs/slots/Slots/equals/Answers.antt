use Rattle.std.proofs.Common.{sym, ◌∙◌, rules}
use Rattle.std.proofs.lemmas.Slice.Eq.{slice_eq-Decides}
use Rattle.messages.proofs.slots.Slots.equals.Goals as goal

pub returns : goal.returns
returns c = record {
  equal =
      let decides = slice_eq-Decides (λ a b. search rules) _ _ _ c.eq.ensures in
      ((λ t. sym c.self.view_is ∙ decides.0 t ∙ c.other.view_is), λ e. decides.1 (c.self.view_is ∙ e ∙ sym c.other.view_is));
}
