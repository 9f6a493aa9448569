use Rattle.std.proofs.Common.{◌≡◌, ap, sym, ◌∙◌, rules}
use Rattle.std.proofs.lemmas.Slice.Eq.{slice_eq-Decides}
use Rattle.semaphores.specs.Counts.{SemaphoreTable}
use Rattle.semaphores.proofs.sems.Sems.equals.Goals as goal

pub returns-then-eq : goal.returns-then-eq
returns-then-eq c = record {
  equal = (
    (λ t.
        let same : c.self.inside.entries ≡ c.other.inside.entries = (slice_eq-Decides (λ a b. search rules) _ _ _ c.eq-then-eq.ensures).0 t in
        search rules),
    (λ e.
        let same = ap (λ (s : SemaphoreTable). s.entries) (c.self.view_is ∙ e ∙ sym c.other.view_is) in
        (slice_eq-Decides (λ a b. search rules) _ _ _ c.eq-then-eq.ensures).1 same),
  );
}
