use Rattle.std.proofs.Common.{◌∙◌, ap, sym, rules}
use Rattle.machine.specs.Printed.{Booted}
use Rattle.machine.proofs.machine.Machine.equals.Goals as goal
use Rattle.machine.proofs.machine.Machine.equals.Goals.{else-self-other, then-self-other}

pub returns-else-self-other-2 : goal.returns-else-self-other-2
returns-else-self-other-2 c = record {
  equal = (
    λ no. absurd (search rules),
    λ e.
        let events = ap (λ (m : Booted). m.events) (c.self.view_is ∙ e.1 ∙ sym c.other.view_is) in
        let over = ap (λ (m : Booted). m.over) (c.self.view_is ∙ e.1 ∙ sym c.other.view_is) in
        elim c.if-self-other.branch [
          | then-self-other w ↦ absurd (search rules)
          | else-self-other w ↦ absurd (search rules)
        ],
  );
}
