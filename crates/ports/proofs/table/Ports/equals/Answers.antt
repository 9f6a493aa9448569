use Rattle.std.proofs.Common.{◌≡◌, ◌∙◌, sym, ap, rules}
use Rattle.std.proofs.lemmas.Slice.Eq.{slice_eq-Decides}
use Rattle.ports.specs.Table.{PortTable}
use Rattle.ports.proofs.ReadBack.{same_entries, same_messages}
use Rattle.ports.proofs.table.Ports.equals.Goals as goal
use Rattle.ports.proofs.table.Ports.equals.Goals.{else-eq, then-eq}

pub returns-else-equals : goal.returns-else-equals
returns-else-equals c =
    let a = c.self.inside in
    let b = c.other.inside in
    record {
      equal = (
        λ no. absurd (search rules),
        λ e. elim c.if-eq.branch [
          | then-eq w ↦ (
              let messages = w.equals.ensures.equal.1 (same_messages a.entries b.entries a.nodes b.nodes c.self.invariant c.other.invariant
              (ap (λ (t : PortTable). t.ports) (c.self.view_is ∙ e ∙ sym c.other.view_is))) in
              absurd (search rules))
          | else-eq w ↦ (
              let next = ap (λ (t : PortTable). t.next_port) (c.self.view_is ∙ e ∙ sym c.other.view_is) in
              absurd (search rules))
        ],
      );
    }

pub returns-then-equals : goal.returns-then-equals
returns-then-equals c =
    let a = c.self.inside in
    let b = c.other.inside in
    record {
      equal = (
        λ t.
            let same : c.self.inside.entries ≡ c.other.inside.entries = (slice_eq-Decides (λ a b. search rules) _ _ _ c.eq-then-equals.ensures).0 t in
            search rules,
        λ e. (slice_eq-Decides (λ a b. search rules) _ _ _ c.eq-then-equals.ensures).1 (same_entries a.entries b.entries a.nodes b.nodes c.self.invariant c.other.invariant
            (ap (λ (t : PortTable). t.ports) (c.self.view_is ∙ e ∙ sym c.other.view_is))),
      );
    }
