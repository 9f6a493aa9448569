use Rattle.std.proofs.Common.{◌∙◌, ℕ, List, drop, sym, ap, subst}
use Rattle.ports.specs.Nodes.{first_of, queue_at}
use Rattle.ports.specs.Table.{IsTable, entry_at}
use Rattle.ports.proofs.Entries.{agrees_rest, messages_are, table_kept, take_table}
use Rattle.ports.proofs.table.Ports.take.Goals as goal

pub invariant_of-self : goal.invariant_of-self
invariant_of-self c =
    let es = c.self.inside.entries in
    let qs = c.self.inside.nodes in
    let q = c.args.q in
    let F : List (List ℕ) → Type 0 = λ ns. IsTable es ns in
    subst F (sym c.take.ensures.rest)
    (table_kept es qs q (drop 1 (queue_at qs q)) c.self.invariant (agrees_rest (entry_at es q).head (queue_at qs q) (c.self.invariant.each q)))

pub returns-clause-first : goal.returns-clause-first
returns-clause-first c =
    c.take.ensures.first ∙ ap first_of (messages_are c.self.inside.entries c.self.inside.nodes c.self.inside.next c.args.self.now c.args.q c.self.invariant c.self.view_is)

pub returns-clause-rest : goal.returns-clause-rest
returns-clause-rest c =
    take_table c.self.inside.entries c.self.inside.nodes c.take.new.self c.self.inside.next c.args.self.now c.args.q c.self.invariant c.self.view_is c.take.ensures.rest
