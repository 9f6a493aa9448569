use Rattle.std.proofs.Common.{◌∙◌, ◌+◌, ℕ, List, [], get_or, set, sym, subst, arith}
use Rattle.ports.specs.declared.table.PortEntry.{PortEntry}
use Rattle.ports.specs.Table.{IsTable}
use Rattle.ports.proofs.Entries.{entry_of, messages_are, renewed_table, seq_is, table_changed}
use Rattle.ports.proofs.table.Ports.renew.Goals as goal

pub overflow_add-seq : goal.overflow_add-seq
overflow_add-seq c =
    let s = seq_is c.self.inside.entries c.self.inside.nodes c.self.inside.next c.args.self.now c.args.q c.index.result c.index-self-index.result c.self.invariant c.self.view_is
    c.index.ensures.index c.index.ensures.bound in
    let r = c.requires.room in
    omega (arith, s, r)

pub invariant_of-self : goal.invariant_of-self
invariant_of-self c =
    let es = c.self.inside.entries in
    let q = c.args.q in
    let e : PortEntry = record { seq = (get_or es c.index.result c.index-self-index.result).seq + 1; head = c.args.head } in
    let A : ℕ → Type 0 = λ i. IsTable (set es i e) c.clear.new.self in
    let B : List (List ℕ) → Type 0 = λ ns. IsTable (set es q e) ns in
    let i = c.index-2.ensures.index in
    let b = c.index-2.ensures.bound in
    subst A (sym i) (subst B (sym c.clear.ensures.empty)
    (table_changed es c.self.inside.nodes q e [] c.self.invariant (omega (arith, b, i)) (entry_of c.args.head c.requires.counted)))

pub returns-clause-messages : goal.returns-clause-messages
returns-clause-messages c =
    c.clear.ensures.all ∙ messages_are c.self.inside.entries c.self.inside.nodes c.self.inside.next c.args.self.now c.args.q c.self.invariant c.self.view_is

pub returns-clause-renewed : goal.returns-clause-renewed
returns-clause-renewed c =
    renewed_table c.self.inside.entries c.self.inside.nodes c.clear.new.self c.self.inside.next c.args.self.now c.args.q c.index-2.result _ c.args.head c.self.view_is
    c.index-2.ensures.index
    (seq_is c.self.inside.entries c.self.inside.nodes c.self.inside.next c.args.self.now c.args.q c.index.result c.index-self-index.result c.self.invariant c.self.view_is
    c.index.ensures.index c.index.ensures.bound) c.clear.ensures.empty
