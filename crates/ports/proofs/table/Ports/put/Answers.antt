use Rattle.std.proofs.Common.{◌++◌, ◌∷◌, [], ℕ, List, sym, subst, arith}
use Rattle.std.specs.Prelude.{IsSome}
use Rattle.xinu_model.specs.Ports.Queues.{MessagePort}
use Rattle.ports.specs.Nodes.{queue_at}
use Rattle.ports.specs.Table.{IsTable, entry_at}
use Rattle.ports.proofs.Entries.{agrees_used, nodes_seen, port_seen, put_table, table_kept}
use Rattle.ports.proofs.table.Ports.put.Goals as goal

pub invariant_of-self : goal.invariant_of-self
invariant_of-self c =
    let es = c.self.inside.entries in
    let qs = c.self.inside.nodes in
    let q = c.args.q in
    let l = queue_at qs q ++ c.args.message ∷ [] in
    let F : List (List ℕ) → Type 0 = λ ns. IsTable es ns in
    let U : MessagePort → Type 0 = λ p. IsSome p.queue in
    let used = subst U (port_seen es qs c.self.inside.next c.args.self.now q c.self.invariant c.self.view_is) c.requires.used in
    subst F (sym c.put.ensures.put)
    (table_kept es qs q l c.self.invariant (agrees_used (entry_at es q).head (queue_at qs q) l (c.self.invariant.each q) used))

pub put-requires : goal.put-requires
put-requires c =
    let n = nodes_seen c.self.inside.entries c.self.inside.nodes c.self.inside.next c.args.self.now c.self.invariant c.self.view_is in
    let r = c.requires.room in
    omega (arith, n, r)

pub returns : goal.returns
returns c = record {
  put = put_table c.self.inside.entries c.self.inside.nodes c.put.new.self c.self.inside.next c.args.self.now c.args.q c.args.message c.self.invariant c.self.view_is
      c.requires.used c.put.ensures.put;
}
