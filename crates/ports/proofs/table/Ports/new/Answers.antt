use Rattle.std.proofs.Common.{◌∙◌, ℕ, List, replicate, sym, ap, subst}
use Rattle.xinu_model.specs.Ports.Queues.{MessagePort, first_ports}
use Rattle.ports.specs.declared.table.PortEntry.{PortEntry}
use Rattle.ports.specs.Table.{IsTable, PortTable, no_entry}
use Rattle.ports.proofs.Entries.{ports_start, seen, table_start}
use Rattle.ports.proofs.table.Ports.new.Goals as goal

pub invariant_of-result : goal.invariant_of-result
invariant_of-result c =
    let E : PortEntry → Type 0 = λ e. IsTable (replicate 30 e) c.in_ok-nodes.nodes in
    let Q : List (List ℕ) → Type 0 = λ qs. IsTable (replicate 30 no_entry) qs in
    subst E (sym c.free_entry.ensures.entry) (subst Q (sym c.in_ok-nodes.ensures.starts) table_start)

pub returns : goal.returns
returns c =
    let next = c.default.result in
    let E : PortEntry → PortTable = λ e. seen (replicate 30 e) c.in_ok-nodes.nodes next in
    let Q : List (List ℕ) → PortTable = λ qs. seen (replicate 30 no_entry) qs next in
    let P : List MessagePort → PortTable = λ ports. record { ports = ports; next_port = next } in
    let N : ℕ → PortTable = λ n. record { ports = first_ports; next_port = n } in
    record { starts = ap E c.free_entry.ensures.entry ∙ ap Q c.in_ok-nodes.ensures.starts ∙ ap P ports_start ∙ ap N c.default.ensures }
