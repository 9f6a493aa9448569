use Rattle.std.proofs.Common.{◌≡◌, ◌∙◌, pos, ◌≤ℤ◌, get_or, sym, ap, subst, arith}
use Rattle.std.proofs.lemmas.List.{get_or_default}
use Rattle.std.specs.Prelude.{IfSome}
use Rattle.std.specs.Option.{option_map}
use Rattle.xinu_model.specs.Ports.Queues.{MessagePort}
use Rattle.ports.specs.declared.table.PortEntry.{PortEntry}
use Rattle.ports.specs.Nodes.{queue_at}
use Rattle.ports.specs.Table.{entry_at, head_of, no_entry}
use Rattle.ports.proofs.Entries.{head_back, head_counted, port_seen}
use Rattle.ports.proofs.table.Ports.entry.Goals as goal

pub returns : goal.returns
returns c =
    let es = c.self.inside.entries in
    let qs = c.self.inside.nodes in
    let q = c.args.q in
    let b = c.index.ensures.bound in
    let t = c.self.told in
    let is : get_or es c.index.result c.index-self-index.result ≡ entry_at es q
    = get_or_default es c.index.result c.index-self-index.result no_entry (omega (arith, b, t)) ∙ ap (entry_at es) c.index.ensures.index in
    let seen = sym (port_seen es qs c.self.inside.next c.args.self.now q c.self.invariant c.self.view_is) in
    let agrees = c.self.invariant.each q in
    let C : PortEntry → Type 0 = λ e. IfSome e.head (λ h. pos 0 ≤ℤ h.first_count) in
    record {
      seq = ap (λ (e : PortEntry). e.seq) is ∙ ap (λ (p : MessagePort). p.seq) seen;
      head = ap (λ (e : PortEntry). e.head) is ∙ head_back (entry_at es q).head (queue_at qs q) agrees ∙ ap (λ (p : MessagePort). option_map head_of p.queue) seen;
      counted = subst C (sym is) (head_counted (entry_at es q).head (queue_at qs q) agrees);
    }
