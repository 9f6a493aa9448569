use Rattle.std.proofs.Common.{◌≡◌, ◌∙◌, ℕ, Bool, false, not, sym, arith}
use Rattle.xinu_model.specs.Ports.Queues.{is_used, port_at}
use Rattle.xinu_model.proofs.Searches.{find_later}
use Rattle.reference_ports.proofs.port_changes.port_from.Goals as goal

pub loop-number-preserved : goal.loop-number-preserved
loop-number-preserved c =
    let test : ℕ → Bool = λ (q : ℕ). not (is_used (port_at c.args.m.now.state.parts.ports q)) in
    let f : test c.loop-number.number ≡ false = sym c.is_unused.ensures.unused ∙ c.if-is_unused.false in
    sym (find_later test c.loop-number.number c.args.end (omega arith) f) ∙ c.loop-number.invariant
