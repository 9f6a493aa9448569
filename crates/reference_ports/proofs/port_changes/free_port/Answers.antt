use Rattle.std.proofs.Common.{◌≡◌, ◌-◌, ℕ, Bool, not, None, Some, Option, rules}
use Rattle.std.specs.List.{find}
use Rattle.std.specs.Prelude.{min}
use Rattle.xinu_model.specs.Ports.Queues.{is_used, port_at}
use Rattle.xinu_model.specs.Searches.{numbers_from}
use Rattle.reference_ports.proofs.NewPorts.{search_ahead, search_round}
use Rattle.reference_ports.proofs.port_changes.free_port.Goals as goal

pub returns-in-Some : goal.returns-in-Some
returns-in-Some c =
    let test : ℕ → Bool = λ (q : ℕ). not (is_used (port_at c.args.m.now.state.parts.ports q)) in
    let n = c.args.m.now.state.parts.next_port in
    let h : Some c.in-Some.q ≡ find test (numbers_from n (30 - n)) = search rules in
    record { found = search_ahead test 30 n c.in-Some.q h }

pub returns-in-None : goal.returns-in-None
returns-in-None c =
    let test : ℕ → Bool = λ (q : ℕ). not (is_used (port_at c.args.m.now.state.parts.ports q)) in
    let n = c.args.m.now.state.parts.next_port in
    let h : ◌≡◌ {A = Option ℕ} None (find test (numbers_from n (30 - n))) = search rules in
    let e : c.port_from-in-None.result ≡ find test (numbers_from 0 (min n 30 - 0)) = search rules in
    record { found = search_round test 30 n c.port_from-in-None.result h e }
