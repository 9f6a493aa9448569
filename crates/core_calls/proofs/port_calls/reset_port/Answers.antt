use Rattle.std.proofs.Common.{◌≡◌, ◌∙◌, ◌≤ℤ◌, Bool, true, cond, pos, rules, Some, sym, ap, subst, w32}
use Rattle.std.proofs.lemmas.Int.{to_z-of_z}
use mir.Val.{SFits}
use Rattle.semaphores.specs.Counts.{tokens_of}
use Rattle.xinu_model.specs.Machine.{CallState}
use Rattle.xinu_model.specs.Ports.Calls.{emptied_port}
use Rattle.xinu_model.specs.Ports.Queues.{port_at}
use Rattle.xinu_model.specs.Semaphores.Waiting.{emptied}
use Rattle.xinu_model.specs.Tables.{semaphore_at}
use Rattle.kernel_tables.specs.Waking.{are_any}
use Rattle.kernel_state.specs.States.{kernel_state}
use Rattle.core_calls.proofs.PortRenewals.{can_follow, head_counted, is_renewable, port_reset, port_used, renewed_in, send_owner, with_count}
use Rattle.core_calls.proofs.InTurn.{released_to}
use Rattle.kernel_state.proofs.Values.{call_is}
use Rattle.core_calls.proofs.port_calls.reset_port.Goals as goal

pub reset_semaphore-senders-requires-clause-runs : goal.reset_semaphore-senders-requires-clause-runs
reset_semaphore-senders-requires-clause-runs c =
    let d = kernel_state c.k.inside in
    let r = is_renewable c.args.q c.args.head.now d c.args.k.now.call (call_is c.k.view_is) c.requires.clears.tables c.requires.clears.ports c.requires.clears.used in
    r.tables.runs

pub reset_semaphore-senders-requires-clause-used : goal.reset_semaphore-senders-requires-clause-used
reset_semaphore-senders-requires-clause-used c =
    let d = kernel_state c.k.inside in
    let r = is_renewable c.args.q c.args.head.now d c.args.k.now.call (call_is c.k.view_is) c.requires.clears.tables c.requires.clears.ports c.requires.clears.used in
    port_used c.args.q (semaphore_at d.state.tables c.args.head.now.send).owner (send_owner c.args.q c.args.head.now d r)

pub reset_semaphore-senders-requires-clause-tokens : goal.reset_semaphore-senders-requires-clause-tokens
reset_semaphore-senders-requires-clause-tokens c =
    let d = kernel_state c.k.inside in
    let r = is_renewable c.args.q c.args.head.now d c.args.k.now.call (call_is c.k.view_is) c.requires.clears.tables c.requires.clears.ports c.requires.clears.used in
    let fits : SFits w32 c.args.head.now.first_count = search rules in
    subst (λ z. pos 0 ≤ℤ z) (sym (to_z-of_z w32 c.args.head.now.first_count fits)) (head_counted c.args.head.now r.has.queue r.has.is)

pub reset_semaphore-receivers-requires-clause-runs : goal.reset_semaphore-receivers-requires-clause-runs
reset_semaphore-receivers-requires-clause-runs c =
    let d = kernel_state c.k.inside in
    let r = is_renewable c.args.q c.args.head.now d c.args.k.now.call (call_is c.k.view_is) c.requires.clears.tables c.requires.clears.ports c.requires.clears.used in
    let u = c.reset_semaphore-senders.new.self in
    let fits : SFits w32 c.args.head.now.first_count = search rules in
    let between = c.reset_semaphore-senders.ensures.reset
    ∙ ap (λ z. released_to c.args.head.now.send (with_count (tokens_of z)) d.state.tables) (to_z-of_z w32 c.args.head.now.first_count fits) in
    let f = can_follow c.args.q c.args.head.now d u (with_count (tokens_of c.args.head.now.first_count)) r between in
    f.runs

pub reset_semaphore-receivers-requires-clause-used : goal.reset_semaphore-receivers-requires-clause-used
reset_semaphore-receivers-requires-clause-used c =
    let d = kernel_state c.k.inside in
    let r = is_renewable c.args.q c.args.head.now d c.args.k.now.call (call_is c.k.view_is) c.requires.clears.tables c.requires.clears.ports c.requires.clears.used in
    let u = c.reset_semaphore-senders.new.self in
    let fits : SFits w32 c.args.head.now.first_count = search rules in
    let between = c.reset_semaphore-senders.ensures.reset
    ∙ ap (λ z. released_to c.args.head.now.send (with_count (tokens_of z)) d.state.tables) (to_z-of_z w32 c.args.head.now.first_count fits) in
    let f = can_follow c.args.q c.args.head.now d u (with_count (tokens_of c.args.head.now.first_count)) r between in
    port_used c.args.q (semaphore_at u c.args.head.now.receive).owner f.owned

pub returns-clause-reset : goal.returns-clause-reset
returns-clause-reset c =
    let d = kernel_state c.k.inside in
    let r = is_renewable c.args.q c.args.head.now d c.args.k.now.call (call_is c.k.view_is) c.requires.clears.tables c.requires.clears.ports c.requires.clears.used in
    let q = c.args.q in
    let head = c.args.head.now in
    let senders = c.reset_semaphore-senders.result.items in
    let receivers = c.reset_semaphore-receivers.result.items in
    let v = c.reset_semaphore-receivers.new.self in
    let fits : SFits w32 head.first_count = search rules in
    let between = c.reset_semaphore-senders.ensures.reset
    ∙ ap (λ z. released_to head.send (with_count (tokens_of z)) d.state.tables) (to_z-of_z w32 head.first_count fits) in
    let p = c.reset.new.self in
    let O : Bool → CallState = λ b. record (renewed_in v senders receivers p d) { owes_resched = b } in
    let owes : c.owes_after-k-inside-2.result ≡ cond (are_any receivers) true (cond (are_any senders) true d.owes_resched)
    = c.owes_after-k-inside-2.ensures.owes ∙ ap (λ l. cond (are_any l) true c.owes_after-k-inside.result) c.as_slice-2.ensures.value
    ∙ ap (λ b. cond (are_any receivers) true b)
    (c.owes_after-k-inside.ensures.owes ∙ ap (λ l. cond (are_any l) true d.owes_resched) c.as_slice.ensures.value) in
    λ queue used. (
    let U : CallState → Type 0 = λ d. (port_at d.state.parts.ports q).queue ≡ Some queue in
    ap O owes
    ∙ port_reset q head queue d c.reset_semaphore-senders.new.self v senders receivers p r (subst U (sym (call_is c.k.view_is)) used) (record {
      first = c.reset_semaphore-senders.ensures.released;
      between = between;
      second = c.reset_semaphore-receivers.ensures.released;
      after = c.reset_semaphore-receivers.ensures.reset;
    }) c.reset.ensures.reset
    ∙ ap (λ d. emptied_port q queue (emptied queue.receive (emptied queue.send d))) (call_is c.k.view_is))
