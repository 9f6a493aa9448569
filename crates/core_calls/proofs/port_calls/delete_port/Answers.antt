use Rattle.std.proofs.Common.{◌≡◌, ◌∙◌, Bool, true, cond, Some, sym, ap, subst}
use Rattle.xinu_model.specs.Machine.{CallState}
use Rattle.xinu_model.specs.Ports.Calls.{deleted}
use Rattle.xinu_model.specs.Ports.Queues.{port_at}
use Rattle.xinu_model.specs.Semaphores.Waiting.{emptied}
use Rattle.xinu_model.specs.Tables.{semaphore_at}
use Rattle.kernel_tables.specs.Waking.{are_any}
use Rattle.kernel_state.specs.States.{kernel_state}
use Rattle.core_calls.proofs.PortRenewals.{can_follow, given_up, is_renewable, port_deleted, port_no_device, port_used, renewed_in, send_owner}
use Rattle.kernel_state.proofs.Values.{call_is}
use Rattle.core_calls.proofs.port_calls.delete_port.Goals as goal

pub delete_semaphore-senders-requires-clause-runs : goal.delete_semaphore-senders-requires-clause-runs
delete_semaphore-senders-requires-clause-runs c =
    let d = kernel_state c.k.inside in
    let r = is_renewable c.args.q c.args.head.now d c.args.k.now.call (call_is c.k.view_is) c.requires.clears.tables c.requires.clears.ports c.requires.clears.used in
    r.tables.runs

pub delete_semaphore-senders-requires-clause-used : goal.delete_semaphore-senders-requires-clause-used
delete_semaphore-senders-requires-clause-used c =
    let d = kernel_state c.k.inside in
    let r = is_renewable c.args.q c.args.head.now d c.args.k.now.call (call_is c.k.view_is) c.requires.clears.tables c.requires.clears.ports c.requires.clears.used in
    port_used c.args.q (semaphore_at d.state.tables c.args.head.now.send).owner (send_owner c.args.q c.args.head.now d r)

pub delete_semaphore-senders-requires-clause-no_device : goal.delete_semaphore-senders-requires-clause-no_device
delete_semaphore-senders-requires-clause-no_device c =
    let d = kernel_state c.k.inside in
    let r = is_renewable c.args.q c.args.head.now d c.args.k.now.call (call_is c.k.view_is) c.requires.clears.tables c.requires.clears.ports c.requires.clears.used in
    port_no_device c.args.q (semaphore_at d.state.tables c.args.head.now.send).owner (send_owner c.args.q c.args.head.now d r)

pub delete_semaphore-receivers-requires-clause-runs : goal.delete_semaphore-receivers-requires-clause-runs
delete_semaphore-receivers-requires-clause-runs c =
    let d = kernel_state c.k.inside in
    let r = is_renewable c.args.q c.args.head.now d c.args.k.now.call (call_is c.k.view_is) c.requires.clears.tables c.requires.clears.ports c.requires.clears.used in
    let u = c.delete_semaphore-senders.new.self in
    let f = can_follow c.args.q c.args.head.now d u given_up r c.delete_semaphore-senders.ensures.deleted in
    f.runs

pub delete_semaphore-receivers-requires-clause-used : goal.delete_semaphore-receivers-requires-clause-used
delete_semaphore-receivers-requires-clause-used c =
    let d = kernel_state c.k.inside in
    let r = is_renewable c.args.q c.args.head.now d c.args.k.now.call (call_is c.k.view_is) c.requires.clears.tables c.requires.clears.ports c.requires.clears.used in
    let u = c.delete_semaphore-senders.new.self in
    let f = can_follow c.args.q c.args.head.now d u given_up r c.delete_semaphore-senders.ensures.deleted in
    port_used c.args.q (semaphore_at u c.args.head.now.receive).owner f.owned

pub delete_semaphore-receivers-requires-clause-no_device : goal.delete_semaphore-receivers-requires-clause-no_device
delete_semaphore-receivers-requires-clause-no_device c =
    let d = kernel_state c.k.inside in
    let r = is_renewable c.args.q c.args.head.now d c.args.k.now.call (call_is c.k.view_is) c.requires.clears.tables c.requires.clears.ports c.requires.clears.used in
    let u = c.delete_semaphore-senders.new.self in
    let f = can_follow c.args.q c.args.head.now d u given_up r c.delete_semaphore-senders.ensures.deleted in
    port_no_device c.args.q (semaphore_at u c.args.head.now.receive).owner f.owned

pub returns-clause-deleted : goal.returns-clause-deleted
returns-clause-deleted c =
    let d = kernel_state c.k.inside in
    let r = is_renewable c.args.q c.args.head.now d c.args.k.now.call (call_is c.k.view_is) c.requires.clears.tables c.requires.clears.ports c.requires.clears.used in
    let q = c.args.q in
    let head = c.args.head.now in
    let senders = c.delete_semaphore-senders.result.items in
    let receivers = c.delete_semaphore-receivers.result.items in
    let v = c.delete_semaphore-receivers.new.self in
    let p = c.delete.new.self in
    let O : Bool → CallState = λ b. record (renewed_in v senders receivers p d) { owes_resched = b } in
    let owes : c.owes_after-k-inside-2.result ≡ cond (are_any receivers) true (cond (are_any senders) true d.owes_resched)
    = c.owes_after-k-inside-2.ensures.owes ∙ ap (λ l. cond (are_any l) true c.owes_after-k-inside.result) c.as_slice-2.ensures.value
    ∙ ap (λ b. cond (are_any receivers) true b)
    (c.owes_after-k-inside.ensures.owes ∙ ap (λ l. cond (are_any l) true d.owes_resched) c.as_slice.ensures.value) in
    λ queue used. (
    let U : CallState → Type 0 = λ d. (port_at d.state.parts.ports q).queue ≡ Some queue in
    ap O owes
    ∙ port_deleted q head queue d c.delete_semaphore-senders.new.self v senders receivers p r (subst U (sym (call_is c.k.view_is)) used) (record {
      first = c.delete_semaphore-senders.ensures.released;
      between = c.delete_semaphore-senders.ensures.deleted;
      second = c.delete_semaphore-receivers.ensures.released;
      after = c.delete_semaphore-receivers.ensures.deleted;
    }) c.delete.ensures.deleted
    ∙ ap (λ d. deleted q queue (emptied queue.receive (emptied queue.send d))) (call_is c.k.view_is))
