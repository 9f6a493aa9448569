-- Sound ports have room, also once a token is taken or a process moved.
use Rattle.std.proofs.Common.{◌≡◌, ℕ, ◌≤◌, true, false, nat_le, int_lt, List, length, Option, Some, subst, sym, arith}
use Rattle.std.proofs.lemmas.Bool.{leb-false}
use Rattle.reference_ports.specs.PortRoom.{HaveRoom}
use Rattle.reference_ports.proofs.TokenTaken.{IsTaken}
use Rattle.table_laws.proofs.Frame.MoveTo.{tokens_move}
use Rattle.xinu_base.specs.declared.processes.Process.{Process}
use Rattle.xinu_model.specs.Machine.{Xinu}
use Rattle.xinu_model.specs.Ports.Queues.{MessagePort, most_nodes, nodes, port_at, PortQueue}
use Rattle.xinu_model.specs.Semaphores.Counts.{count_of, most_tokens, with_tokens}
use Rattle.xinu_model.specs.Sound.Ports.{ArePorts}
use Rattle.xinu_model.specs.Tables.{move_to, Nowhere, semaphore_at, Tables}
use Rattle.table_laws.proofs.PortRoom.{fewer_set, one_of_nodes, few_tokens}

-- sound ports have room, also if some tokens are gone
have_room : (t u : Tables) (ports : List MessagePort) → ArePorts t ports
    → ((r : ℕ) → (semaphore_at u r).tokens ≤ (semaphore_at t r).tokens) → HaveRoom u ports
have_room t u ports a fewer = record {
  each = λ q queue e. (
      let k = a.each q queue e in
      let s = fewer queue.send in
      let r = fewer queue.receive in
      let m = k.messages in
      let n = k.room in
      record { messages = omega (arith, r, m); room = omega (arith, s, n) });
}

-- once a token is taken
pub room_taken : (sem : ℕ) (s u : Xinu) → IsTaken sem s u → ArePorts s.tables s.parts.ports → HaveRoom u.tables u.parts.ports
room_taken sem s u k a =
    let some = k.some in
    subst (λ (x : Xinu). HaveRoom x.tables x.parts.ports) (sym k.is)
    (have_room s.tables (with_tokens sem k.left s.tables) s.parts.ports a
    (λ r. fewer_set s.tables.semaphores sem r k.left (omega (arith, some))))

-- and once its caller goes on
pub room_goes_on : (s : Xinu) (x : Process) (m : Option ℕ) → ArePorts s.tables s.parts.ports
    → HaveRoom (move_to s.tables.current x m Nowhere s.tables) s.parts.ports
room_goes_on s x m a =
    have_room s.tables (move_to s.tables.current x m Nowhere s.tables) s.parts.ports a
    (λ r. (let e = tokens_move s.tables s.tables.current x m Nowhere r in omega (arith, e)))

-- While not all ports together are full, the receivers of each can be signalled.
pub receivers_room : (t : Tables) (ports : List MessagePort) (q : ℕ) (queue : PortQueue) → (port_at ports q).queue ≡ Some queue
    → nat_le most_nodes (nodes ports) ≡ false → (semaphore_at t queue.receive).tokens ≤ length queue.messages
    → int_lt (count_of (semaphore_at t queue.receive)) most_tokens ≡ true
receivers_room t ports q queue e full h =
    let n = one_of_nodes ports q queue e in
    let f = leb-false most_nodes (nodes ports) full in
    few_tokens (semaphore_at t queue.receive) 100 (omega (arith, h, n, f)) (omega arith)
