-- What the moves of semaphores and processes keep of a port.
use Rattle.std.proofs.Common.{◌≡◌, ◌≢◌, ℕ, ◌+◌, ◌<◌, ◌≤◌, ◌==◌, true, false, cond, length, Option, Some, get_or, set, refl, sym, ap, subst, ◌∙◌, arith, get_or-set_same, get_or-set_other}
use Rattle.std.proofs.lemmas.Bool.{and_left, cond-false, ne_eqb}
use Rattle.xinu_base.specs.declared.processes.Process.{Process}
use Rattle.xinu_base.specs.declared.processes.Rest.{Rest}
use Rattle.xinu_base.specs.declared.processes.Rest.TheVariants.{PtSend, PtRecv}
use Rattle.xinu_base.specs.declared.processes.State.TheVariants.{Ready}
use Rattle.xinu_base.specs.declared.semaphores.Owner.TheVariants as owner
use Rattle.xinu_model.specs.Process.Scheduling.{in_state, ready}
use Rattle.xinu_model.specs.Semaphores.Counts.{with_semaphore, with_tokens}
use Rattle.xinu_model.specs.Sound.Tables.{times, count_in, IsForPort}
use Rattle.xinu_model.specs.Sound.Ports.{sends_to, receives_from, is_released_sender, is_released_receiver}
use Rattle.xinu_model.specs.Tables.{no_process, Semaphore, no_semaphore, Tables, process_at, message_at, semaphore_at, numbers_without, semaphore_without, Nowhere, InReady, move_to}
use Rattle.table_laws.proofs.Lists.Counts.{times-set, numbers_without_same, numbers_without_other}
use Rattle.table_laws.proofs.Tables.Places.{semaphore_at_without}
use Rattle.table_laws.proofs.Tables.MoveTo.{by_number}
use Rattle.xinu_laws.proofs.Ports.Kept.{asks_port, KeepsPort, KeepsCounts, KeepsRests}

-- and its counts.
pub keeps_counts_semaphore : (q : ℕ) (t : Tables) (sem : ℕ) (y : Semaphore) → (semaphore_at t sem).owner ≢ Some (owner.Port q)
    → KeepsCounts q t (with_semaphore sem y t)
keeps_counts_semaphore q t sem y n = record {
  tokens = λ r. by_number r sem (λ k. (semaphore_at t k).owner ≡ Some (owner.Port q) → (semaphore_at (with_semaphore sem y t) k).tokens ≡ (semaphore_at t k).tokens)
      (λ e. absurd (n e)) (λ k e. ap (λ (x : Semaphore). x.tokens) (get_or-set_other t.semaphores sem r y no_semaphore k));
  senders = λ seq. omega arith;
  receivers = λ seq. omega arith;
}

-- Other tokens of a semaphore keep each port.
pub keeps_port_tokens : (q : ℕ) (t : Tables) (sem n : ℕ) → sem < length t.semaphores → KeepsPort q t (with_tokens sem n t)
keeps_port_tokens q t sem n i =
    let y : Semaphore = record (semaphore_at t sem) { tokens = n } in
    let u = with_semaphore sem y t in
    let same = get_or-set_same t.semaphores sem y no_semaphore i in
    let other = λ (r : ℕ) (k : r ≢ sem). get_or-set_other t.semaphores sem r y no_semaphore k in
    let owners : (r : ℕ) → (semaphore_at u r).owner ≡ (semaphore_at t r).owner = λ r. by_number r sem
    (λ k. (semaphore_at u k).owner ≡ (semaphore_at t k).owner)
    (ap (λ (x : Semaphore). x.owner) same) (λ k. ap (λ (x : Semaphore). x.owner) (other r k)) in
    let waiters : (r : ℕ) → (semaphore_at u r).waiters ≡ (semaphore_at t r).waiters = λ r. by_number r sem
    (λ k. (semaphore_at u k).waiters ≡ (semaphore_at t k).waiters)
    (ap (λ (x : Semaphore). x.waiters) same) (λ k. ap (λ (x : Semaphore). x.waiters) (other r k)) in
    record {
      kept = λ r e. owners r ∙ e;
      old = λ r e. sym (owners r) ∙ e;
      waiters = λ r p e h. (subst (λ l. 0 < count_in p l) (waiters r) h, refl);
    }

-- If processes stay, each is in the call in which it was.
pub keeps_rests_semaphore : (t : Tables) (sem : ℕ) (y : Semaphore) → KeepsRests t (with_semaphore sem y t)
keeps_rests_semaphore t sem y = record { rests = λ p h. refl }

-- A process that leaves each semaphore keeps each port.
pub keeps_port_left : (q p : ℕ) (t u : Tables) → ((sem : ℕ) → semaphore_at u sem ≡ semaphore_without p (semaphore_at t sem))
    → ((r : ℕ) → r ≢ p → process_at u r ≡ process_at t r) → KeepsPort q t u
keeps_port_left q p t u semaphores others =
    let owners : (sem : ℕ) → (semaphore_at u sem).owner ≡ (semaphore_at t sem).owner = λ sem. ap (λ (x : Semaphore). x.owner)
    (semaphores sem) in
    record {
      kept = λ sem e. owners sem ∙ e;
      old = λ sem e. sym (owners sem) ∙ e;
      waiters = λ sem r e h. (let k : 0 < count_in r (numbers_without p (semaphore_at t sem).waiters) = subst (λ (x : Semaphore). 0 < count_in r x.waiters) (semaphores sem) h in
          by_number r p (λ v. 0 < count_in v
          (numbers_without p (semaphore_at t sem).waiters) → (0 < count_in v
          (semaphore_at t sem).waiters) × ((process_at u v).rest ≡ (process_at t v).rest))
          (λ z. absurd (let n = numbers_without_same p (semaphore_at t sem).waiters in omega arith))
          (λ n z. (subst (λ c. 0 < c) (numbers_without_other r p (semaphore_at t sem).waiters n) z, ap (λ (x : Process). x.rest) (others r n))) k);
    }

-- If one process changes and is in a call on a port only where it was, each is.
pub keeps_rests_set : (t u : Tables) (p : ℕ) (x : Process) → p < length t.processes → u.processes ≡ set t.processes p x
    → (asks_port x.rest ≡ true → x.rest ≡ (process_at t p).rest) → KeepsRests t u
keeps_rests_set t u p x i e h = record {
  rests = λ r. subst (λ l. asks_port (get_or l r no_process).rest ≡ true → (get_or l r no_process).rest ≡ (process_at t r).rest) (sym e)
      (by_number r p (λ k. asks_port (get_or (set t.processes p x) k no_process).rest ≡ true → (get_or (set t.processes p x) k no_process).rest ≡ (process_at t k).rest)
      (λ a. (let f = get_or-set_same t.processes p x no_process i in ap (λ (y : Process). y.rest) f
      ∙ h (sym (ap (λ (y : Process). asks_port y.rest) f) ∙ a)))
      (λ n a. ap (λ (y : Process). y.rest) (get_or-set_other t.processes p r x no_process n)));
}

-- the same semaphores, if a process goes to no semaphore
pub left_for_ready : (t : Tables) (p : ℕ) (x : Process) (m : Option ℕ) (sem : ℕ)
    → semaphore_at (move_to p x m InReady t) sem ≡ semaphore_without p (semaphore_at t sem)
left_for_ready t p x m sem = semaphore_at_without p sem t.semaphores

pub left_for_nowhere : (t : Tables) (p : ℕ) (x : Process) (m : Option ℕ) (sem : ℕ)
    → semaphore_at (move_to p x m Nowhere t) sem ≡ semaphore_without p (semaphore_at t sem)
left_for_nowhere t p x m sem = semaphore_at_without p sem t.semaphores

-- A process that wakes keeps each port,
pub keeps_port_ready : (q p : ℕ) (t : Tables) → KeepsPort q t (ready p t)
keeps_port_ready q p t =
    let x = in_state Ready (process_at t p) in
    keeps_port_left q p t (ready p t) (left_for_ready t p x (message_at t p)) (λ r n. get_or-set_other t.processes p r x no_process n)

-- and is in the call in which it was.
pub keeps_rests_ready : (p : ℕ) (t : Tables) → p < length t.processes → KeepsRests t (ready p t)
keeps_rests_ready p t i = keeps_rests_set t (ready p t) p (in_state Ready (process_at t p)) i refl (λ _. refl)

-- A process that wakes is one more to put a message into a port at most,
pub senders_ready : (q seq p : ℕ) (t : Tables) → p < length t.processes
    → times (is_released_sender q seq) (ready p t).processes ≤ times (is_released_sender q seq) t.processes + cond (sends_to q seq (process_at t p).rest) 1 0
senders_ready q seq p t i = let e = times-set (is_released_sender q seq) t.processes p (in_state Ready (process_at t p)) no_process i in omega arith

-- or to take one.
pub receivers_ready : (q seq p : ℕ) (t : Tables) → p < length t.processes
    → times (is_released_receiver q seq) (ready p t).processes ≤ times (is_released_receiver q seq) t.processes + cond (receives_from q seq (process_at t p).rest) 1 0
receivers_ready q seq p t i = let e = times-set (is_released_receiver q seq) t.processes p (in_state Ready (process_at t p)) no_process i in omega arith

-- who is in a call on port q isn't to put a message into another,
pub sends_to_other : (q r sem seq : ℕ) (left : Rest) → q ≢ r → IsForPort q sem left → sends_to r seq left ≡ false
sends_to_other q r sem seq (PtSend ticket message) n h =
    and_left (ticket.port == r) (ticket.seq == seq) (ne_eqb ticket.port r (λ e. n (sym h.0 ∙ e)))
sends_to_other q r sem seq (PtRecv ticket) n h = refl
sends_to_other q r sem seq _ n h = absurd h

-- or to take one from it
pub receives_from_other : (q r sem seq : ℕ) (left : Rest) → q ≢ r → IsForPort q sem left → receives_from r seq left ≡ false
receives_from_other q r sem seq (PtRecv ticket) n h =
    and_left (ticket.port == r) (ticket.seq == seq) (ne_eqb ticket.port r (λ e. n (sym h.0 ∙ e)))
receives_from_other q r sem seq (PtSend ticket message) n h = refl
receives_from_other q r sem seq _ n h = absurd h

-- One who is in a call on port q and wakes keeps the counts of the others.
pub keeps_counts_ready : (q r sem p : ℕ) (t : Tables) → p < length t.processes → q ≢ r → IsForPort q sem (process_at t p).rest
    → KeepsCounts r t (ready p t)
keeps_counts_ready q r sem p t i n h = record {
  tokens = λ v e. ap (λ (x : Semaphore). x.tokens) (left_for_ready t p (in_state Ready (process_at t p)) (message_at t p) v);
  senders = λ seq. (let e = senders_ready r seq p t i in let f = cond-false {A = ℕ} (sends_to r seq (process_at t p).rest) 1 0 (sends_to_other q r sem seq (process_at t p).rest n h) in omega arith);
  receivers = λ seq. (let e = receivers_ready r seq p t i in let f = cond-false {A = ℕ} (receives_from r seq (process_at t p).rest) 1 0 (receives_from_other q r sem seq (process_at t p).rest n h) in omega arith);
}
