-- All who wait on the two semaphores of a port are released: nobody waits there any longer.
use Rattle.std.proofs.Common.{◌≡◌, ℕ, List, [], ◌∷◌, Some, refl, sym, ap, subst, ◌∙◌}
use Rattle.xinu_base.specs.declared.processes.Process.{Process}
use Rattle.xinu_base.specs.declared.processes.State.TheVariants.{Ready}
use Rattle.xinu_base.specs.declared.semaphores.Owner.TheVariants as owner
use Rattle.xinu_base.specs.Constants.{OK}
use Rattle.table_laws.specs.Preserve.{AreAlive}
use Rattle.table_laws.proofs.Tables.Alive.{alive_emptied}
use Rattle.xinu_model.specs.Machine.{Xinu, CallState}
use Rattle.xinu_model.specs.Process.Scheduling.{in_state, ready, ready_all}
use Rattle.xinu_model.specs.Ports.Queues.{PortQueue}
use Rattle.xinu_model.specs.Semaphores.Waiting.{emptied}
use Rattle.xinu_model.specs.Sound.Tables.{IsSoundTables}
use Rattle.xinu_model.specs.Tables.{no_process, Semaphore, Tables, process_at, message_at, semaphore_at, numbers_without}
use Rattle.table_laws.proofs.Frame.MoveTo.{same_written}
use Rattle.xinu_laws.proofs.Touches.Moves.{parts_emptied}
use Rattle.xinu_laws.proofs.Preserve.Semaphores.{harts_emptied}
use Rattle.table_laws.proofs.Tables.Unblock.{unblock_all_ready, sound_emptied, emptied_has_no_waiters, owner_emptied}
use Rattle.xinu_laws.proofs.Ports.Kept.{KeepsRests, keeps_rests_trans}
use Rattle.xinu_laws.proofs.Ports.Moves.{left_for_ready}

-- who becomes ready is in the call in which it was
rests_ready : (ps : List ℕ) (t : Tables) (p : ℕ) → (process_at (ready_all ps t) p).rest ≡ (process_at t p).rest
rests_ready [] t p = refl
rests_ready (r ∷ ps) t p =
    rests_ready ps (ready r t) p ∙ same_written (λ (x : Process). x.rest) t.processes r p (in_state Ready (process_at t r)) no_process refl

-- if nobody waits nobody waits after some become ready
waiters_stay_gone : (ps : List ℕ) (t : Tables) (sem : ℕ) → (semaphore_at t sem).waiters ≡ []
    → (semaphore_at (ready_all ps t) sem).waiters ≡ []
waiters_stay_gone [] t sem e = e
waiters_stay_gone (p ∷ ps) t sem e =
    waiters_stay_gone ps (ready p t) sem
    (ap (λ (x : Semaphore). x.waiters) (left_for_ready t p (in_state Ready (process_at t p)) (message_at t p) sem)
    ∙ ap (numbers_without p) e)

-- the same if a semaphore is emptied
rests_emptied : (sem : ℕ) (d : CallState) → KeepsRests d.state.tables (emptied sem d).state.tables
rests_emptied sem d =
    let l = (semaphore_at d.state.tables sem).waiters in
    record { rests = λ p h. subst (λ (s : Xinu). (process_at s.tables p).rest ≡ (process_at d.state.tables p).rest) (sym (unblock_all_ready l d)) (rests_ready l d.state.tables p) }

still_no_waiters : (sem r : ℕ) (d : CallState) → (semaphore_at d.state.tables r).waiters ≡ []
    → (semaphore_at (emptied sem d).state.tables r).waiters ≡ []
still_no_waiters sem r d e =
    let l = (semaphore_at d.state.tables sem).waiters in
    subst (λ (s : Xinu). (semaphore_at s.tables r).waiters ≡ []) (sym (unblock_all_ready l d)) (waiters_stay_gone l d.state.tables r e)

-- From d to e all are released who waited on the two semaphores of port q.
pub record IsCleared (q : ℕ) (queue : PortQueue) (d e : CallState) : Type 0 where
  pub tables : IsSoundTables e.state.tables
  pub harts : e.state.harts ≡ d.state.harts
  pub released : AreAlive d.state.tables d.released → AreAlive e.state.tables e.released
  pub owners : (r : ℕ) → (semaphore_at e.state.tables r).owner ≡ (semaphore_at d.state.tables r).owner
  pub rests : KeepsRests d.state.tables e.state.tables
  pub no_senders : (semaphore_at e.state.tables queue.send).waiters ≡ []
  pub no_receivers : (semaphore_at e.state.tables queue.receive).waiters ≡ []
  pub parts : e.state.parts ≡ d.state.parts

-- Both semaphores are emptied.
pub port_cleared : (q : ℕ) (queue : PortQueue) (d : CallState) → IsSoundTables d.state.tables
    → (semaphore_at d.state.tables queue.send).owner ≡ Some (owner.Port q)
    → (semaphore_at d.state.tables queue.receive).owner ≡ Some (owner.Port q)
    → IsCleared q queue d (emptied queue.receive (emptied queue.send d))
port_cleared q queue d k send receive =
    let one = emptied queue.send d in
    let two = emptied queue.receive one in
    let sound = sound_emptied queue.send d k in
    record {
      tables = sound_emptied queue.receive one sound;
      harts = harts_emptied queue.receive one ∙ harts_emptied queue.send d;
      released = λ a. alive_emptied OK queue.receive one sound.inside (alive_emptied OK queue.send d k.inside a);
      owners = λ r. owner_emptied queue.receive r one ∙ owner_emptied queue.send r d;
      rests = keeps_rests_trans d.state.tables one.state.tables two.state.tables (rests_emptied queue.send d) (rests_emptied queue.receive one);
      no_senders = still_no_waiters queue.receive queue.send one (emptied_has_no_waiters queue.send d);
      no_receivers = emptied_has_no_waiters queue.receive one;
      parts = parts_emptied queue.receive one ∙ parts_emptied queue.send d;
    }
