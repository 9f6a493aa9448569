-- What those answer who waited on a semaphore that a process made and are released.
use Rattle.std.proofs.Common.{◌≡◌, ℕ, ◌<◌, true, List, [], ◌∷◌, ◌++◌, map, take, refl, sym, ap, subst, ◌∙◌, ℤ, pos}
use Rattle.std.specs.List.{AllByRecursion}
use Rattle.std.proofs.lemmas.Bool.{cond-true}
use Rattle.std.proofs.lemmas.List.{append-nil, append_assoc}
use Rattle.xinu_base.specs.Constants.{OK, SYSERR}
use Rattle.xinu_base.specs.declared.processes.Process.{Process}
use Rattle.xinu_base.specs.declared.processes.Rest.{Rest}
use Rattle.xinu_base.specs.declared.processes.Rest.TheVariants.{Nothing}
use Rattle.xinu_base.specs.declared.processes.State.TheVariants.{Ready}
use Rattle.xinu_model.specs.Machine.{Xinu, CallState, CallResult, start, reply_at_unblock, unblock_with, unblock_all_with}
use Rattle.xinu_model.specs.Process.Scheduling.{in_state, ready, ready_all}
use Rattle.xinu_model.specs.Semaphores.Calls.{semdelete, semreset}
use Rattle.xinu_model.specs.Semaphores.Counts.{with_semaphore, is_good}
use Rattle.xinu_model.specs.Semaphores.Waiting.{signal_first, signalled, signalled_times, emptied_with}
use Rattle.xinu_model.specs.Sound.Tables.{count_in, FitsOwner, IsInside}
use Rattle.xinu_model.specs.Tables.{no_process, no_semaphore, Tables, process_at, semaphore_at}
use Rattle.table_laws.proofs.Frame.MoveTo.{same_written}
use Rattle.table_laws.proofs.Lists.Orders.{all_weaker}
use Rattle.xinu_laws.proofs.Preserve.Semaphores.{good_semaphore}
use Rattle.table_laws.proofs.Tables.Unblock.{unblock_all_with_ready, all_counted, all_take}

-- nothing is left of these processes' calls
abbrev pub AreDone : Tables → List ℕ → Type 0
AreDone t ps = AllByRecursion (λ p. (process_at t p).rest ≡ Nothing) ps

-- who becomes ready leaves them so
done_after : (t : Tables) (q : ℕ) (ps : List ℕ) → AreDone t ps → AreDone (ready q t) ps
done_after t q ps h =
    all_weaker (λ p. (process_at t p).rest ≡ Nothing) (λ p. (process_at (ready q t) p).rest ≡ Nothing)
    (λ p e. same_written (λ (x : Process). x.rest) t.processes q p (in_state Ready (process_at t q)) no_process refl ∙ e) ps h

-- Those whose calls are complete answer in their order.
pub released_all : (value : ℤ) (ps : List ℕ) (d : CallState) → AreDone d.state.tables ps
    → (unblock_all_with value ps d).released ≡ d.released ++ map (λ p. (p, value)) ps
released_all value [] d h = sym (append-nil d.released)
released_all value (p ∷ ps) d h =
    released_all value ps (unblock_with value p d) (done_after d.state.tables p ps h.1)
    ∙ ap (λ (left : Rest). (d.released ++ reply_at_unblock value p left) ++ map (λ q. (q, value)) ps) h.0
    ∙ append_assoc d.released ((p, value) ∷ []) (map (λ q. (q, value)) ps)

-- Nothing is left of the calls of those who wait on a semaphore that a process made.
pub waiters_are_done : (t : Tables) (sem : ℕ) → IsInside t → is_good sem t ≡ true → AreDone t (semaphore_at t sem).waiters
waiters_are_done t sem o good =
    let l = (semaphore_at t sem).waiters in
    all_weaker (λ p. 0 < count_in p l) (λ p. (process_at t p).rest ≡ Nothing)
    (λ p h. subst (λ by. FitsOwner sem by (process_at t p).rest) (good_semaphore t sem o good).owner (o.rests sem p h)) l (all_counted l)

-- All who wait are released.
released_emptied : (value : ℤ) (sem : ℕ) (s : Xinu) → IsInside s.tables → is_good sem s.tables ≡ true
    → (emptied_with value sem (start s)).released ≡ map (λ p. (p, value)) (semaphore_at s.tables sem).waiters
released_emptied value sem s o good =
    released_all value (semaphore_at s.tables sem).waiters (start s) (waiters_are_done s.tables sem o good)

-- A delete refuses them,
pub released_by_delete : (sem : ℕ) (s : Xinu) → IsInside s.tables → is_good sem s.tables ≡ true
    → (semdelete sem s).call.released ≡ map (λ p. (p, SYSERR)) (semaphore_at s.tables sem).waiters
released_by_delete sem s o good =
    ap (λ (r : CallResult). r.call.released) (cond-true (is_good sem s.tables) _ _ good) ∙ released_emptied SYSERR sem s o good

-- and else changes only who waits and the semaphore.
pub left_by_delete : (sem : ℕ) (s : Xinu) → is_good sem s.tables ≡ true
    → (semdelete sem s).call.state ≡ record s { tables = with_semaphore sem no_semaphore (ready_all (semaphore_at s.tables sem).waiters s.tables) }
left_by_delete sem s good =
    ap (λ (r : CallResult). r.call.state) (cond-true (is_good sem s.tables) _ _ good)
    ∙ ap (λ (u : Xinu). record u { tables = with_semaphore sem no_semaphore u.tables })
    (unblock_all_with_ready SYSERR (semaphore_at s.tables sem).waiters (start s))

-- A reset answers that their calls succeeded.
pub released_by_reset : (sem n : ℕ) (s : Xinu) → IsInside s.tables → is_good sem s.tables ≡ true
    → (semreset sem (pos n) s).call.released ≡ map (λ p. (p, OK)) (semaphore_at s.tables sem).waiters
released_by_reset sem n s o good =
    ap (λ (r : CallResult). r.call.released) (cond-true (is_good sem s.tables) _ _ good) ∙ released_emptied OK sem s o good

-- So does a signal, if these wait,
released_first : (sem : ℕ) (l : List ℕ) (d : CallState) → AreDone d.state.tables l
    → (signal_first sem l d).released ≡ d.released ++ map (λ p. (p, OK)) (take 1 l)
released_first sem [] d h = sym (append-nil d.released)
released_first sem (p ∷ ps) d h = ap (λ (left : Rest). d.released ++ reply_at_unblock OK p left) h.0

pub released_by_signal : (sem : ℕ) (d : CallState) → IsInside d.state.tables → is_good sem d.state.tables ≡ true
    → (signalled sem d).released ≡ d.released ++ map (λ p. (p, OK)) (take 1 (semaphore_at d.state.tables sem).waiters)
released_by_signal sem d o good =
    released_first sem (semaphore_at d.state.tables sem).waiters d (waiters_are_done d.state.tables sem o good)

-- and so do n of them.
pub released_by_signals : (sem n : ℕ) (d : CallState) → IsInside d.state.tables → is_good sem d.state.tables ≡ true
    → (signalled_times sem n d).released ≡ d.released ++ map (λ p. (p, OK)) (take n (semaphore_at d.state.tables sem).waiters)
released_by_signals sem n d o good =
    let l = (semaphore_at d.state.tables sem).waiters in
    released_all OK (take n l) d
    (all_take (λ p. (process_at d.state.tables p).rest ≡ Nothing) n l (waiters_are_done d.state.tables sem o good))
