-- Replies go to processes that are alive, and so a free number keeps the registers that it has.
use Rattle.std.proofs.Common.{◌≡◌, ℕ, zero, suc, ◌<◌, true, false, List, [], ◌∷◌, get_or, set, take, refl, ap, subst, ◌∙◌, ℤ, get_or-set_other}
use Rattle.std.specs.Prelude.{slice_index_or}
use Rattle.std.specs.List.{AllByRecursion}
use Rattle.std.proofs.lemmas.Bool.{both_ways, false_from_ne_true}
use Rattle.xinu_base.specs.Constants.{OK}
use Rattle.xinu_base.specs.declared.processes.Process.{Process}
use Rattle.xinu_base.specs.declared.processes.Rest.{Rest}
use Rattle.xinu_base.specs.declared.processes.Rest.TheVariants.{Nothing}
use Rattle.xinu_base.specs.declared.processes.State.TheVariants.{Ready}
use Rattle.xinu_base.specs.declared.registers.Hart.{Hart}
use Rattle.table_laws.specs.Preserve.{AreAlive, FitsAnswer}
use Rattle.xinu_model.specs.Machine.{Answer, Returns, Waits, Gone, Panics, Silent, CallState, no_hart, reply_at_unblock, unblock_with, unblock_all_with, with_reply, with_replies, and_callers}
use Rattle.xinu_model.specs.Process.Scheduling.{in_state, ready}
use Rattle.xinu_model.specs.Semaphores.Waiting.{signal_first, signalled, signalled_times}
use Rattle.xinu_model.specs.Sound.Tables.{count_in, IsInside}
use Rattle.xinu_model.specs.Tables.{no_process, Tables, process_at, state_at, semaphore_at, is_free}
use Rattle.table_laws.proofs.Lists.Orders.{all_append, all_weaker}
use Rattle.table_laws.proofs.Tables.Unblock.{all_counted, all_take, waiter_waits}

-- Who is free was free if a process is written that was free if it is.
pub was_free : (l : List Process) (q : ℕ) (x : Process) → (is_free x.state ≡ true → is_free (get_or l q no_process).state ≡ true) → (p : ℕ)
    → is_free (get_or (set l q x) p no_process).state ≡ true → is_free (get_or l p no_process).state ≡ true
was_free [] q x old p h = h
was_free (y ∷ l) zero x old zero h = old h
was_free (y ∷ l) zero x old (suc p) h = h
was_free (y ∷ l) (suc q) x old zero h = h
was_free (y ∷ l) (suc q) x old (suc p) h = was_free l q x old p h

-- Who is alive still is if who is free was free.
pub alive_kept : (t u : Tables) → ((p : ℕ) → is_free (state_at u p) ≡ true → is_free (state_at t p) ≡ true) → (replies : List (ℕ × ℤ))
    → AreAlive t replies → AreAlive u replies
alive_kept t u was replies a =
    all_weaker (λ r. is_free (state_at t r.0) ≡ false) (λ r. is_free (state_at u r.0) ≡ false)
    (λ r e. false_from_ne_true (is_free (state_at u r.0)) (λ h. both_ways (is_free (state_at t r.0)) e (was r.0 h))) replies a

-- these processes are alive
abbrev pub AllLive : Tables → List ℕ → Type 0
AllLive t ps = AllByRecursion (λ p. is_free (state_at t p) ≡ false) ps

-- who is alive still is after another became ready
live_after : (t : Tables) (q p : ℕ) → is_free (state_at t p) ≡ false → is_free (state_at (ready q t) p) ≡ false
live_after t q p e =
    false_from_ne_true (is_free (state_at (ready q t) p))
    (λ h. both_ways (is_free (state_at t p)) e (was_free t.processes q (in_state Ready (process_at t q)) (λ g. absurd (cc)) p h))

-- what is answered at once goes to the process that is released
reply_is_alive : (t : Tables) (value : ℤ) (p : ℕ) (left : Rest) → is_free (state_at t p) ≡ false
    → AreAlive t (reply_at_unblock value p left)
reply_is_alive t value p Nothing e = (e, tt)
reply_is_alive t value p _ e = tt

-- A process is released that is alive.
alive_unblock : (value : ℤ) (p : ℕ) (d : CallState) → is_free (state_at d.state.tables p) ≡ false → AreAlive d.state.tables d.released
    → AreAlive (unblock_with value p d).state.tables (unblock_with value p d).released
alive_unblock value p d e a =
    let t = d.state.tables in
    let Live : ℕ × ℤ → Type 0 = λ r. is_free (state_at (ready p t) r.0) ≡ false in
    all_append Live d.released (reply_at_unblock value p (process_at t p).rest)
    (all_weaker (λ r. is_free (state_at t r.0) ≡ false) Live (λ r h. live_after t p r.0 h) d.released a)
    (reply_is_alive (ready p t) value p (process_at t p).rest (live_after t p p e))

-- So are some, one after another.
pub alive_unblock_all : (value : ℤ) (ps : List ℕ) (d : CallState) → AllLive d.state.tables ps → AreAlive d.state.tables d.released
    → AreAlive (unblock_all_with value ps d).state.tables (unblock_all_with value ps d).released
alive_unblock_all value [] d all a = a
alive_unblock_all value (p ∷ ps) d all a =
    let t = d.state.tables in
    alive_unblock_all value ps (unblock_with value p d)
    (all_weaker (λ q. is_free (state_at t q) ≡ false) (λ q. is_free (state_at (ready p t) q) ≡ false) (λ q h. live_after t p q h) ps all.1)
    (alive_unblock value p d all.0 a)

-- the waiters of a semaphore are alive
live_waiters : (t : Tables) (sem : ℕ) → IsInside t → AllLive t (semaphore_at t sem).waiters
live_waiters t sem o =
    let l = (semaphore_at t sem).waiters in
    all_weaker (λ p. 0 < count_in p l) (λ p. is_free (state_at t p) ≡ false) (λ p h. ap is_free (waiter_waits t sem p o h)) l
    (all_counted l)

-- one signal, if these wait
alive_first : (sem : ℕ) (l : List ℕ) (d : CallState) → AllLive d.state.tables l → AreAlive d.state.tables d.released
    → AreAlive (signal_first sem l d).state.tables (signal_first sem l d).released
alive_first sem [] d all a = a
alive_first sem (p ∷ ps) d all a = alive_unblock OK p d all.0 a

-- A signal releases one who is alive, if any,
pub alive_signalled : (sem : ℕ) (d : CallState) → IsInside d.state.tables → AreAlive d.state.tables d.released
    → AreAlive (signalled sem d).state.tables (signalled sem d).released
alive_signalled sem d o a = alive_first sem (semaphore_at d.state.tables sem).waiters d (live_waiters d.state.tables sem o) a

-- n signals release such,
pub alive_signalled_times : (sem n : ℕ) (d : CallState) → IsInside d.state.tables → AreAlive d.state.tables d.released
    → AreAlive (signalled_times sem n d).state.tables (signalled_times sem n d).released
alive_signalled_times sem n d o a =
    let t = d.state.tables in
    let l = (semaphore_at t sem).waiters in
    alive_unblock_all OK (take n l) d (all_take (λ p. is_free (state_at t p) ≡ false) n l (live_waiters t sem o)) a

-- and so does who releases all.
pub alive_emptied : (value : ℤ) (sem : ℕ) (d : CallState) → IsInside d.state.tables → AreAlive d.state.tables d.released
    → AreAlive (unblock_all_with value (semaphore_at d.state.tables sem).waiters d).state.tables (unblock_all_with value (semaphore_at d.state.tables sem).waiters d).released
alive_emptied value sem d o a = alive_unblock_all value (semaphore_at d.state.tables sem).waiters d (live_waiters d.state.tables sem o) a

-- The caller is alive if it gets a reply.
pub alive_callers : (answer : Answer) (t : Tables) (replies : List (ℕ × ℤ)) → FitsAnswer answer t → AreAlive t replies
    → AreAlive t (and_callers answer t.current replies)
alive_callers (Returns value) t replies k a =
    all_append (λ r. is_free (state_at t r.0) ≡ false) replies ((t.current, value) ∷ []) a (ap is_free k.runs, tt)
alive_callers Waits t replies k a = a
alive_callers Gone t replies k a = a
alive_callers Panics t replies k a = a
alive_callers Silent t replies k a = a

-- Replies leave the registers of a free number as they are.
pub replies_spare_free : (t : Tables) (p : ℕ) → is_free (state_at t p) ≡ true → (replies : List (ℕ × ℤ)) (harts : List Hart)
    → AreAlive t replies → slice_index_or (with_replies replies harts) p no_hart ≡ slice_index_or harts p no_hart
replies_spare_free t p free [] harts a = refl
replies_spare_free t p free (r ∷ replies) harts a =
    replies_spare_free t p free replies (with_reply harts r) a.1
    ∙ get_or-set_other harts r.0 p _ no_hart
    (λ e. both_ways (is_free (state_at t r.0)) a.0 (subst (λ k. is_free (state_at t k) ≡ true) e free))
