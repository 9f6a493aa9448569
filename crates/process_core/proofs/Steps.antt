-- Two calls, one after the other, make one move of the machine.
use Rattle.std.proofs.Common.{◌≡◌, ◌≢◌, ℕ, ◌<◌, false, List, set, ap, subst, Option, None}
use Rattle.std.proofs.lemmas.List.{set-get_or, set-set}
use Rattle.xinu_base.specs.declared.processes.Process.{Process}
use Rattle.xinu_base.specs.declared.processes.State.TheVariants.{Ready}
use Rattle.queue_table.specs.Lists.{Entry, all_delta_without, all_without, is_listed, list_at}
use Rattle.xinu_model.specs.Process.Scheduling.{in_state, ready}
use Rattle.xinu_model.specs.Tables.{Tables, Place, InReady, no_process, process_at, move_to}
use Rattle.process_core.specs.Fits.{Fits}
use Rattle.process_core.specs.Tables.{process_in}
use Rattle.process_core.proofs.Fitting.{fits_taken, fits_taken_sleeper}

-- another entry, and then a move with the last entry, is the move alone
pub entry_then_moved : (p : ℕ) (x y : Process) (m : Option ℕ) (place : Place) (t : Tables)
    → move_to p y m place (record t { processes = set t.processes p x }) ≡ move_to p y m place t
entry_then_moved p x y m place t = ap (λ l. record (move_to p y m place t) { processes = l }) (set-set t.processes p x y)

-- p, which has this message put into its slot first, becomes ready with it
pub ready-message : (p : ℕ) (m : Option ℕ) (t : Tables)
    → ready p (record t { messages = set t.messages p m }) ≡ move_to p (in_state Ready (process_at t p)) m InReady t
ready-message p m t =
    let x = in_state Ready (process_at t p) in
    ap (λ l. record (move_to p x m InReady t) { messages = l }) (set-get_or (set t.messages p m) p None)

-- p leaves its list as it is, and lists and processes still fit, if it isn't ready
pub fits_left : (ls : List (List Entry)) (ps : List Process) (p : ℕ) → Fits ls ps → p < 64 → (process_in ps p).state ≢ Ready
    → Fits (all_without p ls) ps
fits_left ls ps p f lt n =
    let F : List Process → Type 0 = λ ps. Fits (all_without p ls) ps in
    subst F (set-get_or ps p no_process) (fits_taken ls ps p (process_in ps p) f lt n)

-- the same of a sleeper
pub fits_left_sleepers : (ls : List (List Entry)) (ps : List Process) (p : ℕ) → Fits ls ps → p < 64 → is_listed p (list_at ls 128) ≡ false
    → (process_in ps p).state ≢ Ready
    → Fits (all_delta_without p ls) ps
fits_left_sleepers ls ps p f lt away n =
    let F : List Process → Type 0 = λ ps. Fits (all_delta_without p ls) ps in
    subst F (set-get_or ps p no_process) (fits_taken_sleeper ls ps p (process_in ps p) f lt away n)
