-- A death gives up what the process asked of the disks, and keeps what holds of them.
use Rattle.std.proofs.Common.{ℕ, ◌<◌, ◌==◌, ◌||◌, None, refl, sym, ap, ◌∙◌}
use Rattle.std.proofs.lemmas.Bool.{both_ways, cond_both, or_parts}
use Rattle.table_laws.specs.Preserve.{MayCall}
use Rattle.xinu_laws.specs.Touches.{reach, Touches}
use Rattle.xinu_model.specs.Footprints.{on_tables}
use Rattle.xinu_model.specs.Machine.{Xinu, CallState, CallResult, start, refused}
use Rattle.xinu_model.specs.Messages.{sent}
use Rattle.xinu_model.specs.Process.Calls.{kill}
use Rattle.xinu_model.specs.Process.Death.{killed, exit}
use Rattle.xinu_model.specs.RawDisk.Calls.{disk_of}
use Rattle.xinu_model.specs.Sound.Tables.{IsInside}
use Rattle.xinu_model.specs.Tables.{Semaphore, no_process, process_at, state_at, is_free, numbers_without, Nowhere}
use Rattle.xinu_model.specs.Files.Syscalls.{files_of}
use Rattle.part_laws.proofs.FileWork.Sound.{sound_given_up, callers_stay}
use Rattle.table_laws.proofs.Frame.MoveTo.{tokens_move}
use Rattle.table_laws.proofs.Preserve.{current_within}
use Rattle.table_laws.proofs.Tables.MoveTo.{within_table}
use Rattle.xinu_laws.proofs.RawDisks.Moves.{HasDisks, replies_move}
use Rattle.part_laws.proofs.RawDisks.Killed.{callers_left, sound_left}
use Rattle.table_laws.proofs.Tables.Deaths.{inside_sent}
use Rattle.table_laws.proofs.Tables.Places.{semaphore_at_without}
use Rattle.xinu_laws.proofs.Touches.Kept.{keeps_disks}
use Rattle.xinu_laws.proofs.Touches.Moves.{touches_sent}

-- A process that isn't the null process dies.
pub killed_keeps_disk : (p : ℕ) (d : CallState) → IsInside d.state.tables → p < 64 → HasDisks d.state → HasDisks (killed p d).state
killed_keeps_disk p d o w k =
    let parent = (process_at d.state.tables p).parent in
    let told = sent parent p d in
    let inside = inside_sent parent p d o in
    let touches : Touches (reach on_tables) d.state told.state = touches_sent parent p d in
    let t = told.state.tables in
    let m : HasDisks told.state = keeps_disks {f = on_tables} refl refl touches o inside k in
    record {
      raw = record {
        itself = sound_left p (disk_of told.state) m.raw.itself;
        waiters = ap (λ (x : Semaphore). x.waiters) (semaphore_at_without p 2 t.semaphores) ∙ ap (numbers_without p) m.raw.waiters ∙ sym (callers_left p (disk_of told.state));
        tokens = tokens_move t p no_process None Nowhere 2 ∙ m.raw.tokens;
        replies = replies_move t p no_process None Nowhere inside.processes w tt m.raw.replies;
      };
      files = record {
        itself = sound_given_up p (files_of told.state) m.files.itself;
        waiters = ap (λ (x : Semaphore). x.waiters) (semaphore_at_without p 3 t.semaphores) ∙ ap (numbers_without p) m.files.waiters ∙ sym (callers_stay p (files_of told.state));
        tokens = tokens_move t p no_process None Nowhere 3 ∙ m.files.tokens;
      };
    }

-- The caller dies,
pub exit_keeps_disk : (s : Xinu) → MayCall s → HasDisks s → HasDisks (exit s).call.state
exit_keeps_disk s c k = killed_keeps_disk s.tables.current (start s) c.tables.inside (current_within s.tables c.tables) k

-- or a process that isn't free.
pub kill_keeps_disk : (p : ℕ) (s : Xinu) → MayCall s → HasDisks s → HasDisks (kill p s).call.state
kill_keeps_disk p s c k =
    let P : CallResult → Type 0 = λ h. HasDisks h.call.state in
    cond_both ((p == 0) || is_free (state_at s.tables p)) (refused s) _ P (λ _. k)
    (λ b. let parts = or_parts (p == 0) (is_free (state_at s.tables p)) b in
    let w = within_table s.tables p c.tables.inside.processes (λ e. both_ways (is_free (state_at s.tables p)) parts.1 (ap is_free e)) in
    cond_both (p == s.tables.current) (exit s) _ P (λ _. exit_keeps_disk s c k) (λ _. killed_keeps_disk p (start s) c.tables.inside w k))
