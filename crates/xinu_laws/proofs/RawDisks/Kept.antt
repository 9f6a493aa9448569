-- The calls on the raw disk keep what holds of it, and touch nothing else.
use Rattle.std.proofs.Common.{◌≡◌, ◌≢◌, ℕ, ◌+◌, ◌==◌, true, false, cond, List, [], ◌∷◌, ◌++◌, length, Option, Some, None, refl, sym, ap, subst, ◌∙◌, arith, ℤ, pos}
use Rattle.std.proofs.lemmas.Bool.{cond_both, and_parts, leb-true, ltb-true}
use Rattle.xinu_base.specs.declared.processes.Rest.TheVariants.{Disk}
use Rattle.xinu_base.specs.declared.processes.State.TheVariants.{Waiting}
use Rattle.table_laws.specs.Preserve.{IsPreserved}
use Rattle.xinu_laws.specs.Touches.{reach, KeepsParts, Touches}
use Rattle.xinu_model.specs.Footprints.{Footprint, on_disk}
use Rattle.xinu_model.specs.Machine.{Xinu, CallResult, refused}
use Rattle.xinu_model.specs.Memory.{ram_size, in_ram, bytes_from}
use Rattle.xinu_model.specs.RawDisk.Calls.{disk_of, with_disk, request_of, awaits_disk, may_request, disk_read, disk_write, disk_control}
use Rattle.xinu_model.specs.RawDisk.Constants.{RD_BLKSIZ, RD_CTL_SIZE}
use Rattle.xinu_model.specs.RawDisk.Requests.{RawDisk, has_block, requested}
use Rattle.xinu_model.specs.RawDisk.Sound.{IsWritten, IsRequest}
use Rattle.xinu_model.specs.Semaphores.Calls.{answers}
use Rattle.xinu_model.specs.Sound.Pools.{is_waiting}
use Rattle.xinu_model.specs.Sound.Tables.{FitsOwner}
use Rattle.xinu_model.specs.Tables.{process_at, state_at, message_at, semaphore_at, InSemaphore}
use Rattle.xinu_laws.proofs.Consoles.Kept.{Holds}
use Rattle.table_laws.proofs.Frame.MoveTo.{tokens_move}
use Rattle.part_laws.proofs.FileWork.Sound.{bytes_from_size}
use Rattle.table_laws.proofs.Preserve.{current_within, blocked_preserves}
use Rattle.xinu_laws.proofs.RawDisks.Moves.{HasDisks, replies_move, waiter_added, waiters_elsewhere}
use Rattle.part_laws.proofs.RawDisks.Requested.{requesters_more, sound_requested}
use Rattle.xinu_laws.proofs.Touches.{parts_disk, touches_parts, touches_refl, touches_trans}
use Rattle.xinu_laws.proofs.Touches.Moves.{touches_blocked}

-- What a step on a disk keeps: it touches what a footprint names alone, keeps what holds of both disks, and if the null process doesn't make it,
-- tables and registers are as they should be.
pub record KeepsDisks (f : Footprint) (s : Xinu) (h : CallResult) : Type 0 where
  pub preserved : HasDisks s → s.tables.current ≢ 0 → IsPreserved h
  pub touches : Touches (reach f) s h.call.state
  pub disks : HasDisks s → HasDisks h.call.state

-- another raw disk, and other bytes in RAM if the footprint allows it
pub disk_touches : {f : Footprint} → f.disk ≡ true → (s u : Xinu) (d : RawDisk) → u.tables ≡ s.tables → u.harts ≡ s.harts
    → (f.ram ≡ false → u.memory ≡ s.memory) → u.parts ≡ record s.parts { devices = record s.parts.devices { disk = d } }
    → Touches (reach f) s u
disk_touches {f} may s u d tables harts ram parts =
    touches_parts s u tables harts ram (subst (λ p. KeepsParts f s.parts p) (sym parts) (parts_disk may s.parts d))

pub answers_keeps : {f : Footprint} (value : ℤ) (s : Xinu) → Holds s → KeepsDisks f s (answers value s)
answers_keeps value s c =
    record { preserved = λ _ _. record { tables = c.tables; harts = c.harts; released = tt }; touches = touches_refl s; disks = λ k. k }

pub refused_keeps : {f : Footprint} (s : Xinu) → Holds s → KeepsDisks f s (refused s)
refused_keeps s c =
    record { preserved = λ _ _. record { tables = c.tables; harts = c.harts; released = tt }; touches = touches_refl s; disks = λ k. k }

-- A caller makes a request and waits.
awaits_keeps : (written : Option (List ℕ)) (at block : ℕ) (s : Xinu) → Holds s
    → IsRequest (length (disk_of s).blocks) (request_of written at block s) → KeepsDisks on_disk s (awaits_disk written at block s)
awaits_keeps written at block s c is =
    let t = s.tables in
    let o = c.tables.inside in
    let r = request_of written at block s in
    let d = requested r (disk_of s) in
    let u = with_disk d s in
    let x = record (process_at t t.current) { state = Waiting; rest = Disk None } in
    let m = message_at t t.current in
    let idle : is_waiting (state_at t t.current) ≡ false = ap is_waiting c.tables.runs in
    let fits : FitsOwner 2 (semaphore_at t 2).owner (Disk None) = subst (λ v. FitsOwner 2 v (Disk None))
    (sym (o.devices 2 (omega arith))) refl in
    record {
      preserved = λ k n. blocked_preserves Waiting (Disk None) (InSemaphore 2) u (record { tables = c.tables; harts = c.harts; not_null = n }) (λ h. cc) (refl, refl, refl) (omega arith, k.raw.tokens, fits) tt;
      touches = touches_trans (disk_touches refl s u d refl refl (λ _. refl) refl)
          (touches_blocked Waiting (Disk None) (InSemaphore 2) u c.tables.runs (ap ((reach on_disk).mine 2) (o.devices 2 (omega arith))) refl refl);
      disks = λ k. record {
        raw = record {
          itself = sound_requested r (disk_of s) refl is k.raw.itself;
          waiters = waiter_added t t.current x m 2 (omega arith) o idle ∙ ap (λ l. l ++ t.current ∷ []) k.raw.waiters ∙ sym (requesters_more (disk_of s).requests r t.current refl);
          tokens = tokens_move t t.current x m (InSemaphore 2) 2 ∙ k.raw.tokens;
          replies = replies_move t t.current x m (InSemaphore 2) o.processes (current_within t c.tables) refl k.raw.replies;
        };
        files = record {
          itself = k.files.itself;
          waiters = waiters_elsewhere t t.current x m 2 3 (λ e. cc) o idle ∙ k.files.waiters;
          tokens = tokens_move t t.current x m (InSemaphore 2) 3 ∙ k.files.tokens;
        };
      };
    }

-- a request that may be made
requests_keep : (written : Option (List ℕ)) (at block : ℕ) (s : Xinu) → Holds s → (may_request at block s ≡ true → IsWritten written)
    → KeepsDisks on_disk s (cond (may_request at block s) (awaits_disk written at block s) (refused s))
requests_keep written at block s c w =
    cond_both (may_request at block s) (awaits_disk written at block s) (refused s) (KeepsDisks on_disk s)
    (λ e. let parts = and_parts (in_ram at RD_BLKSIZ) (has_block block (disk_of s)) e in
    awaits_keeps written at block s c (record { block = ltb-true block (length (disk_of s).blocks) parts.1; range = leb-true (at + RD_BLKSIZ) ram_size parts.0; written = w e }))
    (λ _. refused_keeps s c)

-- `read`,
pub disk_read_keeps : (at block : ℕ) (s : Xinu) → Holds s → KeepsDisks on_disk s (disk_read at block s)
disk_read_keeps at block s c = requests_keep None at block s c (λ _. tt)

-- `control`,
pub disk_control_keeps : (f : ℕ) (s : Xinu) → Holds s → KeepsDisks on_disk s (disk_control f s)
disk_control_keeps f s c =
    let n = pos (length (disk_of s).blocks) in
    cond_both (f == RD_CTL_SIZE) (answers n s) (refused s) (KeepsDisks on_disk s) (λ _. answers_keeps n s c) (λ _. refused_keeps s c)

-- and `write`.
pub disk_write_keeps : (at block : ℕ) (s : Xinu) → Holds s → KeepsDisks on_disk s (disk_write at block s)
disk_write_keeps at block s c =
    requests_keep (Some (bytes_from s.memory at RD_BLKSIZ)) at block s c (λ _. bytes_from_size s.memory at RD_BLKSIZ)
