-- The calls on files keep what holds of them, and touch nothing else.
use Rattle.std.proofs.Common.{◌≡◌, ℕ, ◌+◌, ◌==◌, true, false, not, List, [], ◌∷◌, ◌++◌, Option, Some, None, refl, sym, ap, subst, ◌∙◌, arith, ℤ, pos, negsuc}
use Rattle.std.proofs.lemmas.Bool.{cond_both, and_right, leb-true}
use Rattle.xinu_base.specs.declared.files.OpenMode.{OpenMode}
use Rattle.xinu_base.specs.declared.processes.Rest.TheVariants.{Disk}
use Rattle.xinu_base.specs.declared.processes.State.TheVariants.{Waiting}
use Rattle.xinu_laws.specs.Touches.{reach, KeepsParts, Touches}
use Rattle.xinu_model.specs.Devices.Calls.{named_control}
use Rattle.xinu_model.specs.Files.Calls.{FileCall, Delete, Read, Write, Truncate, Size}
use Rattle.xinu_model.specs.Files.Constants.{LF_CTL_DEL, LF_CTL_TRUNC, LF_CTL_SIZE}
use Rattle.xinu_model.specs.Files.Issue.{open_in, open_call, file_control_call, read_call, write_call}
use Rattle.xinu_model.specs.Files.Modes.{mode_of}
use Rattle.xinu_model.specs.Files.Sound.{IsFileCall, InRam, IsFileRequest}
use Rattle.xinu_model.specs.Files.Stored.{is_file_name}
use Rattle.xinu_model.specs.Files.Syscalls.{files_of, with_files, request_for, awaits_files, asks_files}
use Rattle.xinu_model.specs.Files.Work.{FileRequest, FileWork, queued_after, enqueued, callers_waiting}
use Rattle.xinu_model.specs.Footprints.{Footprint, on_files}
use Rattle.xinu_model.specs.Machine.{Xinu}
use Rattle.xinu_model.specs.Memory.{ram_size, in_ram}
use Rattle.xinu_model.specs.RawDisk.Callers.{living}
use Rattle.xinu_model.specs.Sound.Pools.{is_waiting}
use Rattle.xinu_model.specs.Sound.Tables.{FitsOwner}
use Rattle.xinu_model.specs.Tables.{process_at, state_at, message_at, semaphore_at, InSemaphore}
use Rattle.xinu_laws.proofs.Consoles.Kept.{Holds}
use Rattle.part_laws.proofs.FileWork.Sound.{works_queued}
use Rattle.table_laws.proofs.Frame.MoveTo.{tokens_move}
use Rattle.table_laws.proofs.Preserve.{current_within, blocked_preserves}
use Rattle.part_laws.proofs.RawDisks.Callers.{callers_last}
use Rattle.xinu_laws.proofs.RawDisks.Kept.{KeepsDisks, refused_keeps}
use Rattle.xinu_laws.proofs.RawDisks.Moves.{replies_move, waiter_added, waiters_elsewhere}
use Rattle.xinu_laws.proofs.Touches.{parts_files, touches_parts, touches_refl, touches_trans}
use Rattle.xinu_laws.proofs.Touches.Moves.{touches_blocked}

-- a call that its arguments say can be carried out
pub record CanBeMade (call : FileCall) (at : ℕ) : Type 0 where
  pub call_of : IsFileCall call
  pub range : InRam call at

abbrev pub IsAsked : Option FileCall → ℕ → Type 0
IsAsked None at = Unit {0}
IsAsked (Some call) at = CanBeMade call at

-- by their arguments: an open,
open_in_asked : (name : List ℕ) (mode : Option OpenMode) → is_file_name name ≡ true → IsAsked (open_in name mode) 0
open_in_asked name None e = tt
open_in_asked name (Some mode) e = record { call_of = e; range = tt }

pub open_asked : (name mode : List ℕ) → IsAsked (open_call name mode) 0
open_asked name mode =
    cond_both (is_file_name name) (open_in name (mode_of mode)) None (λ c. IsAsked c 0) (λ e. open_in_asked name (mode_of mode) e) (λ _. tt)

-- a control function,
pub control_asked : (f : ℕ) (name : Option (List ℕ)) → IsAsked (named_control f name) 0
control_asked f None = tt
control_asked f (Some name) =
    cond_both (f == LF_CTL_DEL) _ None (λ c. IsAsked c 0)
    (λ _. cond_both (is_file_name name) (Some (Delete name)) None (λ c. IsAsked c 0) (λ e. record { call_of = e; range = tt }) (λ _. tt)) (λ _. tt)

pub file_control_asked : (d f : ℕ) → IsAsked (file_control_call d f) 0
file_control_asked d f =
    cond_both (f == LF_CTL_TRUNC) (Some (Truncate d)) _ (λ c. IsAsked c 0) (λ _. record { call_of = tt; range = tt })
    (λ _. cond_both (f == LF_CTL_SIZE) (Some (Size d)) None (λ c. IsAsked c 0) (λ _. record { call_of = tt; range = tt }) (λ _. tt))

-- a read and a write
pub read_asked : (d at : ℕ) (n : ℤ) → IsAsked (read_call d at n) at
read_asked d at (negsuc n) = tt
read_asked d at (pos n) =
    cond_both (in_ram at n) (Some (Read d n)) None (λ c. IsAsked c at) (λ e. record { call_of = tt; range = leb-true (at + n) ram_size e }) (λ _. tt)

pub write_asked : (d at : ℕ) (n : ℤ) → IsAsked (write_call d at n) at
write_asked d at (negsuc n) = tt
write_asked d at (pos n) =
    cond_both (in_ram at n) (Some (Write d n)) None (λ c. IsAsked c at) (λ e. record { call_of = tt; range = leb-true (at + n) ram_size e }) (λ _. tt)

-- other files, and other bytes in RAM if the footprint allows it
pub files_touches : {f : Footprint} → f.files ≡ true → (s u : Xinu) (w : FileWork) → u.tables ≡ s.tables → u.harts ≡ s.harts
    → (f.ram ≡ false → u.memory ≡ s.memory) → u.parts ≡ record s.parts { devices = record s.parts.devices { files = w } } → Touches (reach f) s u
files_touches {f} may s u w tables harts ram parts =
    touches_parts s u tables harts ram (subst (λ p. KeepsParts f s.parts p) (sym parts) (parts_files may s.parts w))

-- a caller waits, whatever the files are
awaits_touches : {f : Footprint} → f.files ≡ true → (call : FileCall) (at : ℕ) (s : Xinu) → Holds s
    → Touches (reach f) s (awaits_files call at s).call.state
awaits_touches {f} may call at s c =
    let t = s.tables in
    let w = enqueued (request_for call at s) s.memory (files_of s) in
    let u = with_files w s in
    touches_trans (files_touches may s u w refl refl (λ _. refl) refl)
    (touches_blocked Waiting (Disk None) (InSemaphore 3) u c.tables.runs
    (ap ((reach f).mine 3) (c.tables.inside.devices 3 (omega arith)) ∙ ap not may)
    (and_right (not f.disk) (not f.files) (ap not may)) refl)

pub asks_touches : {f : Footprint} → f.files ≡ true → (found : Option FileCall) (at : ℕ) (s : Xinu) → Holds s
    → Touches (reach f) s (asks_files found at s).call.state
asks_touches may None at s c = touches_refl s
asks_touches may (Some call) at s c = awaits_touches may call at s c

-- one more living caller waits
waiting_more : (calls : List FileRequest) (a : FileRequest) (memory : List ℕ) (w : FileWork) (p : ℕ) → w.calls ≡ calls → a.caller ≡ Some p
    → callers_waiting (queued_after calls a memory w).calls ≡ callers_waiting w.calls ++ p ∷ []
waiting_more [] a memory w p e some = ap (λ o. living o ++ []) some ∙ sym (ap (λ l. callers_waiting l ++ p ∷ []) e)
waiting_more (b ∷ calls) a memory w p e some =
    callers_last (λ (x : FileRequest). x.caller) (b ∷ calls) a p some ∙ sym (ap (λ l. callers_waiting l ++ p ∷ []) e)

-- A caller makes a call and waits.
awaits_keeps : (call : FileCall) (at : ℕ) (s : Xinu) → Holds s → IsFileRequest (request_for call at s)
    → KeepsDisks on_files s (awaits_files call at s)
awaits_keeps call at s c is =
    let t = s.tables in
    let o = c.tables.inside in
    let r = request_for call at s in
    let w = enqueued r s.memory (files_of s) in
    let u = with_files w s in
    let x = record (process_at t t.current) { state = Waiting; rest = Disk None } in
    let m = message_at t t.current in
    let idle : is_waiting (state_at t t.current) ≡ false = ap is_waiting c.tables.runs in
    let fits : FitsOwner 3 (semaphore_at t 3).owner (Disk None) = subst (λ v. FitsOwner 3 v (Disk None))
    (sym (o.devices 3 (omega arith))) refl in
    record {
      preserved = λ k n. blocked_preserves Waiting (Disk None) (InSemaphore 3) u (record { tables = c.tables; harts = c.harts; not_null = n }) (λ h. cc) (refl, refl, refl) (omega arith, k.files.tokens, fits) tt;
      touches = awaits_touches refl call at s c;
      disks = λ k. record {
        raw = record {
          itself = k.raw.itself;
          waiters = waiters_elsewhere t t.current x m 3 2 (λ e. cc) o idle ∙ k.raw.waiters;
          tokens = tokens_move t t.current x m (InSemaphore 3) 2 ∙ k.raw.tokens;
          replies = replies_move t t.current x m (InSemaphore 3) o.processes (current_within t c.tables) refl k.raw.replies;
        };
        files = record {
          itself = works_queued (files_of s).calls r s.memory (files_of s) refl refl is k.files.itself;
          waiters = waiter_added t t.current x m 3 (omega arith) o idle ∙ ap (λ l. l ++ t.current ∷ []) k.files.waiters
              ∙ sym (waiting_more (files_of s).calls r s.memory (files_of s) t.current refl refl);
          tokens = tokens_move t t.current x m (InSemaphore 3) 3 ∙ k.files.tokens;
        };
      };
    }

-- A call is made, or refused by its arguments.
pub asks_keeps : (found : Option FileCall) (at : ℕ) (s : Xinu) → Holds s → IsAsked found at → KeepsDisks on_files s (asks_files found at s)
asks_keeps None at s c a = refused_keeps s c
asks_keeps (Some call) at s c a = awaits_keeps call at s c (record { call = a.call_of; range = a.range })
