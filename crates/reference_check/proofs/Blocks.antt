-- The disk with files has as many blocks after an event as before it.
use Rattle.std.proofs.Common.{◌≡◌, ◌∙◌, ℕ, zero, suc, ◌==◌, ◌||◌, ◌%◌, cond, false, List, [], ◌∷◌, Option, Some, None, refl, ap}
use Rattle.std.proofs.lemmas.Bool.{cond_both, eqb-false}
use Rattle.xinu_base.specs.declared.lines.FileMoment.{FileMoment}
use Rattle.xinu_base.specs.declared.lines.FileMoment.TheVariants.{Finished, Next}
use Rattle.xinu_base.specs.declared.registers.Outcome.{Outcome}
use Rattle.xinu_base.specs.declared.registers.Outcome.TheVariants as outcome
use Rattle.xinu_laws.proofs.Consoles.Kept.{sound_holds}
use Rattle.xinu_laws.proofs.Consoles.Put.{putc_keeps, write_keeps}
use Rattle.xinu_laws.proofs.Consoles.Signalled.{console_control_keeps, receiving_signals, sending_signals}
use Rattle.xinu_laws.proofs.Consoles.Taken.{getc_keeps, read_keeps}
use Rattle.xinu_laws.proofs.Devices.Kept.{OfFiles, device_open_holds, device_close_holds, device_read_holds, device_write_holds, device_getc_holds, device_putc_holds, device_seek_holds, device_control_holds}
use Rattle.part_laws.proofs.FileSystems.Refusals.{effect_spares}
use Rattle.xinu_laws.proofs.Preserve.Calls.{sound_where_called}
use Rattle.xinu_laws.proofs.Preserve.Events.{may_call, may_call_after}
use Rattle.xinu_laws.proofs.RawDisks.Kept.{disk_read_keeps, disk_write_keeps, disk_control_keeps}
use Rattle.xinu_laws.proofs.Rows.RowByRow.{◌⨾◌}
use Rattle.xinu_laws.proofs.Touches.Continued.{continued_touches}
use Rattle.xinu_laws.proofs.Touches.Events.{touches_ticked}
use Rattle.xinu_laws.proofs.Touches.Few.{IsLawOfFew, law_of_few}
use Rattle.xinu_laws.proofs.Touches.Moves.{touches_sent}
use Rattle.event_laws.specs.Ownership.GivingAway.{next}
use Rattle.xinu_laws.specs.Touches.{at_a_tick, reach, Touches}
use Rattle.xinu_model.specs.Calls.{calls, continued}
use Rattle.xinu_model.specs.Clock.{ticked}
use Rattle.xinu_model.specs.Console.Signals.{keyed, sent_in, transmits}
use Rattle.xinu_model.specs.Console.Taking.{console_of}
use Rattle.xinu_model.specs.Console.Transmitting.{Sent, transmitted}
use Rattle.xinu_model.specs.Events.{call_of, with_executed, reacted, instruction_step, is_done, stepped}
use Rattle.xinu_model.specs.Files.Syscalls.{files_of, request_for}
use Rattle.xinu_model.specs.Files.Work.{FileRequest, FileStep, FileWork, calls_completed, enqueued, first_effect, issued, next_effects, queued_after, turned}
use Rattle.xinu_model.specs.Footprints.{Footprint, on_tables, on_console, on_disk}
use Rattle.xinu_model.specs.Machine.{CallResult, CallState, EventResult, Xinu, current_hart, end_of_event, nothing_happens, refused, start}
use Rattle.xinu_model.specs.Messages.{sent}
use Rattle.xinu_model.specs.Process.Calls.{kill}
use Rattle.xinu_model.specs.Process.Death.{exit, killed}
use Rattle.xinu_model.specs.Sound.State.{IsSound}
use Rattle.xinu_model.specs.Tables.{is_free, process_at, state_at}
use Rattle.xinu_model.specs.Words.{signed}
use Rattle.xinu_laws.proofs.FileSyscalls.Chosen.{touched_files}

-- from s to u the disk keeps its blocks
abbrev pub KeepsBlocks : Xinu → Xinu → Type 0
KeepsBlocks s u = (files_of u).system.blocks ≡ (files_of s).system.blocks

same_files : (s u : Xinu) → files_of u ≡ files_of s → KeepsBlocks s u
same_files s u same = ap (λ (w : FileWork). w.system.blocks) same

spared : (f : Footprint) {s u : Xinu} → f.files ≡ false → Touches (reach f) s u → KeepsBlocks s u
spared f {s} {u} e t = same_files s u (t.parts.devices.files e)

-- a death keeps them
killed_blocks : (p : ℕ) (d : CallState) → KeepsBlocks d.state (killed p d).state
killed_blocks p d =
    let parent = (process_at d.state.tables p).parent in
    let t : Touches (reach on_tables) d.state (sent parent p d).state = touches_sent parent p d in
    ap (λ (w : FileWork). w.system.blocks) (t.parts.devices.files refl)

kill_blocks : (p : ℕ) (s : Xinu) → KeepsBlocks s (kill p s).call.state
kill_blocks p s =
    let P : CallResult → Type 0 = λ h. KeepsBlocks s h.call.state in
    cond_both ((p == 0) || is_free (state_at s.tables p)) (refused s) _ P (λ _. refl)
    (λ _. cond_both (p == s.tables.current) (exit s) _ P (λ _. killed_blocks s.tables.current (start s)) (λ _. killed_blocks p (start s)))

-- and so does a call on files that waits
queued_blocks : (requests : List FileRequest) (a : FileRequest) (memory : List ℕ) (w : FileWork)
    → (queued_after requests a memory w).system.blocks ≡ w.system.blocks
queued_blocks [] a memory w = refl
queued_blocks (b ∷ requests) a memory w = refl

asks_blocks : (s : Xinu) → OfFiles (λ (h : CallResult). KeepsBlocks s h.call.state) s
asks_blocks s None at asked = refl
asks_blocks s (Some call) at asked = queued_blocks (files_of s).calls (request_for call at s) s.memory (files_of s)

-- So does each call.
blocks_law : IsLawOfFew (λ f. f.files) (λ number s u. KeepsBlocks s u)
unfolding calls
blocks_law = record {
  same = λ number s. refl;
  others = λ number f s u e t. same_files s u (t.parts.devices.files e);
  few =
      (λ a s k. kill_blocks (a 0) s) ⨾
      (λ a s k. killed_blocks s.tables.current (start s)) ⨾
      (λ a s k. device_open_holds (λ (h : CallResult). KeepsBlocks s h.call.state) (a 0) (a 1) (a 2) s refl refl refl (asks_blocks s)) ⨾
      (λ a s k. device_close_holds (λ (h : CallResult). KeepsBlocks s h.call.state) (a 0) s refl refl (asks_blocks s)) ⨾
      (λ a s k. device_read_holds (λ (h : CallResult). KeepsBlocks s h.call.state) (a 0) (a 1) (a 2) s refl
      (spared on_console refl (read_keeps (a 1) (signed (a 2)) s (sound_holds s k)).touches)
      (spared on_disk refl (disk_read_keeps (a 1) (a 2) s (sound_holds s k)).touches) (asks_blocks s)) ⨾
      (λ a s k. device_write_holds (λ (h : CallResult). KeepsBlocks s h.call.state) (a 0) (a 1) (a 2) s refl
      (spared on_console refl (write_keeps (a 1) (signed (a 2)) s (sound_holds s k)).touches)
      (spared on_disk refl (disk_write_keeps (a 1) (a 2) s (sound_holds s k)).touches) (asks_blocks s)) ⨾
      (λ a s k. device_getc_holds (λ (h : CallResult). KeepsBlocks s h.call.state) (a 0) s refl
      (spared on_console refl (getc_keeps s (sound_holds s k)).touches) (asks_blocks s)) ⨾
      (λ a s k. device_putc_holds (λ (h : CallResult). KeepsBlocks s h.call.state) (a 0) (a 1 % 256) s refl
      (spared on_console refl (putc_keeps (a 1 % 256) s (sound_holds s k)).touches) (asks_blocks s)) ⨾
      (λ a s k. device_seek_holds (λ (h : CallResult). KeepsBlocks s h.call.state) (a 0) (signed (a 1)) s refl (asks_blocks s)) ⨾
      (λ a s k. device_control_holds (λ (h : CallResult). KeepsBlocks s h.call.state) (a 0) (a 1) (a 2) s refl
      (spared on_console refl (console_control_keeps (a 1) s (sound_holds s k)).touches)
      (spared on_disk refl (disk_control_keeps (a 1) s (sound_holds s k)).touches) (asks_blocks s)) ⨾
      tt;
}

reacted_blocks : (o : Outcome) (s : Xinu) → IsSound s → KeepsBlocks s (reacted o s).state
reacted_blocks outcome.Went s k = refl
reacted_blocks outcome.Call s k = let call = call_of (current_hart s) in law_of_few blocks_law call.number call.args s k
reacted_blocks outcome.Exit s k = killed_blocks s.tables.current (start s)
reacted_blocks (outcome.Trap cause) s k = killed_blocks s.tables.current (start s)

-- A machine step keeps them,
pub stepped_blocks : (s : Xinu) → IsSound s → KeepsBlocks s (stepped s).state
stepped_blocks s k =
    let left = (process_at s.tables s.tables.current).rest in
    let goes_on = end_of_event s.tables.current [] (continued left s) in
    cond_both (s.tables.current == 0) (nothing_happens s) (cond (is_done left) (instruction_step s) goes_on)
    (λ (e : EventResult). KeepsBlocks s e.state)
    (λ _. refl)
    (λ b. let c = may_call s k (eqb-false s.tables.current 0 b) in
    cond_both (is_done left) (instruction_step s) goes_on (λ (e : EventResult). KeepsBlocks s e.state)
    (λ _. let u = with_executed (next s) s in reacted_blocks (next s).outcome u (sound_where_called u (may_call_after s c)))
    (λ _. same_files s (continued left s).call.state ((continued_touches left s k).parts.devices.files (touched_files left))))

-- and so do a tick, a received character and a transmission,
pub ticked_blocks : (s : Xinu) → IsSound s → KeepsBlocks s (ticked s).state
ticked_blocks s k = (let t : Touches at_a_tick s (ticked s).state = touches_ticked refl s k.tables in
    same_files s (ticked s).state (t.parts.devices.files refl))

pub keyed_blocks : (b : ℕ) (s : Xinu) → IsSound s → KeepsBlocks s (keyed b s).state
keyed_blocks b s k = same_files s (keyed b s).state ((receiving_signals b s (sound_holds s k)).touches.parts.devices.files refl)

sent_blocks : (found : Option Sent) (s : Xinu) → transmitted (console_of s) ≡ found → IsSound s → KeepsBlocks s (sent_in found s).state
sent_blocks None s e k = refl
sent_blocks (Some one) s e k =
    same_files s (sent_in (Some one) s).state ((sending_signals one s e (sound_holds s k)).touches.parts.devices.files refl)

pub transmits_blocks : (s : Xinu) → IsSound s → KeepsBlocks s (transmits s).state
transmits_blocks s k = sent_blocks (transmitted (console_of s)) s refl k

-- and calls on files that take effect.
first_blocks : (requests : List FileRequest) (moment : FileMoment) (x : FileStep)
    → (first_effect requests moment x).work.system.blocks ≡ x.work.system.blocks
first_blocks [] moment x = refl
first_blocks (a ∷ []) moment x = (effect_spares a.call x.work.bytes x.work.system).blocks
first_blocks (a ∷ b ∷ requests) moment x = (effect_spares a.call x.work.bytes x.work.system).blocks

next_blocks : (k : ℕ) (x : FileStep) → (next_effects k x).work.system.blocks ≡ x.work.system.blocks
next_blocks zero x = refl
next_blocks (suc k) x = next_blocks k (first_effect x.work.calls Next x) ∙ first_blocks x.work.calls Next x

turned_blocks : (requests : List FileRequest) (x : FileStep) → (turned requests x).work.system.blocks ≡ x.work.system.blocks
turned_blocks [] x = refl
turned_blocks (a ∷ requests) x = refl

pub completed_blocks : (k : ℕ) (x : FileStep) → (calls_completed k x).work.system.blocks ≡ x.work.system.blocks
completed_blocks zero x = turned_blocks x.work.calls x
completed_blocks (suc k) x = next_blocks k (first_effect x.work.calls Finished x) ∙ first_blocks x.work.calls Finished x

pub issued_blocks : (a : FileRequest) (memory : List ℕ) (w : FileWork) → (issued 1 a memory w).work.system.blocks ≡ w.system.blocks
issued_blocks a memory w =
    first_blocks (a ∷ []) Finished (record { work = enqueued a memory w; memory = memory; notes = [] }) ∙ queued_blocks w.calls a memory w
