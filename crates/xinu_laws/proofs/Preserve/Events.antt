-- Each event keeps the whole state sound, and so does each run; the machine starts in a sound state.
use Rattle.std.proofs.Common.{◌≡◌, ◌≢◌, ◌<◌, ◌≤◌, ◌==◌, ◌+◌, ℕ, zero, suc, map, sym, arith, Bool, true, false, Option, Some, None, List, [], ◌∷◌, cond, length, refl, ap, subst, ◌∙◌}
use Rattle.std.specs.Prelude.{is_some}
use Rattle.std.proofs.lemmas.Bool.{cond_both, eqb-false}
use Rattle.xinu_base.specs.declared.events.End.{End}
use Rattle.xinu_base.specs.declared.events.Event.{Event}
use Rattle.xinu_base.specs.declared.events.Event.TheVariants.{Step, Tick, Key, Tx, Disk0, Disk1, Fail0}
use Rattle.xinu_base.specs.declared.lines.TranscriptLine.{TranscriptLine}
use Rattle.xinu_base.specs.declared.lines.TranscriptLine.TheVariants as line
use Rattle.xinu_base.specs.declared.registers.Outcome.{Outcome}
use Rattle.xinu_base.specs.declared.registers.Outcome.TheVariants as outcome
use Rattle.xinu_model.specs.Boot.{Loaded, Boots, boot}
use Rattle.xinu_model.specs.Calls.{called, continued}
use Rattle.xinu_model.specs.Clock.{due, ticked}
use Rattle.xinu_model.specs.Console.Signals.{receiving, keyed, after_sent, sending, sent_in}
use Rattle.xinu_model.specs.Console.Taking.{console_of}
use Rattle.xinu_model.specs.Console.Transmitting.{Sent, transmitted}
use Rattle.xinu_model.specs.Events.{call_of, call_line, exit_call, with_executed, reacted, is_done, instruction_step, stepped, next_file_call, step_at_once, step_with, effect_of}
use Rattle.xinu_model.specs.Files.Syscalls.{files_of, file_step, file_line, completing, completed_in, at_once}
use Rattle.xinu_model.specs.Files.Work.{FileRequest, calls_completed, least_effects, issued}
use Rattle.xinu_model.specs.Isa.Exec.{exec}
use Rattle.xinu_model.specs.Machine.{Xinu, Silent, start, CallState, CallResult, EventResult, current_hart, nothing_happens, end_of_event}
use Rattle.xinu_model.specs.Process.Death.{exit}
use Rattle.xinu_model.specs.RawDisk.Calls.{disk_of, after_served, serving, served_in}
use Rattle.xinu_model.specs.RawDisk.Completions.{Served, raw_completed}
use Rattle.xinu_model.specs.Runs.{RunsTo}
use Rattle.xinu_model.specs.Sound.State.{IsSound}
use Rattle.xinu_model.specs.Tables.{process_at}
use Rattle.xinu_laws.proofs.Pools.Start.{pools_start}
use Rattle.xinu_laws.proofs.Touches.Events.{touches_end_of_event, released_by_tick, touches_ticking, touches_ticked}
use Rattle.xinu_laws.proofs.Consoles.Kept.{sound_holds}
use Rattle.xinu_laws.proofs.Consoles.Signalled.{Signals, receiving_signals, sending_signals}
use Rattle.xinu_laws.proofs.Consoles.Started.{devices_start}
use Rattle.xinu_laws.proofs.FileSyscalls.AtOnce.{next_is, next_can, not_null_makes, at_once_keeps}
use Rattle.xinu_laws.proofs.FileSyscalls.Completed.{step_completes}
use Rattle.xinu_laws.proofs.RawDisks.Framed.{disks_in, with_disks}
use Rattle.xinu_laws.proofs.RawDisks.Completed.{Completes, served_completes}
use Rattle.xinu_laws.proofs.Touches.Kept.{keeps_pools, keeps_ports, keeps_console, keeps_disks, keeps_names, keeps_unused, keeps_heap, keeps_whole}
use Rattle.xinu_model.specs.Footprints.{on_tables}
use Rattle.xinu_laws.specs.Touches.{reach, at_a_tick, Touches}
use Rattle.table_laws.proofs.Tables.Ends.{sound_end_of_event, harts_end_of_event, harts_ticked, executed_may_call}
use Rattle.xinu_laws.proofs.Ports.Start.{ports_start}
use Rattle.table_laws.proofs.Tables.Unblock.{unblock_all_ready}
use Rattle.xinu_laws.proofs.Preserve.Runs.{IsKept, runs_keep}
use Rattle.part_laws.specs.Preserve.{MayCallAny, KeepsAll, ticking}
use Rattle.xinu_laws.proofs.Preserve.Calls.{inside_preserved, replies_alive, called_keeps, exit_keeps, continued_keeps}
use Rattle.xinu_laws.proofs.Preserve.Unused.{unused_start}
use Rattle.table_laws.proofs.Tables.Starts.{sound_start}
use Rattle.table_laws.proofs.Tables.Unused.{unused_executed}
use Rattle.xinu_laws.proofs.Preserve.Whole.{whole_start}
use Rattle.xinu_model.proofs.WholeRam.{size_after_step}
use Rattle.xinu_model.proofs.ZeroRegister.{zero_register_of_step}
use Rattle.table_laws.proofs.Tables.Ticks.{sound_ticked}
use Rattle.table_laws.proofs.Tables.Harts.{harts_same}

-- The end of an event leaves a sound state.
pub state_end_of_event : (was : ℕ) (first : List TranscriptLine) (result : CallResult) → KeepsAll result
    → IsSound (end_of_event was first result).state
state_end_of_event was first result k =
    let tables = sound_end_of_event was first result k.preserved in
    let touches : Touches (reach on_tables) result.call.state (end_of_event was first result).state = touches_end_of_event was first result
    (inside_preserved result k.preserved) (replies_alive result k.preserved) in
    record {
      tables = tables;
      harts = harts_end_of_event was first result k.preserved;
      unused = keeps_unused (touches.free refl) k.unused;
      pools = keeps_pools refl touches k.pools;
      ports = keeps_ports refl touches tables.inside k.ports;
      devices = with_disks (keeps_console refl touches tables.inside k.devices.console) (keeps_names refl touches k.devices.names) (keeps_disks refl refl touches (inside_preserved result k.preserved) tables.inside (disks_in k.devices));
      ram = keeps_whole touches refl k.ram;
    }

-- a process that isn't the null process may call in a sound state
pub may_call : (s : Xinu) → IsSound s → s.tables.current ≢ 0 → MayCallAny s
may_call s k n = record { may = record { tables = k.tables; harts = k.harts; not_null = n }; unused = k.unused; pools = k.pools; ports = k.ports; devices = k.devices; ram = k.ram }

-- and after an instruction of it
pub may_call_after : (s : Xinu) → MayCallAny s → MayCallAny (with_executed (exec (current_hart s) s.memory) s)
may_call_after s c =
    let zero = (zero_register_of_step (current_hart s) s.memory).zero (c.may.harts.zero s.tables.current) in
    record { may = executed_may_call (exec (current_hart s) s.memory) s zero c.may; unused = unused_executed s.tables s.harts (exec (current_hart s) s.memory).hart c.may.tables c.unused; pools = c.pools; ports = c.ports; devices = c.devices; ram = record { bytes = (size_after_step (current_hart s) s.memory).size c.ram.bytes; heap = c.ram.heap } }

-- What comes of an instruction keeps the state sound.
state_reacted : (o : Outcome) (s : Xinu) → MayCallAny s → IsSound (reacted o s).state
state_reacted outcome.Went s c = record { tables = c.may.tables; harts = c.may.harts; unused = c.unused; pools = c.pools; ports = c.ports; devices = c.devices; ram = c.ram }
state_reacted outcome.Call s c =
    let call = call_of (current_hart s) in
    state_end_of_event s.tables.current (call_line s call ∷ []) (called call.number call.args s) (called_keeps call.number call.args s c)
state_reacted outcome.Exit s c =
    state_end_of_event s.tables.current (call_line s (exit_call (current_hart s)) ∷ []) (exit s) (exit_keeps s c)
state_reacted (outcome.Trap cause) s c =
    state_end_of_event s.tables.current (line.Trap s.tables.current cause ∷ []) (exit s) (exit_keeps s c)

-- A machine step keeps the state sound.
pub state_stepped : (s : Xinu) → IsSound s → IsSound (stepped s).state
state_stepped s k =
    let left = (process_at s.tables s.tables.current).rest in
    let did = exec (current_hart s) s.memory in
    let goes_on = end_of_event s.tables.current [] (continued left s) in
    cond_both (s.tables.current == 0) (nothing_happens s) (cond (is_done left) (instruction_step s) goes_on)
    (λ (e : EventResult). IsSound e.state)
    (λ _. k)
    (λ b. let c = may_call s k (eqb-false s.tables.current 0 b) in
    cond_both (is_done left) (instruction_step s) goes_on (λ (e : EventResult). IsSound e.state)
    (λ _. state_reacted did.outcome (with_executed did s) (may_call_after s c))
    (λ _. state_end_of_event s.tables.current [] (continued left s) (continued_keeps s c)))

-- A tick keeps the state sound.
pub state_ticked : (s : Xinu) → IsSound s → IsSound (ticked s).state
state_ticked s k =
    let tables = sound_ticked s k.tables in
    let touches : Touches at_a_tick s (ticked s).state = touches_ticked refl s k.tables in
    record {
      tables = tables;
      harts = harts_ticked s k.harts;
      unused = keeps_unused (touches.free refl) k.unused;
      pools = keeps_pools {f = on_tables} refl touches k.pools;
      ports = keeps_ports {f = on_tables} refl touches tables.inside k.ports;
      devices = with_disks (keeps_console {f = on_tables} refl touches tables.inside k.devices.console) (keeps_names {f = on_tables} refl touches k.devices.names) (keeps_disks {f = on_tables} refl refl touches k.tables.inside tables.inside (disks_in k.devices));
      ram = keeps_whole touches refl k.ram;
    }

-- And so does what is under way at its end.
pub ticking_keeps : (s : Xinu) → IsSound s → KeepsAll (ticking s)
ticking_keeps s k =
    let t = state_ticked s k in
    let touches : Touches at_a_tick s (ticking s).call.state = touches_ticking refl s k.tables in
    record {
      preserved = record { tables = t.tables; harts = harts_same s.harts _ (ap (λ (x : Xinu). x.harts) (unblock_all_ready (due (s.tables.ticks + 1) s.tables.sleepers) (start s))) k.harts; released = released_by_tick s k.tables };
      unused = keeps_unused (touches.free refl) k.unused;
      pools = t.pools;
      ports = t.ports;
      devices = t.devices;
      ram = keeps_whole touches refl k.ram;
    }

-- What does no more than signal those who wait for the console keeps all.
signals_keep_all : (s : Xinu) (d : CallState) → IsSound s → Signals s d → KeepsAll (record { call = d; answer = Silent })
signals_keep_all s d k r = record {
  preserved = record { tables = r.tables; harts = r.harts; released = r.released };
  unused = keeps_unused (r.touches.free refl) k.unused;
  pools = keeps_pools refl r.touches k.pools;
  ports = keeps_ports refl r.touches r.tables.inside k.ports;
  devices = with_disks (r.console k.devices.console) (keeps_names refl r.touches k.devices.names) (keeps_disks refl refl r.touches k.tables.inside r.tables.inside (disks_in k.devices));
  ram = record { bytes = ap (λ (l : List ℕ). length l) r.ram ∙ k.ram.bytes; heap = keeps_heap r.touches.parts.extent k.ram.heap };
}

-- A received character keeps all, and so does a byte that is sent.
pub receiving_keeps : (b : ℕ) (s : Xinu) → IsSound s → KeepsAll (receiving b s)
receiving_keeps b s k = signals_keep_all s (receiving b s).call k (receiving_signals b s (sound_holds s k))

pub sending_keeps : (sent : Sent) (s : Xinu) → transmitted (console_of s) ≡ Some sent → IsSound s → KeepsAll (sending sent s)
sending_keeps sent s e k = signals_keep_all s (after_sent sent s) k (sending_signals sent s e (sound_holds s k))

-- a received character keeps the state sound,
state_keyed : (b : ℕ) (s : Xinu) → IsSound s → IsSound (keyed b s).state
state_keyed b s k = state_end_of_event s.tables.current [] (receiving b s) (receiving_keeps b s k)

-- and so does a transmission
state_sent : (found : Option Sent) (s : Xinu) → transmitted (console_of s) ≡ found → IsSound s → IsSound (sent_in found s).state
state_sent None s e k = k
state_sent (Some sent) s e k =
    state_end_of_event s.tables.current (line.Con sent.byte ∷ []) (sending sent s) (sending_keeps sent s e k)

-- what serves a request keeps all
pub served_keeps_all : (s : Xinu) (d : CallState) → IsSound s → Completes s d → KeepsAll (record { call = d; answer = Silent })
served_keeps_all s d k r = record {
  preserved = record { tables = r.tables; harts = r.harts; released = r.released };
  unused = keeps_unused (r.touches.free refl) k.unused;
  pools = keeps_pools refl r.touches k.pools;
  ports = keeps_ports refl r.touches r.tables.inside k.ports;
  devices = with_disks (keeps_console refl r.touches r.tables.inside k.devices.console) (keeps_names refl r.touches k.devices.names) r.disks;
  ram = record { bytes = r.ram k.ram.bytes; heap = keeps_heap r.touches.parts.extent k.ram.heap };
}

-- and so a completion keeps the state sound
state_served : (good : Bool) (found : Option Served) (s : Xinu) → raw_completed good (disk_of s) ≡ found → IsSound s
    → IsSound (served_in found s).state
state_served good None s e k = k
state_served good (Some x) s e k =
    state_end_of_event s.tables.current [] (serving x s)
    (served_keeps_all s (after_served x s) k (served_completes good x s e (sound_holds s k) (disks_in k.devices)))

-- so many calls take effect as have to and as are chosen
pub least_chosen : (calls : List FileRequest) (choice : ℕ) (s : Xinu) → (files_of s).calls ≡ calls
    → least_effects (files_of s).calls (files_of s) ≤ least_effects calls (files_of s) + choice
least_chosen calls choice s e =
    subst (λ l. least_effects l (files_of s) ≤ least_effects calls (files_of s) + choice) (sym e) (omega arith)

-- What a good completion of the files' disk keeps.
pub completing_keeps : (k : ℕ) (s : Xinu) → least_effects (files_of s).calls (files_of s) ≤ k → IsSound s
    → KeepsAll (completing (calls_completed k (file_step s)) s)
completing_keeps n s may k =
    let r = step_completes n s may (sound_holds s k) (disks_in k.devices) in
    record {
      preserved = record { tables = r.tables; harts = r.harts; released = r.released };
      unused = keeps_unused (r.touches.free refl) k.unused;
      pools = keeps_pools refl r.touches k.pools;
      ports = keeps_ports refl r.touches r.tables.inside k.ports;
      devices = with_disks (keeps_console refl r.touches r.tables.inside k.devices.console) (keeps_names refl r.touches k.devices.names) r.disks;
      ram = record { bytes = r.ram k.ram.bytes; heap = keeps_heap r.touches.parts.extent k.ram.heap };
    }

-- and so does a good completion of the files' disk, whatever is chosen in it
state_completed : (calls : List FileRequest) (choice : ℕ) (s : Xinu) → (files_of s).calls ≡ calls → IsSound s
    → IsSound (completed_in calls choice s).state
state_completed [] choice s e k = k
state_completed (a ∷ calls) choice s e k =
    let n = least_effects (a ∷ calls) (files_of s) + choice in
    let x = calls_completed n (file_step s) in
    state_end_of_event s.tables.current (map file_line x.notes) (completing x s)
    (completing_keeps n s (least_chosen (a ∷ calls) choice s e) k)

-- and a step in which a call on files takes effect as it is made
state_at_once : (a : FileRequest) (s : Xinu) → next_file_call s ≡ Some a → IsSound s → IsSound (step_at_once a s).state
state_at_once a s made k =
    let u = with_executed (exec (current_hart s) s.memory) s in
    let x = issued 1 a u.memory (files_of u) in
    let m = next_is s a made in
    let after = state_stepped s k in
    state_end_of_event u.tables.current (call_line u (call_of (current_hart u)) ∷ map file_line x.notes) (at_once a u)
    (at_once_keeps a u (may_call_after s (may_call s k (not_null_makes s a made))) m.none (ap is_some m.caller)
    (next_can s a made after.devices.files.itself))

state_step_with : (choice : ℕ) (found : Option FileRequest) (s : Xinu) → next_file_call s ≡ found → IsSound s
    → IsSound (step_with choice found s).state
state_step_with zero found s e k = state_stepped s k
state_step_with (suc choice) None s e k = state_stepped s k
state_step_with (suc choice) (Some a) s e k = state_at_once a s e k

-- What an event leaves is sound, whatever is chosen in it, and whether the machine has it or not.
pub state_event : (s : Xinu) (e : Event) (choice : ℕ) → IsSound s → IsSound (effect_of s e choice).state
state_event s Step choice k = state_step_with choice (next_file_call s) s refl k
state_event s Tick choice k = state_ticked s k
state_event s (Key b) choice k = state_keyed b s k
state_event s Tx choice k = state_sent (transmitted (console_of s)) s refl k
state_event s Disk0 choice k = state_served true (raw_completed true (disk_of s)) s refl k
state_event s Fail0 choice k = state_served false (raw_completed false (disk_of s)) s refl k
state_event s Disk1 choice k = state_completed (files_of s).calls choice s refl k
state_event s _ choice k = k

-- Each event keeps the state sound.
pub sound_happens : IsKept IsSound
sound_happens old e lines new k h = subst IsSound (ap (λ (x : EventResult). x.state) h.effect) (state_event old e h.choice k)

-- Each run keeps the state sound.
pub sound_run : (events : List Event) (old : Xinu) (lines : List TranscriptLine) (new : Xinu) (end : End) → IsSound old
    → RunsTo old events lines new end → IsSound new
sound_run = runs_keep IsSound sound_happens

-- The machine starts in a sound state.
pub sound_boot : (images : List Loaded) (start : Xinu) → length images < 64 → boot images ≡ Boots start → IsSound start
sound_boot images start few e =
    let tables = sound_start images start few e in
    record { tables = tables.tables; harts = tables.harts; unused = unused_start images start few e; pools = pools_start images start e; ports = ports_start images start e; devices = devices_start images start e tables.tables.inside; ram = whole_start images start e }
