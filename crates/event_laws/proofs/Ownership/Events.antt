-- Each event keeps each address claimed at most once, unless it gives away what is held.
use Rattle.std.proofs.Common.{map, ◌∷◌, [], ◌+◌, ◌≡◌, ◌≢◌, ℕ, ◌<◌, ◌≤◌, ◌==◌, Bool, true, false, cond, List, Option, Some, None, refl, sym, ap, subst, ◌∙◌, arith, ⊎_elim, get_or-set_same}
use Rattle.std.proofs.lemmas.Bool.{cond_both, cases_lt, eqb-false}
use Rattle.xinu_base.specs.declared.events.Event.{Event}
use Rattle.xinu_base.specs.declared.events.Event.TheVariants.{Step, Tick, Key, Tx, Disk0, Disk1, Fail0}
use Rattle.xinu_base.specs.declared.lines.TranscriptLine.{TranscriptLine}
use Rattle.xinu_base.specs.declared.lines.TranscriptLine.TheVariants as line
use Rattle.xinu_base.specs.declared.processes.Rest.{Rest}
use Rattle.xinu_base.specs.declared.processes.Rest.TheVariants as rest
use Rattle.xinu_base.specs.declared.registers.Outcome.{Outcome}
use Rattle.xinu_base.specs.declared.registers.Outcome.TheVariants as outcome
use Rattle.xinu_laws.proofs.FileSyscalls.AtOnce.{step_holds}
use Rattle.xinu_laws.proofs.FileSyscalls.Completed.{step_completes}
use Rattle.xinu_model.specs.Files.Syscalls.{completed_in, completing, file_line, file_step, files_complete, files_of}
use Rattle.xinu_model.specs.Files.Work.{FileRequest, calls_completed, least_effects}
use Rattle.event_laws.specs.Ownership.Apart.{holders, IsApart}
use Rattle.xinu_model.specs.Calls.{called, continued}
use Rattle.xinu_model.specs.Clock.{ticked}
use Rattle.xinu_model.specs.Console.Signals.{keyed, receiving, sending, sent_in, transmits}
use Rattle.xinu_model.specs.Console.Taking.{console_of}
use Rattle.xinu_model.specs.Console.Transmitting.{Sent, transmitted}
use Rattle.xinu_model.specs.Events.{call_of, call_line, exit_call, with_executed, reacted, instruction_step, is_done, stepped, next_file_call, effect_of, Happens}
use Rattle.event_laws.specs.Ownership.GivingAway.{next, gives_back, GivesAway}
use Rattle.xinu_model.specs.Machine.{Xinu, no_hart, current_hart, CallResult, EventResult, nothing_happens, end_of_event}
use Rattle.xinu_model.specs.Process.Death.{exit}
use Rattle.xinu_model.specs.RawDisk.Calls.{disk_of, after_served, serving, served_in, disk_completes}
use Rattle.xinu_model.specs.RawDisk.Completions.{Served, raw_completed}
use Rattle.xinu_model.specs.Sound.State.{IsSound}
use Rattle.xinu_model.specs.Tables.{process_at}
use Rattle.xinu_laws.proofs.Consoles.Kept.{sound_holds}
use Rattle.xinu_laws.proofs.Consoles.Signalled.{receiving_signals, sending_signals}
use Rattle.event_laws.proofs.Ownership.Claims.{apart_kept}
use Rattle.event_laws.proofs.Ownership.Memory.{FreesNothingHeld}
use Rattle.event_laws.proofs.Ownership.Processes.{apart_exit}
use Rattle.xinu_model.specs.Footprints.{on_tables}
use Rattle.part_laws.specs.Preserve.{MayCallAny, KeepsAll}
use Rattle.xinu_laws.specs.Touches.{reach, at_a_tick, touched_by, KeepsPlaces, Touches}
use Rattle.event_laws.proofs.Ownership.Table.{names_places, places_stay, called_apart}
use Rattle.xinu_laws.proofs.Preserve.Calls.{sound_where_called, inside_preserved, replies_alive, called_keeps, exit_keeps, continued_keeps}
use Rattle.xinu_laws.proofs.Preserve.Events.{completing_keeps, least_chosen, may_call, may_call_after, receiving_keeps, sending_keeps, served_keeps_all}
use Rattle.xinu_laws.proofs.RawDisks.Completed.{served_completes}
use Rattle.xinu_laws.proofs.RawDisks.Framed.{disks_in}
use Rattle.xinu_laws.proofs.Touches.Continued.{continued_touches}
use Rattle.xinu_laws.proofs.Touches.Events.{touches_end_of_event, touches_ticked}
use Rattle.xinu_laws.proofs.Touches.Kept.{keeps_places}
use Rattle.table_laws.proofs.Preserve.{current_within}

-- The end of an event leaves the places as they are.
pub kept_end_of_event : (was : ℕ) (first : List TranscriptLine) (result : CallResult) → KeepsAll result
    → KeepsPlaces result.call.state (end_of_event was first result).state
kept_end_of_event was first result k =
    let touches : Touches (reach on_tables) result.call.state (end_of_event was first result).state = touches_end_of_event was first result
    (inside_preserved result k.preserved) (replies_alive result k.preserved) in
    keeps_places touches refl refl refl

-- So does a tick,
pub kept_ticked : (s : Xinu) → IsSound s → KeepsPlaces s (ticked s).state
kept_ticked s sound = let touches : Touches at_a_tick s (ticked s).state = touches_ticked refl s sound.tables in keeps_places touches refl refl refl

-- a received character,
kept_both : {s u v : Xinu} → KeepsPlaces s u → KeepsPlaces u v → KeepsPlaces s v
kept_both k l = record { heap = l.heap ∙ k.heap; ranges = l.ranges ∙ k.ranges; stacks = l.stacks ∙ k.stacks }

pub kept_keyed : (b : ℕ) (s : Xinu) → IsSound s → KeepsPlaces s (keyed b s).state
kept_keyed b s sound =
    kept_both (keeps_places (receiving_signals b s (sound_holds s sound)).touches refl refl refl)
    (kept_end_of_event s.tables.current [] (receiving b s) (receiving_keeps b s sound))

-- a transmission,
kept_sent : (found : Option Sent) (s : Xinu) → transmitted (console_of s) ≡ found → IsSound s → KeepsPlaces s (sent_in found s).state
kept_sent None s e sound = record { heap = refl; ranges = refl; stacks = refl }
kept_sent (Some sent) s e sound =
    kept_both (keeps_places (sending_signals sent s e (sound_holds s sound)).touches refl refl refl)
    (kept_end_of_event s.tables.current (line.Con sent.byte ∷ []) (sending sent s) (sending_keeps sent s e sound))

pub kept_transmits : (s : Xinu) → IsSound s → KeepsPlaces s (transmits s).state
kept_transmits s sound = kept_sent (transmitted (console_of s)) s refl sound

-- a completion of the raw disk,
kept_served : (good : Bool) (found : Option Served) (s : Xinu) → raw_completed good (disk_of s) ≡ found → IsSound s
    → KeepsPlaces s (served_in found s).state
kept_served good None s e sound = record { heap = refl; ranges = refl; stacks = refl }
kept_served good (Some x) s e sound =
    let r = served_completes good x s e (sound_holds s sound) (disks_in sound.devices) in
    kept_both (keeps_places r.touches refl refl refl)
    (kept_end_of_event s.tables.current [] (serving x s) (served_keeps_all s (after_served x s) sound r))

pub kept_completed : (good : Bool) (s : Xinu) → IsSound s → KeepsPlaces s (disk_completes good s).state
kept_completed good s sound = kept_served good (raw_completed good (disk_of s)) s refl sound

-- one of the files' disk,
kept_called : (calls : List FileRequest) (choice : ℕ) (s : Xinu) → (files_of s).calls ≡ calls → IsSound s
    → KeepsPlaces s (completed_in calls choice s).state
kept_called [] choice s e sound = record { heap = refl; ranges = refl; stacks = refl }
kept_called (a ∷ calls) choice s e sound =
    let n = least_effects (a ∷ calls) (files_of s) + choice in
    let x = calls_completed n (file_step s) in
    let may = least_chosen (a ∷ calls) choice s e in
    let r = step_completes n s may (sound_holds s sound) (disks_in sound.devices) in
    kept_both (keeps_places r.touches refl refl refl)
    (kept_end_of_event s.tables.current (map file_line x.notes) (completing x s) (completing_keeps n s may sound))

pub kept_files : (choice : ℕ) (s : Xinu) → IsSound s → KeepsPlaces s (files_complete choice s).state
kept_files choice s sound = kept_called (files_of s).calls choice s refl sound

-- and a call that goes on.
places_spared : (left : Rest) → names_places (touched_by left) ≡ false
places_spared (rest.GetBuf i) = refl
places_spared (rest.PtSend ticket message) = refl
places_spared (rest.PtRecv ticket) = refl
places_spared _ = refl

pub kept_continued : (left : Rest) (s : Xinu) → IsSound s → KeepsPlaces s (continued left s).call.state
kept_continued left s sound =
    places_stay (touched_by left) s (continued left s).call.state (places_spared left) (continued_touches left s sound)

-- after an instruction the current process has the registers that it left
pub hart_after : (s : Xinu) → IsSound s → current_hart (with_executed (next s) s) ≡ (next s).hart
hart_after s sound =
    let within = current_within s.tables sound.tables in
    let many = sound.harts.many in
    get_or-set_same s.harts s.tables.current (next s).hart no_hart (omega arith)

-- if an event gives nothing away, a call that gives memory back frees nothing that is held
none_held : (old : Xinu) (last : List TranscriptLine) → IsSound old → old.tables.current ≢ 0
    → (process_at old.tables old.tables.current).rest ≡ rest.Nothing → (next old).outcome ≡ outcome.Call
    → let s = with_executed (next old) old in let call = call_of (current_hart s) in
    (GivesAway old Step (end_of_event old.tables.current last (called call.number call.args s)).state → ⊥)
    → gives_back call.number ≡ true → FreesNothingHeld s (called call.number call.args s).call.state
none_held old last sound runs idle call nothing gives a free taken =
    ⊎_elim
    (λ (held : 0 < holders old a). absurd (nothing (record {
      step = refl;
      runs = runs;
      rest = idle;
      call = call;
      number = ap (λ h. gives_back (call_of h).number) (sym (hart_after old sound)) ∙ gives;
      address = a;
      taken = taken;
      free = free;
      held = held;
    })))
    (λ (few : holders old a ≤ 0). omega arith)
    (cases_lt 0 (holders old a))

-- an instruction leaves the places as they are
pub kept_executed : (s : Xinu) → KeepsPlaces s (with_executed (next s) s)
kept_executed s = record { heap = refl; ranges = refl; stacks = refl }

-- a process may call after an instruction
pub may_call_next : (old : Xinu) → IsSound old → old.tables.current ≢ 0 → MayCallAny (with_executed (next old) old)
may_call_next old sound runs = may_call_after old (may_call old sound runs)

-- What comes of an instruction.
pub apart_reacted : (o : Outcome) (old : Xinu) → (next old).outcome ≡ o → IsSound old → IsApart old → old.tables.current ≢ 0
    → (process_at old.tables old.tables.current).rest ≡ rest.Nothing
    → (GivesAway old Step (reacted o (with_executed (next old) old)).state → ⊥) → IsApart (reacted o (with_executed (next old) old)).state
apart_reacted outcome.Went old call sound apart runs idle nothing = apart_kept (kept_executed old) apart
apart_reacted outcome.Call old call sound apart runs idle nothing =
    let s = with_executed (next old) old in
    let made = call_of (current_hart s) in
    let result = called made.number made.args s in
    let may = may_call_next old sound runs in
    apart_kept (kept_end_of_event old.tables.current (call_line s made ∷ []) result (called_keeps made.number made.args s may))
    (called_apart made.number made.args s (sound_where_called s may) (apart_kept (kept_executed old) apart)
    (none_held old (call_line s made ∷ []) sound runs idle call nothing))
apart_reacted outcome.Exit old call sound apart runs idle nothing =
    let s = with_executed (next old) old in
    apart_kept (kept_end_of_event old.tables.current (call_line s (exit_call (current_hart s)) ∷ []) (exit s)
    (exit_keeps s (may_call_next old sound runs))) (apart_exit s (apart_kept (kept_executed old) apart))
apart_reacted (outcome.Trap cause) old call sound apart runs idle nothing =
    let s = with_executed (next old) old in
    apart_kept (kept_end_of_event old.tables.current (line.Trap old.tables.current cause ∷ []) (exit s)
    (exit_keeps s (may_call_next old sound runs))) (apart_exit s (apart_kept (kept_executed old) apart))

-- nothing is left of a call that is done
pub done_rest : (left : Rest) → is_done left ≡ true → left ≡ rest.Nothing
done_rest rest.Nothing h = refl
done_rest rest.Receive h = cc
done_rest rest.Timed h = cc
done_rest rest.SelfSuspend h = cc
done_rest (rest.GetBuf i) h = cc
done_rest (rest.PtSend ticket message) h = cc
done_rest (rest.PtRecv ticket) h = cc
done_rest rest.TtyGet h = cc
done_rest (rest.TtyPut b put) h = cc
done_rest (rest.TtyRead span) h = cc
done_rest (rest.TtyWrite span put) h = cc
done_rest (rest.Disk reply) h = cc

-- A machine step.
pub apart_stepped : (s : Xinu) → IsSound s → IsApart s → (GivesAway s Step (stepped s).state → ⊥) → IsApart (stepped s).state
apart_stepped s sound apart =
    let left = (process_at s.tables s.tables.current).rest in
    let goes_on = end_of_event s.tables.current [] (continued left s) in
    cond_both (s.tables.current == 0) (nothing_happens s) (cond (is_done left) (instruction_step s) goes_on)
    (λ (e : EventResult). (GivesAway s Step e.state → ⊥) → IsApart e.state)
    (λ _ _. apart)
    (λ b. cond_both (is_done left) (instruction_step s) goes_on (λ (e : EventResult). (GivesAway s Step e.state → ⊥) → IsApart e.state)
    (λ idle. apart_reacted (next s).outcome s refl sound apart (eqb-false s.tables.current 0 b) (done_rest left idle))
    (λ _ _. apart_kept (kept_end_of_event s.tables.current [] (continued left s)
    (continued_keeps s (may_call s sound (eqb-false s.tables.current 0 b)))) (apart_kept (kept_continued left s sound) apart)))

-- What an event leaves, whatever is chosen in it.
pub apart_effect : (s : Xinu) (e : Event) (choice : ℕ) → IsSound s → IsApart s → (GivesAway s e (effect_of s e choice).state → ⊥)
    → IsApart (effect_of s e choice).state
apart_effect s Step choice sound apart =
    step_holds (λ (x : EventResult). (GivesAway s Step x.state → ⊥) → IsApart x.state) choice (next_file_call s) s
    (apart_stepped s sound apart)
    (λ a _. apart_kept (record { heap = refl; ranges = refl; stacks = refl }) apart)
apart_effect s Tick choice sound apart = λ _. apart_kept (kept_ticked s sound) apart
apart_effect s (Key b) choice sound apart = λ _. apart_kept (kept_keyed b s sound) apart
apart_effect s Tx choice sound apart = λ _. apart_kept (kept_transmits s sound) apart
apart_effect s Disk0 choice sound apart = λ _. apart_kept (kept_completed true s sound) apart
apart_effect s Fail0 choice sound apart = λ _. apart_kept (kept_completed false s sound) apart
apart_effect s Disk1 choice sound apart = λ _. apart_kept (kept_files choice s sound) apart
apart_effect s _ choice sound apart = λ _. apart

-- Each event keeps each address claimed at most once, unless it gives away what is held.
pub apart_happens : (old : Xinu) (e : Event) (lines : List TranscriptLine) (new : Xinu) → IsSound old → IsApart old
    → Happens old e lines new → (GivesAway old e new → ⊥) → IsApart new
apart_happens old e lines new sound apart h =
    subst (λ u. (GivesAway old e u → ⊥) → IsApart u) (ap (λ (x : EventResult). x.state) h.effect) (apart_effect old e h.choice sound apart)
