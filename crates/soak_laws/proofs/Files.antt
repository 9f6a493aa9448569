-- The programs still run as calls on files take effect: theirs bring nothing to RAM.
use Rattle.std.proofs.Common.{◌≡◌, ◌≢◌, ◌∙◌, ℕ, zero, suc, ◌+◌, ◌==◌, true, false, ◌||◌, List, [], ◌∷◌, ◌++◌, length, take, drop, map, Option, Some, None, refl, sym, ap, subst, arith, append-nil, ℤ}
use Rattle.std.specs.Prelude.{nat_le}
use Rattle.std.specs.List.{AllByRecursion}
use Rattle.std.proofs.lemmas.Bool.{cond_both, eq-eqb}
use Rattle.std.proofs.lemmas.List.{take-append-drop}
use Rattle.soak_laws.specs.Code.{IsLoaded}
use Rattle.soak_laws.specs.Running.{BringsNothing, AreRunning, KeepRunning, IsQuiet, MayWait, first_of}
use Rattle.soak_laws.proofs.Devices.{enqueued_quiet}
use Rattle.soak_laws.proofs.Events.{KeepRunningIn, ended, executes, stepped_on}
use Rattle.soak_laws.proofs.Lists.{all_append}
use Rattle.soak_laws.proofs.Tables.{moved}
use Rattle.soak_laws.proofs.Waits.{other_tables}
use Rattle.xinu_base.specs.declared.files.OpenMode.{OpenMode}
use Rattle.xinu_base.specs.declared.lines.FileMoment.{FileMoment}
use Rattle.xinu_base.specs.declared.lines.FileMoment.TheVariants.{Finished, Next}
use Rattle.xinu_base.specs.declared.processes.Process.{Process}
use Rattle.xinu_base.specs.declared.processes.Rest.TheVariants as rest
use Rattle.xinu_base.specs.declared.processes.State.TheVariants.{Ready}
use Rattle.xinu_model.specs.Events.{call_line, call_of, made_first, next_file_call, step_with, stepped, with_executed}
use Rattle.xinu_model.specs.Files.Calls.{FileCall, Open, Delete, Close, Read, Write, Getc, Putc, Seek, Truncate, Size, file_effect}
use Rattle.xinu_model.specs.Files.Constants.{LF_NUM_DIR_ENT, Nlfl}
use Rattle.xinu_model.specs.Files.Opening.{open_file, open_stored, opened, with_created}
use Rattle.xinu_model.specs.Files.Stored.{StoredFile, file_named}
use Rattle.xinu_model.specs.Files.Syscalls.{all_told, answer_kept, answer_told, at_once, completed_in, completing, file_line, file_step, files_complete, files_of, told, with_step}
use Rattle.xinu_model.specs.Files.Systems.{FileEffect, FileSystem, OpenFile, free_device, is_open, on_open, open_at, refused_effect}
use Rattle.xinu_model.specs.Files.Work.{FileNote, FileRequest, FileStep, calls_completed, copied, enqueued, first_effect, issued, least_effects, next_effects, turned, with_first}
use Rattle.xinu_model.specs.Files.Writing.{putc_file, write_file}
use Rattle.xinu_model.specs.Isa.Exec.{exec}
use Rattle.xinu_model.specs.Machine.{CallState, Xinu, current_hart, is_panic, nothing_happens, start}
use Rattle.xinu_model.specs.Memory.{with_bytes}
use Rattle.xinu_model.specs.RawDisk.Callers.{is_caller}
use Rattle.xinu_model.specs.RawDisk.Calls.{reply_kept}
use Rattle.xinu_model.specs.Tables.{InReady, message_at, process_at}

-- ---- effects

-- an effect that gives no bytes
abbrev GivesNone : FileEffect → Type 0
GivesNone e = e.bytes ≡ []

stored_none : (found : Option StoredFile) (name : List ℕ) (mode : OpenMode) (s : FileSystem) → GivesNone (open_stored found name mode s)
stored_none (Some f) name mode s = cond_both mode.only_new (refused_effect s) (opened name mode s) GivesNone (λ _. refl) (λ _. refl)
stored_none None name mode s =
    cond_both (mode.only_old || nat_le LF_NUM_DIR_ENT (length s.files)) (refused_effect s) (opened name mode (with_created name s)) GivesNone (λ _. refl) (λ _. refl)

opened_none : (name : List ℕ) (mode : OpenMode) (s : FileSystem) → GivesNone (open_file name mode s)
opened_none name mode s =
    cond_both (is_open name s || nat_le Nlfl (free_device s.devices)) (refused_effect s) (open_stored (file_named name s.files) name mode s) GivesNone
    (λ _. refl) (λ _. stored_none (file_named name s.files) name mode s)

on_open_none : (f : Option OpenFile) (does : OpenFile → FileEffect) (s : FileSystem) → ((x : OpenFile) → GivesNone (does x)) → GivesNone (on_open f does s)
on_open_none None does s none = refl
on_open_none (Some x) does s none = none x

write_none : (d : ℕ) (bytes : List ℕ) (f : OpenFile) (s : FileSystem) → GivesNone (write_file d bytes f s)
write_none d bytes f s = cond_both _ (refused_effect s) _ GivesNone (λ _. refl) (λ _. refl)

putc_none : (d b : ℕ) (f : OpenFile) (s : FileSystem) → GivesNone (putc_file d b f s)
putc_none d b f s = cond_both _ (refused_effect s) _ GivesNone (λ _. refl) (λ _. refl)

-- a call that brings nothing to RAM gives no bytes
none_given : (call : FileCall) (bytes : List ℕ) (s : FileSystem) → BringsNothing call → GivesNone (file_effect call bytes s)
none_given (Open name mode) bytes s may = opened_none name mode s
none_given (Delete name) bytes s may = absurd may
none_given (Close d) bytes s may = absurd may
none_given (Read d n) bytes s may = absurd may
none_given (Write d n) bytes s may = on_open_none (open_at s d) (λ f. write_file d bytes f s) s (λ f. write_none d bytes f s)
none_given (Getc d) bytes s may = absurd may
none_given (Putc d b) bytes s may = on_open_none (open_at s d) (λ f. putc_file d b f s) s (λ f. putc_none d b f s)
none_given (Seek d n) bytes s may = absurd may
none_given (Truncate d) bytes s may = absurd may
none_given (Size d) bytes s may = absurd may

-- no bytes change nothing
none_written : (memory : List ℕ) (a n : ℕ) → n ≡ a → take a memory ++ [] ++ drop n memory ≡ memory
none_written memory a n is = ap (λ x. x ++ drop n memory) (append-nil (take a memory)) ∙ ap (λ m. take a memory ++ drop m memory) is ∙ take-append-drop a memory

none_copied : (caller : Option ℕ) (a : ℕ) (bytes memory : List ℕ) → bytes ≡ [] → copied caller a bytes memory ≡ memory
none_copied None a bytes memory is = refl
none_copied (Some p) a bytes memory is = ap (λ new. with_bytes memory a (length new) new) is ∙ none_written memory a (a + 0) (omega arith)

-- ---- steps of files

-- who is told of a call
abbrev MayTell : FileNote → Type 0
MayTell n = MayWait n.caller

-- in an event so far RAM is as it was, and the calls under way are quiet
record StaysQuiet (memory : List ℕ) (x : FileStep) : Type 0 where
  ram : x.memory ≡ memory
  calls : AllByRecursion IsQuiet x.work.calls
  notes : AllByRecursion MayTell x.notes

first_calls : (calls : List FileRequest) (memory : List ℕ) (s : FileSystem) → AllByRecursion IsQuiet calls → AllByRecursion IsQuiet (with_first calls memory s).calls
first_calls [] memory s all = tt
first_calls (a ∷ calls) memory s all = all

first_quiet : (memory : List ℕ) (calls : List FileRequest) (moment : FileMoment) (x : FileStep) → StaysQuiet memory x → AllByRecursion IsQuiet calls
    → StaysQuiet memory (first_effect calls moment x)
first_quiet memory [] moment x k all = k
first_quiet memory (a ∷ calls) moment x k all =
    let e = file_effect a.call x.work.bytes x.work.system in
    record {
      ram = none_copied a.caller a.at e.bytes x.memory (none_given a.call x.work.bytes x.work.system all.0.call) ∙ k.ram;
      calls = first_calls calls (copied a.caller a.at e.bytes x.memory) e.system all.1;
      notes = all_append MayTell x.notes _ k.notes (all.0.caller, tt);
    }

next_quiet : (memory : List ℕ) (n : ℕ) (x : FileStep) → StaysQuiet memory x → StaysQuiet memory (next_effects n x)
next_quiet memory zero x k = k
next_quiet memory (suc n) x k = next_quiet memory n (first_effect x.work.calls Next x) (first_quiet memory x.work.calls Next x k k.calls)

turned_quiet : (memory : List ℕ) (calls : List FileRequest) (x : FileStep) → StaysQuiet memory x → AllByRecursion IsQuiet calls → StaysQuiet memory (turned calls x)
turned_quiet memory [] x k all = k
turned_quiet memory (a ∷ calls) x k all = record { ram = k.ram; calls = k.calls; notes = all_append MayTell x.notes _ k.notes (all.0.caller, tt) }

completed_quiet : (memory : List ℕ) (n : ℕ) (x : FileStep) → StaysQuiet memory x → StaysQuiet memory (calls_completed n x)
completed_quiet memory zero x k = turned_quiet memory x.work.calls x k k.calls
completed_quiet memory (suc n) x k = next_quiet memory n (first_effect x.work.calls Finished x) (first_quiet memory x.work.calls Finished x k k.calls)

-- ---- replies

kept : {words : ℕ → List ℕ} (caller : Option ℕ) (reply : ℤ) (d : CallState) → AreRunning words d.state → MayWait caller → AreRunning words (reply_kept caller reply d).state
kept None reply d k may = k
kept (Some p) reply d k may =
    let t = d.state.tables in
    let x : Process = record (process_at t p) { state = Ready; rest = rest.Disk (Some reply) } in
    other_tables d.state _ k (moved p x (message_at t p) InReady t k.tables may refl tt)

one_told : {words : ℕ → List ℕ} (reply : Option ℤ) (caller : Option ℕ) (d : CallState) → AreRunning words d.state → MayWait caller → AreRunning words (told reply caller d).state
one_told None caller d k may = k
one_told (Some reply) caller d k may = kept caller reply d k may

told_on : {words : ℕ → List ℕ} (notes : List FileNote) (d : CallState) → AreRunning words d.state → AllByRecursion MayTell notes → AreRunning words (all_told notes d).state
told_on [] d k all = k
told_on (n ∷ notes) d k all = told_on notes (told n.reply n.caller d) (one_told n.reply n.caller d k all.0) all.1

-- the state after a step of files
stepped_files : {words : ℕ → List ℕ} (x : FileStep) (s : Xinu) → AreRunning words s → StaysQuiet s.memory x → AreRunning words (with_step x s)
stepped_files {words} x s k quiet = record {
  tables = k.tables;
  harts = k.harts;
  loaded = λ p some few. subst (IsLoaded (first_of p) (words p) s.parts.heap.low) (sym quiet.ram) (k.loaded p some few);
  pools = k.pools;
  calls = quiet.calls;
}

-- ---- events

completed_on : {words : ℕ → List ℕ} (calls : List FileRequest) (choice : ℕ) (s : Xinu) → AreRunning words s → KeepRunningIn words (completed_in calls choice s)
completed_on [] choice s k = record { running = k; calm = refl }
completed_on (a ∷ calls) choice s k =
    let x = calls_completed (least_effects (a ∷ calls) (files_of s) + choice) (file_step s) in
    let quiet = completed_quiet s.memory (least_effects (a ∷ calls) (files_of s) + choice) (file_step s) (record { ram = refl; calls = k.calls; notes = tt }) in
    ended s.tables.current (map file_line x.notes) (completing x s)
    (record { running = told_on x.notes (start (with_step x s)) (stepped_files x s k quiet) quiet.notes; calm = refl })

-- a good completion of the files' disk
pub files_complete_on : {words : ℕ → List ℕ} (choice : ℕ) (s : Xinu) → AreRunning words s → KeepRunningIn words (files_complete choice s)
files_complete_on choice s k = completed_on (files_of s).calls choice s k

-- one that takes effect as it is made
calm_kept : (reply : Option ℤ) → is_panic (answer_kept reply) ≡ false
calm_kept None = refl
calm_kept (Some reply) = refl

calm_told : (notes : List FileNote) → is_panic (answer_told notes) ≡ false
calm_told [] = refl
calm_told (n ∷ notes) = calm_kept n.reply

at_once_on : {words : ℕ → List ℕ} (a : FileRequest) (s : Xinu) → AreRunning words s → IsQuiet a → KeepRunning words (at_once a s)
at_once_on a s k one =
    let w = enqueued a s.memory (files_of s) in
    let x = issued 1 a s.memory (files_of s) in
    let all = enqueued_quiet (files_of s).calls a s.memory (files_of s) k.calls one in
    let quiet = first_quiet s.memory (a ∷ []) Finished (record { work = w; memory = s.memory; notes = [] }) (record { ram = refl; calls = all; notes = tt }) (one, tt) in
    record { running = stepped_files x s k quiet; calm = calm_told x.notes }

-- the call that the current process makes in a step is one of those that are under way after it
made_quiet : (p : ℕ) (before after : List FileRequest) (a : FileRequest) → made_first p before after ≡ Some a → AllByRecursion IsQuiet after → IsQuiet a
made_quiet p [] [] a is all = absurd (cc)
made_quiet p [] (b ∷ after) a is all =
    cond_both (is_caller p b.caller) (Some b) None (λ x. x ≡ Some a → IsQuiet a) (λ _ e. subst IsQuiet (same b a e) all.0) (λ _ e. absurd (cc)) is
  where
    same : (b a : FileRequest) → Some b ≡ Some a → b ≡ a
    same b a e = cc
made_quiet p (b ∷ before) after a is all = absurd (cc)

-- no call is made in a step that makes none
none_made : (p : ℕ) (calls : List FileRequest) (a : FileRequest) → made_first p calls calls ≡ Some a → ⊥
none_made p [] a is = absurd (cc)
none_made p (b ∷ calls) a is = absurd (cc)

-- a machine step, whatever is chosen in it
pub step_on : {words : ℕ → List ℕ} (choice : ℕ) (s : Xinu) → AreRunning words s → KeepRunningIn words (step_with choice (next_file_call s) s)
unfolding next_file_call
step_on {words} choice s k = by_choice choice (made_first s.tables.current (files_of s).calls (files_of (stepped s).state).calls) refl
  where
    busy : (a : FileRequest) → made_first s.tables.current (files_of s).calls (files_of (stepped s).state).calls ≡ Some a → s.tables.current ≢ 0
    busy a is idle =
        let same : (files_of (stepped s).state).calls ≡ (files_of s).calls =
        cond_both (s.tables.current == 0) (nothing_happens s) _ (λ x. (s.tables.current == 0) ≡ true → (files_of x.state).calls ≡ (files_of s).calls)
        (λ _ _. refl) (λ other zero_. absurd (cc)) (eq-eqb s.tables.current 0 idle) in
        none_made s.tables.current (files_of s).calls a (ap (made_first s.tables.current (files_of s).calls) (sym same) ∙ is)

    by_choice : (choice : ℕ) (found : Option FileRequest) → made_first s.tables.current (files_of s).calls (files_of (stepped s).state).calls ≡ found
        → KeepRunningIn words (step_with choice found s)
    by_choice zero found is = stepped_on s k
    by_choice (suc choice) None is = stepped_on s k
    by_choice (suc choice) (Some a) is =
        let did = executes s k (busy a is) in
        let u = with_executed (exec (current_hart s) s.memory) s in
        let x = issued 1 a u.memory (files_of u) in
        ended u.tables.current (call_line u (call_of (current_hart u)) ∷ map file_line x.notes) (at_once a u)
        (at_once_on a u did.running (made_quiet s.tables.current (files_of s).calls (files_of (stepped s).state).calls a is (stepped_on s k).running.calls))
