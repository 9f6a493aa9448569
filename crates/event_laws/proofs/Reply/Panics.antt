-- The kernel panics only in a send whose ticket isn't stale, while all ports together hold as many messages as they can.
use Rattle.std.proofs.Common.{◌∷◌, [], ◌+◌, ◌≡◌, ◌≢◌, ◌⊎◌, inl, inr, ℕ, suc, ◌-◌, ◌≤◌, ◌%◌, ◌==◌, true, false, cond, List, Option, Some, None, refl, sym, ◌∙◌}
use Rattle.std.specs.Prelude.{slice_index}
use Rattle.std.specs.List.{AllByRecursion}
use Rattle.std.proofs.lemmas.Bool.{cond_both, eqb-false}
use Rattle.event_laws.proofs.Ownership.Events.{done_rest}
use Rattle.xinu_base.specs.Constants.{OK}
use Rattle.xinu_base.specs.declared.events.Event.{Event}
use Rattle.xinu_base.specs.declared.events.Event.TheVariants.{Step, Tick, Key, Tx, Disk0, Disk1, Fail0, Fail1, Dump}
use Rattle.xinu_base.specs.declared.processes.Rest.{Rest}
use Rattle.xinu_base.specs.declared.processes.Rest.TheVariants as rest
use Rattle.xinu_base.specs.declared.registers.Outcome.{Outcome}
use Rattle.xinu_base.specs.declared.registers.Outcome.TheVariants as outcome
use Rattle.xinu_laws.proofs.Devices.Kept.{device_open_holds, device_close_holds, device_read_holds, device_write_holds, device_getc_holds, device_putc_holds, device_seek_holds, device_control_holds}
use Rattle.xinu_laws.proofs.Rows.CallRows.{of_row, number_of_row}
use Rattle.xinu_laws.proofs.Rows.RowByRow.{◌⨾◌}
use Rattle.event_laws.specs.Ownership.GivingAway.{next}
use Rattle.event_laws.specs.Replies.{IsFullCall, IsFullSend}
use Rattle.xinu_model.specs.Calls.{calls, called, continued}
use Rattle.xinu_model.specs.Console.Putting.{put, writes}
use Rattle.xinu_model.specs.Console.Constants.{TY_NEWLINE}
use Rattle.xinu_model.specs.Console.Signals.{sent_in}
use Rattle.xinu_model.specs.Console.Taking.{console_of, reads}
use Rattle.xinu_model.specs.Console.Transmitting.{Sent, transmitted}
use Rattle.xinu_model.specs.Events.{call_of, with_executed, reacted, instruction_step, is_done, stepped, panics_in}
use Rattle.xinu_model.specs.Heap.Cells as heap
use Rattle.xinu_model.specs.Heap.Cells.{take_stack}
use Rattle.xinu_model.specs.Machine.{Xinu, Answer, Returns, Waits, Gone, Panics, Silent, EventResult, is_panic, start, refused, goes_on, current_hart, nothing_happens, end_of_event}
use Rattle.xinu_model.specs.Messages.{can_get, held}
use Rattle.xinu_model.specs.Pools.Buffers.{pool_at, holder}
use Rattle.xinu_model.specs.Ports.Queues.{most_nodes, port_at, nodes}
use Rattle.xinu_model.specs.Process.Calls.{is_suspended}
use Rattle.xinu_model.specs.RawDisk.Calls.{disk_of, served_in}
use Rattle.xinu_model.specs.Files.Syscalls.{completed_in, files_of}
use Rattle.xinu_model.specs.Files.Work.{FileRequest}
use Rattle.xinu_model.specs.RawDisk.Completions.{Served, raw_completed}
use Rattle.xinu_model.specs.Rows.{CallRow, found_in, done_by}
use Rattle.xinu_model.specs.Semaphores.Calls.{answers}
use Rattle.xinu_model.specs.Semaphores.Counts.{is_good}
use Rattle.xinu_model.specs.Semaphores.Waiting.{signalled}
use Rattle.xinu_model.specs.Tables.{process_at, state_at, is_free}
use Rattle.xinu_model.specs.Words.{signed, half}
use Rattle.event_laws.proofs.Reply.Calm.{Calm, refused_calm, returns_calm, either_calm, create_calm, suspend_calm, kill_calm, granted_calm, stacked_calm, given_back_calm, semcreate_calm, semreset_calm, wait_calm, signaln_calm, received_calm, recvtime_calm, sleepms_calm, sleep_calm, mkbufpool_calm, take_first_calm, getbuf_calm, freed_by_calm, ptcreate_calm, deleted_calm, reset_calm, finish_receive_calm, received_from_calm, finish_send_full, sent_to_full, take_char_calm, getc_calm, read_item_calm, reads_calm, read_calm, put_byte_calm, putc_calm, writes_calm, write_calm, console_control_calm, disk_read_calm, disk_write_calm, disk_control_calm, files_calm, mount_calm}

-- A row in which the kernel panics is that of a send, while all ports together are full.
abbrev PanicsFull : CallRow → Type 0
PanicsFull r = (a : ℕ → ℕ) (s : Xinu) → (r.effect a s).answer ≡ Panics → (r.number ≡ 34) × (most_nodes ≤ nodes s.parts.ports)

-- Row by row.
rows_panic : AllByRecursion PanicsFull calls
unfolding calls
rows_panic =
    (λ a s e. absurd (cc)) ⨾
    (λ a s e. absurd (create_calm (a 0) (a 1) (half (a 2)) (a 3) (a 4) (a 5) s e)) ⨾
    (λ a s e. absurd (either_calm (is_suspended (state_at s.tables (a 0))) _ (refused s) (λ f. absurd (cc)) (refused_calm s) e)) ⨾
    (λ a s e. absurd (suspend_calm (a 0) s e)) ⨾
    (λ a s e. absurd (kill_calm (a 0) s e)) ⨾
    (λ a s e. absurd (cc)) ⨾
    (λ a s e. absurd (either_calm (is_free (state_at s.tables (a 0))) (refused s) _ (refused_calm s) (λ f. absurd (cc)) e)) ⨾
    (λ a s e. absurd (either_calm (is_free (state_at s.tables (a 0))) (refused s) _ (refused_calm s) (λ f. absurd (cc)) e)) ⨾
    (λ a s e. absurd (cc)) ⨾
    (λ a s e. absurd (granted_calm (heap.take_memory (a 0) s.parts.heap) s e)) ⨾
    (λ a s e. absurd (given_back_calm (heap.free_memory (a 0) (a 1) s.parts.heap) s e)) ⨾
    (λ a s e. absurd (stacked_calm (heap.take_stack (a 0) s.parts.heap) s e)) ⨾
    (λ a s e. absurd (given_back_calm (heap.free_stack (a 0) (a 1) s.parts.heap) s e)) ⨾
    (λ a s e. absurd (semcreate_calm (signed (a 0)) s e)) ⨾
    (λ a s e. absurd (either_calm (is_good (a 0) s.tables) _ (refused s) (λ f. absurd (cc)) (refused_calm s) e)) ⨾
    (λ a s e. absurd (semreset_calm (a 0) (signed (a 1)) s e)) ⨾
    (λ a s e. absurd (either_calm (is_good (a 0) s.tables) _ (refused s) (λ f. absurd (cc)) (refused_calm s) e)) ⨾
    (λ a s e. absurd (wait_calm (a 0) s e)) ⨾
    (λ a s e. absurd (either_calm _ _ (refused s) (returns_calm (signalled (a 0) (start s)) OK) (refused_calm s) e)) ⨾
    (λ a s e. absurd (signaln_calm (a 0) (signed (a 1)) s e)) ⨾
    (λ a s e. absurd (either_calm (can_get (a 0) s.tables) _ (refused s) (λ f. absurd (cc)) (refused_calm s) e)) ⨾
    (λ a s e. absurd (received_calm (held s) _ s (λ f. absurd (cc)) e)) ⨾
    (λ a s e. absurd (received_calm (held s) _ s (λ f. absurd (cc)) e)) ⨾
    (λ a s e. absurd (recvtime_calm (signed (a 0)) s e)) ⨾
    (λ a s e. absurd (sleep_calm (signed (a 0)) s e)) ⨾
    (λ a s e. absurd (sleepms_calm (signed (a 0)) s e)) ⨾
    (λ a s e. absurd (cc)) ⨾
    (λ a s e. absurd (mkbufpool_calm (a 0) (a 1) s e)) ⨾
    (λ a s e. absurd (getbuf_calm (a 0) s e)) ⨾
    (λ a s e. absurd (freed_by_calm (holder (a 0) s.parts.pools) (a 0) s e)) ⨾
    (λ a s e. absurd (ptcreate_calm (signed (a 0)) s e)) ⨾
    (λ a s e. absurd (deleted_calm (port_at s.parts.ports (a 0)).queue (a 0) (a 1) s e)) ⨾
    (λ a s e. absurd (reset_calm (port_at s.parts.ports (a 0)).queue (a 0) (a 1) s e)) ⨾
    (λ a s e. (refl, sent_to_full (port_at s.parts.ports (a 0)).queue (a 0) (a 1) s e)) ⨾
    (λ a s e. absurd (received_from_calm (port_at s.parts.ports (a 0)).queue (a 0) s e)) ⨾
    (λ a s e. absurd (device_open_holds Calm (a 0) (a 1) (a 2) s (refused_calm s) (λ f. absurd (cc)) (λ f. absurd (cc)) (files_calm s) e)) ⨾
    (λ a s e. absurd (device_close_holds Calm (a 0) s (refused_calm s) (λ f. absurd (cc)) (files_calm s) e)) ⨾
    (λ a s e. absurd (device_read_holds Calm (a 0) (a 1) (a 2) s (refused_calm s) (read_calm (a 1) (signed (a 2)) s)
    (disk_read_calm (a 1) (a 2) s) (files_calm s) e)) ⨾
    (λ a s e. absurd (device_write_holds Calm (a 0) (a 1) (a 2) s (refused_calm s) (write_calm (a 1) (signed (a 2)) s)
    (disk_write_calm (a 1) (a 2) s) (files_calm s) e)) ⨾
    (λ a s e. absurd (device_getc_holds Calm (a 0) s (refused_calm s) (getc_calm s) (files_calm s) e)) ⨾
    (λ a s e. absurd (device_putc_holds Calm (a 0) (a 1 % 256) s (refused_calm s) (putc_calm (a 1 % 256) s) (files_calm s) e)) ⨾
    (λ a s e. absurd (device_seek_holds Calm (a 0) (signed (a 1)) s (refused_calm s) (files_calm s) e)) ⨾
    (λ a s e. absurd (device_control_holds Calm (a 0) (a 1) (a 2) s (refused_calm s) (console_control_calm (a 1) s)
    (disk_control_calm (a 1) s) (files_calm s) e)) ⨾
    (λ a s e. absurd (mount_calm (a 0) (a 1) (a 2) s e)) ⨾
    tt

-- So is a call of any number,
pub call_panics : (number : ℕ) (args : List ℕ) (s : Xinu) → (called number args s).answer ≡ Panics
    → (number ≡ 34) × (most_nodes ≤ nodes s.parts.ports)
call_panics number args s = by_row (found_in calls number) refl
  where
    by_row : (found : Option CallRow) → found_in calls number ≡ found → (done_by found args s).answer ≡ Panics
        → (number ≡ 34) × (most_nodes ≤ nodes s.parts.ports)
    by_row None e = λ f. absurd (cc)
    by_row (Some r) e = λ f.
        let k = of_row PanicsFull calls rows_panic number r e (slice_index args) s f in
        (sym (number_of_row calls number r e) ∙ k.0, k.1)

-- What is left of a call panics if it is such a send.
pub continued_panics : (left : Rest) (s : Xinu) → (continued left s).answer ≡ Panics → IsFullSend left s
continued_panics rest.Receive s e = absurd (received_calm (held s) _ s (λ f. absurd (cc)) e)
continued_panics rest.Timed s e = absurd (received_calm (held s) _ s (λ f. absurd (cc)) e)
continued_panics rest.SelfSuspend s e = absurd (cc)
continued_panics (rest.GetBuf i) s e = absurd (take_first_calm (pool_at s.parts.pools i).free i (goes_on (held s) s) e)
continued_panics (rest.PtSend ticket message) s e = finish_send_full ticket message (goes_on (held s) s) e
continued_panics (rest.PtRecv ticket) s e = absurd (finish_receive_calm ticket (goes_on (held s) s) e)
continued_panics rest.TtyGet s e = absurd (take_char_calm (console_of s).committed (goes_on (held s) s) e)
continued_panics (rest.TtyRead part) s e =
    absurd (read_item_calm (console_of s).committed part.at part.done (reads (part.want - suc part.done) part.at (suc part.done))
    (goes_on (held s) s) (reads_calm (part.want - suc part.done) part.at (suc part.done)) e)
continued_panics (rest.TtyPut b true) s e = absurd (cc)
continued_panics (rest.TtyPut b false) s e =
    absurd (put_byte_calm b (rest.TtyPut b true) (answers OK) (goes_on (held s) s) (λ v f. absurd (cc)) e)
continued_panics (rest.TtyWrite part true) s e =
    absurd (writes_calm (part.want - suc part.done) part.at (suc part.done) (put TY_NEWLINE (goes_on (held s) s)) e)
continued_panics (rest.TtyWrite part false) s e =
    absurd (put_byte_calm (slice_index s.memory (part.at + part.done)) (rest.TtyWrite part true)
    (writes (part.want - suc part.done) part.at (suc part.done)) (goes_on (held s) s)
    (writes_calm (part.want - suc part.done) part.at (suc part.done)) e)
continued_panics (rest.Disk None) s e = absurd (cc)
continued_panics (rest.Disk (Some reply)) s e = absurd (cc)
continued_panics rest.Nothing s e = absurd (cc)

-- what the test of an answer tells
panic_is : (answer : Answer) → is_panic answer ≡ true → answer ≡ Panics
panic_is Panics e = refl
panic_is (Returns value) e = cc
panic_is Waits e = cc
panic_is Gone e = cc
panic_is Silent e = cc

-- So a machine step in which the kernel panics is such a send, or goes on with one.
abbrev FullStep : Xinu → Type 0
FullStep old = IsFullCall old ⊎ IsFullSend (process_at old.tables old.tables.current).rest old

-- It is shown by what the step does.
step_full : (old : Xinu) → (stepped old).panics ≡ true → FullStep old
step_full old =
    let left = (process_at old.tables old.tables.current).rest in
    let goes_on = end_of_event old.tables.current [] (continued left old) in
    cond_both (old.tables.current == 0) (nothing_happens old) (cond (is_done left) (instruction_step old) goes_on)
    (λ (x : EventResult). x.panics ≡ true → FullStep old)
    (λ _ e. absurd (cc))
    (λ b. cond_both (is_done left) (instruction_step old) goes_on (λ (x : EventResult). x.panics ≡ true → FullStep old)
    (λ d. by_outcome (eqb-false old.tables.current 0 b) (done_rest left d) (next old).outcome refl)
    (λ _ e. inr (continued_panics left old (panic_is (continued left old).answer e))))
  where
    by_outcome : old.tables.current ≢ 0 → (process_at old.tables old.tables.current).rest ≡ rest.Nothing → (o : Outcome)
        → (next old).outcome ≡ o → (reacted o (with_executed (next old) old)).panics ≡ true → FullStep old
    by_outcome runs left outcome.Went is = λ e. absurd (cc)
    by_outcome runs left outcome.Call is = λ e.
        let s = with_executed (next old) old in
        let call = call_of (current_hart s) in
        let k = call_panics call.number call.args s (panic_is (called call.number call.args s).answer e) in
        inl (record { calling = record { runs = runs; rest = left; call = is }; number = k.0; full = k.1 })
    by_outcome runs left outcome.Exit is = λ e. absurd (cc)
    by_outcome runs left (outcome.Trap cause) is = λ e. absurd (cc)

-- a transmission is calm
sent_in_calm : (sent : Option Sent) (s : Xinu) → (sent_in sent s).panics ≡ false
sent_in_calm None s = refl
sent_in_calm (Some sent) s = refl

-- and so is a completion of the raw disk
served_in_calm : (served : Option Served) (s : Xinu) → (served_in served s).panics ≡ false
served_in_calm None s = refl
served_in_calm (Some x) s = refl

-- nor does the kernel panic in one of the files' disk
called_calm : (calls : List FileRequest) (s : Xinu) → (completed_in calls 0 s).panics ≡ false
called_calm [] s = refl
called_calm (a ∷ calls) s = refl

-- An event in which the kernel panics is such a step.
pub event_panics : (old : Xinu) (e : Event) → panics_in old e ≡ true → (e ≡ Step) × FullStep old
event_panics old Step h = (refl, step_full old h)
event_panics old Tick h = absurd (cc)
event_panics old (Key b) h = absurd (cc)
event_panics old Tx h = let f = sent_in_calm (transmitted (console_of old)) old in absurd (cc)
event_panics old Disk0 h = let f = served_in_calm (raw_completed true (disk_of old)) old in absurd (cc)
event_panics old Disk1 h = let f = called_calm (files_of old).calls old in absurd (cc)
event_panics old Fail0 h = let f = served_in_calm (raw_completed false (disk_of old)) old in absurd (cc)
event_panics old Fail1 h = absurd (cc)
event_panics old Dump h = absurd (cc)
