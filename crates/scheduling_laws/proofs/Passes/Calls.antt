-- Each call keeps a predicate that is closed under the moves, and so does what is left of each that waited.
use Rattle.std.proofs.Common.{◌≡◌, ℕ, suc, ◌+◌, ◌-◌, ◌%◌, Bool, true, false, List, Option, Some, None, refl, sym, subst}
use Rattle.std.specs.Prelude.{slice_index}
use Rattle.std.specs.List.{AllByRecursion}
use Rattle.xinu_base.specs.Constants.{OK}
use Rattle.xinu_base.specs.declared.processes.Rest.{Rest}
use Rattle.xinu_base.specs.declared.processes.Rest.TheVariants as rest
use Rattle.xinu_base.specs.declared.processes.State.TheVariants.{Receiving}
use Rattle.xinu_model.specs.Calls.{calls, called, continued}
use Rattle.xinu_model.specs.Console.Constants.{TY_NEWLINE}
use Rattle.xinu_model.specs.Console.Putting.{put, writes}
use Rattle.xinu_model.specs.Console.Taking.{console_of, reads}
use Rattle.xinu_model.specs.Heap.Cells as heap
use Rattle.xinu_model.specs.Machine.{Xinu, refused, goes_on}
use Rattle.xinu_model.specs.Messages.{held}
use Rattle.xinu_model.specs.Pools.Buffers.{pool_at, holder}
use Rattle.xinu_model.specs.Ports.Queues.{port_at}
use Rattle.xinu_model.specs.Rows.{CallRow, found_in, done_by}
use Rattle.xinu_model.specs.Semaphores.Calls.{answers}
use Rattle.xinu_model.specs.Semaphores.Counts.{count_of, is_good}
use Rattle.xinu_model.specs.Sound.Tables.{IsSoundTables}
use Rattle.xinu_model.specs.Tables.{Tables, process_at, state_at, semaphore_at, is_free, Nowhere}
use Rattle.xinu_model.specs.Words.{signed, half}
use Rattle.xinu_laws.proofs.Devices.Kept.{device_open_holds, device_close_holds, device_read_holds, device_write_holds, device_getc_holds, device_putc_holds, device_seek_holds, device_control_holds}
use Rattle.xinu_laws.proofs.Rows.CallRows.{number_of_row, of_row}
use Rattle.xinu_laws.proofs.Rows.RowByRow.{◌⨾◌}
use Rattle.scheduling_laws.proofs.Kernels.{HaveKernels}
use Rattle.scheduling_laws.proofs.Moves.{Goes, Settled, IsClosed, MayMake}
use Rattle.scheduling_laws.proofs.Passes.Steps.{either_settles, blocked_settles}
use Rattle.scheduling_laws.proofs.Passes.TableCalls.{begun, create_settles, resume_settles, suspend_settles, exit_settles, kill_settles, chprio_settles, granted_settles, stacked_settles, given_back_settles, semcreate_settles, semdelete_settles, semreset_settles, wait_settles, signal_settles, signaln_settles, send_settles, received_settles, recvtime_settles, sleepms_settles, sleep_settles}
use Rattle.scheduling_laws.proofs.Passes.PortCalls.{mkbufpool_settles, take_first_settles, getbuf_settles, freed_by_settles, ptcreate_settles, deleted_settles, reset_settles, finish_receive_settles, received_from_settles, finish_send_settles, sent_to_settles}
use Rattle.scheduling_laws.proofs.Passes.DeviceCalls.{take_char_settles, getc_settles, read_item_settles, reads_settles, read_settles, put_byte_settles, putc_settles, writes_settles, write_settles, console_control_settles, disk_read_settles, disk_write_settles, disk_control_settles, files_settle, mount_settles}

module _ {May Touch : ℕ → Type 0} {Begins : Tables → Type 0} {Holds : Tables → Bool → Type 0} (k : IsClosed May Touch Begins Holds) where
  -- a row settles
  abbrev SettlesRow : CallRow → Type 0
  SettlesRow r = (a : ℕ → ℕ) (s : Xinu) → IsSoundTables s.tables → HaveKernels Touch s.parts → Begins s.tables
      → MayMake May Touch r.number (a 0) → Settled Holds (r.effect a s)

  -- Row by row.
  rows_settle : AllByRecursion SettlesRow calls
  unfolding calls
  rows_settle =
      (λ a s c o b m. begun k s b) ⨾
      (λ a s c o b m. create_settles k (a 0) (a 1) (half (a 2)) (a 3) (a 4) (a 5) s c b) ⨾
      (λ a s c o b m. resume_settles k (a 0) s c b) ⨾
      (λ a s c o b m. suspend_settles k (a 0) s c b) ⨾
      (λ a s c o b m. kill_settles k (a 0) s (begun k s b)) ⨾
      (λ a s c o b m. k.owes s.tables (begun k s b)) ⨾
      (λ a s c o b m. chprio_settles k (a 0) (half (a 1)) s (m.0 refl) c b) ⨾
      (λ a s c o b m. either_settles k (is_free (state_at s.tables (a 0))) (refused s) (answers (process_at s.tables (a 0)).priority s) (λ _. begun k s b) (λ _. begun k s b)) ⨾
      (λ a s c o b m. exit_settles k s (begun k s b)) ⨾
      (λ a s c o b m. granted_settles k (heap.take_memory (a 0) s.parts.heap) s (begun k s b)) ⨾
      (λ a s c o b m. given_back_settles k (heap.free_memory (a 0) (a 1) s.parts.heap) s (begun k s b)) ⨾
      (λ a s c o b m. stacked_settles k (heap.take_stack (a 0) s.parts.heap) s (begun k s b)) ⨾
      (λ a s c o b m. given_back_settles k (heap.free_stack (a 0) (a 1) s.parts.heap) s (begun k s b)) ⨾
      (λ a s c o b m. semcreate_settles k (signed (a 0)) s (begun k s b)) ⨾
      (λ a s c o b m. semdelete_settles k (a 0) s (m.1 refl) (begun k s b)) ⨾
      (λ a s c o b m. semreset_settles k (a 0) (signed (a 1)) s (m.1 refl) (begun k s b)) ⨾
      (λ a s c o b m. either_settles k (is_good (a 0) s.tables) (answers (count_of (semaphore_at s.tables (a 0))) s) (refused s) (λ _. begun k s b) (λ _. begun k s b)) ⨾
      (λ a s c o b m. wait_settles k (a 0) s (m.1 refl) (begun k s b)) ⨾
      (λ a s c o b m. signal_settles k (a 0) s (m.1 refl) (begun k s b)) ⨾
      (λ a s c o b m. signaln_settles k (a 0) (signed (a 1)) s (m.1 refl) (begun k s b)) ⨾
      (λ a s c o b m. send_settles k (a 0) (a 1) s (begun k s b)) ⨾
      (λ a s c o b m. received_settles k (held s) _ s c b (blocked_settles k Receiving rest.Receive Nowhere s tt (begun k s b))) ⨾
      (λ a s c o b m. received_settles k (held s) _ s c b (begun k s b)) ⨾
      (λ a s c o b m. recvtime_settles k (signed (a 0)) s c b) ⨾
      (λ a s c o b m. sleep_settles k (signed (a 0)) s (begun k s b)) ⨾
      (λ a s c o b m. sleepms_settles k (signed (a 0)) s (begun k s b)) ⨾
      (λ a s c o b m. begun k s b) ⨾
      (λ a s c o b m. mkbufpool_settles k (a 0) (a 1) s (begun k s b)) ⨾
      (λ a s c o b m. getbuf_settles k (a 0) s o.pools (begun k s b)) ⨾
      (λ a s c o b m. freed_by_settles k (holder (a 0) s.parts.pools) (a 0) s o.pools (begun k s b)) ⨾
      (λ a s c o b m. ptcreate_settles k (signed (a 0)) s (begun k s b)) ⨾
      (λ a s c o b m. deleted_settles k (port_at s.parts.ports (a 0)).queue (a 0) (a 1) s o.pools (o.ports.ports (a 0)) (begun k s b)) ⨾
      (λ a s c o b m. reset_settles k (port_at s.parts.ports (a 0)).queue (a 0) (a 1) s o.pools (o.ports.ports (a 0)) (begun k s b)) ⨾
      (λ a s c o b m. sent_to_settles k (port_at s.parts.ports (a 0)).queue (a 0) (a 1) s o.ports (o.ports.ports (a 0)) (begun k s b)) ⨾
      (λ a s c o b m. received_from_settles k (port_at s.parts.ports (a 0)).queue (a 0) s o.ports (o.ports.ports (a 0)) (begun k s b)) ⨾
      (λ a s c o b m. device_open_holds (Settled Holds) (a 0) (a 1) (a 2) s (begun k s b) (begun k s b) (begun k s b) (files_settle k o.devices s (begun k s b))) ⨾
      (λ a s c o b m. device_close_holds (Settled Holds) (a 0) s (begun k s b) (begun k s b) (files_settle k o.devices s (begun k s b))) ⨾
      (λ a s c o b m. device_read_holds (Settled Holds) (a 0) (a 1) (a 2) s (begun k s b) (read_settles k o.devices (a 1) (signed (a 2)) s (begun k s b))
      (disk_read_settles k o.devices (a 1) (a 2) s (begun k s b)) (files_settle k o.devices s (begun k s b))) ⨾
      (λ a s c o b m. device_write_holds (Settled Holds) (a 0) (a 1) (a 2) s (begun k s b) (write_settles k o.devices (a 1) (signed (a 2)) s (begun k s b))
      (disk_write_settles k o.devices (a 1) (a 2) s (begun k s b)) (files_settle k o.devices s (begun k s b))) ⨾
      (λ a s c o b m. device_getc_holds (Settled Holds) (a 0) s (begun k s b) (getc_settles k o.devices s (begun k s b)) (files_settle k o.devices s (begun k s b))) ⨾
      (λ a s c o b m. device_putc_holds (Settled Holds) (a 0) (a 1 % 256) s (begun k s b) (putc_settles k o.devices (a 1 % 256) s (begun k s b)) (files_settle k o.devices s (begun k s b))) ⨾
      (λ a s c o b m. device_seek_holds (Settled Holds) (a 0) (signed (a 1)) s (begun k s b) (files_settle k o.devices s (begun k s b))) ⨾
      (λ a s c o b m. device_control_holds (Settled Holds) (a 0) (a 1) (a 2) s (begun k s b) (console_control_settles k o.devices (a 1) s (begun k s b))
      (disk_control_settles k o.devices (a 1) s (begun k s b)) (files_settle k o.devices s (begun k s b))) ⨾
      (λ a s c o b m. mount_settles k o.devices (a 0) (a 1) (a 2) s (begun k s b)) ⨾
      tt

  -- So does the call of any number,
  pub called_settles : (number : ℕ) (args : List ℕ) (s : Xinu) → IsSoundTables s.tables → HaveKernels Touch s.parts → Begins s.tables
      → MayMake May Touch number (slice_index args 0) → Settled Holds (called number args s)
  called_settles number args s c o b may = by_row (found_in calls number) refl
    where
      by_row : (found : Option CallRow) → found_in calls number ≡ found → Settled Holds (done_by found args s)
      by_row None e = begun k s b
      by_row (Some r) e = of_row SettlesRow calls rows_settle number r e (slice_index args) s c o b
          (subst (λ n. MayMake May Touch n (slice_index args 0)) (sym (number_of_row calls number r e)) may)

  -- and what is left of a call that waited.
  pub continued_settles : (left : Rest) (s : Xinu) → IsSoundTables s.tables → HaveKernels Touch s.parts → Begins s.tables → Settled Holds (continued left s)
  continued_settles left s c o b = by_rest left
    where
      on : Goes Holds (goes_on (held s) s)
      on = k.goes_on s.tables (held s) c b

      by_rest : (left : Rest) → Settled Holds (continued left s)
      by_rest rest.Receive = received_settles k (held s) _ s c b (k.goes_on s.tables None c b)
      by_rest rest.Timed = received_settles k (held s) _ s c b (k.goes_on s.tables None c b)
      by_rest rest.SelfSuspend = on
      by_rest (rest.GetBuf i) = take_first_settles k (pool_at s.parts.pools i).free i (goes_on (held s) s) on
      by_rest (rest.PtSend ticket message) = finish_send_settles k ticket message (goes_on (held s) s) o.ports on
      by_rest (rest.PtRecv ticket) = finish_receive_settles k ticket (goes_on (held s) s) o.ports on
      by_rest rest.TtyGet = take_char_settles k o.devices (console_of s).committed (goes_on (held s) s) on
      by_rest (rest.TtyRead part) =
          read_item_settles k o.devices (console_of s).committed part.at part.done (reads (part.want - suc part.done) part.at (suc part.done))
          (goes_on (held s) s) on (reads_settles k o.devices (part.want - suc part.done) part.at (suc part.done))
      by_rest (rest.TtyPut b true) = on
      by_rest (rest.TtyPut b false) = put_byte_settles k o.devices b (rest.TtyPut b true) (answers OK) (goes_on (held s) s) on (λ v f. f)
      by_rest (rest.TtyWrite part true) =
          writes_settles k o.devices (part.want - suc part.done) part.at (suc part.done) (put TY_NEWLINE (goes_on (held s) s)) on
      by_rest (rest.TtyWrite part false) =
          put_byte_settles k o.devices (slice_index s.memory (part.at + part.done)) (rest.TtyWrite part true)
          (writes (part.want - suc part.done) part.at (suc part.done)) (goes_on (held s) s) on
          (writes_settles k o.devices (part.want - suc part.done) part.at (suc part.done))
      by_rest (rest.Disk None) = begun k s b
      by_rest (rest.Disk (Some reply)) = on
      by_rest rest.Nothing = begun k s b
