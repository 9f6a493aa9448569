-- What each call of the table touches, a row a line, and what follows for the call of any number.
use Rattle.std.proofs.Common.{◌≡◌, ℕ, ◌%◌, List, Some, sym, subst}
use Rattle.std.specs.Prelude.{slice_index}
use Rattle.std.specs.List.{AllByRecursion}
use Rattle.xinu_model.specs.Calls.{calls, called}
use Rattle.xinu_model.specs.Machine.{Xinu}
use Rattle.xinu_model.specs.Rows.{CallRow, found_in, done_by}
use Rattle.xinu_model.specs.Sound.State.{IsSound}
use Rattle.xinu_laws.specs.Touches.{reach, Touches}
use Rattle.xinu_model.specs.Words.{signed, half}
use Rattle.xinu_laws.proofs.Rows.RowByRow.{◌⨾◌}
use Rattle.xinu_laws.proofs.Rows.CallRows.{of_row}
use Rattle.xinu_laws.proofs.Devices.Kept.{device_open_touches, device_close_touches, device_seek_touches, device_getc_touches, device_putc_touches, device_control_touches, device_read_keeps, device_write_keeps, keeps_touch}
use Rattle.xinu_laws.proofs.NameSpaces.Calls.{mount_touches}
use Rattle.xinu_laws.proofs.Touches.{StaysIn}
use Rattle.xinu_laws.proofs.Touches.Clock.{yield_touches, sleep_touches, sleepms_touches, clktime_touches}
use Rattle.xinu_laws.proofs.Touches.Memory.{getmem_touches, freemem_touches, getstk_touches, freestk_touches}
use Rattle.xinu_laws.proofs.Touches.Messages.{send_touches, receive_touches, recvclr_touches, recvtime_touches}
use Rattle.xinu_laws.proofs.Touches.Pools.{mkbufpool_touches, getbuf_touches, freebuf_touches}
use Rattle.xinu_laws.proofs.Touches.Ports.{ptcreate_touches, ptdelete_touches, ptreset_touches, ptsend_touches, ptrecv_touches}
use Rattle.xinu_laws.proofs.Touches.Processes.{getpid_touches, create_touches, resume_touches, suspend_touches, kill_touches, chprio_touches, getprio_touches, exit_touches}
use Rattle.xinu_laws.proofs.Touches.Semaphores.{semcreate_touches, semdelete_touches, semreset_touches, semcount_touches, wait_touches, signal_touches, signaln_touches}

-- a call stays within its footprint
abbrev pub Stays : CallRow → Type 0
Stays r = (a : ℕ → ℕ) → StaysIn r.touches (r.effect a)

-- Each call stays within its footprint.
pub calls_touch : AllByRecursion Stays calls
unfolding calls
calls_touch =
    (λ a. getpid_touches) ⨾
    (λ a. create_touches (a 0) (a 1) (half (a 2)) (a 3) (a 4) (a 5)) ⨾
    (λ a. resume_touches (a 0)) ⨾
    (λ a. suspend_touches (a 0)) ⨾
    (λ a. kill_touches (a 0)) ⨾
    (λ a. yield_touches) ⨾
    (λ a. chprio_touches (a 0) (half (a 1))) ⨾
    (λ a. getprio_touches (a 0)) ⨾
    (λ a. exit_touches) ⨾
    (λ a. getmem_touches (a 0)) ⨾
    (λ a. freemem_touches (a 0) (a 1)) ⨾
    (λ a. getstk_touches (a 0)) ⨾
    (λ a. freestk_touches (a 0) (a 1)) ⨾
    (λ a. semcreate_touches (signed (a 0))) ⨾
    (λ a. semdelete_touches (a 0)) ⨾
    (λ a. semreset_touches (a 0) (signed (a 1))) ⨾
    (λ a. semcount_touches (a 0)) ⨾
    (λ a. wait_touches (a 0)) ⨾
    (λ a. signal_touches (a 0)) ⨾
    (λ a. signaln_touches (a 0) (signed (a 1))) ⨾
    (λ a. send_touches (a 0) (a 1)) ⨾
    (λ a. receive_touches) ⨾
    (λ a. recvclr_touches) ⨾
    (λ a. recvtime_touches (signed (a 0))) ⨾
    (λ a. sleep_touches (signed (a 0))) ⨾
    (λ a. sleepms_touches (signed (a 0))) ⨾
    (λ a. clktime_touches) ⨾
    (λ a. mkbufpool_touches (a 0) (a 1)) ⨾
    (λ a. getbuf_touches (a 0)) ⨾
    (λ a. freebuf_touches (a 0)) ⨾
    (λ a. ptcreate_touches (signed (a 0))) ⨾
    (λ a. ptdelete_touches (a 0) (a 1)) ⨾
    (λ a. ptreset_touches (a 0) (a 1)) ⨾
    (λ a. ptsend_touches (a 0) (a 1)) ⨾
    (λ a. ptrecv_touches (a 0)) ⨾
    (λ a. device_open_touches (a 0) (a 1) (a 2)) ⨾
    (λ a. device_close_touches (a 0)) ⨾
    (λ a. keeps_touch (device_read_keeps (a 0) (a 1) (a 2))) ⨾
    (λ a. keeps_touch (device_write_keeps (a 0) (a 1) (a 2))) ⨾
    (λ a. device_getc_touches (a 0)) ⨾
    (λ a. device_putc_touches (a 0) (a 1 % 256)) ⨾
    (λ a. device_seek_touches (a 0) (signed (a 1))) ⨾
    (λ a. device_control_touches (a 0) (a 1) (a 2)) ⨾
    (λ a. mount_touches (a 0) (a 1) (a 2)) ⨾
    tt

-- The call of a number that has a row stays within the row's footprint.
pub call_touches : (number : ℕ) (args : List ℕ) (s : Xinu) (r : CallRow) → IsSound s → found_in calls number ≡ Some r
    → Touches (reach r.touches) s (called number args s).call.state
call_touches number args s r k e =
    subst (λ found. Touches (reach r.touches) s (done_by found args s).call.state) (sym e)
    (of_row Stays calls calls_touch number r e (slice_index args) s k)
