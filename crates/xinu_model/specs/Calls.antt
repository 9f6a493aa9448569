-- The table of calls, and what is left of those that waited (book, chapters 4 to 15 and the appendix on system calls).
use Rattle.std.specs.Prelude.{ℕ, List, ◌++◌}
use Rattle.xinu_base.specs.declared.processes.Rest.{Rest}
use Rattle.xinu_base.specs.declared.processes.Rest.TheVariants as rest
use Rattle.xinu_model.specs.Clock.{clock_calls}
use Rattle.xinu_model.specs.Console.Putting.{go_on_putc, go_on_write}
use Rattle.xinu_model.specs.Console.Taking.{go_on_getc, go_on_read}
use Rattle.xinu_model.specs.Devices.Calls.{device_calls}
use Rattle.xinu_model.specs.Heap.Calls.{memory_calls}
use Rattle.xinu_model.specs.Machine.{Xinu, Silent, CallResult, start}
use Rattle.xinu_model.specs.Messages.{message_calls, go_on_receive}
use Rattle.xinu_model.specs.Pools.Calls.{pool_calls, go_on_getbuf}
use Rattle.xinu_model.specs.Ports.Calls.{port_calls, go_on_ptsend, go_on_ptrecv}
use Rattle.xinu_model.specs.Process.Calls.{process_calls, go_on_suspend}
use Rattle.xinu_model.specs.RawDisk.Calls.{go_on_disk}
use Rattle.xinu_model.specs.Rows.{CallRow, found_in, done_by}
use Rattle.xinu_model.specs.Semaphores.Calls.{semaphore_calls}

-- the calls, family by family
unfoldable pub calls : List CallRow
calls = process_calls ++ (memory_calls ++ (semaphore_calls ++ (message_calls ++ (clock_calls ++ (pool_calls ++ (port_calls ++ device_calls))))))

-- What the call of this number does with its arguments; a number without a call is refused.
abbrev pub called : ℕ → List ℕ → Xinu → CallResult
called number args s = done_by (found_in calls number) args s

-- What the first step of a process does that waited, once it is current again, by what is left of its call.
abbrev pub continued : Rest → Xinu → CallResult
continued rest.Receive s = go_on_receive s
continued rest.Timed s = go_on_receive s
continued rest.SelfSuspend s = go_on_suspend s
continued (rest.GetBuf i) s = go_on_getbuf i s
continued (rest.PtSend ticket message) s = go_on_ptsend ticket message s
continued (rest.PtRecv ticket) s = go_on_ptrecv ticket s
continued rest.TtyGet s = go_on_getc s
continued (rest.TtyRead part) s = go_on_read part s
continued (rest.TtyPut b returned) s = go_on_putc b returned s
continued (rest.TtyWrite part returned) s = go_on_write part returned s
continued (rest.Disk reply) s = go_on_disk reply s
continued _ s = record { call = start s; answer = Silent }
