-- Bytes that `write` loads and `read` stores on the console, each in the event in which it is put, or taken.
use Rattle.std.specs.Prelude.{ℕ, ◌+◌, ◌-◌, ◌==◌, Bool, true, false, if◌then◌else◌, List, [], slice_index, slice_index_or, Option, Some, ℤ, pos, negsuc}
use Rattle.xinu_base.specs.declared.devices.Kind.{Kind}
use Rattle.xinu_base.specs.declared.devices.Kind.TheVariants as kind
use Rattle.xinu_base.specs.declared.processes.Rest.{Rest}
use Rattle.xinu_base.specs.declared.processes.Rest.TheVariants as rest
use Rattle.xinu_base.specs.declared.syscalls.Call.{Call}
use Rattle.xinu_model.specs.Devices.Table.{kind_of}
use Rattle.xinu_model.specs.Machine.{Xinu, no_hart}
use Rattle.xinu_model.specs.Memory.{in_ram}
use Rattle.xinu_model.specs.Tables.{process_at}
use Rattle.xinu_model.specs.Words.{signed}
use Rattle.happens_before.specs.Histories.{Deed}
use Rattle.data_races.specs.Instructions.{loads, stores}

-- a newline of which the carriage return was put is loaded already
abbrev pub halfway : Bool → ℕ
halfway true = 1
halfway false = 0

-- how many bytes of a write are loaded after an event, by what is left of the call; all of them if nothing is
abbrev pub loaded_by : Rest → ℕ → ℕ
loaded_by (rest.TtyWrite part returned) want = part.done + halfway returned
loaded_by _ want = want

-- how many bytes of a read are stored after an event, by what is left of the call and its answer; no more than before if it is refused
abbrev pub stored_by_answer : ℤ → ℕ → ℕ
stored_by_answer (pos n) done = n
stored_by_answer (negsuc n) done = done

abbrev pub stored_by : Rest → ℤ → ℕ → ℕ
stored_by (rest.TtyRead part) answer done = part.done
stored_by _ answer done = stored_by_answer answer done

-- what is left of a process's call, and what a call answered
abbrev pub rest_of : Xinu → ℕ → Rest
rest_of s p = (process_at s.tables p).rest

abbrev pub answer_of : Xinu → ℕ → ℤ
answer_of s p = signed (slice_index (slice_index_or s.harts p no_hart).regs 10)

-- process u goes on with a write, or a read, of which so many bytes are done
abbrev pub write_deeds : ℕ → ℕ → ℕ → ℕ → ℕ → Xinu → List Deed
write_deeds u place at done want new = loads u place (at + done) (loaded_by (rest_of new u) want - done)

abbrev pub read_deeds : ℕ → ℕ → ℕ → ℕ → Xinu → List Deed
read_deeds u place at done new = stores u place (at + done) (stored_by (rest_of new u) (answer_of new u) done - done)

-- The call goes on for which u waited.
abbrev pub continued_deeds : ℕ → ℕ → Rest → Xinu → List Deed
continued_deeds u place (rest.TtyWrite part returned) new = write_deeds u place part.at (part.done + halfway returned) part.want new
continued_deeds u place (rest.TtyRead part) new = read_deeds u place part.at part.done new
continued_deeds u place _ new = []

-- The call is made: call 38 reads, call 39 writes.
abbrev pub is_console : Option Kind → Bool
is_console (Some kind.Console) = true
is_console _ = false

abbrev pub write_begins : ℕ → ℕ → ℕ → ℤ → Xinu → List Deed
write_begins u place at (negsuc n) new = []
write_begins u place at (pos n) new = if in_ram at n then write_deeds u place at 0 n new else []

abbrev pub console_deeds : ℕ → ℕ → Call → Xinu → List Deed
console_deeds u place call new =
    let x = slice_index call.args in
    if is_console (kind_of (x 0))
    then (if call.number == 38 then read_deeds u place (x 1) 0 new
    else (if call.number == 39 then write_begins u place (x 1) (signed (x 2)) new
    else []))
    else []
