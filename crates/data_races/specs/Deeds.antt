-- What an event does with memory: its accesses and what it gives, in order.
use Rattle.std.specs.Prelude.{ℕ, ◌==◌, if◌then◌else◌, List, [], ◌++◌, Option, Some, None}
use Rattle.xinu_base.specs.declared.events.Event.{Event}
use Rattle.xinu_base.specs.declared.events.Event.TheVariants.{Step, Disk0, Disk1}
use Rattle.xinu_base.specs.declared.syscalls.Call.{Call}
use Rattle.xinu_model.specs.Events.{is_done, next_file_call, with_executed}
use Rattle.xinu_model.specs.Isa.Exec.{exec}
use Rattle.xinu_model.specs.Machine.{Xinu, current_hart}
use Rattle.happens_before.specs.Histories.{Deed}
use Rattle.data_races.specs.Changes.{next_call}
use Rattle.data_races.specs.Consoles.{console_deeds, continued_deeds, rest_of}
use Rattle.data_races.specs.Disks.{call_place, completion_deeds, files_deeds, issue_deeds, raw_deeds}
use Rattle.data_races.specs.Instructions.{instruction_deeds}
use Rattle.data_races.specs.Memory.{birth_deeds, buffer_deeds, death_deeds, heap_deeds, pc_of}
use Rattle.data_races.specs.Texts.{text_deeds}

-- a call of process u at a place
abbrev pub call_deeds : ℕ → ℕ → Option Call → Xinu → Xinu → List Deed
call_deeds u place None old new = []
call_deeds u place (Some call) old new =
    text_deeds u place call old new
    ++ (heap_deeds u place call old ++ (console_deeds u place call new ++ (raw_deeds u place call old
    ++ issue_deeds (next_file_call old) (with_executed (exec (current_hart old) old.memory) old) new)))

-- where process u is in an event: at its instruction, or at the call in which it waited
abbrev pub place_of : Xinu → ℕ → ℕ
place_of s u = if is_done (rest_of s u) then pc_of s u else call_place s u

-- a step of process u: its instruction, or what is left of its call; the buffers that it gets and gives back; who begins, and who dies
abbrev pub step_deeds : ℕ → Xinu → Xinu → List Deed
step_deeds u old new =
    (if is_done (rest_of old u)
    then instruction_deeds u (current_hart old) old.memory ++ call_deeds u (place_of old u) (next_call old) old new
    else continued_deeds u (place_of old u) (rest_of old u) new)
    ++ (buffer_deeds u (place_of old u) old new ++ (birth_deeds old new ++ death_deeds old new))

-- What an event does with memory. Ticks, received characters, transmissions, failed completions and dumps do nothing with it.
unfoldable pub deeds_of : Xinu → Event → Xinu → List Deed
deeds_of old Step new = if old.tables.current == 0 then [] else step_deeds old.tables.current old new
deeds_of old Disk0 new = completion_deeds old
deeds_of old Disk1 new = files_deeds old new
deeds_of old _ new = []
