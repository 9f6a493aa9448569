-- Bytes that requests of disks load and store: those of a write as the call is made, or becomes the first; those of a read as it is
-- completed.
use Rattle.std.specs.Prelude.{ℕ, zero, suc, ◌-◌, ◌==◌, Bool, true, false, if◌then◌else◌, ◌&&◌, List, [], ◌∷◌, ◌++◌, length, slice_index, Option, Some, None}
use Rattle.xinu_base.specs.declared.devices.Kind.{Kind}
use Rattle.xinu_base.specs.declared.devices.Kind.TheVariants as kind
use Rattle.xinu_base.specs.declared.lines.FileMoment.TheVariants.{Next}
use Rattle.xinu_base.specs.declared.syscalls.Call.{Call}
use Rattle.xinu_model.specs.Devices.Table.{kind_of}
use Rattle.xinu_model.specs.Files.Calls.{FileCall, Write, file_effect}
use Rattle.xinu_model.specs.Files.Syscalls.{file_step, files_of}
use Rattle.xinu_model.specs.Files.Work.{FileRequest, FileStep, enqueued, first_effect}
use Rattle.xinu_model.specs.Machine.{Xinu}
use Rattle.xinu_model.specs.RawDisk.Calls.{disk_of, may_request}
use Rattle.xinu_model.specs.RawDisk.Completions.{Served, raw_completed}
use Rattle.xinu_model.specs.RawDisk.Constants.{RD_BLKSIZ}
use Rattle.happens_before.specs.Histories.{Deed}
use Rattle.data_races.specs.Instructions.{loads, stores}
use Rattle.data_races.specs.Memory.{pc_of}

-- where a process made the call in which it waits: before the place at which it goes on
abbrev pub call_place : Xinu → ℕ → ℕ
call_place s p = pc_of s p - 4

-- bytes that are stored for the caller of a request, if it lives
abbrev pub stored_for : Option ℕ → ℕ → ℕ → Xinu → List Deed
stored_for None at n s = []
stored_for (Some p) at n s = stores p (call_place s p) at n

abbrev pub loaded_for : Option ℕ → ℕ → ℕ → Xinu → List Deed
loaded_for None at n s = []
loaded_for (Some p) at n s = loads p (call_place s p) at n

-- `write` of the raw disk: its block is loaded as the call is made
abbrev pub is_raw_disk : Option Kind → Bool
is_raw_disk (Some kind.RawDisk) = true
is_raw_disk _ = false

abbrev pub raw_deeds : ℕ → ℕ → Call → Xinu → List Deed
raw_deeds u place call s =
    let x = slice_index call.args in
    if (call.number == 39) && (is_raw_disk (kind_of (x 0)) && may_request (x 1) (x 2) s) then loads u place (x 1) RD_BLKSIZ else []

-- a good completion of the raw disk stores the block of a read
abbrev pub served_deeds : Option Served → Xinu → List Deed
served_deeds None s = []
served_deeds (Some x) s = stored_for x.request.caller x.request.at (length x.bytes) s

abbrev pub completion_deeds : Xinu → List Deed
completion_deeds s = served_deeds (raw_completed true (disk_of s)) s

-- a call on files that becomes the first loads the bytes that it writes
abbrev pub written : FileCall → ℕ
written (Write d n) = n
written _ = 0

abbrev pub first_loads : List FileRequest → Xinu → List Deed
first_loads [] s = []
first_loads (a ∷ calls) s = loaded_for a.caller a.at (written a.call) s

-- the first call takes effect, which stores what it reads, and the next one becomes the first
abbrev pub effect_stores : List FileRequest → FileStep → Xinu → List Deed
effect_stores [] x s = []
effect_stores (a ∷ calls) x s = stored_for a.caller a.at (length (file_effect a.call x.work.bytes x.work.system).bytes) s ++ first_loads calls s

-- so many calls take effect, one after another
abbrev pub effects_deeds : ℕ → FileStep → Xinu → List Deed
effects_deeds zero x s = []
effects_deeds (suc k) x s = effect_stores x.work.calls x s ++ effects_deeds k (first_effect x.work.calls Next x) s

-- how many calls on files take effect in a completion, seen from the states before and after it
abbrev pub calls_of : Xinu → List FileRequest
calls_of s = (files_of s).calls

abbrev pub files_deeds : Xinu → Xinu → List Deed
files_deeds old new = effects_deeds (length (calls_of old) - length (calls_of new)) (file_step old) old

-- a call on files that is made while none is under way is the first, and may take effect at once
abbrev pub is_none : List FileRequest → Bool
is_none [] = true
is_none (a ∷ calls) = false

abbrev pub issue_deeds : Option FileRequest → Xinu → Xinu → List Deed
issue_deeds None s new = []
issue_deeds (Some a) s new =
    first_loads (a ∷ []) s ++
    (if is_none (calls_of new)
    then effect_stores (a ∷ []) (record { work = enqueued a s.memory (files_of s); memory = s.memory; notes = [] }) s else [])
