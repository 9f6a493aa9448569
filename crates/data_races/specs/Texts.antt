-- Texts that calls load: those that have one up to their zero byte, else all the bytes that are looked at.
use Rattle.std.specs.Prelude.{ℕ, suc, ◌==◌, Bool, true, false, if◌then◌else◌, ◌&&◌, List, [], ◌++◌, drop, length, min, slice_index, take, Option, Some, None, is_some}
use Rattle.std.specs.List.{flat_map}
use Rattle.xinu_base.specs.Texts.{before_zero}
use Rattle.xinu_base.specs.declared.devices.Kind.{Kind}
use Rattle.xinu_base.specs.declared.devices.Kind.TheVariants as kind
use Rattle.xinu_base.specs.declared.devices.Op.TheVariants as op
use Rattle.xinu_base.specs.declared.syscalls.Call.{Call}
use Rattle.xinu_model.specs.Devices.Table.{kind_of, offers}
use Rattle.xinu_model.specs.Devices.Texts.{text_at}
use Rattle.xinu_model.specs.Files.Constants.{LF_CTL_DEL}
use Rattle.xinu_model.specs.Machine.{Xinu}
use Rattle.happens_before.specs.Histories.{Deed}
use Rattle.data_races.specs.Changes.{born}
use Rattle.data_races.specs.Instructions.{loads}

-- how many bytes are looked at
abbrev pub text_length : Option (List ℕ) → ℕ → List ℕ → ℕ
text_length (Some text) a memory = suc (length text)
text_length None a memory = length (take 128 (drop a memory))

abbrev pub text_loaded : ℕ → ℕ → ℕ → List ℕ → List Deed
text_loaded u place a memory = loads u place a (text_length (text_at a memory) a memory)

-- a second text is looked at if the first is there
abbrev pub texts_loaded : ℕ → ℕ → ℕ → ℕ → List ℕ → List Deed
texts_loaded u place a b memory = text_loaded u place a memory ++ (if is_some (text_at a memory) then text_loaded u place b memory else [])

-- whether a device can be opened, and whether it is the file system
abbrev pub can_open : Option Kind → Bool
can_open None = false
can_open (Some k) = offers k op.Open

abbrev pub is_file_system : Option Kind → Bool
is_file_system (Some kind.FileSystem) = true
is_file_system _ = false

-- The texts of a call by process u at a place: the name of a process that begins, of which 15 bytes count; the texts of `open` and `mount`; and
-- of `control` the name of a file to delete.
abbrev pub name_length : ℕ → List ℕ → ℕ
name_length a memory = min 15 (suc (length (before_zero (take 15 (drop a memory)))))

abbrev pub text_deeds : ℕ → ℕ → Call → Xinu → Xinu → List Deed
text_deeds u place call old new =
    let x = slice_index call.args in
    if call.number == 2 then flat_map (λ p. loads u place (x 3) (name_length (x 3) old.memory)) (born old new)
    else (if call.number == 36 then (if can_open (kind_of (x 0)) then texts_loaded u place (x 1) (x 2) old.memory else [])
    else (if call.number == 43 then (if is_file_system (kind_of (x 0)) && (x 1 == LF_CTL_DEL) then text_loaded u place (x 2) old.memory else [])
    else (if call.number == 44 then (if is_some (kind_of (x 2)) then texts_loaded u place (x 0) (x 1) old.memory else [])
    else [])))
