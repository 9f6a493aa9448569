-- Which calls on files are refused by their arguments alone, as they are made: their texts are read and their numbers looked at.
use Rattle.std.specs.Prelude.{ℕ, ◌==◌, if◌then◌else◌, List, Option, Some, None, ℤ, pos, negsuc}
use Rattle.xinu_base.specs.declared.files.OpenMode.{OpenMode}
use Rattle.xinu_model.specs.Files.Calls.{FileCall, Open, Delete, Read, Write, Truncate, Size}
use Rattle.xinu_model.specs.Files.Constants.{LF_CTL_DEL, LF_CTL_TRUNC, LF_CTL_SIZE}
use Rattle.xinu_model.specs.Files.Modes.{mode_of}
use Rattle.xinu_model.specs.Files.Stored.{is_file_name}
use Rattle.xinu_model.specs.Memory.{in_ram}

-- an open with a mode, if the text says one
abbrev pub open_in : List ℕ → Option OpenMode → Option FileCall
open_in name None = None
open_in name (Some mode) = Some (Open name mode)

-- `open` of the file system, with the texts of a name and a mode
abbrev pub open_call : List ℕ → List ℕ → Option FileCall
open_call name mode = if is_file_name name then open_in name (mode_of mode) else None

-- `control` of the file system, by its function and the text at its argument
abbrev pub system_control_call : ℕ → List ℕ → Option FileCall
system_control_call f name = if f == LF_CTL_DEL then (if is_file_name name then Some (Delete name) else None) else None

-- `control` of a file device
abbrev pub file_control_call : ℕ → ℕ → Option FileCall
file_control_call d f = if f == LF_CTL_TRUNC then Some (Truncate d) else (if f == LF_CTL_SIZE then Some (Size d) else None)

-- `read` and `write` of a file device, with the address and the number of the bytes
abbrev pub read_call : ℕ → ℕ → ℤ → Option FileCall
read_call d at (negsuc n) = None
read_call d at (pos n) = if in_ram at n then Some (Read d n) else None

abbrev pub write_call : ℕ → ℕ → ℤ → Option FileCall
write_call d at (negsuc n) = None
write_call d at (pos n) = if in_ram at n then Some (Write d n) else None
