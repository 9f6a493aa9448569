-- The command `asm`, and which files its arguments name.
use Rattle.std.specs.Prelude.{◌&&◌, Bool, List, [], ◌∷◌, Option, Some, None, codes, if◌then◌else◌}
use Rattle.command_line.specs.Reading.{OptionRow, Taken, Text, flag_option, is_given, option_value, value_option}
use Rattle.command_line.specs.RunArgs.{is_file_name}

-- what to assemble: the names of the source's file and of the file that is written, and whether that is an ELF file
pub record AsmFiles : Type 0 where
  pub source : Text
  pub out : Text
  pub elf : Bool

abbrev pub asm_options : List OptionRow
asm_options = value_option (codes "out") ∷ flag_option (codes "elf") ∷ []

-- `asm SOURCE --out FILE [--elf]`: one source and one file, and each has a name
abbrev pub asm_of : Option Text → Bool → List Text → Option AsmFiles
asm_of (Some out) elf (source ∷ []) =
    if is_file_name source && is_file_name out then Some (record { source = source; out = out; elf = elf }) else None
asm_of out elf sources = None

abbrev pub asm_from : Taken → Option AsmFiles
asm_from t = asm_of (option_value (codes "out") t) (is_given (codes "elf") t) t.positional
