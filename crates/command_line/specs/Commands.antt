-- The commands of the program, and which command its arguments give.
use Rattle.std.specs.Prelude.{ℕ, List, [], ◌∷◌, Option, None, codes, bytes_eq, if◌then◌else◌, option_map, option_and_then}
use Rattle.command_line.specs.Reading.{CommandRow, Request, Text, request_of}
use Rattle.command_line.specs.RunArgs.{RunFiles, run_from, run_options}
use Rattle.command_line.specs.AsmArgs.{AsmFiles, asm_from, asm_options}
use Rattle.command_line.specs.DiskArgs.{DiskAction, action_of}
use Rattle.command_line.specs.SoakArgs.{soak_from, soak_options}
use Rattle.command_line.specs.CheckArgs.{CheckFiles, check_from, check_options}

pub data Command : Type 0 where
  Run : RunFiles → Command
  Asm : AsmFiles → Command
  Soak : (seed : ℕ) → Command
  Check : CheckFiles → Command
  Disk : DiskAction → Command

-- ---- the commands without actions

abbrev pub run_row : CommandRow
run_row = record { name = codes "run"; options = run_options }

abbrev pub asm_row : CommandRow
asm_row = record { name = codes "asm"; options = asm_options }

abbrev pub soak_row : CommandRow
soak_row = record { name = codes "soak"; options = soak_options }

abbrev pub check_row : CommandRow
check_row = record { name = codes "check"; options = check_options }

abbrev pub commands : List CommandRow
commands = run_row ∷ asm_row ∷ soak_row ∷ check_row ∷ []

-- the command of this name, by what was taken for each
abbrev pub command_named : Text → Option RunFiles → Option AsmFiles → Option ℕ → Option CheckFiles → Option Command
command_named name run asm soak check =
    if bytes_eq (codes "run") name then option_map Run run
    else (if bytes_eq (codes "asm") name then option_map Asm asm
    else (if bytes_eq (codes "soak") name then option_map Soak soak
    else (if bytes_eq (codes "check") name then option_map Check check else None)))

abbrev pub command_from : Request → Option Command
command_from r = command_named r.command (run_from r.taken) (asm_from r.taken) (soak_from r.taken) (check_from r.taken)

-- The command without actions that the arguments give.
abbrev pub simple_command_of : List Text → Option Command
simple_command_of args = option_and_then command_from (request_of commands args)

-- The command that the arguments give, or `None` if they give none. After `disk` the next argument names an action.
abbrev pub command_of : List Text → Option Command
command_of [] = None
command_of (first ∷ args) =
    if bytes_eq (codes "disk") first then option_map Disk (action_of args) else simple_command_of (first ∷ args)
