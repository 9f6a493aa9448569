-- What the parser knows of the program's commands, and what is taken from its matches.
use Rattle.std.specs.Prelude.{ℕ, Bool, true, false, List, [], ◌∷◌, Option, Some, codes}
use Rattle.std.specs.Prelude.{if◌then◌else◌, bytes_eq, option_and_then}
use Rattle.std.specs.Option.{option_map_or, unwrap_or}
use Rattle.clap.specs.Walk.{Row, Rule, all_of, first_of}
use Rattle.clap.specs.Simple.{App, new_rule, new_shape, with_subcommand}
use Rattle.clap.specs.declared.builder.action.ArgAction.TheVariants.{Set, Append, SetTrue}
use Rattle.command_line.specs.Reading.{CommandRow, OptionRow, Text}
use Rattle.command_line.specs.RunArgs.{RunFiles, disk_files, run_of}
use Rattle.command_line.specs.AsmArgs.{AsmFiles, asm_of}
use Rattle.command_line.specs.DiskArgs.{DiskAction, action_named, actions}
use Rattle.command_line.specs.SoakArgs.{soak_of}
use Rattle.command_line.specs.CheckArgs.{CheckFiles, check_of, start_files}
use Rattle.command_line.specs.Commands.{Command, command_named, commands}

-- an option: it is used once
abbrev pub option_rule : OptionRow → Rule
option_rule o = record (new_rule o.name) {
  long = Some o.name;
  action = Some (if o.takes_value then Set else SetTrue);
}

-- the positional arguments, one by one
abbrev pub arg_rule : Rule
arg_rule = record (new_rule (codes "arg")) { action = Some Append }

abbrev pub told_rules : List OptionRow → List Rule
told_rules [] = arg_rule ∷ []
told_rules (o ∷ os) = option_rule o ∷ told_rules os

-- a command by itself, before it is built
abbrev pub command_app : CommandRow → App
command_app c = record {
  top = record (new_shape c.name) { rules = told_rules c.options };
  subs = [];
}

-- a program with no command yet: nothing but a command's name may come first
abbrev pub program_app : Text → App
program_app name = record {
  top = record (new_shape name) {
    no_binary_name = true;
    disable_help_flag = true;
    disable_help_subcommand = true;
    disable_version_flag = true;
    subcommand_required = true;
  };
  subs = [];
}

abbrev pub with_commands : App → List CommandRow → App
with_commands app [] = app
with_commands app (c ∷ cs) = with_commands (with_subcommand app (command_app c).top) cs

-- the program, and `disk` with its actions
abbrev pub simple_app : App
simple_app = with_commands (program_app (codes "xinu_run")) commands

abbrev pub disk_app : App
disk_app = with_commands (program_app (codes "disk")) actions

-- ---- what is taken from the matches of a command

abbrev pub args_in : List Row → List Text
args_in rows = unwrap_or (all_of (codes "arg") rows) []

-- whether a flag was given: its value is `true` then
abbrev pub flag_in : Text → List Row → Bool
flag_in name rows = option_map_or (bytes_eq (codes "true")) (first_of name rows) false

abbrev pub run_in : List Row → Option RunFiles
run_in rows = run_of (first_of (codes "schedule") rows) (disk_files (λ name. first_of name rows)) (flag_in (codes "plain") rows) (args_in rows)

abbrev pub asm_in : List Row → Option AsmFiles
asm_in rows = asm_of (first_of (codes "out") rows) (flag_in (codes "elf") rows) (args_in rows)

abbrev pub soak_in : List Row → Option ℕ
soak_in rows = soak_of (args_in rows)

abbrev pub check_in : List Row → Option CheckFiles
check_in rows =
    check_of (first_of (codes "schedule") rows) (first_of (codes "trace") rows) (start_files (λ name. first_of name rows)) (args_in rows)

abbrev pub command_in : Text → List Row → Option Command
command_in name rows = command_named name (run_in rows) (asm_in rows) (soak_in rows) (check_in rows)

-- the command without actions that the matches give
abbrev pub simple_command_in : Option (Text × List Row) → Option Command
simple_command_in found = option_and_then (λ p. command_in p.0 p.1) found

abbrev pub action_in : Text → List Row → Option DiskAction
action_in name rows = action_named name (first_of (codes "out") rows) (args_in rows)

-- the action that the matches give
abbrev pub action_command_in : Option (Text × List Row) → Option DiskAction
action_command_in found = option_and_then (λ p. action_in p.0 p.1) found
