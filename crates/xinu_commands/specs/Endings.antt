-- What a command that was carried out leaves for the top call.
use Rattle.std.specs.Prelude.{◌≡◌, Option, None, IfOk, Result, Ok, Err, option_map}
use Rattle.command_line.specs.Commands.{Command}
use Rattle.host_port.specs.Outside.{Outside}
use Rattle.run_inputs.specs.Fetching.{refusal_of}
use Rattle.xinu_commands.specs.Stages.{Performs, left_by}
use Rattle.xinu_commands.specs.Work.{Left}
use Rattle.xinu_commands.specs.declared.commands.Done.{Done}
use Rattle.run_inputs.specs.declared.refusals.Refusal.{Refusal}

-- what is left of a machine, if a command left one
abbrev pub last_of : Result Done Refusal → Option Left
last_of (Ok d) = option_map left_by d.machine
last_of (Err cause) = None

-- A command was carried out; if it was done, its exit status is that of its output.
pub record CarriesOut (command : Option Command) (result : Result Done Refusal) (old new : Outside) : Type 0 where
  pub performs : Performs command (refusal_of result) (last_of result) old new
  pub status : IfOk result (λ d. d.status ≡ performs.obeys.carries.output.status)
