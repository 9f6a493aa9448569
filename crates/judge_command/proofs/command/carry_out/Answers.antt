-- The words were read, or they weren't.
use Rattle.std.proofs.Common.{map, string_bytes}
use Rattle.command_words.specs.ToolNames.{taken_words}
use Rattle.command_words.specs.Tools.{rows_of}
use Rattle.command_words.specs.Words.{words_of}
use Rattle.command_words.specs.declared.tools.Tool.TheVariants.{Judge}
use Rattle.judge_command.proofs.Carried.{carries_right, carries_wrong}
use Rattle.judge_command.proofs.command.carry_out.Goals as goal

pub returns-in-Ok : goal.returns-in-Ok
returns-in-Ok g c = record {
  carries = carries_right (words_of (rows_of Judge) (map string_bytes c.args.args.now)) (taken_words c.in-Ok.words) c.obey.result
      (g.H.Host.view c.args.host.now) (g.H.Host.view c.obey.new.host) c.in-Ok.ensures.words c.obey.ensures.obeys;
}

pub returns-in-Err : goal.returns-in-Err
returns-in-Err g c = record {
  carries = carries_wrong (words_of (rows_of Judge) (map string_bytes c.args.args.now)) c.in-Err.cause (g.H.Host.view c.args.host.now) c.in-Err.ensures.cause;
}
