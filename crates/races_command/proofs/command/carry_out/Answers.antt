use Rattle.std.proofs.Common.{map, string_bytes}
use Rattle.command_words.specs.ToolNames.{taken_words}
use Rattle.races_command.proofs.Carried.{carries_right, carries_wrong}
use Rattle.races_command.specs.Searching.{ended_by}
use Rattle.races_command.specs.Words.{read}
use Rattle.races_command.proofs.command.carry_out.Goals as goal

pub returns-in-Ok : goal.returns-in-Ok
returns-in-Ok g c = record {
  carries = carries_right (read (map string_bytes c.args.args.now)) (taken_words c.in-Ok.words) (ended_by c.obey.result) (g.H.Host.view c.args.host.now) (g.H.Host.view c.obey.new.host)
      c.in-Ok.ensures.words c.obey.ensures.obeys;
}

pub returns-in-Err : goal.returns-in-Err
returns-in-Err g c = record {
  carries = carries_wrong (read (map string_bytes c.args.args.now)) c.in-Err.cause (g.H.Host.view c.args.host.now) c.in-Err.ensures.cause;
}
