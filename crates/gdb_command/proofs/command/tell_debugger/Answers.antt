-- However it ended.
use Rattle.std.proofs.Common.{◌∙◌, sym}
use Rattle.gdb_command.proofs.Reading.{at}
use Rattle.gdb_command.proofs.Refused.{told-refused}
use Rattle.gdb_command.specs.Debugging.{is_refused, usage}
use Rattle.gdb_command.specs.Refusing.{error_packet}
use Rattle.refusal_words.specs.Meanings.{cause_meaning}
use Rattle.gdb_command.proofs.command.tell_debugger.Goals as goal

pub returns : goal.returns
returns g c = record {
  refuses =
      told-refused (is_refused c.args.cause) c.say_why.result (error_packet (cause_meaning usage c.args.cause))
      (at (g.R.Read.remaining c.args.input.now) (g.W.Write.contents c.args.output.now))
      (at (g.R.Read.remaining c.say_why.new.input) (g.W.Write.contents c.say_why.new.output))
      (sym c.is_refused.ensures.refused ∙ c.if-not-is_refused.false) c.say_why.ensures.refuses c.say_why.ensures.cut;
}
