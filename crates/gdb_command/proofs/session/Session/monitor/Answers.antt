-- It was shown, and then it is answered.
use Rattle.gdb_command.proofs.Obeyed.{monitored, on-ok}
use Rattle.gdb_command.specs.Held.{held}
use Rattle.gdb_command.specs.Monitor.{asked_by}
use Rattle.gdb_packets.specs.Commands.{monitor_words}
use Rattle.gdb_command.proofs.session.Session.monitor.Goals as goal

pub returns-clause-monitored : goal.returns-clause-monitored
returns-clause-monitored c =
    on-ok c.reply.result c.reply.ensures.answered
    (λ a. monitored c.in_ok-asked.asked (asked_by (monitor_words c.args.payload.now)) (held c.args.self.now) (held c.say.new.self) (held c.reply.new.self)
    c.args.out.now.items c.say.new.out.items c.reply.new.out.items c.in_ok-asked.ensures.asked c.in_ok-say.ensures.shown a)
