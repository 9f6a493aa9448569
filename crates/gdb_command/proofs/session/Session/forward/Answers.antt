-- It went on, and stands.
use Rattle.gdb_command.proofs.Moved.{moved-on}
use Rattle.gdb_command.proofs.Obeyed.{on-ok}
use Rattle.gdb_command.specs.Held.{held}
use Rattle.gdb_command.proofs.session.Session.forward.Goals as goal

pub returns-clause-moved : goal.returns-clause-moved
returns-clause-moved c =
    on-ok c.stand.result c.stand.ensures.stands
    (λ a. moved-on c.args.goal.now (held c.args.self.now) (held c.stand.new.self) c.go_on.new.run c.in_ok-stopped.stopped c.as_slice.result.now
    c.args.out.now.items c.push_console_digits.new.out.items c.stand.new.out.items c.in_ok-stopped.ensures.stops c.in_ok-stopped.ensures.told
    c.in_ok-push_console_digits.ensures.shows a)
