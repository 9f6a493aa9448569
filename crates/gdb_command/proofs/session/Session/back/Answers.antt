-- It went back, and stands.
use Rattle.gdb_command.proofs.Moved.{moved-back}
use Rattle.gdb_command.proofs.Obeyed.{on-ok}
use Rattle.gdb_command.specs.Held.{held}
use Rattle.gdb_command.proofs.session.Session.back.Goals as goal

pub returns-clause-moved : goal.returns-clause-moved
returns-clause-moved c =
    on-ok c.stand.result c.stand.ensures.stands
    (λ a. moved-back c.args.goal.now (held c.args.self.now) (held c.stand.new.self) c.go_back.new.run c.in_ok-stopped.stopped c.args.out.now.items
    c.stand.new.out.items c.in_ok-stopped.ensures.stops c.in_ok-stopped.ensures.told a)
