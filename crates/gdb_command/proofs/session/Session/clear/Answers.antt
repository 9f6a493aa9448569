-- Nothing else happens.
use Rattle.std.specs.Prelude.{codes}
use Rattle.gdb_command.proofs.Moved.{pointed-in}
use Rattle.gdb_command.proofs.Obeyed.{on-ok}
use Rattle.gdb_command.proofs.session.Session.clear.Goals as goal
use Rattle.gdb_command.proofs.session.Session.clear.Goals.{in-Break, in-Write}

pub returns-clause-pointed : goal.returns-clause-pointed
returns-clause-pointed c =
    let old = c.args.self.now in
    on-ok c.reply.result c.reply.ensures.answered
    (λ a. elim c.match-point.branch [
      | in-Break w ↦ pointed-in old c.match-point.self c.reply.new.self w.clear.new.self (codes "OK") c.args.out.now.items c.reply.new.out.items w.self-is w.clear.ensures.stays a
      | in-Write w ↦ pointed-in old c.match-point.self c.reply.new.self w.forget.new.self (codes "OK") c.args.out.now.items c.reply.new.out.items w.self-is w.forget.ensures.stays a
    ])
