-- It is set, or the bytes are too many.
use Rattle.std.specs.Prelude.{codes}
use Rattle.gdb_command.proofs.Moved.{not-set, pointed, set-break, set-write}
use Rattle.gdb_command.proofs.Obeyed.{on-ok}
use Rattle.gdb_command.specs.Held.{held}
use Rattle.gdb_command.proofs.session.Session.set.Goals as goal

pub returns-in_ok-set-in-Break-clause-set : goal.returns-in_ok-set-in-Break-clause-set
returns-in_ok-set-in-Break-clause-set c =
    let old = held c.args.self.now in
    let new = held c.reply.new.self in
    on-ok c.reply.result c.reply.ensures.answered
    (λ a. set-break c.args.point.kind old new c.args.out.now.items c.reply.new.out.items c.in-Break.is
    (pointed old new c.set.new.self (codes "OK") c.args.out.now.items c.reply.new.out.items c.set.ensures.stays a))

pub returns-then-branch-clause-set : goal.returns-then-branch-clause-set
returns-then-branch-clause-set c =
    let old = held c.args.self.now in
    let new = held c.reply-then-branch.new.self in
    on-ok c.reply-then-branch.result c.reply-then-branch.ensures.answered
    (λ a. set-write c.args.point.kind old new c.args.out.now.items c.reply-then-branch.new.out.items c.in-Write.is
    (pointed old new c.watch.new.self (codes "OK") c.args.out.now.items c.reply-then-branch.new.out.items c.watch.ensures.stays a))

pub returns-else-branch-clause-set : goal.returns-else-branch-clause-set
returns-else-branch-clause-set c =
    let old = held c.args.self.now in
    let new = held c.reply-else-branch.new.self in
    on-ok c.reply-else-branch.result c.reply-else-branch.ensures.answered
    (λ a. not-set c.args.point.kind old new c.args.out.now.items c.reply-else-branch.new.out.items c.in-Write.is
    (pointed old new c.watch.new.self (codes "E01") c.args.out.now.items c.reply-else-branch.new.out.items c.watch.ensures.stays a))
