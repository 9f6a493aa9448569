-- It is answered from the state, or it isn't.
use Rattle.std.proofs.Common.{ℕ, List, subst}
use Rattle.gdb_answers.specs.Answers.{answer}
use Rattle.gdb_command.proofs.Obeyed.{done-looking, done-otherwise, found-none, found-some, on-ok}
use Rattle.gdb_command.specs.Answered.{IsAnswered}
use Rattle.gdb_command.specs.Held.{held}
use Rattle.gdb_command.proofs.session.Session.carry_out.Goals as goal

pub returns-in-Some-clause-done : goal.returns-in-Some-clause-done
returns-in-Some-clause-done c =
    let old = held c.args.self.now in
    let new = held c.reply.new.self in
    let s = c.args.self.now.run.replay.state in
    let p = c.args.payload.now in
    let found = found-some c.in_ok-text.field-0 c.in-Some.text (answer s old.look c.args.command) c.in_ok-text.ensures.answered c.in-Some.is in
    on-ok c.reply.result c.reply.ensures.answered
    (λ (a : IsAnswered old new c.as_slice.result.now c.args.out.now.items c.reply.new.out.items).
    done-looking c.args.command p c.in-Some.text.items s old new c.args.out.now.items c.reply.new.out.items found
    (subst (λ (t : List ℕ). IsAnswered old new t c.args.out.now.items c.reply.new.out.items) c.as_slice.ensures.value a))

pub returns-in-None-clause-done : goal.returns-in-None-clause-done
returns-in-None-clause-done c =
    let old = held c.args.self.now in
    let s = c.args.self.now.run.replay.state in
    let none = found-none c.in_ok-text.field-0 (answer s old.look c.args.command) c.in_ok-text.ensures.answered c.in-None.is in
    on-ok c.serve.result c.serve.ensures.does
    (λ d. done-otherwise c.args.command c.args.payload.now s old (held c.serve.new.self) c.args.out.now.items c.serve.new.out.items none d)
