use Rattle.std.proofs.Common.{◌∷◌, [], ℤ, rules, subst, w32}
use Rattle.std.proofs.lemmas.Int.{to_z-of_z}
use mir.Val.{SFits}
use Rattle.host_port.specs.Printing.{Prints}
use Rattle.xinu_model.specs.Machine.{return_line}
use Rattle.xinu_model.specs.Text.{shown}
use Rattle.machine.proofs.Walks.{printed_more}
use Rattle.machine.proofs.printing.print_replies.Goals as goal

pub loop-reply-preserved : goal.loop-reply-preserved
loop-reply-preserved g c =
    let reply = c.reply-item.result in
    let P : ℤ → Type 0 = λ v. Prints c.loop-reply.out c.print_reply.new.out (g.H.Host.view c.loop-reply.host) (g.H.Host.view c.print_reply.new.host) (shown c.loop-reply.out.plain (return_line (reply.0, v) ∷ [])) in
    let f : SFits w32 reply.1 = search rules in
    printed_more return_line c.args.replies.now c.loop-reply.reply-index reply _ _ _ _ _ _ c.loop-reply-test.true c.reply-item.is c.loop-reply.invariant
    (subst P (to_z-of_z w32 reply.1 f) c.print_reply.ensures.prints)
