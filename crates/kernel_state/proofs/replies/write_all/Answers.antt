use Rattle.std.proofs.Common.{◌∙◌, ap, rules, w32}
use Rattle.std.proofs.lemmas.Int.{to_z-of_z}
use mir.Val.{SFits}
use Rattle.xinu_model.specs.Machine.{with_replies}
use Rattle.kernel_state.specs.Results.{answer_so_far}
use Rattle.kernel_state.proofs.Answered.{answered, unanswered}
use Rattle.kernel_state.proofs.replies.write_all.Goals as goal

pub returns-in-Some : goal.returns-in-Some
returns-in-Some c =
    let f : SFits w32 c.in-Some.value = search rules in
    record { written = rw (c.write_reply.ensures.written, c.write_replies.ensures.written, to_z-of_z w32 c.in-Some.value f) (answered (answer_so_far c.args.answer) c.in-Some.value c.args.caller c.args.replies.now c.args.harts.now c.in-Some.ensures.value) }

pub returns-in_default : goal.returns-in_default
returns-in_default c = record { written = c.write_replies.ensures.written ∙ ap (λ rs. with_replies rs c.args.harts.now) (unanswered (answer_so_far c.args.answer) c.args.caller c.args.replies.now c.in_default.ensures.value) }
