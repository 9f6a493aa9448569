use Rattle.std.proofs.Common.{◌≡◌, drop}
use Rattle.xinu_model.specs.Machine as model
use Rattle.reference_state.proofs.machine.Machine.write_replies.Given as goal

abbrev pub invariant-loop-reply : goal.invariant-loop-reply
invariant-loop-reply l =
    record l.self { state = record l.self.state { harts = model.with_replies (drop l.reply-index l.replies) l.self.state.harts } } ≡
    record l.fn.self { state = record l.fn.self.state { harts = model.with_replies l.replies l.fn.self.state.harts } }
