use Rattle.std.proofs.Common.{◌≡◌, drop, length}
use Rattle.xinu_model.specs.Machine.{with_replies}
use Rattle.kernel_state.proofs.replies.write_replies.Given as goal

abbrev pub invariant-loop-reply : goal.invariant-loop-reply
invariant-loop-reply l = (with_replies (drop l.reply-index l.replies) l.harts ≡ with_replies l.replies l.initial.harts) × (length l.harts ≡ 64)
