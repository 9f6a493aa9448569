use Rattle.std.proofs.Common.{◌≡◌, ◌++◌, map, drop}
use Rattle.xinu_model.specs.Machine as model
use Rattle.reference_state.proofs.ending.push_replies.Given as goal

abbrev pub invariant-loop-reply : goal.invariant-loop-reply
invariant-loop-reply l =
    l.lines.items ++ map model.return_line (drop l.reply-index l.replies) ≡ l.fn.lines.items ++ map model.return_line l.replies
