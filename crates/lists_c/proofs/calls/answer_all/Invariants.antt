-- The answers so far, and those that the lists will give to the calls that are left.
use Rattle.std.proofs.Common.{◌≡◌, ◌++◌, length, take, drop}
use Rattle.lists_c.specs.Answers.{answers_of}
use Rattle.lists_c.proofs.calls.answer_all.Given as goal

abbrev pub invariant-loop-k : goal.invariant-loop-k
invariant-loop-k l = record {
  made : take l.k l.answers ++ answers_of l.lists (drop l.k l.calls) ≡ answers_of l.fn.lists l.calls;
  long : length l.answers ≡ length l.calls;
}
