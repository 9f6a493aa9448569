-- The line is the bytes before the last one, and the last one.
use Rattle.std.proofs.Common.{sym}
use Rattle.text_lines.proofs.LineLemmas.{without_return-drops, without_return-keeps}
use Rattle.text_lines.proofs.lines.without_return.Goals as goal

pub returns-then-last-eq13 : goal.returns-then-last-eq13
returns-then-last-eq13 c = record {
  line = sym (without_return-drops c.args.line.now c.in-Some.front.now c.in-Some.last.now c.in-Some.ensures.cases.0 c.if-last-eq13.true);
}

pub returns-else-last-eq13 : goal.returns-else-last-eq13
returns-else-last-eq13 c = record {
  line = sym (without_return-keeps c.args.line.now c.in-Some.front.now c.in-Some.last.now c.in-Some.ensures.cases.0 c.if-last-eq13.false);
}
