-- The answers of a parse, as the parser's contract gives them for a simple program.
use Rattle.command_line.proofs.parser.Parser.matches_of.Goals as goal

pub returns-in-Ok : goal.returns-in-Ok
returns-in-Ok c = record {
  faultless = c.in-Ok.ensures.kinds c.requires.free;
  rows = (c.in-Ok.ensures.matches c.requires.simple).1;
  faulty = λ is. absurd (cc);
}
