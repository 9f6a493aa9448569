-- The first line feed ends the first line.
use Rattle.std.proofs.Common.{◌+◌, ◌-◌, length, drop, sym, arith, length-drop}
use Rattle.std.proofs.lemmas.List.{take_all}
use Rattle.text_lines.proofs.LineLemmas.{lines_of-feed, lines_of-last}
use Rattle.text_lines.proofs.lines.first_line.Goals as goal

pub returns-in-Some-clause-lines : goal.returns-in-Some-clause-lines
returns-in-Some-clause-lines c =
    rw (
      take_all (length c.args.text.now - (c.in-Some.i + 1)) (drop (c.in-Some.i + 1) c.args.text.now)
          (omega (arith, length-drop (c.in-Some.i + 1) c.args.text.now)),
      c.without_return.ensures.line,
    )
    (lines_of-feed c.args.text.now c.in-Some.i (sym c.in-Some.ensures.feed))

pub returns-in-None-clause-lines : goal.returns-in-None-clause-lines
returns-in-None-clause-lines c = lines_of-last c.args.text.now c.requires.something (sym c.in-None.ensures.feed)
