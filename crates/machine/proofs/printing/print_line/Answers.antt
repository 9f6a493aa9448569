use Rattle.std.proofs.Common.{◌∙◌, [], ◌∷◌, ap, subst, sym, if◌then◌else◌}
use Rattle.host_port.specs.Printing.{Prints}
use Rattle.xinu_base.specs.declared.lines.TranscriptLine.{TranscriptLine}
use Rattle.xinu_model.specs.Text.{shown}
use Rattle.machine.proofs.Printings.{shown_byte, shown_line}
use Rattle.machine.proofs.printing.print_line.Goals as goal

pub returns-in-Con : goal.returns-in-Con
returns-in-Con g c =
    let plain = c.args.out.now.plain in
    record {
      prints = subst (Prints _ _ _ _) (shown_byte plain c.in-Con.b ∙ ap (λ (l : TranscriptLine). shown plain (l ∷ [])) (sym c.in-Con.is)) c.con.ensures.prints;
    }

pub returns-in_default : goal.returns-in_default
returns-in_default g c =
    let plain = c.args.out.now.plain in
    record {
      prints = subst (Prints _ _ _ _) (ap (λ t. if plain then [] else t) c.render.ensures ∙ shown_line plain c.args.line.now c.in_default.not-Con) c.line.ensures.prints;
    }
