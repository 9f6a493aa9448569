use Rattle.std.proofs.Common.{◌∙◌, ℕ, List, [], ap, subst}
use Rattle.std.specs.Prelude.{if◌then◌else◌}
use Rattle.host_port.specs.Printing.{Prints}
use Rattle.xinu_commands.specs.DiskVerdict.{file_line}
use Rattle.xinu_commands.proofs.FileLines.{line_some, no_line}
use Rattle.xinu_commands.proofs.sending.print_file.Goals as goal

pub returns-in-Some : goal.returns-in-Some
returns-in-Some g c =
    let d = c.args.image.now in
    let size = c.in-Some.size in
    let text = c.file_line.ensures ∙ ap (λ (n : List ℕ). file_line (n, size)) c.as_slice.ensures.value ∙ line_some c.args.k d (c.in-Some.name.items, size) c.in-Some.ensures.file in
    let P : List ℕ → Type 0 = λ t. Prints c.args.out.now c.line.new.self (g.H.Host.view c.args.host.now) (g.H.Host.view c.line.new.host) (if c.args.out.now.plain then [] else t) in
    record { prints = subst P text c.line.ensures.prints }

pub returns-in-None : goal.returns-in-None
returns-in-None g c = record { prints = no_line c.args.out.now (g.H.Host.view c.args.host.now) c.args.k c.args.image.now c.in-None.ensures.file }
