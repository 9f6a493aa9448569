use Rattle.std.proofs.Common.{◌∷◌, ◌++◌, [], ℕ, Bool, length, subst}
use Rattle.host_port.specs.Printing.{Prints}
use Rattle.xinu_base.specs.declared.lines.TranscriptLine.TheVariants.{Disk0, Disk1}
use Rattle.xinu_model.specs.Files.Constants.{LFILE0}
use Rattle.xinu_model.specs.Text.{console_line, open_file_lines, shown}
use Rattle.machine.proofs.ShownLines.{shown_both}
use Rattle.machine.proofs.tables.print_devices.Goals as goal

pub returns : goal.returns
returns g c =
    let first = console_line c.args.tty.now in
    let w = c.args.server.now.work in
    let files = open_file_lines LFILE0 w.system.devices w.system in
    let n = length c.args.disk.now.requests in
    let two = shown_both _ _ _ _ _ _ (first ∷ []) (Disk0 c.pending.result ∷ []) c.print_console.ensures.prints c.print_line.ensures.prints in
    let three = shown_both _ _ _ _ _ _ (first ∷ Disk0 c.pending.result ∷ []) files two c.print_open_files.ensures.prints in
    let four = shown_both _ _ _ _ _ _ (first ∷ Disk0 c.pending.result ∷ files) (Disk1 c.is_busy.result ∷ []) three c.print_line-2.ensures.prints in
    let P : ℕ → Bool → Type 0 = λ m b. Prints c.args.out.now c.print_line-2.new.out (g.H.Host.view c.args.host.now) (g.H.Host.view c.print_line-2.new.host) (shown c.args.out.now.plain (first ∷ Disk0 m ∷ files ++ Disk1 b ∷ [])) in
    record { prints = subst (P n) c.is_busy.ensures.busy (subst (λ m. P m c.is_busy.result) c.pending.ensures.pending four) }
