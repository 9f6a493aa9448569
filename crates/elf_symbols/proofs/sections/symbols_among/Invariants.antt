-- The sections that are left.
use Rattle.elf_symbols.proofs.Tables.{SectionsLeft}
use Rattle.elf_symbols.proofs.sections.symbols_among.Given as goal

abbrev pub invariant-loop : goal.invariant-loop
invariant-loop l = SectionsLeft l.bytes l.table l.count l.at l.counter
