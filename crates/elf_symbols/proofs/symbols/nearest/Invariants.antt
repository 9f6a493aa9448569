-- The symbols that are left, and the nearest so far.
use Rattle.elf_symbols.proofs.Tables.{SymbolsLeft}
use Rattle.elf_symbols.specs.Symbols.{is_sought}
use Rattle.elf_symbols.proofs.symbols.nearest.Given as goal

abbrev pub invariant-loop : goal.invariant-loop
invariant-loop l = SymbolsLeft (is_sought l.sought l.bytes l.strings l.address) l.address l.bytes l.table l.count l.at l.counter l.best
