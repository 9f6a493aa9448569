-- The name goes to the first zero, or to the end.
use Rattle.std.proofs.Common.{sym}
use Rattle.elf_symbols.proofs.Names.{up_to-found, up_to-none}
use Rattle.elf_symbols.proofs.symbols.up_to_zero.Goals as goal

pub returns-in-Some : goal.returns-in-Some
returns-in-Some c = up_to-found c.args.bytes.now c.in-Some.end (sym c.in-Some.ensures.zero)

pub returns-in-None : goal.returns-in-None
returns-in-None c = up_to-none c.args.bytes.now (sym c.in-None.ensures.zero)
