-- The next section.
use Rattle.elf_symbols.proofs.Tables.{sections-next}
use Rattle.elf_symbols.proofs.sections.symbols_among.Goals as goal

pub loop-preserved : goal.loop-preserved
loop-preserved c =
    sections-next c.args.bytes.now c.args.table c.args.count c.loop.at c.loop.counter c.at-section.result c.loop.invariant c.loop-test.true
    c.at-section.ensures c.if-section-eq-SYMBOLS.false
