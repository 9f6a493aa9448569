-- One symbol more.
use Rattle.elf_symbols.specs.Symbols.{is_sought, symbols_from}
use Rattle.elf_symbols.proofs.Tables.{symbols-next, symbols-end, found-bound}
use Rattle.elf_symbols.proofs.symbols.nearest.Goals as goal

pub loop-preserved : goal.loop-preserved
loop-preserved c =
    symbols-next (is_sought c.args.sought c.args.bytes.now c.args.strings.now c.args.address) c.args.address c.args.bytes.now c.args.table c.args.count c.loop.at
    c.loop.counter c.loop.best c.next_best-best.result c.at.result c.loop.invariant c.loop-test.true c.at.ensures c.next_best-best.ensures

pub returns : goal.returns
returns c =
    let test = is_sought c.args.sought c.args.bytes.now c.args.strings.now c.args.address in
    let is = symbols-end test c.args.address c.args.bytes.now c.args.table c.args.count c.loop.at c.loop.counter c.loop.best c.loop.invariant c.loop-test.false in
    record {
      nearest = is;
      bound = found-bound c.loop.best test c.args.address (symbols_from c.args.bytes.now c.args.table c.args.count) is;
    }
