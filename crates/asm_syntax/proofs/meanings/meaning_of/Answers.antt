-- The table comes first.
use Rattle.rv_isa.specs.Table.{seen}
use Rattle.asm_syntax.proofs.MeaningLemmas.{meaning_of-row, meaning_of-own}
use Rattle.asm_syntax.proofs.meanings.meaning_of.Goals as goal

pub returns-in-Some-clause-meaning : goal.returns-in-Some-clause-meaning
returns-in-Some-clause-meaning c = meaning_of-row c.args.word.now (seen c.in-Some.row) c.in-Some.ensures.row

pub returns-in-None-clause-meaning : goal.returns-in-None-clause-meaning
returns-in-None-clause-meaning c = rw (meaning_of-own c.args.word.now c.in-None.ensures.row) c.own_word.ensures.meaning
