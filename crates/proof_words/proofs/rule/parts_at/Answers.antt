use Rattle.proof_words.proofs.Marks.{parts_are}
use Rattle.proof_words.proofs.rule.parts_at.Goals as goal

pub returns : goal.returns
returns c = record { parts = parts_are c.args.mark c.args.text.now c.split_once.result c.requires.low c.split_once.ensures.cases }
