use Rattle.reference_check.proofs.Fewness.{few_within}
use Rattle.reference_check.proofs.events.lines_of.Goals as goal

pub tables_of-requires : goal.tables_of-requires
tables_of-requires c = record { few = few_within 1000000001 c.args.m.now.state c.requires.within }
