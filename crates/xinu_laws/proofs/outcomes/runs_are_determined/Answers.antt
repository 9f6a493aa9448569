use Rattle.xinu_laws.proofs.RunOutcomes.{runs_are_forced, texts_have_one_run, transcripts_have_one_run}
use Rattle.xinu_laws.proofs.outcomes.runs_are_determined.Goals as goal

pub returns-clause-forced : goal.returns-clause-forced
returns-clause-forced c = runs_are_forced

pub returns-clause-told : goal.returns-clause-told
returns-clause-told c = texts_have_one_run

pub returns-clause-transcripts : goal.returns-clause-transcripts
returns-clause-transcripts c = transcripts_have_one_run
