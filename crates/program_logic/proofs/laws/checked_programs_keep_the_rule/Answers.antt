use Rattle.std.proofs.Common.{None}
use Rattle.program_logic.specs.Claims.{outlines_of}
use Rattle.program_logic.proofs.Alone.{alone}
use Rattle.program_logic.proofs.CheckedPrograms.{system_obeys}
use Rattle.program_logic.proofs.Kept.{always_keeps, starts_running, transcripts_keep}
use Rattle.program_logic.proofs.Stretches.{run_ends}
use Rattle.program_logic.proofs.laws.checked_programs_keep_the_rule.Goals as goal

pub returns-clause-obey : goal.returns-clause-obey
returns-clause-obey c = system_obeys

pub returns-clause-kept : goal.returns-clause-kept
returns-clause-kept c = always_keeps

pub returns-clause-transcripts : goal.returns-clause-transcripts
returns-clause-transcripts c = transcripts_keep

pub returns-clause-alone : goal.returns-clause-alone
returns-clause-alone c = alone

pub returns-clause-end : goal.returns-clause-end
returns-clause-end c = λ l programs disks images start last events lines end is has_started some run.
    run_ends (outlines_of l programs) None 0 events start lines last end (system_obeys l programs is) some
    (starts_running l programs disks images start is has_started) run
