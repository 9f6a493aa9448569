use Rattle.std.proofs.Common.{subst}
use Rattle.program_logic.specs.Running.{Runs}
use Rattle.program_logic.proofs.Stepping.{event_runs}
use Rattle.program_logic.proofs.Stretches.{lives, run_ends, stretch_runs}
use Rattle.program_logic.proofs.laws.outlines_hold.Goals as goal

pub returns : goal.returns
returns c = record {
  event = λ y holder n old e lines new ok k h. (let x = event_runs y holder n old e lines new ok k h in (x.holder, (x.count, x.runs)));
  stretch = λ y holder n ms old now ok k lead. (let x = stretch_runs y holder n ms old now ok k lead in
      (x.holder, subst (λ i. Runs y x.holder i now) x.is x.runs));
  alive = lives;
  end = run_ends;
}
