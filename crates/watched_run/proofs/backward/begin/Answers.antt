-- No event was taken, so the run stands where it stood then.
use Rattle.std.proofs.Common.{refl}
use Rattle.watched_run.proofs.LookedBack.{begins}
use Rattle.watched_run.proofs.backward.begin.Goals as goal

pub returns-clause-begins : goal.returns-clause-begins
returns-clause-begins c = λ o place stood.
    begins o place c.args.run.now.replay c.seek.new.self.replay _ c.shown.result stood c.in_ok-seek.ensures.same c.runs.ensures.runs
    c.in_ok-seek.ensures.within c.in_ok-seek.ensures.reached c.shown.ensures.shown refl
