use Rattle.soak_laws.proofs.Happening.{happened_on, no_panic, not_over}
use Rattle.soak_laws.proofs.laws.events_keep_programs_running.Goals as goal

pub returns : goal.returns
returns c = record {
  event = λ words old e lines new k may h. happened_on old e lines new k may h;
  calm = λ words s e k may. no_panic s e k may;
  alive = λ words s k. not_over s k;
}
