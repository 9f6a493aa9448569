-- How semaphores were used, after a reply, by what the process had asked for.
use Rattle.printed_runs.proofs.Known.{took_said, made_said, process_said, rest_said}
use Rattle.printed_runs.proofs.usages.Usages.reply.Goals as goal

pub returns-in-Wait : goal.returns-in-Wait
returns-in-Wait c = record {
  knows = λ said k. took_said said _ _ _ _ _ _ _ k c.took.ensures.took c.index.ensures.index c.index.ensures.bound c.in-Wait.is;
}

pub returns-in-Semaphore : goal.returns-in-Semaphore
returns-in-Semaphore c = record {
  knows = λ said k. made_said said _ _ _ _ _ _ _ k c.made.ensures.made c.index.ensures.index c.index.ensures.bound c.in-Semaphore.is;
}

pub returns-in-Process : goal.returns-in-Process
returns-in-Process c = record {
  knows = λ said k. process_said said _ _ _ _ _ _ k c.pass.ensures c.index.ensures.index c.index.ensures.bound c.in-Process.is;
}

pub returns-in_default : goal.returns-in_default
returns-in_default c = record {
  knows = λ said k. rest_said said _ _ _ _ _ k c.index.ensures.index c.index.ensures.bound c.in_default.not-Wait c.in_default.not-Semaphore
      c.in_default.not-Process;
}
