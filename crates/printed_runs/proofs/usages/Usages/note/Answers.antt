use Rattle.printed_runs.proofs.usages.Usages.note.Goals as goal
use Rattle.std.proofs.Common.{subst, sym, ◌∷◌}
use Rattle.printed_runs.specs.Semaphores.{Knows}

pub returns-in-Answered : goal.returns-in-Answered
returns-in-Answered c = record {
  knows = λ said k. subst (λ n. Knows (n ∷ said) c.reply.new.self) (sym c.in-Answered.is) (c.reply.ensures.knows said k);
}

pub returns-in-Called : goal.returns-in-Called
returns-in-Called c = record {
  knows = λ said k. subst (λ n. Knows (n ∷ said) c.call.new.self) (sym c.in-Called.is) (c.call.ensures.knows said k);
}
