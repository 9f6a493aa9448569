-- The processes so far are noted.
use Rattle.process_lives.proofs.Noting.{NotedTo}
use Rattle.process_lives.specs.Lives.{life_in, next_life}
use Rattle.process_lives.proofs.lives.noted.Given as goal

abbrev pub invariant-loop-p : goal.invariant-loop-p
invariant-loop-p l = NotedTo (λ p. next_life l.number l.tables p (life_in l.before p)) l.lives l.p
