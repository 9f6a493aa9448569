-- The processes so far are noted.
use Rattle.process_lives.proofs.Noting.{NotedTo}
use Rattle.process_lives.specs.Lives.{first_life}
use Rattle.process_lives.proofs.lives.begun.Given as goal

abbrev pub invariant-loop-p : goal.invariant-loop-p
invariant-loop-p l = NotedTo (first_life l.tables) l.lives l.p
