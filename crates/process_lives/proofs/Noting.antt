-- The lives are noted one process after another.
use Rattle.std.proofs.Common.{◌≡◌, ◌<◌, ℕ, List, length}
use Rattle.process_lives.specs.Lives.{life_in}
use Rattle.process_lives.specs.declared.lives.Life.{Life}

-- the lives of those below n are these
pub record NotedTo (new : ℕ → Life) (lives : List Life) (n : ℕ) : Type 0 where
  pub size : length lives ≡ 64
  pub done : (p : ℕ) → p < n → life_in lives p ≡ new p
