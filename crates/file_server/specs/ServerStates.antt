-- The calls on files under way and the disk, as they are seen, and what a completion of the disk does to them.
use Rattle.std.specs.Prelude.{ℕ, ◌≡◌, ◌≤◌, List, []}
use Rattle.xinu_model.specs.Files.Work.{FileRequest, FileWork, FileStep, calls_completed, issued, least_effects, most_at_issue, most_effects}

-- The files of the abstract machine with the calls under way, and the bytes of the disk.
pub record ServerState : Type 0 where
  pub work : FileWork
  pub image : List ℕ

-- A call is made: it waits, or takes effect at once, which the abstract machine allows, and these are the files, RAM and the notes after it.
pub record IsIssued (choice : ℕ) (a : FileRequest) (ram : List ℕ) (old : FileWork) (after : FileStep) : Type 0 where
  pub may : choice ≤ most_at_issue old.calls
  pub happens : issued choice a ram old ≡ after

-- A good completion of the disk: so many calls take effect, as many as the abstract machine allows, and these are the files, RAM and the
-- notes after it.
pub record IsCompleted (old : FileWork) (ram : List ℕ) (after : FileStep) : Type 0 where
  pub effects : ℕ
  pub least : least_effects old.calls old ≤ effects
  pub most : effects ≤ most_effects old
  pub happens : calls_completed effects (record { work = old; memory = ram; notes = [] }) ≡ after
