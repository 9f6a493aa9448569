-- When a call on files can be made.
use Rattle.std.specs.Prelude.{◌≤◌}
use Rattle.xinu_model.specs.Files.Sound.{IsFileRequest, IsSoundWork}
use Rattle.xinu_model.specs.Files.Work.{FileRequest, FileWork}

-- The calls under way are sound, their disk has at most 65542 blocks, and this call's arguments are those that the system lets through.
pub record MayMake (a : FileRequest) (w : FileWork) : Type 0 where
  pub sound : IsSoundWork w
  pub disk : w.system.blocks ≤ 65542
  pub right : IsFileRequest a
