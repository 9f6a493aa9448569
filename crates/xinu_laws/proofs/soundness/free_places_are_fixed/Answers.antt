use Rattle.std.proofs.Common.{ap}
use Rattle.xinu_model.specs.Tables.{is_free}
use Rattle.xinu_laws.proofs.soundness.free_places_are_fixed.Goals as goal

pub returns : goal.returns
returns c = record {
  processes = λ s p k e. k.tables.inside.free p e;
  registers = λ s p k e. k.unused p (ap is_free e);
  semaphores = λ s sem k e. k.tables.inside.unused sem e;
}
