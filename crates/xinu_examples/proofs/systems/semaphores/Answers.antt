use Rattle.xinu_examples.proofs.Computed.Calls.{prints_semaphore_with_a_kill, prints_reset_releases, prints_all_semaphores}
use Rattle.xinu_examples.proofs.Computed.Priorities.{prints_deleted_semaphore}
use Rattle.xinu_examples.proofs.systems.semaphores.Goals as goal

pub returns : goal.returns
returns c = record {
  semaphore_with_a_kill = prints_semaphore_with_a_kill;
  reset_releases = prints_reset_releases;
  all_semaphores = prints_all_semaphores;
  deleted_semaphore = prints_deleted_semaphore;
}
