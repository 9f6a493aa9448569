-- What becomes of the two schedules, by computation.
use Rattle.std.proofs.Common.{◌≡◌, refl}
use Rattle.xinu_model.specs.Boot.{first_semaphores}
use Rattle.xinu_model.specs.Events.{next_file_call}
use Rattle.xinu_model.specs.Isa.Exec.{exec}
use Rattle.xinu_model.specs.Memory.{number_at}
use Rattle.proved_programs.specs.Unguarded.{after_events, keeping, losing, two_unguarded}

-- both processes added 1, and the word is 1
pub lost : number_at (after_events losing two_unguarded).memory 64 4 ≡ 1
unfolding two_unguarded exec next_file_call first_semaphores
lost = refl

-- it is 2 on the other schedule
pub kept : number_at (after_events keeping two_unguarded).memory 64 4 ≡ 2
unfolding two_unguarded exec next_file_call first_semaphores
kept = refl
