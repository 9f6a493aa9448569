-- What becomes of the examples of priorities and of the deleted semaphore is computed.
use Rattle.std.proofs.Common.{◌≡◌, refl}
use Rattle.xinu_model.specs.Boot.{first_semaphores}
use Rattle.xinu_model.specs.Calls.{calls}
use Rattle.xinu_model.specs.Ports.Queues.{first_ports}
use Rattle.xinu_examples.specs.Played.{outcome_of, printed, played_transcript}
use Rattle.xinu_examples.specs.Priorities.{raised_above_caller, raised_above_caller_transcript, lowered_below_null, lowered_below_null_transcript, raised_null, raised_null_transcript, entered_again, entered_again_transcript, yields_to_equals, yields_to_equals_lines}
use Rattle.xinu_examples.specs.Semaphores.{deleted_semaphore, deleted_semaphore_transcript}

pub prints_raised_above_caller : played_transcript raised_above_caller ≡ raised_above_caller_transcript
unfolding outcome_of calls first_semaphores first_ports
prints_raised_above_caller = refl

pub prints_lowered_below_null : played_transcript lowered_below_null ≡ lowered_below_null_transcript
unfolding outcome_of calls first_semaphores first_ports
prints_lowered_below_null = refl

pub prints_raised_null : played_transcript raised_null ≡ raised_null_transcript
unfolding outcome_of calls first_semaphores first_ports
prints_raised_null = refl

pub prints_entered_again : played_transcript entered_again ≡ entered_again_transcript
unfolding outcome_of calls first_semaphores first_ports
prints_entered_again = refl

pub prints_deleted_semaphore : played_transcript deleted_semaphore ≡ deleted_semaphore_transcript
unfolding outcome_of calls first_semaphores first_ports
prints_deleted_semaphore = refl

pub prints_yields_to_equals : printed yields_to_equals ≡ yields_to_equals_lines
unfolding outcome_of calls first_semaphores first_ports
prints_yields_to_equals = refl
