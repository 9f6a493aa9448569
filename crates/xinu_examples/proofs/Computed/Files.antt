-- What becomes of calls on files under way, and of the examples of files, by computation.
use Rattle.std.proofs.Common.{◌≡◌, [], ◌∷◌, drop, take, replicate, refl, None, Some, pos}
use Rattle.xinu_base.specs.declared.lines.FileMoment.TheVariants.{Finished, Next}
use Rattle.xinu_model.specs.Files.Stored.{bytes_in, file_named}
use Rattle.xinu_model.specs.Files.Work.{calls_completed}
use Rattle.xinu_model.specs.Memory.{bytes_from}
use Rattle.xinu_model.specs.Boot.{first_semaphores}
use Rattle.xinu_model.specs.Calls.{calls}
use Rattle.xinu_model.specs.Devices.State.{empty_blocks}
use Rattle.xinu_model.specs.Ports.Queues.{first_ports}
use Rattle.xinu_model.specs.Text.{device_lines}
use Rattle.xinu_examples.specs.FileCalls.{killed_writer, read_then_write}
use Rattle.xinu_examples.specs.FileSyscalls as examples
use Rattle.xinu_examples.specs.Played.{outcome_of, printed}

pub killed : bytes_in (file_named (97 ∷ []) (calls_completed 1 killed_writer).work.system.files) ≡ take 600 (drop 100 killed_writer.memory)
unfolding bytes_from
killed = refl

pub killed_told : (calls_completed 1 killed_writer).notes ≡ (record { caller = None; moment = Finished; reply = Some (pos 600) }) ∷ []
unfolding bytes_from
killed_told = refl

pub together : bytes_in (file_named (97 ∷ []) (calls_completed 2 read_then_write).work.system.files) ≡ 65 ∷ 65 ∷ []
unfolding bytes_from
together = refl

pub together_told : (calls_completed 2 read_then_write).notes
    ≡ (record { caller = Some 1; moment = Finished; reply = Some (pos 1) }) ∷ (record { caller = Some 2; moment = Next; reply = Some (pos 1) }) ∷ []
unfolding bytes_from
together_told = refl

pub prints_full_disk : printed examples.full_disk ≡ examples.full_disk_lines
unfolding outcome_of calls first_semaphores first_ports empty_blocks bytes_from
prints_full_disk = refl

pub prints_killed_writer : printed examples.killed_writer ≡ examples.killed_writer_lines
unfolding outcome_of calls first_semaphores first_ports empty_blocks bytes_from
prints_killed_writer = refl

pub stores_killed_writer : examples.stored_bytes examples.killed_writer ≡ replicate 600 7
unfolding outcome_of calls first_semaphores first_ports empty_blocks bytes_from
stores_killed_writer = refl

pub opens_killed_writer : drop 2 (device_lines (outcome_of examples.killed_writer).state.parts.devices) ≡ examples.killed_writer_files
unfolding outcome_of calls first_semaphores first_ports empty_blocks bytes_from
opens_killed_writer = refl

pub prints_two_at_once : printed examples.two_at_once ≡ examples.two_at_once_lines
unfolding outcome_of calls first_semaphores first_ports empty_blocks bytes_from
prints_two_at_once = refl

pub stores_two_at_once : examples.stored_bytes examples.two_at_once ≡ 65 ∷ 66 ∷ []
unfolding outcome_of calls first_semaphores first_ports empty_blocks bytes_from
stores_two_at_once = refl

pub prints_deleted : printed examples.deleted ≡ examples.deleted_lines
unfolding outcome_of calls first_semaphores first_ports empty_blocks bytes_from
prints_deleted = refl
