-- Calls on files under way.
use Rattle.std.specs.Prelude.{ℕ, List, [], ◌∷◌, replicate, Some, pos}
use Rattle.xinu_examples.specs.FileSystems.{mode_rw, blank_files}
use Rattle.xinu_model.specs.Files.Calls.{FileCall, Open, Read, Write, Putc, Seek}
use Rattle.xinu_model.specs.Files.Systems.{FileSystem}
use Rattle.xinu_model.specs.Files.Work.{FileRequest, FileWork, FileStep, issued, calls_given_up}

-- no call is under way
abbrev pub idle_work : FileSystem → FileWork
idle_work s = record { system = s; calls = []; turns = 0; bytes = [] }

-- process p makes a call, with the address of its bytes
abbrev pub made_by : ℕ → FileCall → ℕ → FileRequest
made_by p call at = record { caller = Some p; call = call; at = at }

-- RAM of 800 bytes is enough here
abbrev pub small_ram : List ℕ
small_ram = replicate 800 7

-- process 1 opens a file, which takes effect at once, and writes 600 bytes; it is killed while it waits
abbrev pub opened_by_one : FileStep
opened_by_one = issued 1 (made_by 1 (Open (97 ∷ []) mode_rw) 0) small_ram (idle_work (blank_files 256))

abbrev pub writing_by_one : FileStep
writing_by_one = issued 0 (made_by 1 (Write 0 600) 100) opened_by_one.memory opened_by_one.work

abbrev pub killed_writer : FileStep
killed_writer = record writing_by_one { work = calls_given_up 1 writing_by_one.work }

-- a file with one byte, 65, at whose start process 1 reads a byte to address 100, while process 2 waits to write the byte at address 100
abbrev pub one_byte_stored : FileStep
one_byte_stored = issued 1 (made_by 1 (Putc 0 65) 0) opened_by_one.memory opened_by_one.work

abbrev pub at_its_start : FileStep
at_its_start = issued 1 (made_by 1 (Seek 0 (pos 0)) 0) one_byte_stored.memory one_byte_stored.work

abbrev pub reading_by_one : FileStep
reading_by_one = issued 0 (made_by 1 (Read 0 1) 100) at_its_start.memory at_its_start.work

abbrev pub read_then_write : FileStep
read_then_write =
    let w = issued 0 (made_by 2 (Write 0 1) 100) reading_by_one.memory reading_by_one.work in record w { notes = [] }
