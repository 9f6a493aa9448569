-- Examples: files as processes call them.
use Rattle.std.specs.Prelude.{ℕ, List, [], ◌∷◌, pos, negsuc, replicate, true}
use Rattle.xinu_base.specs.declared.lines.FileMoment.TheVariants.{Turn, Finished, Next}
use Rattle.xinu_base.specs.declared.lines.TranscriptLine.{TranscriptLine}
use Rattle.xinu_base.specs.declared.lines.TranscriptLine.TheVariants.{Call, File, Return, Switch, OpenFile, Disk1}
use Rattle.xinu_examples.specs.FileCalls.{idle_work}
use Rattle.xinu_examples.specs.FileSystems.{blank_files}
use Rattle.xinu_examples.specs.NamedCalls.{sys_open, sys_close, sys_write, sys_putc, sys_control, sys_exit, sys_kill}
use Rattle.xinu_examples.specs.Played.{Example, Steps, StepsAtOnce, Finishes, system, outcome_of}
use Rattle.xinu_model.specs.Files.Stored.{bytes_in, file_named}
use Rattle.xinu_model.specs.Files.Syscalls.{files_of, with_files}
use Rattle.xinu_model.specs.Machine.{Xinu}

-- A system with a disk of this many blocks without files. The texts `a`, `b`, `rw` and `o` are at 0, 2, 4 and 7, and 600 bytes of 7 from 9 on.
abbrev pub file_system : List ℕ → ℕ → Xinu
file_system priorities blocks =
    with_files (idle_work (blank_files blocks))
    (record (system priorities 4096 8) { memory = 97 ∷ 0 ∷ 98 ∷ 0 ∷ 114 ∷ 119 ∷ 0 ∷ 111 ∷ 0 ∷ replicate 600 7 })

-- the bytes of the file `a` at the end
abbrev pub stored_bytes : Example → List ℕ
stored_bytes example = bytes_in (file_named (97 ∷ []) (files_of (outcome_of example).state).system.files)

-- A disk with three data blocks: the second file's write is cut short, and the next one is refused as it takes effect.
abbrev pub full_disk : Example
full_disk = record {
  start = file_system (20 ∷ []) 10;
  programs = (sys_open 3 0 4 ∷ sys_write 4 9 600 ∷ sys_open 3 2 4 ∷ sys_write 5 9 600 ∷ sys_write 5 9 1 ∷ []) ∷ [];
  turns = StepsAtOnce 5 ∷ [];
}

abbrev pub full_disk_lines : List TranscriptLine
full_disk_lines =
    Switch 1 ∷ Call 1 (sys_open 3 0 4) ∷ File 1 Finished ∷ Return 1 (pos 4) ∷
    Call 1 (sys_write 4 9 600) ∷ File 1 Finished ∷ Return 1 (pos 600) ∷
    Call 1 (sys_open 3 2 4) ∷ File 1 Finished ∷ Return 1 (pos 5) ∷
    Call 1 (sys_write 5 9 600) ∷ File 1 Finished ∷ Return 1 (pos 512) ∷
    Call 1 (sys_write 5 9 1) ∷ File 1 Finished ∷ Return 1 (negsuc 0) ∷
    []

-- A process is killed while its write waits: the bytes are written, and nobody is told. The size that another one asks for is that after the
-- write, at whose completion it is told.
abbrev pub killed_writer : Example
killed_writer = record {
  start = file_system (30 ∷ 20 ∷ []) 256;
  programs = (sys_open 3 0 4 ∷ sys_write 4 9 600 ∷ []) ∷ (sys_kill 1 ∷ sys_control 4 2 0 ∷ []) ∷ [];
  turns = StepsAtOnce 1 ∷ Steps 3 ∷ Finishes 0 ∷ Finishes 2 ∷ Steps 1 ∷ [];
}

abbrev pub killed_writer_lines : List TranscriptLine
killed_writer_lines =
    Switch 1 ∷ Call 1 (sys_open 3 0 4) ∷ File 1 Finished ∷ Return 1 (pos 4) ∷
    Call 1 (sys_write 4 9 600) ∷ Switch 2 ∷ Call 2 (sys_kill 1) ∷ Return 2 (pos 0) ∷
    Call 2 (sys_control 4 2 0) ∷ Switch 0 ∷ File 0 Turn ∷ File 0 Finished ∷ File 2 Next ∷ Switch 2 ∷ Return 2 (pos 600) ∷
    []

abbrev pub killed_writer_files : List TranscriptLine
killed_writer_files = OpenFile 4 600 600 ∷ Disk1 true ∷ []

-- Two processes put a byte each, and both calls take effect at one completion, in the order in which they were made.
abbrev pub two_at_once : Example
two_at_once = record {
  start = file_system (30 ∷ 20 ∷ []) 256;
  programs = (sys_open 3 0 4 ∷ sys_putc 4 65 ∷ sys_exit ∷ []) ∷ (sys_putc 4 66 ∷ []) ∷ [];
  turns = StepsAtOnce 1 ∷ Steps 2 ∷ Finishes 2 ∷ Steps 3 ∷ [];
}

abbrev pub two_at_once_lines : List TranscriptLine
two_at_once_lines =
    Switch 1 ∷ Call 1 (sys_open 3 0 4) ∷ File 1 Finished ∷ Return 1 (pos 4) ∷
    Call 1 (sys_putc 4 65) ∷ Switch 2 ∷ Call 2 (sys_putc 4 66) ∷ Switch 0 ∷
    File 1 Finished ∷ File 2 Next ∷ Switch 1 ∷ Return 1 (pos 0) ∷ Call 1 sys_exit ∷ Switch 2 ∷ Return 2 (pos 0) ∷
    []

-- A file that is open isn't deleted; once it is closed it is, and then it can't be opened as an old one. A mode that is none is refused as the call
-- is made, and has no line of its own.
abbrev pub deleted : Example
deleted = record {
  start = file_system (20 ∷ []) 256;
  programs =
      (sys_open 3 0 4 ∷ sys_control 3 1 0 ∷ sys_close 4 ∷ sys_control 3 1 0 ∷ sys_open 3 0 7 ∷ sys_open 3 0 2 ∷ []) ∷ [];
  turns = StepsAtOnce 6 ∷ [];
}

abbrev pub deleted_lines : List TranscriptLine
deleted_lines =
    Switch 1 ∷ Call 1 (sys_open 3 0 4) ∷ File 1 Finished ∷ Return 1 (pos 4) ∷
    Call 1 (sys_control 3 1 0) ∷ File 1 Finished ∷ Return 1 (negsuc 0) ∷
    Call 1 (sys_close 4) ∷ File 1 Finished ∷ Return 1 (pos 0) ∷
    Call 1 (sys_control 3 1 0) ∷ File 1 Finished ∷ Return 1 (pos 0) ∷
    Call 1 (sys_open 3 0 7) ∷ File 1 Finished ∷ Return 1 (negsuc 0) ∷
    Call 1 (sys_open 3 0 2) ∷ Return 1 (negsuc 0) ∷
    []
