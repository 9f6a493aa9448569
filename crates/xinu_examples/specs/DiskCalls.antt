-- Examples: the raw disk as processes call it.
use Rattle.std.specs.Prelude.{ℕ, List, [], ◌∷◌, ◌++◌, pos, negsuc, replicate, true, false}
use Rattle.xinu_base.specs.declared.lines.TranscriptLine.{TranscriptLine}
use Rattle.xinu_base.specs.declared.lines.TranscriptLine.TheVariants.{Call, Return, Switch}
use Rattle.xinu_examples.specs.NamedCalls.{sys_open, sys_close, sys_read, sys_write, sys_getc, sys_control, sys_kill}
use Rattle.xinu_examples.specs.Played.{Example, Steps, Completes, system}
use Rattle.xinu_model.specs.Machine.{Xinu}

-- a system with 512 bytes of 7 from 1024 on, after and before zeros
abbrev pub disk_system : List ℕ → Xinu
disk_system priorities = record (system priorities 4096 8) { memory = replicate 1024 0 ++ replicate 512 7 ++ replicate 512 0 }

-- The last block is written and read back, and read once more in vain. Refused are a block that there isn't, bytes outside RAM, a function that
-- there isn't, and a call that isn't offered.
abbrev pub written_and_read : Example
written_and_read = record {
  start = disk_system (20 ∷ []);
  programs =
      (sys_write 2 1024 63 ∷ sys_read 2 512 63 ∷ sys_read 2 0 63 ∷ sys_write 2 1024 64 ∷ sys_read 2 1048065 0 ∷
      sys_control 2 1 0 ∷ sys_control 2 2 0 ∷ sys_open 2 8 8 ∷ sys_getc 2 ∷ sys_close 2 ∷ []) ∷
      [];
  turns = Steps 4 ∷ Completes true ∷ Steps 4 ∷ Completes true ∷ Steps 4 ∷ Completes false ∷ Steps 20 ∷ Completes true ∷ [];
}

abbrev pub written_and_read_lines : List TranscriptLine
written_and_read_lines =
    Switch 1 ∷ Call 1 (sys_write 2 1024 63) ∷ Switch 0 ∷ Switch 1 ∷ Return 1 (pos 0) ∷
    Call 1 (sys_read 2 512 63) ∷ Switch 0 ∷ Switch 1 ∷ Return 1 (pos 0) ∷
    Call 1 (sys_read 2 0 63) ∷ Switch 0 ∷ Switch 1 ∷ Return 1 (negsuc 0) ∷
    Call 1 (sys_write 2 1024 64) ∷ Return 1 (negsuc 0) ∷ Call 1 (sys_read 2 1048065 0) ∷ Return 1 (negsuc 0) ∷
    Call 1 (sys_control 2 1 0) ∷ Return 1 (pos 64) ∷ Call 1 (sys_control 2 2 0) ∷ Return 1 (negsuc 0) ∷
    Call 1 (sys_open 2 8 8) ∷ Return 1 (pos 2) ∷ Call 1 (sys_getc 2) ∷ Return 1 (negsuc 0) ∷
    Call 1 (sys_close 2) ∷ Return 1 (pos 0) ∷
    []

-- A process is killed whose write is the first request: the block is written, and nobody is told. The next request is served after it.
abbrev pub killed_writer : Example
killed_writer = record {
  start = disk_system (30 ∷ 20 ∷ []);
  programs = (sys_write 2 1024 0 ∷ []) ∷ (sys_kill 1 ∷ sys_read 2 512 0 ∷ []) ∷ [];
  turns = Steps 4 ∷ Completes true ∷ Steps 4 ∷ Completes true ∷ Steps 4 ∷ [];
}

abbrev pub killed_writer_lines : List TranscriptLine
killed_writer_lines =
    Switch 1 ∷ Call 1 (sys_write 2 1024 0) ∷ Switch 2 ∷ Call 2 (sys_kill 1) ∷ Return 2 (pos 0) ∷
    Call 2 (sys_read 2 512 0) ∷ Switch 0 ∷ Switch 2 ∷ Return 2 (pos 0) ∷
    []
