-- Examples: the console and the name space as processes call them.
use Rattle.std.specs.Prelude.{ℕ, List, [], ◌∷◌, ◌++◌, pos, negsuc, replicate, take, drop, false}
use Rattle.xinu_base.specs.declared.console.TtyMode.TheVariants.{Raw, Cooked}
use Rattle.xinu_base.specs.declared.lines.TranscriptLine.{TranscriptLine}
use Rattle.xinu_base.specs.declared.lines.TranscriptLine.TheVariants.{Call, Return, Switch, Con, Console}
use Rattle.xinu_examples.specs.NamedCalls.{sys_open, sys_close, sys_read, sys_write, sys_getc, sys_putc, sys_seek, sys_control, sys_kill, sys_mount, minus_one}
use Rattle.xinu_examples.specs.Played.{Example, Steps, Types, Sends, system, outcome_of}
use Rattle.xinu_model.specs.Machine.{Xinu}

-- a system with a little RAM
abbrev pub console_system : List ℕ → Xinu
console_system priorities = record (system priorities 4096 8) { memory = replicate 2100 0 }

-- A reader waits for a line, in which a character is erased; then it waits for the end mark. The echo is sent.
abbrev pub session : Example
session = record {
  start = console_system (20 ∷ []);
  programs = (sys_read 0 2048 10 ∷ sys_getc 0 ∷ []) ∷ [];
  turns = Steps 100 ∷ Types (97 ∷ 98 ∷ 8 ∷ 99 ∷ 13 ∷ []) ∷ Steps 100 ∷ Sends 8 ∷ Types (4 ∷ []) ∷ Steps 100 ∷ [];
}

abbrev pub session_lines : List TranscriptLine
session_lines =
    Switch 1 ∷ Call 1 (sys_read 0 2048 10) ∷ Switch 0 ∷ Switch 1 ∷ Return 1 (pos 3) ∷ Call 1 (sys_getc 0) ∷ Switch 0 ∷
    Con 97 ∷ Con 98 ∷ Con 8 ∷ Con 32 ∷ Con 8 ∷ Con 99 ∷ Con 13 ∷ Con 10 ∷ Switch 1 ∷ Return 1 (negsuc 1) ∷
    []

-- n bytes from an address on
abbrev pub bytes_at : ℕ → ℕ → Example → List ℕ
bytes_at address n example = take n (drop address (outcome_of example).state.memory)

-- Raw mode: no character has a meaning, and nothing is echoed. A read of two bytes waits for each of them.
abbrev pub raw_read : Example
raw_read = record {
  start = console_system (20 ∷ []);
  programs = (sys_control 0 1 0 ∷ sys_read 0 2048 2 ∷ []) ∷ [];
  turns = Steps 100 ∷ Types (8 ∷ []) ∷ Steps 100 ∷ Types (13 ∷ []) ∷ Steps 100 ∷ [];
}

abbrev pub raw_read_lines : List TranscriptLine
raw_read_lines =
    Switch 1 ∷ Call 1 (sys_control 0 1 0) ∷ Return 1 (pos 0) ∷ Call 1 (sys_read 0 2048 2) ∷
    Switch 0 ∷ Switch 1 ∷ Switch 0 ∷ Switch 1 ∷ Return 1 (pos 2) ∷
    []

abbrev pub raw_console_line : TranscriptLine
raw_console_line = Console Raw 0 0 0 0 false

-- Outside cooked mode a read of 0 bytes takes as many as there are, without waiting.
abbrev pub read_all : Example
read_all = record {
  start = console_system (20 ∷ []);
  programs = (sys_control 0 1 0 ∷ sys_control 0 4 0 ∷ sys_read 0 2048 0 ∷ sys_read 0 2048 0 ∷ []) ∷ [];
  turns = Steps 1 ∷ Types (97 ∷ 98 ∷ 99 ∷ []) ∷ Steps 100 ∷ [];
}

abbrev pub read_all_lines : List TranscriptLine
read_all_lines =
    Switch 1 ∷ Call 1 (sys_control 0 1 0) ∷ Return 1 (pos 0) ∷ Call 1 (sys_control 0 4 0) ∷ Return 1 (pos 3) ∷
    Call 1 (sys_read 0 2048 0) ∷ Return 1 (pos 3) ∷ Call 1 (sys_read 0 2048 0) ∷ Return 1 (pos 0) ∷
    []

-- A newline is put with its carriage return, and held for a while.
abbrev pub newline_put : Example
newline_put = record {
  start = console_system (20 ∷ []);
  programs = (sys_putc 0 10 ∷ []) ∷ [];
  turns = Steps 100 ∷ Types (19 ∷ []) ∷ Sends 2 ∷ Types (17 ∷ []) ∷ Sends 3 ∷ [];
}

abbrev pub newline_put_lines : List TranscriptLine
newline_put_lines = Switch 1 ∷ Call 1 (sys_putc 0 10) ∷ Return 1 (pos 0) ∷ Con 13 ∷ Con 10 ∷ []

-- Calls that don't wait, among them refusals: a text that isn't there, a negative number of bytes, a range outside RAM, a function that there
-- isn't, a call that isn't offered, a device that there isn't.
abbrev pub console_replies : Example
console_replies = record {
  start = console_system (20 ∷ []);
  programs =
      (sys_open 0 8 8 ∷ sys_open 0 2100 8 ∷ sys_close 0 ∷ sys_read 0 2048 minus_one ∷ sys_read 0 2048 0 ∷ sys_write 0 1048575 2 ∷
      sys_control 0 4 0 ∷ sys_control 0 9 0 ∷ sys_seek 0 0 ∷ sys_read 10 2048 1 ∷ []) ∷
      [];
  turns = Steps 100 ∷ [];
}

abbrev pub console_replies_lines : List TranscriptLine
console_replies_lines =
    Switch 1 ∷ Call 1 (sys_open 0 8 8) ∷ Return 1 (pos 0) ∷ Call 1 (sys_open 0 2100 8) ∷ Return 1 (negsuc 0) ∷
    Call 1 (sys_close 0) ∷ Return 1 (pos 0) ∷
    Call 1 (sys_read 0 2048 minus_one) ∷ Return 1 (negsuc 0) ∷ Call 1 (sys_read 0 2048 0) ∷ Return 1 (pos 0) ∷
    Call 1 (sys_write 0 1048575 2) ∷ Return 1 (negsuc 0) ∷ Call 1 (sys_control 0 4 0) ∷ Return 1 (pos 0) ∷
    Call 1 (sys_control 0 9 0) ∷ Return 1 (negsuc 0) ∷ Call 1 (sys_seek 0 0) ∷ Return 1 (negsuc 0) ∷
    Call 1 (sys_read 10 2048 1) ∷ Return 1 (negsuc 0) ∷
    []

-- A write of 70 bytes waits for room after the first 64, and goes on as bytes are sent.
abbrev pub long_write : Example
long_write = record {
  start = console_system (20 ∷ []);
  programs = (sys_write 0 2030 70 ∷ []) ∷ [];
  turns = Steps 100 ∷ Sends 1 ∷ Steps 1 ∷ Sends 5 ∷ Steps 10 ∷ [];
}

abbrev pub long_write_lines : List TranscriptLine
long_write_lines =
    Switch 1 ∷ Call 1 (sys_write 0 2030 70) ∷ Switch 0 ∷ Con 0 ∷ Switch 1 ∷ Switch 0 ∷
    Con 0 ∷ Switch 1 ∷ Con 0 ∷ Con 0 ∷ Con 0 ∷ Con 0 ∷ Return 1 (pos 70) ∷ []

-- A reader that was released is killed before it goes on: no token is given back for it, so the last item can't be taken.
abbrev pub killed_reader : Example
killed_reader = record {
  start = console_system (20 ∷ 30 ∷ []);
  programs =
      (sys_getc 0 ∷ []) ∷
      (sys_getc 0 ∷ sys_kill 1 ∷ sys_control 0 4 0 ∷ sys_getc 0 ∷ sys_getc 0 ∷ []) ∷
      [];
  turns = Steps 2 ∷ Types (97 ∷ 98 ∷ 13 ∷ []) ∷ Steps 100 ∷ [];
}

abbrev pub killed_reader_lines : List TranscriptLine
killed_reader_lines =
    Switch 2 ∷ Call 2 (sys_getc 0) ∷ Switch 1 ∷ Call 1 (sys_getc 0) ∷ Switch 0 ∷ Switch 2 ∷ Return 2 (pos 97) ∷
    Call 2 (sys_kill 1) ∷ Return 2 (pos 0) ∷ Call 2 (sys_control 0 4 0) ∷ Return 2 (pos 1) ∷
    Call 2 (sys_getc 0) ∷ Return 2 (pos 98) ∷ Call 2 (sys_getc 0) ∷ Switch 0 ∷
    []

abbrev pub killed_reader_console : TranscriptLine
killed_reader_console = Console Cooked 1 0 0 4 false

-- A prefix is mounted for the console, which is opened by that name. Refused are an open by a name that no prefix begins, a mount for a device
-- that there isn't, and one of a text that isn't there.
abbrev pub opened_by_name : Example
opened_by_name = record {
  start = record (system (20 ∷ []) 4096 8) { memory = replicate 8 0 ++ 99 ∷ replicate 2091 0 };
  programs =
      (sys_open 1 8 16 ∷ sys_mount 8 16 0 ∷ sys_open 1 8 16 ∷ sys_open 1 16 16 ∷ sys_mount 8 16 10 ∷ sys_mount 2100 16 0 ∷ sys_close 1 ∷ []) ∷
      [];
  turns = Steps 100 ∷ [];
}

abbrev pub opened_by_name_lines : List TranscriptLine
opened_by_name_lines =
    Switch 1 ∷ Call 1 (sys_open 1 8 16) ∷ Return 1 (negsuc 0) ∷ Call 1 (sys_mount 8 16 0) ∷ Return 1 (pos 0) ∷
    Call 1 (sys_open 1 8 16) ∷ Return 1 (pos 0) ∷ Call 1 (sys_open 1 16 16) ∷ Return 1 (negsuc 0) ∷
    Call 1 (sys_mount 8 16 10) ∷ Return 1 (negsuc 0) ∷ Call 1 (sys_mount 2100 16 0) ∷ Return 1 (negsuc 0) ∷
    Call 1 (sys_close 1) ∷ Return 1 (negsuc 0) ∷
    []
