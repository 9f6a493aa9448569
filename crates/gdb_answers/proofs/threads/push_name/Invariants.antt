-- So far the bytes before the present one were appended, if they are shown.
use Rattle.std.proofs.Common.{◌≡◌, ◌++◌, take}
use Rattle.gdb_answers.specs.Threads.{name_text}
use Rattle.gdb_answers.proofs.threads.push_name.Given as goal

abbrev pub invariant-loop-byte : goal.invariant-loop-byte
invariant-loop-byte l = l.text.items ≡ l.initial.text.items ++ name_text (take l.byte-index l.name)
