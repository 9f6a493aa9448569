-- Calls on files, one after another.
use Rattle.std.specs.Prelude.{ℕ, true, false, List, [], ◌∷◌, ◌++◌, replicate, pos, negsuc}
use Rattle.xinu_base.specs.declared.files.OpenMode.{OpenMode}
use Rattle.xinu_examples.specs.FileTasks.{FileTask}
use Rattle.xinu_model.specs.Files.Calls.{FileCall, Open, Delete, Close, Read, Write, Getc, Putc, Seek, Truncate, Size}
use Rattle.xinu_model.specs.Files.Systems.{FileSystem, closed_system}

-- a disk of this many blocks without files
abbrev pub blank_files : ℕ → FileSystem
blank_files blocks = closed_system blocks []

-- the modes `rw`, `r`, `w`, `o` and `n`
abbrev pub mode_rw : OpenMode
mode_rw = record { read = true; write = true; only_old = false; only_new = false }

abbrev pub mode_r : OpenMode
mode_r = record { read = true; write = false; only_old = false; only_new = false }

abbrev pub mode_w : OpenMode
mode_w = record { read = false; write = true; only_old = false; only_new = false }

abbrev pub mode_o : OpenMode
mode_o = record { read = false; write = false; only_old = true; only_new = false }

abbrev pub mode_n : OpenMode
mode_n = record { read = false; write = false; only_old = false; only_new = true }

-- a call that writes nothing, and a write
abbrev pub task : FileCall → FileTask
task call = record { call = call; bytes = [] }

abbrev pub write_task : ℕ → ℕ → List ℕ → FileTask
write_task d n bytes = record { call = Write d n; bytes = bytes }

-- one file of one byte: made, read to its end, emptied, closed and deleted
abbrev pub one_file : List FileTask
one_file =
    task (Open (97 ∷ []) mode_rw) ∷ task (Putc 0 65) ∷ task (Size 0) ∷ task (Seek 0 (pos 2)) ∷ task (Seek 0 (pos 0)) ∷ task (Getc 0) ∷
    task (Getc 0) ∷ task (Truncate 0) ∷ task (Size 0) ∷ task (Delete (97 ∷ [])) ∷ task (Close 0) ∷ task (Delete (97 ∷ [])) ∷
    task (Delete (97 ∷ [])) ∷ task (Close 0) ∷ []

-- two files fill a disk
abbrev pub full_disk : List FileTask
full_disk =
    task (Open (97 ∷ []) mode_rw) ∷ write_task 0 2048 (replicate 2048 1) ∷ task (Open (98 ∷ []) mode_rw) ∷
    write_task 1 2000 (replicate 2000 2) ∷ write_task 1 1 (2 ∷ []) ∷ []

-- a file of more than one index block is closed, opened again and read to its end, at which no byte and then one more is asked for
abbrev pub big_file : List FileTask
big_file =
    task (Open (97 ∷ []) mode_rw) ∷ write_task 0 8193 (replicate 8192 1 ++ 2 ∷ []) ∷ task (Close 0) ∷ task (Open (97 ∷ []) mode_rw) ∷
    task (Seek 0 (pos 8191)) ∷ task (Read 0 2) ∷ task (Read 0 0) ∷ task (Read 0 1) ∷ task (Close 0) ∷ []

-- files are opened by their modes, and twice
abbrev pub modes : List FileTask
modes =
    task (Open (97 ∷ []) mode_o) ∷ task (Open (97 ∷ []) mode_n) ∷ task (Open (97 ∷ []) mode_rw) ∷ task (Putc 0 65) ∷ task (Close 0) ∷
    task (Open (97 ∷ []) mode_n) ∷ task (Open (97 ∷ []) mode_r) ∷ task (Putc 0 66) ∷ task (Getc 0) ∷ task (Close 0) ∷
    task (Open (97 ∷ []) mode_w) ∷ task (Getc 0) ∷ task (Putc 0 66) ∷ []

-- six devices, of which one is closed and opened again
abbrev pub seven_opens : List FileTask
seven_opens =
    task (Open (97 ∷ []) mode_rw) ∷ task (Open (98 ∷ []) mode_rw) ∷ task (Open (99 ∷ []) mode_rw) ∷ task (Open (100 ∷ []) mode_rw) ∷
    task (Open (101 ∷ []) mode_rw) ∷ task (Open (102 ∷ []) mode_rw) ∷ task (Open (103 ∷ []) mode_rw) ∷ task (Close 2) ∷
    task (Open (103 ∷ []) mode_rw) ∷ []

-- a file of three bytes is read at its last byte, at its end and at its start; there is no position after its end, nor a negative one
abbrev pub seeks : List FileTask
seeks =
    task (Open (97 ∷ []) mode_rw) ∷ write_task 0 3 (65 ∷ 66 ∷ 67 ∷ []) ∷ task (Seek 0 (pos 2)) ∷ task (Getc 0) ∷ task (Seek 0 (pos 3)) ∷
    task (Getc 0) ∷ task (Seek 0 (pos 4)) ∷ task (Seek 0 (negsuc 0)) ∷ task (Seek 0 (pos 0)) ∷ task (Getc 0) ∷ task (Seek 1 (pos 0)) ∷ []
