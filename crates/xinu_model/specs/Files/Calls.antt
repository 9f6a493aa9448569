-- The ten calls on files, and the effect of each (book, chapter 19).
use Rattle.std.specs.Prelude.{ℕ, List, ℤ}
use Rattle.xinu_base.specs.declared.files.OpenMode.{OpenMode}
use Rattle.xinu_model.specs.Files.Opening.{open_file, close_file, delete_file}
use Rattle.xinu_model.specs.Files.Reading.{read_file, getc_file, seek_file, size_of_file}
use Rattle.xinu_model.specs.Files.Systems.{FileSystem, FileEffect, open_at, on_open}
use Rattle.xinu_model.specs.Files.Writing.{write_file, putc_file, truncate_file}

-- A call on files. Devices are counted from the first file device; the bytes of a write aren't part of it, but their number is.
pub data FileCall : Type 0 where
  Open : (name : List ℕ) (mode : OpenMode) → FileCall
  Delete : (name : List ℕ) → FileCall
  Close : (d : ℕ) → FileCall
  Read : (d n : ℕ) → FileCall
  Write : (d n : ℕ) → FileCall
  Getc : (d : ℕ) → FileCall
  Putc : (d b : ℕ) → FileCall
  Seek : (d : ℕ) (n : ℤ) → FileCall
  Truncate : (d : ℕ) → FileCall
  Size : (d : ℕ) → FileCall

-- The effect of a call, of which these are the bytes if it writes.
abbrev pub file_effect : FileCall → List ℕ → FileSystem → FileEffect
file_effect (Open name mode) bytes s = open_file name mode s
file_effect (Delete name) bytes s = delete_file name s
file_effect (Close d) bytes s = on_open (open_at s d) (λ f. close_file d f s) s
file_effect (Read d n) bytes s = on_open (open_at s d) (λ f. read_file d n f s) s
file_effect (Write d n) bytes s = on_open (open_at s d) (λ f. write_file d bytes f s) s
file_effect (Getc d) bytes s = on_open (open_at s d) (λ f. getc_file d f s) s
file_effect (Putc d b) bytes s = on_open (open_at s d) (λ f. putc_file d b f s) s
file_effect (Seek d n) bytes s = on_open (open_at s d) (λ f. seek_file d n f s) s
file_effect (Truncate d) bytes s = on_open (open_at s d) (λ f. truncate_file d f s) s
file_effect (Size d) bytes s = on_open (open_at s d) (λ f. size_of_file f s) s
