-- Writing a file (book, chapter 19, `lflwrite.c`, `lflputc.c`, `lftruncate.c`).
use Rattle.std.specs.Prelude.{ℕ, zero, suc, ◌+◌, ◌==◌, nat_lt, Bool, not, ◌&&◌, ◌||◌, if◌then◌else◌, List, [], ◌∷◌, ◌++◌, length, take, drop, pos}
use Rattle.xinu_base.specs.Constants.{OK}
use Rattle.xinu_model.specs.Files.Room.{they_fit}
use Rattle.xinu_model.specs.Files.Stored.{StoredFile, with_contents}
use Rattle.xinu_model.specs.Files.Systems.{OpenFile, FileSystem, FileEffect, open_bytes, moved, replies, refused_effect}

-- bytes with others in their place from a position on, which is at most their end
abbrev pub overwritten : ℕ → List ℕ → List ℕ → List ℕ
overwritten position new old = take position old ++ (new ++ drop (position + length new) old)

-- the files after these bytes are put at the position of an open file
abbrev pub files_with : OpenFile → List ℕ → FileSystem → List StoredFile
files_with f new s = with_contents f.name (overwritten f.position new (open_bytes f s)) s.files

-- whether there is room for that
abbrev pub have_room : OpenFile → List ℕ → FileSystem → Bool
have_room f new s = they_fit s.blocks (files_with f new s)

-- the greatest number up to n that passes a test, or 0
abbrev pub greatest : (ℕ → Bool) → ℕ → ℕ
greatest test zero = 0
greatest test (suc n) = if test (suc n) then suc n else greatest test n

-- how many of these bytes there is room for
abbrev pub fitting : OpenFile → List ℕ → FileSystem → ℕ
fitting f bytes s = greatest (λ k. have_room f (take k bytes) s) (length bytes)

-- these bytes are put at the position, which moves to their end
abbrev pub put_bytes : List ℕ → ℕ → OpenFile → FileSystem → FileSystem
put_bytes new d f s = record (moved d f (f.position + length new) s) { files = files_with f new s }

-- `write`: as many of the bytes as there is room for; refused if there are some, and room for none.
abbrev pub write_file : ℕ → List ℕ → OpenFile → FileSystem → FileEffect
write_file d bytes f s =
    let k = fitting f bytes s in
    if not f.may_write || (nat_lt 0 (length bytes) && (k == 0)) then refused_effect s
    else replies (pos k) (put_bytes (take k bytes) d f s)

-- `putc`: one byte.
abbrev pub putc_file : ℕ → ℕ → OpenFile → FileSystem → FileEffect
putc_file d b f s =
    if not f.may_write || not (have_room f (b ∷ []) s) then refused_effect s else replies OK (put_bytes (b ∷ []) d f s)

-- A file device's `control` that empties the file.
abbrev pub truncate_file : ℕ → OpenFile → FileSystem → FileEffect
truncate_file d f s =
    if not f.may_write then refused_effect s
    else replies OK (record (moved d f 0 s) { files = with_contents f.name [] s.files })
