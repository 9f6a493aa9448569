-- Files by their names. They are kept in the order of their names, so equal files are equal lists.
use Rattle.std.specs.Prelude.{ℕ, ◌==◌, nat_eq, nat_lt, nat_le, Bool, true, false, not, ◌&&◌, if◌then◌else◌, List, [], ◌∷◌, length, map, filter, Option, Some, None, bytes_eq}
use Rattle.std.specs.List.{find, list_all}
use Rattle.xinu_model.specs.Files.Constants.{LF_NAME_LEN}

-- A file: its name and its bytes.
pub record StoredFile : Type 0 where
  pub name : List ℕ
  pub bytes : List ℕ

-- an empty file of a name
abbrev pub empty_file : List ℕ → StoredFile
empty_file name = record { name = name; bytes = [] }

-- whether a text can be a file's name: 1 to 27 bytes, and none of them is zero
abbrev pub is_file_name : List ℕ → Bool
is_file_name name = nat_lt 0 (length name) && (nat_le (length name) LF_NAME_LEN && list_all (λ b. not (b == 0)) name)

-- whether a name comes before another, byte by byte
abbrev pub precedes : List ℕ → List ℕ → Bool
precedes [] [] = false
precedes [] (y ∷ ys) = true
precedes (x ∷ xs) [] = false
precedes (x ∷ xs) (y ∷ ys) = if nat_eq x y then precedes xs ys else nat_lt x y

-- the names of files
abbrev pub file_names : List StoredFile → List (List ℕ)
file_names files = map (λ (f : StoredFile). f.name) files

-- whether a file has this name
abbrev pub is_named : List ℕ → StoredFile → Bool
is_named name f = bytes_eq f.name name

-- the file of a name
abbrev pub file_named : List ℕ → List StoredFile → Option StoredFile
file_named name files = find (is_named name) files

-- the bytes of a file; none if there is no file
abbrev pub bytes_in : Option StoredFile → List ℕ
bytes_in None = []
bytes_in (Some f) = f.bytes

-- the files with one more, in its place by name
abbrev pub with_stored : StoredFile → List StoredFile → List StoredFile
with_stored file [] = file ∷ []
with_stored file (f ∷ files) = if precedes file.name f.name then (file ∷ f ∷ files) else (f ∷ with_stored file files)

-- a file with other bytes if it has this name
abbrev pub rewritten : List ℕ → List ℕ → StoredFile → StoredFile
rewritten name bytes f = if is_named name f then record f { bytes = bytes } else f

-- the files, of which the one of this name has these bytes
abbrev pub with_contents : List ℕ → List ℕ → List StoredFile → List StoredFile
with_contents name bytes files = map (rewritten name bytes) files

-- the files without that of a name
abbrev pub without_file : List ℕ → List StoredFile → List StoredFile
without_file name files = filter (λ f. not (is_named name f)) files
