-- The files of an image, and the images that are clean for files.
use Rattle.std.specs.Prelude.{ℕ, ◌+◌, ◌-◌, ◌/◌, ◌≡◌, ◌&&◌, Bool, true, false, cond, nat_eq, nat_lt, nat_le, List, [], ◌∷◌, ◌++◌, length, map, take, replicate, Option, Some, None, not, bytes_eq, count_by}
use Rattle.std.specs.List.{flat_map, list_any, list_all}
use Rattle.lfs_format.specs.declared.Entry.{Entry}
use Rattle.lfs_format.specs.declared.Index.{Index}
use Rattle.lfs_check.specs.declared.geometry.Geometry.{Geometry}
use Rattle.lfs_check.specs.Geometries.{index_count, first_data}
use Rattle.lfs_check.specs.Rules.{entry_is_used, is_name, text_length, block_in}
use Rattle.lfs_check.specs.Fields.{geometry_of, fields_of, directory_entries}
use Rattle.lfs_check.specs.Clean.{data_in}
use Rattle.lfs_check.specs.Faults.{fault}

-- a file: its name with the zeros after it, 28 bytes, and its bytes
pub record File : Type 0 where
  pub name : List ℕ
  pub bytes : List ℕ

-- a name without the zeros after it
abbrev pub bare_name : List ℕ → List ℕ
bare_name name = take (text_length name) name

-- the bytes of the file of an entry: those of its data blocks, as many as its size says
abbrev pub content_of : Geometry → List Index → List ℕ → Entry → List ℕ
content_of g indexes image e = take e.size (flat_map (block_in image) (data_in g indexes e))

-- the files of the used entries, in the order of the entries
abbrev pub files_in : Geometry → List Index → List ℕ → List Entry → List File
files_in g indexes image [] = []
files_in g indexes image (e ∷ es) =
    cond (entry_is_used e) (record { name = e.name; bytes = content_of g indexes image e } ∷ files_in g indexes image es) (files_in g indexes image es)

-- the files of an image, in the order of its entries
abbrev pub placed_files : List ℕ → List File
placed_files image = files_in (geometry_of image) (fields_of (geometry_of image) image).indexes image (directory_entries (geometry_of image) image)

-- whether a name comes before another, byte by byte
abbrev pub is_before : List ℕ → List ℕ → Bool
is_before [] [] = false
is_before [] (y ∷ ys) = true
is_before (x ∷ xs) [] = false
is_before (x ∷ xs) (y ∷ ys) = cond (nat_eq x y) (is_before xs ys) (nat_lt x y)

-- a file put among files that are in the order of their names
abbrev pub with_file : File → List File → List File
with_file file [] = file ∷ []
with_file file (f ∷ files) = cond (is_before file.name f.name) (file ∷ f ∷ files) (f ∷ with_file file files)

-- files in the order of their names
abbrev pub sorted : List File → List File
sorted [] = []
sorted (f ∷ files) = with_file f (sorted files)

-- the files of an image, in the order of their names
abbrev pub files_of : List ℕ → List File
files_of image = sorted (placed_files image)

-- what a listing shows of files: their names without the zeros after them, and how many bytes they have
abbrev pub listing : List File → List (List ℕ × ℕ)
listing files = map (λ (f : File). (bare_name f.name, length f.bytes)) files

-- how many used entries have a name that comes before this one
abbrev pub names_before : List Entry → List ℕ → ℕ
names_before entries name = count_by (λ (e : Entry). entry_is_used e && is_before e.name name) entries

-- an image is clean for files if it breaks no rule and reading its entries gives these files
pub record Clean (image : List ℕ) (files : List File) : Type 0 where
  pub faultless : fault image ≡ None
  pub read : files_of image ≡ files

-- how many index blocks and how many data blocks files need
abbrev pub blocks_for : ℕ → File → ℕ
blocks_for width f = (length f.bytes + (width - 1)) / width

-- how many blocks of a width all files need
abbrev pub total_for : ℕ → List File → ℕ
total_for width [] = 0
total_for width (f ∷ files) = blocks_for width f + total_for width files

-- whether files fit: their number, their data blocks and their index blocks
abbrev pub have_room : Geometry → List File → Bool
have_room g files = nat_le (length files) 78 && nat_le (total_for 512 files) (g.blocks - first_data g) && nat_le (total_for 8192 files) (index_count g)

-- whether a name is among names
abbrev pub is_among : List (List ℕ) → List ℕ → Bool
is_among names name = list_any (λ n. bytes_eq n name) names

-- whether each of the names is one, and none is that of an earlier name or of those before
abbrev pub names_right : ℕ → List (List ℕ) → List (List ℕ) → Bool
names_right longest before [] = true
names_right longest before (n ∷ names) = is_name longest n && not (is_among before n) && names_right longest (before ++ n ∷ []) names

-- the names of files
abbrev pub names_of : List File → List (List ℕ)
names_of files = map (λ (f : File). f.name) files

-- the files without that of a name, and with a file set
abbrev pub without_name : List ℕ → List File → List File
without_name name [] = []
without_name name (f ∷ files) = cond (bytes_eq f.name name) (without_name name files) (f ∷ without_name name files)

-- the files with one set: it comes last, in the place of one with its name
abbrev pub with_set : File → List File → List File
with_set file files = without_name file.name files ++ file ∷ []

-- a text that can be a name: 1 to 27 non-zero bytes
abbrev pub is_text : List ℕ → Bool
is_text text = nat_lt 0 (length text) && nat_le (length text) 27 && list_all (λ b. not (nat_eq b 0)) text

-- a text with zeros up to 28 bytes
abbrev pub padded_name : List ℕ → List ℕ
padded_name text = text ++ replicate (28 - length text) 0

-- the bytes of the file of a name
abbrev pub content_named : List ℕ → List File → Option (List ℕ)
content_named name [] = None
content_named name (f ∷ files) = cond (bytes_eq f.name name) (Some f.bytes) (content_named name files)

-- the bytes of the file of a text, if it can be a name and a file has it
abbrev pub found : List ℕ → List File → Option (List ℕ)
found text files = cond (is_text text) (content_named (padded_name text) files) None

-- the first used entry of a name
abbrev pub entry_named : List ℕ → List Entry → Option Entry
entry_named name [] = None
entry_named name (e ∷ es) = cond (entry_is_used e && bytes_eq e.name name) (Some e) (entry_named name es)

-- the entries without those of a name
abbrev pub other_entries : List ℕ → List Entry → List Entry
other_entries name [] = []
other_entries name (e ∷ es) = cond (bytes_eq e.name name) (other_entries name es) (e ∷ other_entries name es)
