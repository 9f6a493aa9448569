-- Rules 0 to 3 of a clean image: its size, its names, its counts and its sizes of files.
use Rattle.std.specs.Prelude.{ℕ, ◌*◌, ◌%◌, Bool, cond, not, ◌&&◌, ◌||◌, nat_lt, nat_le, nat_eq, List, [], ◌∷◌, ◌++◌, drop, take, length, slice_index, Option, Some, None, bytes_eq, count_by}
use Rattle.std.specs.List.{list_all, list_any, prefix_len}
use Rattle.lfs_format.specs.declared.Entry.{Entry}
use Rattle.lfs_format.specs.Directory.{dir_ending}
use Rattle.lfs_check.specs.Geometries.{is_version_1, longest_name, fewest_blocks, most_blocks, entry_block, room}
use Rattle.lfs_check.specs.Meets.{lowest_from}
use Rattle.lfs_check.specs.declared.geometry.Geometry.{Geometry}
use Rattle.lfs_check.specs.declared.fields.Header.{Header}

-- an entry is used if its name doesn't begin with a zero
abbrev pub entry_is_used : Entry → Bool
entry_is_used entry = not (nat_eq (slice_index entry.name 0) 0)

-- how many non-zero bytes a name begins with
unfoldable pub text_length : List ℕ → ℕ
text_length name = prefix_len (λ b. not (nat_eq b 0)) name

-- whether each byte is zero
abbrev pub are_zeros : List ℕ → Bool
are_zeros bytes = list_all (λ b. nat_eq b 0) bytes

-- non-zero bytes, at least one and no more than a name can have, and then zeros
unfoldable pub is_name : ℕ → List ℕ → Bool
is_name longest name = nat_lt 0 (text_length name) && nat_le (text_length name) longest && are_zeros (drop (text_length name) name)

-- whether a used entry has the name
unfoldable pub has_name : List Entry → List ℕ → Bool
has_name entries name = list_any (λ f. entry_is_used f && bytes_eq f.name name) entries

-- the place of the first entry that fails the test, which sees the entries before it
unfoldable pub first_failing : (List Entry → Entry → Bool) → List Entry → List Entry → Option ℕ
first_failing fails before [] = None
first_failing fails before (e ∷ es) = cond (fails before e) (Some (length before)) (first_failing fails (before ++ e ∷ []) es)

-- the block of an entry, if there is one
abbrev pub in_entry_block : Geometry → Option ℕ → Option ℕ
in_entry_block g None = None
in_entry_block g (Some e) = Some (entry_block g e)

-- Rule 0: whole blocks, and a number of them that its version allows.
abbrev pub rule_0 : Geometry → List ℕ → Option ℕ
rule_0 g image = cond (nat_eq (length image % 512) 0 && nat_le (512 * fewest_blocks g) (length image) && nat_le (length image) (512 * most_blocks g)) None (Some 0)

-- Rule 1: the names of used entries are names, and no two the same.
abbrev pub has_bad_name : Geometry → List Entry → Entry → Bool
has_bad_name g before e = entry_is_used e && (not (is_name (longest_name g) e.name) || has_name before e.name)

-- rule 1: the lowest entry with a bad or repeated name
abbrev pub rule_1 : Geometry → List Entry → Option ℕ
rule_1 g entries = in_entry_block g (first_failing (has_bad_name g) [] entries)

-- Rule 2: the number of files is that of the used entries, and the bytes outside the entries are right.

-- a block of an image
abbrev pub block_in : List ℕ → ℕ → List ℕ
block_in image n = take 512 (drop (512 * n) image)

-- the first directory block begins with the counts, and the others with zeros
abbrev pub begins_right : Header → List Entry → List ℕ → ℕ → Bool
begins_right header entries block d = cond (nat_eq d 0) (nat_eq (count_by entry_is_used entries) header.files) (are_zeros (take 12 block))

-- a directory block ends with zeros, among which in version 2 is the number of the version
abbrev pub ends_right : Geometry → List ℕ → Bool
ends_right g block = cond (is_version_1 g) (are_zeros (drop 492 block)) (bytes_eq (drop 480 block) dir_ending)

-- whether a directory block is right outside its entries
abbrev pub is_dir_block : Geometry → Header → List Entry → List ℕ → ℕ → Bool
is_dir_block g header entries image d = begins_right header entries (block_in image d) d && ends_right g (block_in image d)

-- rule 2: the lowest directory block that isn't
abbrev pub rule_2 : Geometry → Header → List Entry → List ℕ → Option ℕ
rule_2 g header entries image = lowest_from (λ d. not (is_dir_block g header entries image d)) 0 g.dirs

-- Rule 3: no file is larger than all data blocks together.
abbrev pub is_larger : ℕ → Entry → Bool
is_larger most e = entry_is_used e && nat_lt most e.size

-- rule 3: the lowest entry with a size that is too large
abbrev pub rule_3 : Geometry → List Entry → Option ℕ
rule_3 g entries = in_entry_block g (first_failing (λ before e. is_larger (room g) e) [] entries)
