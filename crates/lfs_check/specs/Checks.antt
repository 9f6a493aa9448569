-- Rules 4 to 7: what the walks of a disk meet.
use Rattle.std.specs.Prelude.{ℕ, suc, ◌+◌, ◌-◌, ◌/◌, Bool, true, cond, ◌&&◌, nat_lt, nat_le, nat_eq, min, List, [], ◌∷◌, ◌++◌, length, map, slice_index, slice_index_or, Option, Some, None}
use Rattle.std.specs.List.{flat_map}
use Rattle.lfs_format.specs.declared.Entry.{Entry}
use Rattle.lfs_format.specs.declared.Index.{Index}
use Rattle.lfs_check.specs.declared.geometry.Geometry.{Geometry}
use Rattle.lfs_check.specs.Geometries.{index_count, index_block, entry_block, first_data}
use Rattle.lfs_check.specs.Laid.{Shape, no_index}
use Rattle.lfs_check.specs.Meets.{null, times_met, lowest_from}
use Rattle.lfs_check.specs.Rules.{entry_is_used}
use Rattle.lfs_check.specs.Walks.{walk, walk_end}

-- the lower of two blocks, if there is one
abbrev pub least : Option ℕ → Option ℕ → Option ℕ
least None b = b
least (Some a) None = Some a
least (Some a) (Some b) = Some (min a b)

-- a block, or else another
abbrev pub either : Option ℕ → Option ℕ → Option ℕ
either None b = b
either (Some a) b = Some a

-- how many blocks of both kinds the file of an entry needs
abbrev pub need_index : Entry → ℕ
need_index e = (e.size + 8191) / 8192

-- how many data blocks a file needs
abbrev pub need_data : Entry → ℕ
need_data e = (e.size + 511) / 512

-- whether a number is in a range, without its end
abbrev pub is_between : ℕ → ℕ → ℕ → Bool
is_between low high n = nat_le low n && nat_lt n high

-- the next of each index block
abbrev pub nexts_of : List Index → List ℕ
nexts_of indexes = map (λ (i : Index). i.next) indexes

-- the walk from an entry: what it meets, and what ends it
abbrev pub met_of : Geometry → List Index → Entry → List ℕ
met_of g indexes e = walk (nexts_of indexes) 0 (index_count g) (need_index e) [] e.first

-- the number that ends the walk of a file
abbrev pub end_of_walk : Geometry → List Index → Entry → ℕ
end_of_walk g indexes e = walk_end (nexts_of indexes) 0 (index_count g) (need_index e) [] e.first

-- the index blocks that the walk of the free ones meets
abbrev pub free_index_of : Geometry → Shape → List ℕ
free_index_of g d = walk (nexts_of d.indexes) 0 (index_count g) (index_count g) [] d.header.free_index

-- the number that ends this walk
abbrev pub free_index_end : Geometry → Shape → ℕ
free_index_end g d = walk_end (nexts_of d.indexes) 0 (index_count g) (index_count g) [] d.header.free_index

-- the data blocks that the walk of the free ones meets
abbrev pub free_data_of : Geometry → Shape → List ℕ
free_data_of g d = walk d.links (first_data g) g.blocks g.blocks [] d.header.free_data

-- the number that ends this walk
abbrev pub free_data_end : Geometry → Shape → ℕ
free_data_end g d = walk_end d.links (first_data g) g.blocks g.blocks [] d.header.free_data

-- Rule 4: each number is null or in range, and null if and only if nothing is needed.

-- the last number met, or a number for none
abbrev pub last_or : ℕ → List ℕ → ℕ
last_or front met = cond (nat_eq (length met) 0) front (slice_index met (length met - 1))

-- whether the walk of a free chain may end at a number: null, or one in range, which was met before
abbrev pub is_good_end : ℕ → ℕ → ℕ → Bool
is_good_end low high end = cond (nat_eq end null) true (is_between low high end)

-- rule 4 for the free data blocks: the block that holds the number that ended the walk
abbrev pub free_data_fault : Geometry → List ℕ → ℕ → Option ℕ
free_data_fault g met end = cond (is_good_end (first_data g) g.blocks end) None (Some (last_or 0 met))

-- the block that has the number that ended a walk of index blocks; the first number is in this block
abbrev pub end_holder : Geometry → ℕ → List ℕ → ℕ
end_holder g block met = cond (nat_eq (length met) 0) block (index_block g (slice_index met (length met - 1)))

-- rule 4 for the free index blocks
abbrev pub free_index_fault : Geometry → List ℕ → ℕ → Option ℕ
free_index_fault g met end = cond (is_good_end 0 (index_count g) end) None (Some (end_holder g 0 met))

-- whether the walk of a file may end so: in range if it was too short, else at null
abbrev pub is_file_end : Geometry → ℕ → ℕ → ℕ → Bool
is_file_end g need len end = cond (nat_lt len need) (is_between 0 (index_count g) end) (nat_eq end null)

-- rule 4 for the end of the walk of the file of an entry
abbrev pub end_fault : Geometry → ℕ → Entry → List ℕ → ℕ → Option ℕ
end_fault g k e met end = cond (is_file_end g (need_index e) (length met) end) None (Some (end_holder g (entry_block g k) met))

-- the numbers of data blocks in an index block: those that are wanted, and then nulls
abbrev pub number_fits : Geometry → ℕ → ℕ → Bool
number_fits g wanted b = cond (nat_lt 0 wanted) (is_between (first_data g) g.blocks b) (nat_eq b null)

-- whether the numbers of an index block are right if so many are still wanted
unfoldable pub row_fits : Geometry → ℕ → List ℕ → Bool
row_fits g wanted [] = true
row_fits g wanted (b ∷ bs) = number_fits g wanted b && row_fits g (wanted - 1) bs

-- rule 4 for the numbers of one index block
abbrev pub row_fault : Geometry → List Index → ℕ → ℕ → Option ℕ
row_fault g indexes wanted i = cond (row_fits g wanted (slice_index_or indexes i no_index).blocks) None (Some (index_block g i))

-- rule 4 for the numbers of the index blocks of a file
unfoldable pub rows_fault : Geometry → List Index → ℕ → List ℕ → Option ℕ
rows_fault g indexes wanted [] = None
rows_fault g indexes wanted (i ∷ met) =
    least (row_fault g indexes wanted i) (rows_fault g indexes (wanted - 16) met)

-- Rule 5: each index block has the offset of its place.
abbrev pub offset_fault : Geometry → List Index → ℕ → ℕ → Option ℕ
offset_fault g indexes offset i = cond (nat_eq (slice_index_or indexes i no_index).offset offset) None (Some (index_block g i))

-- rule 5 for the index blocks of a file, of which the first has this offset
unfoldable pub offsets_fault : Geometry → List Index → ℕ → List ℕ → Option ℕ
offsets_fault g indexes offset [] = None
offsets_fault g indexes offset (i ∷ met) =
    least (offset_fault g indexes offset i) (offsets_fault g indexes (offset + 8192) met)

-- what the file of entry k adds to the faults of rules 4 and 5, and to the numbers met
abbrev pub file_fault_4 : Geometry → List Index → ℕ → Entry → Option ℕ
file_fault_4 g indexes k e = cond (entry_is_used e) (least (end_fault g k e (met_of g indexes e) (end_of_walk g indexes e)) (rows_fault g indexes (need_data e) (met_of g indexes e))) None

-- rule 5 for the file of an entry
abbrev pub file_fault_5 : Geometry → List Index → ℕ → Entry → Option ℕ
file_fault_5 g indexes k e = cond (entry_is_used e) (offsets_fault g indexes 0 (met_of g indexes e)) None

-- the data numbers of an index block
abbrev pub data_row : List Index → ℕ → List ℕ
data_row indexes i = (slice_index_or indexes i no_index).blocks

-- the index blocks that the walk of a file meets, and its end
abbrev pub file_index_numbers : Geometry → List Index → Entry → List ℕ
file_index_numbers g indexes e = cond (entry_is_used e) (met_of g indexes e ++ end_of_walk g indexes e ∷ []) []

-- the data numbers that the walk of a file meets
abbrev pub file_data_numbers : Geometry → List Index → Entry → List ℕ
file_data_numbers g indexes e = cond (entry_is_used e) (flat_map (data_row indexes) (met_of g indexes e)) []

-- the lowest fault of the entries, which are numbered from k on
unfoldable pub lowest_of : (ℕ → Entry → Option ℕ) → ℕ → List Entry → Option ℕ
lowest_of fault k [] = None
lowest_of fault k (e ∷ es) = least (fault k e) (lowest_of fault (suc k) es)

-- rule 4 for both free chains
abbrev pub free_fault : Geometry → Shape → Option ℕ
free_fault g d = least (free_data_fault g (free_data_of g d) (free_data_end g d)) (free_index_fault g (free_index_of g d) (free_index_end g d))

-- rule 4: the lowest block with a number that names no block that it may name
abbrev pub rule_4 : Geometry → Shape → Option ℕ
rule_4 g d = least (free_fault g d) (lowest_of (file_fault_4 g d.indexes) 0 d.entries)

-- rule 5: the lowest index block without the offset of its place
abbrev pub rule_5 : Geometry → Shape → Option ℕ
rule_5 g d = lowest_of (file_fault_5 g d.indexes) 0 d.entries

-- all numbers that walks met, and those that ended them
abbrev pub index_numbers : Geometry → Shape → List ℕ
index_numbers g d = (free_index_of g d ++ free_index_end g d ∷ []) ++ flat_map (file_index_numbers g d.indexes) d.entries

-- all data numbers that walks meet
abbrev pub data_numbers : Geometry → Shape → List ℕ
data_numbers g d = (free_data_of g d ++ free_data_end g d ∷ []) ++ flat_map (file_data_numbers g d.indexes) d.entries

-- Rules 6 and 7: each number is met once. Index blocks come before data blocks.
abbrev pub in_block : Geometry → Option ℕ → Option ℕ
in_block g None = None
in_block g (Some i) = Some (index_block g i)

-- the disk block of the lowest index block with a test, or else the lowest data block with another
abbrev pub first_block : Geometry → (ℕ → Bool) → (ℕ → Bool) → Option ℕ
first_block g index_test data_test = either (in_block g (lowest_from index_test 0 (index_count g))) (lowest_from data_test (first_data g) (g.blocks - first_data g))

-- rule 6: the first block that is met twice
abbrev pub rule_6 : Geometry → Shape → Option ℕ
rule_6 g d = first_block g (λ i. nat_le 2 (times_met i (index_numbers g d))) (λ b. nat_le 2 (times_met b (data_numbers g d)))

-- rule 7: the first block that isn't met
abbrev pub rule_7 : Geometry → Shape → Option ℕ
rule_7 g d = first_block g (λ i. nat_le (times_met i (index_numbers g d)) 0) (λ b. nat_le (times_met b (data_numbers g d)) 0)
