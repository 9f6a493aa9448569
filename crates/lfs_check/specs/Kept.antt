-- Which files of a disk with faults are kept.
use Rattle.std.specs.Prelude.{ℕ, Bool, true, false, cond, not, ◌&&◌, nat_eq, List, [], ◌∷◌, ◌++◌, length, slice_index, Option, Some, None, bytes_eq}
use Rattle.std.specs.List.{flat_map, list_all, list_any}
use Rattle.lfs_format.specs.declared.Entry.{Entry}
use Rattle.lfs_format.specs.declared.Index.{Index}
use Rattle.lfs_check.specs.declared.geometry.Geometry.{Geometry}
use Rattle.lfs_check.specs.Rules.{entry_is_used, is_name, is_larger, has_name}
use Rattle.lfs_check.specs.Geometries.{longest_name, room}
use Rattle.lfs_check.specs.Meets.{null, times_met}
use Rattle.lfs_check.specs.Checks.{met_of, end_of_walk, need_index, need_data, rows_fault, offsets_fault}
use Rattle.lfs_check.specs.Clean.{chain_in, data_in}

-- whether there is no block
abbrev pub is_none : Option ℕ → Bool
is_none None = true
is_none (Some a) = false

-- whether each number is in the list once
abbrev pub stand_once : List ℕ → List ℕ → Bool
stand_once xs all = list_all (λ n. nat_eq (times_met n all) 1) xs

-- an entry with a name and a size that can be
abbrev pub has_sound_fields : Geometry → Entry → Bool
has_sound_fields g e = entry_is_used e && is_name (longest_name g) e.name && not (is_larger (room g) e)

-- an entry with exactly the index blocks of its size in its chain, which ends with null, and the right offset and numbers in each
abbrev pub has_sound_walk : Geometry → List Index → Entry → Bool
has_sound_walk g indexes e =
    nat_eq (length (met_of g indexes e)) (need_index e) && nat_eq (end_of_walk g indexes e) null
    && is_none (rows_fault g indexes (need_data e) (met_of g indexes e)) && is_none (offsets_fault g indexes 0 (met_of g indexes e))

-- a sound entry has sound fields and a sound walk
abbrev pub is_sound : Geometry → List Index → Entry → Bool
is_sound g indexes e = has_sound_fields g e && has_sound_walk g indexes e

-- a whole entry is sound, and no data block is met twice in it
abbrev pub is_whole : Geometry → List Index → Entry → Bool
is_whole g indexes e = is_sound g indexes e && stand_once (data_in g indexes e) (data_in g indexes e)

-- the blocks of all whole entries
abbrev pub whole_chains : Geometry → List Index → List Entry → List ℕ
whole_chains g indexes es = flat_map (λ e. cond (is_whole g indexes e) (chain_in g indexes e) []) es

-- the data blocks of all whole entries
abbrev pub whole_datas : Geometry → List Index → List Entry → List ℕ
whole_datas g indexes es = flat_map (λ e. cond (is_whole g indexes e) (data_in g indexes e) []) es

-- whether a whole entry before has the name
abbrev pub is_hidden : Geometry → List Index → List Entry → Entry → Bool
is_hidden g indexes before e = list_any (λ f. is_whole g indexes f && bytes_eq f.name e.name) before

-- a whole entry is kept if no lower whole entry has its name and it shares no block with another whole entry
abbrev pub is_kept : Geometry → List Index → List Entry → List Entry → Entry → Bool
is_kept g indexes es before e =
    is_whole g indexes e && not (is_hidden g indexes before e)
    && stand_once (chain_in g indexes e) (whole_chains g indexes es) && stand_once (data_in g indexes e) (whole_datas g indexes es)

-- the kept entries, in their order
abbrev pub kept_from : Geometry → List Index → List Entry → List Entry → List Entry → List Entry
kept_from g indexes es before [] = []
kept_from g indexes es before (e ∷ rest) = cond (is_kept g indexes es before e) (e ∷ kept_from g indexes es (before ++ e ∷ []) rest) (kept_from g indexes es (before ++ e ∷ []) rest)

-- all kept entries, in their order
abbrev pub kept_entries : Geometry → List Index → List Entry → List Entry
kept_entries g indexes es = kept_from g indexes es [] es

-- the whole entries, in their order
abbrev pub whole_entries : Geometry → List Index → List Entry → List Entry
whole_entries g indexes [] = []
whole_entries g indexes (e ∷ es) = cond (is_whole g indexes e) (e ∷ whole_entries g indexes es) (whole_entries g indexes es)

-- the same by counts of the blocks
abbrev pub counted_once : List ℕ → List ℕ → Bool
counted_once xs counts = list_all (λ n. nat_eq (slice_index counts n) 1) xs

-- the kept entries by the counts of their blocks, without those whose name an earlier one has
abbrev pub kept_counted : Geometry → List Index → List ℕ → List ℕ → List Entry → List Entry → List Entry
kept_counted g indexes chains datas before [] = []
kept_counted g indexes chains datas before (e ∷ es) =
    cond (not (has_name before e.name) && counted_once (chain_in g indexes e) chains && counted_once (data_in g indexes e) datas)
    (e ∷ kept_counted g indexes chains datas (before ++ e ∷ []) es) (kept_counted g indexes chains datas (before ++ e ∷ []) es)
