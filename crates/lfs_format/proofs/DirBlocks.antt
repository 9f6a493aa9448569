-- What a directory block begins and ends with.
use Rattle.std.proofs.Common.{◌≡◌, ℕ, suc, ◌*◌, ◌<◌, List, [], ◌∷◌, ◌++◌, length, get_or, take, drop, refl, ap, ◌∙◌, arith, append_assoc, length-append}
use Rattle.std.proofs.lemmas.List.{drop_at, take_at}
use Rattle.std.specs.List.{flat_map}
use Rattle.lfs_format.specs.declared.Entry.{Entry}
use Rattle.lfs_format.specs.declared.Dir.{Dir}
use Rattle.lfs_format.specs.Words.{word_bytes}
use Rattle.lfs_format.specs.Directory.{entry_bytes, dir_words, dir_bytes, dir_ending, EntryFits, void_entry}
use Rattle.lfs_format.proofs.Words.{length-word_bytes}
use Rattle.lfs_format.proofs.Entries.{length-entry_bytes}

-- each entry has 36 bytes
pub length_entries : (es : List Entry) → ((k : ℕ) → k < length es → EntryFits (get_or es k void_entry))
    → length (flat_map entry_bytes es) ≡ 36 * length es
length_entries [] all = refl
length_entries (e ∷ es) all =
    let i = length_entries es (λ j m. all (suc j) (omega (arith, m))) in let l = length-entry_bytes e (all 0 (omega arith)) in
    let a = length-append (entry_bytes e) (flat_map entry_bytes es) in omega (arith, i, l, a)

-- the bytes of a directory block are 512
pub length_dir_bytes : (dir : Dir) → length dir.entries ≡ 13 → ((k : ℕ) → k < 13 → EntryFits (get_or dir.entries k void_entry))
    → length (dir_bytes dir) ≡ 512
unfolding dir_bytes dir_ending
length_dir_bytes dir l all =
    let w = length-word_bytes (dir_words dir) in let e = length_entries dir.entries (λ k h. all k (omega (arith, h, l))) in
    let a = length-append (word_bytes (dir_words dir)) (flat_map entry_bytes dir.entries) in
    let b = length-append (word_bytes (dir_words dir) ++ flat_map entry_bytes dir.entries) dir_ending in
    omega (arith, w, e, a, b, l)

-- a directory block begins with its words
pub dir_bytes_begin : (dir : Dir) → take 12 (dir_bytes dir) ≡ word_bytes (dir_words dir)
unfolding dir_bytes
dir_bytes_begin dir =
    ap (take 12) (append_assoc (word_bytes (dir_words dir)) (flat_map entry_bytes dir.entries) dir_ending)
    ∙ take_at (word_bytes (dir_words dir)) (flat_map entry_bytes dir.entries ++ dir_ending) 12 (length-word_bytes (dir_words dir))

-- every directory block has the same 32 bytes at its end
pub dir_bytes_end : (dir : Dir) → length dir.entries ≡ 13 → ((k : ℕ) → k < 13 → EntryFits (get_or dir.entries k void_entry))
    → drop 480 (dir_bytes dir) ≡ dir_ending
unfolding dir_bytes
dir_bytes_end dir l all =
    let w = length-word_bytes (dir_words dir) in let e = length_entries dir.entries (λ k h. all k (omega (arith, h, l))) in
    let a = length-append (word_bytes (dir_words dir)) (flat_map entry_bytes dir.entries) in
    drop_at (word_bytes (dir_words dir) ++ flat_map entry_bytes dir.entries) dir_ending 480 (omega (arith, w, e, a, l))
