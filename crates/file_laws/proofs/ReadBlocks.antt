-- What a read finds: the index blocks of a file and its bytes.
use Rattle.std.proofs.Common.{◌≡◌, ℕ, zero, suc, ◌+◌, ◌-◌, ◌*◌, ◌/◌, ◌%◌, ◌<◌, ◌≤◌, true, List, [], ◌∷◌, ◌++◌, length, take, drop, sym, ap, ◌∙◌, arith, slice_index, length-drop}
use Rattle.std.specs.List.{flat_map}
use Rattle.std.proofs.lemmas.List.{drop-take, drop-drop, take-take, drop-append-le, take-append-le}
use Rattle.lfs_format.specs.Indexes.{index_at}
use Rattle.lfs_format.proofs.Joins.{drop_past}
use Rattle.lfs_check.specs.Rules.{block_in, entry_is_used}
use Rattle.lfs_check.specs.Geometries.{index_count}
use Rattle.lfs_check.specs.Laid.{Places, numbers_at, no_index, index_for, entry_in}
use Rattle.lfs_check.specs.Clean.{LaidIn}
use Rattle.lfs_check.specs.Fields.{index_in_bytes, fields_of}
use Rattle.lfs_check.proofs.Numbered.{numbered-at}
use Rattle.lfs_check.specs.Disks.{disk_geometry}
use Rattle.lfs_check.proofs.Writes.{index_read}

-- the index block j of a file, in its disk block
pub read_index_block : (n : ℕ) (disk : List ℕ) (p : Places) (slot j : ℕ) → LaidIn (disk_geometry n) (fields_of (disk_geometry n) disk) p
    → slot < length (fields_of (disk_geometry n) disk).entries
    → entry_is_used (entry_in (fields_of (disk_geometry n) disk) slot) ≡ true → j < length (numbers_at p.chains slot)
    → slice_index (numbers_at p.chains slot) j < index_count (disk_geometry n)
    → index_at (slice_index (numbers_at p.chains slot) j % 7) (block_in disk (6 + slice_index (numbers_at p.chains slot) j / 7))
    ≡ index_for j (numbers_at p.chains slot) (numbers_at p.datas slot)
read_index_block n disk p slot j l h u k below =
    let i = slice_index (numbers_at p.chains slot) j in
    sym (index_read n disk i) ∙ sym (numbered-at (index_in_bytes (disk_geometry n) disk) (index_count (disk_geometry n)) i no_index below)
    ∙ (l.file slot h u).each j k

-- the blocks of a list from block m on
flat_from : (f : ℕ → List ℕ) (xs : List ℕ) (m : ℕ) → ((j : ℕ) → j < length xs → length (f (slice_index xs j)) ≡ 512) → m < length xs
    → drop (512 * m) (flat_map f xs) ≡ f (slice_index xs m) ++ flat_map f (drop (suc m) xs)
flat_from f [] m all h = absurd (omega (arith, h))
flat_from f (x ∷ xs) zero all h = ap (λ k. drop k (f x ++ flat_map f xs)) (let e : 512 * 0 ≡ 0 = omega arith in e)
flat_from f (x ∷ xs) (suc m) all h =
    drop_past (f x) (flat_map f xs) 512 (512 * suc m) (512 * m) (all 0 (omega arith)) (omega arith)
    ∙ flat_from f xs m (λ j l. all (suc j) (omega (arith, l))) (omega (arith, h))

-- The bytes of a file from a place on, within one block.
pub bytes_in_block : (f : ℕ → List ℕ) (xs : List ℕ) (size q k : ℕ) → ((j : ℕ) → j < length xs → length (f (slice_index xs j)) ≡ 512)
    → q / 512 < length xs → q % 512 + k ≤ 512 → q + k ≤ size
    → take k (drop q (take size (flat_map f xs))) ≡ take k (drop (q % 512) (f (slice_index xs (q / 512))))
bytes_in_block f xs size q k all h fits within =
    let m = q / 512 in let r = q % 512 in
    let block = f (slice_index xs m) in
    let rest = flat_map f (drop (suc m) xs) in
    let long = all m h in
    let split : drop q (flat_map f xs) ≡ drop r block ++ rest =
    ap (λ j. drop j (flat_map f xs)) (let e : q ≡ 512 * m + r = omega arith in e) ∙ sym (drop-drop r (512 * m) (flat_map f xs))
    ∙ ap (drop r) (flat_from f xs m all h) ∙ drop-append-le r block rest (omega (arith, long)) in
    ap (λ j. take k (drop q (take j (flat_map f xs)))) (let e : size ≡ q + (size - q) = omega (arith, within) in e)
    ∙ ap (take k) (drop-take q (size - q) (flat_map f xs)) ∙ take-take k (size - q) (drop q (flat_map f xs)) (omega (arith, within))
    ∙ ap (take k) split ∙ take-append-le k (drop r block) rest (omega (arith, length-drop r block, long, fits))
