-- Whole blocks of the bytes of a disk.
use Rattle.std.proofs.Common.{◌≡◌, ℕ, ◌+◌, ◌*◌, ◌/◌, ◌%◌, ◌<◌, ◌≤◌, true, List, ◌++◌, length, get_or, set, take, drop, sym, ap, ◌∙◌, arith, length-append, length-drop}
use Rattle.std.proofs.lemmas.Bool.Decides.{nat_tests}
use Rattle.std.proofs.lemmas.List.{drop-drop, length-take-le, take_all}
use Rattle.std.specs.List.{concat}
use Rattle.std.specs.Simd.{first_chunks}
use Rattle.disk_driver.proofs.Chunks.{length_chunks, chunk_at, chunks_changed, chunks_joined}
use Rattle.lfs_layout.specs.Images.{blocks_of, is_raw}

-- the bytes of a disk are whole blocks
whole : (bytes : List ℕ) → is_raw bytes ≡ true → length bytes % 512 ≡ 0
whole bytes raw = grind (arith, nat_tests)

-- the bytes of a block
pub block_is : (bytes : List ℕ) (blocks : List (List ℕ)) (n k : ℕ) (d : List ℕ) → blocks_of bytes ≡ blocks → n < length blocks → k ≡ 512 →
    take k (drop (512 * n) bytes) ≡ get_or blocks n d
block_is bytes blocks n k d is h e =
    let l = length_chunks 512 (length bytes / 512) bytes in
    let i : n < length bytes / 512 = omega (arith, l, ap length is) in
    ap (λ m. take m (drop (512 * n) bytes)) e ∙ sym (chunk_at 512 (length bytes / 512) bytes n d i) ∙ ap (λ bs. get_or bs n d) is

-- bytes in the place of a block: how many there are
length_changed : (bytes : List ℕ) (n k : ℕ) (b : List ℕ) → 512 * n + 512 ≤ length bytes → length b ≡ 512 → k ≡ 512 →
    length (take (512 * n) bytes ++ (b ++ drop k (drop (512 * n) bytes))) ≡ length bytes
length_changed bytes n k b h e f =
    let t : length (take (512 * n) bytes) ≡ 512 * n = length-take-le (512 * n) bytes (omega arith) in
    let d : length (drop k (drop (512 * n) bytes)) + (512 * n + 512) ≡ length bytes
    = omega (arith, length-drop k (drop (512 * n) bytes), length-drop (512 * n) bytes) in
    omega (arith, length-append (take (512 * n) bytes) (b ++ drop k (drop (512 * n) bytes)), length-append b (drop k (drop (512 * n) bytes)), t, d)

-- 512 bytes in the place of a block
pub block_set : (bytes : List ℕ) (n k : ℕ) (b : List ℕ) → is_raw bytes ≡ true → n < length (blocks_of bytes) → length b ≡ 512 → k ≡ 512 →
    blocks_of (take (512 * n) bytes ++ (b ++ drop k (drop (512 * n) bytes))) ≡ set (blocks_of bytes) n b
block_set bytes n k b raw h e f =
    let l = length_chunks 512 (length bytes / 512) bytes in
    let w = whole bytes raw in
    let i : n < length bytes / 512 = omega (arith, l) in
    let new : List ℕ = take (512 * n) bytes ++ (b ++ drop k (drop (512 * n) bytes)) in
    let m : length new ≡ length bytes = length_changed bytes n k b (omega (arith, i, w)) e f in
    let s : drop k (drop (512 * n) bytes) ≡ drop (512 * n + 512) bytes = drop-drop k (512 * n) bytes ∙ ap (λ x. drop (512 * n + x) bytes) f in
    ap (λ x. first_chunks 512 (x / 512) new) m
    ∙ ap (λ r. first_chunks 512 (length bytes / 512) (take (512 * n) bytes ++ (b ++ r))) s
    ∙ chunks_changed 512 (length bytes / 512) bytes n b e i (omega (arith, w))

-- the blocks joined are all bytes
pub blocks_joined : (bytes : List ℕ) → is_raw bytes ≡ true → concat (blocks_of bytes) ≡ bytes
blocks_joined bytes raw =
    let w = whole bytes raw in
    chunks_joined 512 (length bytes / 512) bytes ∙ take_all (512 * (length bytes / 512)) bytes (omega (arith, w))
