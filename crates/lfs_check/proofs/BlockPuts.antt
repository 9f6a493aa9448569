-- A block of a disk is written.
use Rattle.std.proofs.Common.{◌≡◌, ◌≢◌, ℕ, ◌+◌, ◌-◌, ◌*◌, ◌<◌, ◌≤◌, List, ◌++◌, length, take, drop, sym, ap, ◌∙◌, arith, length-append, length-take, length-drop, ⊎_elim}
use Rattle.std.proofs.lemmas.List.{drop_at, take_at, drop-drop, drop-append-le, take-append-le, take-take, drop-take}
use Rattle.std.proofs.lemmas.Bool.{cases_lt}
use Rattle.lfs_check.specs.Rules.{block_in}
use Rattle.lfs_check.specs.Disks.{block_put}
use Rattle.lfs_format.proofs.Joins.{drop_past}
use borrow.Rule.Slice.PartMut.{put_mid}

-- the disk has as many blocks
pub length_put : (disk : List ℕ) (n many : ℕ) (block : List ℕ) → length disk ≡ 512 * many → n < many → length block ≡ 512
    → length (block_put disk n block) ≡ length disk
unfolding block_put
length_put disk n many block l h b =
    let a = length-append (take (512 * n) disk) (block ++ drop (512 * n + 512) disk) in
    let c = length-append block (drop (512 * n + 512) disk) in
    omega (arith, a, c, length-take (512 * n) disk, length-drop (512 * n + 512) disk, l, h, b)

-- so many bytes come before the block
front : (disk : List ℕ) (n many : ℕ) → length disk ≡ 512 * many → n < many → length (take (512 * n) disk) ≡ 512 * n
front disk n many l h = omega (arith, length-take (512 * n) disk, l, h)

-- the block is the one that was written
pub put_same : (disk : List ℕ) (n many : ℕ) (block : List ℕ) → length disk ≡ 512 * many → n < many → length block ≡ 512
    → block_in (block_put disk n block) n ≡ block
unfolding block_put
put_same disk n many block l h b =
    ap (take 512) (drop_at (take (512 * n) disk) (block ++ drop (512 * n + 512) disk) (512 * n) (front disk n many l h))
    ∙ take_at block (drop (512 * n + 512) disk) 512 b

-- the bytes after the block stay
pub put_after : (disk : List ℕ) (n many : ℕ) (block : List ℕ) (k : ℕ) → length disk ≡ 512 * many → n < many → length block ≡ 512
    → drop (512 * n + 512 + k) (block_put disk n block) ≡ drop (512 * n + 512 + k) disk
unfolding block_put
put_after disk n many block k l h b =
    drop_past (take (512 * n) disk) (block ++ drop (512 * n + 512) disk) (512 * n) (512 * n + 512 + k) (512 + k) (front disk n many l h)
    (omega arith)
    ∙ drop_past block (drop (512 * n + 512) disk) 512 (512 + k) k b (omega arith) ∙ drop-drop k (512 * n + 512) disk

-- the other blocks stay
pub put_other : (disk : List ℕ) (n many : ℕ) (block : List ℕ) (m : ℕ) → length disk ≡ 512 * many → n < many → length block ≡ 512 → m ≢ n
    → block_in (block_put disk n block) m ≡ block_in disk m
unfolding block_put
put_other disk n many block m l h b ne =
    ⊎_elim
    (λ (lt : m < n). (let a = take (512 * n) disk in let rest = block ++ drop (512 * n + 512) disk in
    let f = front disk n many l h in
    ap (take 512) (drop-append-le (512 * m) a rest (omega (arith, f, lt)))
    ∙ take-append-le 512 (drop (512 * m) a) rest (omega (arith, length-drop (512 * m) a, f, lt))
    ∙ ap (λ k. take 512 (drop (512 * m) (take k disk))) (let e : 512 * n ≡ 512 * m + (512 * n - 512 * m) = omega (arith, lt) in e)
    ∙ ap (take 512) (drop-take (512 * m) (512 * n - 512 * m) disk)
    ∙ take-take 512 (512 * n - 512 * m) (drop (512 * m) disk) (omega (arith, lt))))
    (λ (ge : n ≤ m). ⊎_elim
    (λ (gt : n < m). (let e : 512 * m ≡ 512 * n + 512 + (512 * m - (512 * n + 512)) = omega (arith, gt) in
    ap (take 512) (ap (λ k. drop k (block_put disk n block)) e ∙ put_after disk n many block (512 * m - (512 * n + 512)) l h b
    ∙ ap (λ k. drop k disk) (sym e))))
    (λ (le : m ≤ n). absurd (ne (omega (arith, ge, le))))
    (cases_lt n m))
    (cases_lt m n)

-- the bytes from the block's first on become these
pub put_is : (disk block new : List ℕ) (n : ℕ) → new ≡ block → put_mid (512 * n) (512 * n + 512 - 512 * n) disk new ≡ block_put disk n block
unfolding block_put
put_is disk block new n e =
    ap (λ k. put_mid (512 * n) k disk new) (let q : 512 * n + 512 - 512 * n ≡ 512 = omega arith in q) ∙ ap (put_mid (512 * n) 512 disk) e
    ∙ ap (λ r. take (512 * n) disk ++ (block ++ r)) (drop-drop 512 (512 * n) disk)
