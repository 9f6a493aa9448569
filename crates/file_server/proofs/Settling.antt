-- A disk that differs in some blocks: one more is written, or one of them is copied, until there is no difference.
use Rattle.std.proofs.Common.{◌≡◌, ◌≢◌, ℕ, zero, suc, ◌+◌, ◌*◌, ◌<◌, ◌≤◌, List, [], ◌∷◌, ◌++◌, length, drop, refl, sym, ap, subst, ◌∙◌, arith, ⊎_elim, slice_index}
use Rattle.std.proofs.Math.Seq.{drop-cons}
use Rattle.std.proofs.lemmas.Bool.{cases_eq}
use Rattle.std.proofs.lemmas.List.{drop_all, drop-drop, take-append-drop}
use Rattle.file_server.specs.Settled.{DiffersIn, Follows}
use Rattle.file_server.proofs.Lists.{all_more, all_but_last}
use Rattle.lfs_check.specs.Disks.{block_put}
use Rattle.lfs_check.specs.Rules.{block_in}
use Rattle.lfs_check.proofs.BlockPuts.{length_put, put_other, put_same}
use Rattle.lfs_check.proofs.Directories.{length_block}

-- a disk from a block on begins with it
from_block : (disk : List ℕ) (m : ℕ) → drop (512 * m) disk ≡ block_in disk m ++ drop (512 * suc m) disk
from_block disk m =
    sym (take-append-drop 512 (drop (512 * m) disk))
    ∙ ap (λ r. block_in disk m ++ r) (drop-drop 512 (512 * m) disk ∙ ap (λ k. drop k disk) (let e : 512 * m + 512 ≡ 512 * suc m = omega arith in e))

-- so two with the same blocks are the same
same_from : (k m : ℕ) (a b : List ℕ) → length a ≡ 512 * (m + k) → length b ≡ 512 * (m + k)
    → ((j : ℕ) → block_in a j ≡ block_in b j) → drop (512 * m) a ≡ drop (512 * m) b
same_from zero m a b la lb same = drop_all (512 * m) a (omega (arith, la)) ∙ sym (drop_all (512 * m) b (omega (arith, lb)))
same_from (suc k) m a b la lb same =
    from_block a m ∙ ap (λ x. x ++ drop (512 * suc m) a) (same m)
    ∙ ap (λ r. block_in b m ++ r) (same_from k (suc m) a b (omega (arith, la)) (omega (arith, lb)) same) ∙ sym (from_block b m)

pub none_left : (base disk : List ℕ) → DiffersIn [] base disk → base ≡ disk
none_left base disk d =
    let b = d.base_long in let l = d.long in
    same_from d.many 0 base disk (omega (arith, b)) (omega (arith, l)) (λ j. sym (d.others j tt))

-- one of them is copied
pub one_less : (n : ℕ) (rest base disk : List ℕ) → DiffersIn (n ∷ rest) base disk
    → DiffersIn rest (block_put base n (block_in disk n)) disk
one_less n rest base disk d =
    let block = block_in disk n in
    let many = d.many in
    let below = d.within.0 in
    let long = length_block disk many n d.long below in
    record {
      many = many;
      base_long = length_put base n many block d.base_long below long ∙ d.base_long;
      long = d.long;
      within = d.within.1;
      others = λ m not. ⊎_elim
          (λ (e : n ≡ m). (let P : ℕ → Type 0 = λ k. block_in disk k ≡ block_in (block_put base n block) k in
          subst P e (sym (put_same base n many block d.base_long below long))))
          (λ (ne : n ≡ m → ⊥). d.others m (ne, not) ∙ sym (put_other base n many block m d.base_long below long (λ e. ne (sym e))))
          (cases_eq n m);
    }

-- the next one of a list is copied
pub next_left : (i : ℕ) (blocks base disk : List ℕ) → i < length blocks → DiffersIn (drop i blocks) base disk
    → DiffersIn (drop (i + 1) blocks) (block_put base (slice_index blocks i) (block_in disk (slice_index blocks i))) disk
next_left i blocks base disk h d =
    let P : List ℕ → Type 0 = λ l. DiffersIn l base disk in
    let Q : ℕ → Type 0 = λ k. DiffersIn (drop k blocks) (block_put base (slice_index blocks i) (block_in disk (slice_index blocks i))) disk in
    let next : suc i ≡ i + 1 = omega arith in
    subst Q next (one_less (slice_index blocks i) (drop (suc i) blocks) base disk (subst P (drop-cons blocks i 0 h) d))

-- one more is written
pub one_more : (n : ℕ) (blocks base disk block : List ℕ) → DiffersIn blocks base disk → 512 * n + 512 ≤ length disk → length block ≡ 512
    → DiffersIn (blocks ++ n ∷ []) base (block_put disk n block)
one_more n blocks base disk block d fits wide =
    let many = d.many in
    let l = d.long in
    let below : n < many = omega (arith, fits, l) in
    record {
      many = many;
      base_long = d.base_long;
      long = length_put disk n many block l below wide ∙ l;
      within = all_more (λ (k : ℕ). k < many) blocks n d.within below;
      others = λ m not. (let parts = all_but_last (λ (k : ℕ). k ≢ m) blocks n not in
          put_other disk n many block m l below wide (λ e. parts.1 (sym e)) ∙ d.others m parts.0);
    }

-- no block was written
pub no_difference : (many : ℕ) (base disk written : List ℕ) → length disk ≡ 512 * many → base ≡ disk → written ≡ []
    → Follows written base disk
no_difference many base disk written long same none =
    let P : List ℕ → Type 0 = λ l. Follows l base disk in
    let Q : List ℕ → Type 0 = λ b. Follows [] b disk in
    subst P (sym none) (subst Q (sym same)
    (record { differs = λ few. (let d : DiffersIn [] disk disk = record { many = many; base_long = long; long = long; within = tt; others = λ m not. refl } in d) }))
