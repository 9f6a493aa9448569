-- An index block is written into its disk block.
use Rattle.std.proofs.Common.{◌≡◌, ◌≢◌, ℕ, ◌+◌, ◌-◌, ◌*◌, ◌<◌, ◌≤◌, List, ◌++◌, length, take, drop, refl, sym, ap, ◌∙◌, arith, length-append, length-take, length-drop, append_assoc, ⊎_elim}
use Rattle.std.proofs.lemmas.List.{drop-drop, drop-take, take-take, drop-append-le, take-append-le}
use Rattle.std.proofs.lemmas.Bool.{cases_lt}
use Rattle.lfs_format.specs.declared.Index.{Index}
use Rattle.lfs_format.specs.Indexes.{index_at, index_of_words, index_bytes, IsIndexPut}
use Rattle.lfs_format.specs.Words.{words_of}
use Rattle.lfs_format.proofs.Words.{words_of-take}
use Rattle.lfs_format.proofs.Joins.{drop_past}

-- the bytes of another index block stay
other_bytes : (old part : List ℕ) (k m : ℕ) → length old ≡ 512 → length part ≡ 72 → k < 7 → m < 7 → m ≢ k
    → take 72 (drop (72 * m) (take (72 * k) old ++ (part ++ drop (72 * k + 72) old))) ≡ take 72 (drop (72 * m) old)
other_bytes old part k m l w hk hm ne =
    let a = take (72 * k) old in let rest = part ++ drop (72 * k + 72) old in
    let front : length a ≡ 72 * k = omega (arith, length-take (72 * k) old, l, hk) in
    ⊎_elim
    (λ (lt : m < k). (ap (take 72) (drop-append-le (72 * m) a rest (omega (arith, front, lt)))
    ∙ take-append-le 72 (drop (72 * m) a) rest (omega (arith, length-drop (72 * m) a, front, lt))
    ∙ ap (λ j. take 72 (drop (72 * m) (take j old))) (let e : 72 * k ≡ 72 * m + (72 * k - 72 * m) = omega (arith, lt) in e)
    ∙ ap (take 72) (drop-take (72 * m) (72 * k - 72 * m) old) ∙ take-take 72 (72 * k - 72 * m) (drop (72 * m) old) (omega (arith, lt))))
    (λ (ge : k ≤ m). ⊎_elim
    (λ (gt : k < m). (let j = 72 * m - (72 * k + 72) in
    ap (take 72) (drop_past a rest (72 * k) (72 * m) (72 + j) front (omega (arith, gt))
    ∙ drop_past part (drop (72 * k + 72) old) 72 (72 + j) j w refl
    ∙ drop-drop j (72 * k + 72) old ∙ ap (λ i. drop i old) (let e : 72 * k + 72 + j ≡ 72 * m = omega (arith, gt) in e))))
    (λ (le : m ≤ k). absurd (ne (omega (arith, ge, le))))
    (cases_lt k m))
    (cases_lt m k)

-- the 72 bytes of one index block are written, and the other six stay
pub index_is_put : (old new : List ℕ) (k : ℕ) (index : Index) → k < 7 → length old ≡ 512 → length new ≡ 512
    → new ≡ take (72 * k) old ++ index_bytes index ++ drop (72 * k + 72) old → index_at k new ≡ index → IsIndexPut old k index new
index_is_put old new k index h l w bytes back =
    let part = index_bytes index in
    let whole : new ≡ take (72 * k) old ++ (part ++ drop (72 * k + 72) old) = bytes
    ∙ append_assoc (take (72 * k) old) part (drop (72 * k + 72) old) in
    let all = ap length whole in
    let one = length-append (take (72 * k) old) (part ++ drop (72 * k + 72) old) in let two = length-append part (drop (72 * k + 72) old) in
    let wide : length part ≡ 72 = omega (arith, all, one, two, w, l, h, length-take (72 * k) old, length-drop (72 * k + 72) old) in
    record {
      long = w;
      here = back;
      there = λ m hm ne. ap index_of_words (sym (words_of-take 18 72 (drop (72 * m) new) (omega arith))
          ∙ ap (words_of 18) (ap (λ x. take 72 (drop (72 * m) x)) whole ∙ other_bytes old part k m l wide h hm ne)
          ∙ words_of-take 18 72 (drop (72 * m) old) (omega arith));
    }
