use Rattle.std.proofs.Common.{◌≡◌, ◌∙◌, ◌+◌, ◌-◌, ◌*◌, ◌++◌, take, drop, ap, sym, arith, length, length-take, length-drop, length-append, append_assoc}
use Rattle.std.proofs.lemmas.List.{drop-drop}
use Rattle.lfs_format.specs.Indexes.{index_at, index_of_words, index_words, index_bytes}
use Rattle.lfs_format.proofs.Words.{words_of-between, length-word_bytes}
use Rattle.lfs_format.proofs.IndexPuts.{index_is_put}
use borrow.Rule.Slice.PartMut.{put_mid}
use Rattle.lfs_format.proofs.indexes.write_index.Goals as goal

back : (c : goal.After-put_index) → index_at c.args.k
    (put_mid (72 * c.args.k) (72 * c.args.k + 72 - 72 * c.args.k) c.args.block.now c.put_index.new.part) ≡ c.args.index.now
back c =
    let b = c.args.block.now in
    let l : length (take (72 * c.args.k) b) ≡ 72 * c.args.k = omega (arith, length-take (72 * c.args.k) b) in
    rw c.put_index.ensures.bytes (ap index_of_words
    (words_of-between (index_words c.args.index.now) (take (72 * c.args.k) b) _ 18
    (72 * c.args.k) c.put_index.ensures.fits c.put_index.ensures.len l))

pub returns-clause-back : goal.returns-clause-back
returns-clause-back c = back c

pub returns-clause-put : goal.returns-clause-put
returns-clause-put c =
    let b = c.args.block.now in let k = c.args.k in let part = index_bytes c.args.index.now in
    let written : put_mid (72 * k) (72 * k + 72 - 72 * k) b c.put_index.new.part ≡ take (72 * k) b ++ part ++ drop (72 * k + 72) b =
    ap (put_mid (72 * k) (72 * k + 72 - 72 * k) b) c.put_index.ensures.bytes
    ∙ ap (λ n. take (72 * k) b ++ (part ++ drop n (drop (72 * k) b))) (let e : 72 * k + 72 - 72 * k ≡ 72 = omega arith in e)
    ∙ ap (λ x. take (72 * k) b ++ (part ++ x)) (drop-drop 72 (72 * k) b)
    ∙ sym (append_assoc (take (72 * k) b) part (drop (72 * k + 72) b)) in
    let wide = length-word_bytes (index_words c.args.index.now) in
    let long : length (put_mid (72 * k) (72 * k + 72 - 72 * k) b c.put_index.new.part) ≡ 512 = ap length written ∙
    (omega (
      arith,
      wide,
      c.put_index.ensures.len,
      length-append (take (72 * k) b ++ part) (drop (72 * k + 72) b),
      length-append
          (take (72 * k) b) part,
      length-take (72 * k) b,
      length-drop (72 * k + 72) b,
    )) in
    index_is_put b _ k c.args.index.now c.requires (omega arith) long written (back c)
