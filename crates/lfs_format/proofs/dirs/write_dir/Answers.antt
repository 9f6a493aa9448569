use Rattle.std.proofs.Common.{ℕ, ◌≡◌, ◌∙◌, ◌+◌, ◌*◌, ap, sym, take, drop, arith, ◌-◌, ◌<◌, length, get_or, below_more}
use Rattle.std.proofs.lemmas.List.{take_at, append-nil}
use Rattle.lfs_format.specs.Words.{word_bytes}
use Rattle.lfs_format.proofs.Words.{length-word_bytes}
use Rattle.lfs_format.specs.Directory.{dir_words, dir_bytes, dir_of, dir_ending, EntryFits, void_entry}
use Rattle.lfs_format.proofs.Entries.{length-entry_bytes, dir_of-bytes, written_more, written_all, length-put}
use Rattle.lfs_format.proofs.DirBlocks.{length_dir_bytes, dir_bytes_begin, dir_bytes_end}
use borrow.Rule.Slice.PartMut.{put_mid}
use Rattle.lfs_format.proofs.dirs.write_dir.Goals as goal

pub loop-e-init : goal.loop-e-init
loop-e-init c =
    let front = word_bytes (dir_words c.args.dir.now) in
    let twelve : length c.put_words.new.part ≡ 12 = ap length c.put_words.ensures.bytes ∙ length-word_bytes (dir_words c.args.dir.now) in
    record {
      len = length-put 0 12 c.args.block.now c.put_words.new.part twelve (omega (arith, c.told-block)) ∙ c.told-block;
      front = take_at c.put_words.new.part (drop 12 c.args.block.now) 12 twelve ∙ c.put_words.ensures.bytes ∙ sym (append-nil front);
      fits = λ k h. absurd (omega arith);
    }

pub loop-e-preserved : goal.loop-e-preserved
loop-e-preserved c =
    let i = c.loop-e.invariant in
    let e = c.loop-e.e in
    let lt : e < length c.args.dir.now.entries = omega (arith, c.put_words.ensures.len) in
    let part = c.put_entry.new.part in
    let fits : EntryFits (get_or c.args.dir.now.entries e void_entry) =
    record { size = c.put_entry.ensures.words 0; first = c.put_entry.ensures.words 1; name = c.put_entry.ensures.name } in
    let len : length part ≡ 36 = ap length c.put_entry.ensures.bytes
    ∙ length-entry_bytes (get_or c.args.dir.now.entries e void_entry) fits in
    let k : (48 + 36 * e) - (12 + 36 * e) ≡ 36 = omega arith in
    record {
      len = ap (λ n. length (put_mid (12 + 36 * e) n c.loop-e.block part)) k
          ∙ length-put (12 + 36 * e) 36 c.loop-e.block part len (omega (arith, i.len)) ∙ i.len;
      front = ap (λ n. take (12 + 36 * (e + 1)) (put_mid (12 + 36 * e) n c.loop-e.block part)) k
          ∙ written_more (word_bytes (dir_words c.args.dir.now)) c.loop-e.block part c.args.dir.now.entries e lt
          (omega (arith, i.len)) c.put_entry.ensures.bytes len i.front;
      fits = below_more _ _ i.fits fits;
    }

written : (c : goal.After-put_ending) → put_mid 480 32 c.loop-e.block c.put_ending.new.part ≡ dir_bytes c.args.dir.now
unfolding dir_bytes
written c =
    written_all (word_bytes (dir_words c.args.dir.now)) c.loop-e.block c.put_ending.new.part dir_ending c.args.dir.now.entries c.loop-e.e c.loop-e.invariant.len (omega arith) c.put_words.ensures.len
    c.put_ending.ensures c.loop-e.invariant.front

pub returns-clause-bytes : goal.returns-clause-bytes
returns-clause-bytes c = written c

fits : (c : goal.After-put_ending) → (k : ℕ) → k < 13 → EntryFits (get_or c.args.dir.now.entries k void_entry)
fits c k h = c.loop-e.invariant.fits k (omega (arith, h))

back : (c : goal.After-put_ending) → dir_of (put_mid 480 32 c.loop-e.block c.put_ending.new.part) ≡ c.args.dir.now
back c =
    let f = c.put_words.ensures.fits in
    ap dir_of (written c) ∙ dir_of-bytes c.args.dir.now (f 0) (f 1) (f 2) c.put_words.ensures.len (fits c)

pub returns-clause-back : goal.returns-clause-back
returns-clause-back c = back c

pub returns-clause-block : goal.returns-clause-block
returns-clause-block c = record {
  long = ap length (written c) ∙ length_dir_bytes c.args.dir.now c.put_words.ensures.len (fits c);
  is = back c;
  begins = ap (take 12) (written c) ∙ dir_bytes_begin c.args.dir.now;
  ends = ap (drop 480) (written c) ∙ dir_bytes_end c.args.dir.now c.put_words.ensures.len (fits c);
}
