use Rattle.std.proofs.Common.{◌≡◌, ◌∙◌, ◌+◌, ◌*◌, ◌++◌, ◌∷◌, [], ap, sym, refl, take, drop, arith, ◌<◌, length, length-set}
use Rattle.std.proofs.lemmas.List.{take_more_set, take_all}
use Rattle.std.proofs.Math.Seq.{drop-drop}
use Rattle.lfs_format.specs.Words.{words_of}
use Rattle.lfs_format.proofs.Words.{words_of-read, words_of-take}
use Rattle.lfs_format.specs.Directory.{entry_of, dir_of, dir_made}
use Rattle.lfs_format.specs.Pieces.{pieces_of}
use Rattle.lfs_format.proofs.Entries.{entry_of-take, pieces_of-more}
use Rattle.lfs_format.proofs.dirs.read_dir.Goals as goal

pub loop-e-init : goal.loop-e-init
unfolding pieces_of
loop-e-init c = record { len = refl; front = refl }

pub loop-e-preserved : goal.loop-e-preserved
loop-e-preserved c =
    let b = c.args.block.now in
    let e = c.loop-e.e in
    let lt : e < length c.loop-e.entries = omega (arith, c.loop-e.invariant.len) in
    let one : c.entry_from.result ≡ entry_of (drop (36 * e) (drop 12 b)) = c.entry_from.ensures ∙ entry_of-take _ (drop (12 + 36 * e) b) (omega arith) ∙ ap entry_of (sym (drop-drop (36 * e) 12 b)) in
    record {
      len = length-set c.loop-e.entries e c.entry_from.result ∙ c.loop-e.invariant.len;
      front = take_more_set c.loop-e.entries e c.entry_from.result lt ∙ ap (λ x. x ++ c.entry_from.result ∷ []) c.loop-e.invariant.front
          ∙ ap (λ y. pieces_of entry_of 36 e (drop 12 b) ++ y ∷ []) one ∙ sym (pieces_of-more entry_of 36 e (drop 12 b));
    }

pub returns : goal.returns
unfolding dir_of
returns c =
    let b = c.args.block.now in
    let all : c.loop-e.entries ≡ pieces_of entry_of 36 13 (drop 12 b) =
    sym (take_all c.loop-e.e c.loop-e.entries (omega (arith, c.loop-e.invariant.len))) ∙ c.loop-e.invariant.front ∙ ap (λ n. pieces_of entry_of 36 n (drop 12 b)) (omega arith) in
    let w : c.read_u32_into.new.dst ≡ words_of 3 b = words_of-read 3 (take 12 b) c.read_u32_into.new.dst (omega arith) c.read_u32_into.ensures ∙ words_of-take 3 12 b (omega arith) in
    ap (λ ws. dir_made ws c.loop-e.entries) w ∙ ap (dir_made (words_of 3 b)) all
