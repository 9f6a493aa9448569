use Rattle.std.proofs.Common.{◌≡◌, ℕ, ◌+◌, ◌-◌, ◌*◌, List, ◌++◌, length, drop, refl, sym, ap, ◌∙◌, arith, length-take, length-drop}
use Rattle.std.proofs.lemmas.List.{take_all}
use Rattle.std.proofs.lemmas.Slice.{take-put_mid}
use Rattle.lfs_format.specs.declared.Entry.{Entry}
use Rattle.lfs_format.specs.declared.Dir.{Dir}
use Rattle.lfs_format.specs.Directory.{dir_of}
use Rattle.lfs_check.specs.Rules.{block_in}
use Rattle.lfs_check.specs.Fields.{joined}
use Rattle.lfs_check.proofs.Numbered.{joined_none, joined_more}
use borrow.Rule.Slice.PartMut.{same_len_mid}
use Rattle.lfs_layout.proofs.listing.entries_in.Goals as goal

-- the entries of a directory block
abbrev entries_at : List ℕ → ℕ → List Entry
entries_at image d = (dir_of (block_in image d)).entries

pub loop-d-init : goal.loop-d-init
loop-d-init c = record { items = joined_none (entries_at c.args.image.now); len = refl }

pub loop-d-preserved : goal.loop-d-preserved
loop-d-preserved c =
    let image = c.args.image.now in let d = c.loop-d.d in let ys = c.copy_from_slice.new.self in let i = c.loop-d.invariant in
    let h = c.loop-d-test.true in let all = i.len in
    let mine : ys ≡ entries_at image d = c.copy_from_slice.ensures.after ∙ ap (λ (x : Dir). x.entries) (c.read_dir-dir.ensures ∙ ap dir_of c.block_at.ensures) in
    let len : length ys ≡ 13 = (let l = c.copy_from_slice.ensures.len in let t = length-take (13 * d + 13 - 13 * d) (drop (13 * d) c.loop-d.entries) in
    let e = length-drop (13 * d) c.loop-d.entries in omega (arith, l, t, e, h, all)) in
    record {
      items = take-put_mid (13 * d) (13 * d + 13 - 13 * d) c.loop-d.entries ys (13 * (d + 1)) (omega (arith, len)) (omega (arith, all, h))
          ∙ ap (λ xs. xs ++ ys) i.items ∙ ap (λ y. joined (entries_at image) d ++ y) mine ∙ sym (joined_more (entries_at image) d);
      len = same_len_mid (13 * d) (13 * d + 13 - 13 * d) c.loop-d.entries ys c.copy_from_slice.ensures.len ∙ all;
    }

pub returns : goal.returns
returns c =
    let i = c.loop-d.invariant in let all = i.len in
    let six : c.loop-d.d ≡ 6 = (let a = c.loop-d.auto.d-end in let b = c.loop-d-test.false in omega (arith, a, b)) in
    sym (take_all (13 * c.loop-d.d) c.loop-d.entries (omega (arith, all, six))) ∙ i.items ∙ ap (joined (entries_at c.args.image.now)) six
