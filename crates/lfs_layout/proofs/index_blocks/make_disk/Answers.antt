use Rattle.std.proofs.Common.{◌+◌, ◌*◌, get_or, drop, length, ap, sym, ◌∙◌, arith, length-drop}
use Rattle.std.proofs.lemmas.List.{get_or-drop}
use Rattle.lfs_check.specs.Laid.{no_index}
use Rattle.lfs_layout.proofs.FilesRead.{disk_more, disk_all}
use Rattle.lfs_layout.proofs.index_blocks.make_disk.Goals as goal

pub loop-k-preserved : goal.loop-k-preserved
loop-k-preserved c =
    let ys = drop (7 * c.args.d) c.args.indexes.now in
    let l = length-drop (7 * c.args.d) c.args.indexes.now in
    let y = get_or c.args.indexes.now (7 * c.args.d + c.loop-k.k) no_index in
    let p = disk_more ys c.loop-k.k c.loop-k.block y (omega (arith, l, c.requires)) (omega arith) (get_or-drop (7 * c.args.d) c.args.indexes.now c.loop-k.k no_index) c.loop-k.invariant.bytes c.loop-k.invariant.front
    (sym (ap length c.write_index.ensures.bytes) ∙ c.write_index.array_long) in
    record { bytes = c.write_index.ensures.bytes ∙ p.0; front = p.1 }

pub returns : goal.returns
returns c = disk_all (drop (7 * c.args.d) c.args.indexes.now) c.loop-k.k c.loop-k.block (omega arith) c.loop-k.invariant.bytes
