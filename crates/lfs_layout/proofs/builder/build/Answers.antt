use Rattle.std.proofs.Common.{◌≡◌, ◌++◌, length, ap, ◌∙◌, arith, append_assoc, List, ℕ}
use Rattle.lfs_format.specs.declared.Entry.{Entry}
use Rattle.lfs_format.specs.declared.Index.{Index}
use Rattle.lfs_format.specs.Directory.{dir_bytes}
use Rattle.lfs_check.specs.declared.fields.Header.{Header}
use Rattle.lfs_check.specs.Geometries.{index_disks}
use Rattle.lfs_check.specs.Fields.{joined}
use Rattle.lfs_layout.specs.Made.{all_files, all_data, header_for, dir_for, dirs_bytes, indexes_bytes, image_with, index_disk, geometry_2}
use Rattle.lfs_layout.proofs.MadeParts.{length_all_indexes}
use Rattle.lfs_layout.proofs.builder.build.Goals as goal

pub add_disks-requires : goal.add_disks-requires
add_disks-requires c =
    let l = length_all_indexes (geometry_2 c.args.blocks) (all_files c.args.files.now) c.requires.index_room in
    let e = ap length (c.deref-2.ensures.value ∙ c.in_ok-indexes.ensures) in
    omega (arith, l, e)

pub returns : goal.returns
unfolding image_with
returns c =
    let g = geometry_2 c.args.blocks in let L = all_files c.args.files.now in
    let dirs : Header → List Entry → List ℕ = λ h es. joined (λ d. dir_bytes (dir_for h es d)) 6 in
    let disks : List Index → List ℕ = λ ixs. joined (index_disk ixs) (index_disks g) in
    let one : c.add_dirs.new.image.items ≡ dirs_bytes g L =
    c.in_ok-add_dirs.ensures ∙ ap (λ xs. xs ++ dirs c.make_header-header.result c.deref.result.now) c.new-image.ensures.items
    ∙ ap (λ h. dirs h c.deref.result.now) c.make_header-header.ensures ∙ ap (dirs (header_for g L)) (c.deref.ensures.value ∙ c.in_ok-entries.ensures.items) in
    let two : c.add_disks.new.image.items ≡ dirs_bytes g L ++ indexes_bytes g L =
    c.in_ok-add_disks.ensures ∙ ap (λ xs. xs ++ disks c.deref-2.result.now) one ∙ ap (λ ixs. dirs_bytes g L ++ disks ixs) (c.deref-2.ensures.value ∙ c.in_ok-indexes.ensures) in
    c.in_ok-add_data.ensures ∙ ap (λ xs. xs ++ all_data g L) two ∙ append_assoc (dirs_bytes g L) (indexes_bytes g L) (all_data g L)
