use Rattle.std.proofs.Common.{◌≡◌, ◌+◌, ◌<◌, ℕ, List, [], length, count_by, cond, nat_eq, ap, sym, ◌∙◌, subst, arith}
use Rattle.lfs_format.specs.declared.Index.{Index}
use Rattle.lfs_check.specs.declared.geometry.Geometry.{Geometry}
use Rattle.lfs_check.specs.Geometries.{index_count}
use Rattle.lfs_check.specs.Rules.{entry_is_used}
use Rattle.lfs_check.specs.Checks.{data_row}
use Rattle.lfs_check.specs.Fields.{geometry_of, fields_of, directory_entries}
use Rattle.lfs_check.specs.Kept.{kept_entries}
use Rattle.lfs_check.proofs.Images.{fields_shape}
use Rattle.lfs_layout.specs.Files.{File, files_in}
use Rattle.lfs_layout.specs.Made.{all_files, image_with, Room}
use Rattle.lfs_layout.specs.Images.{IsCleanImage, kept_files, repaired_blocks}
use Rattle.lfs_layout.proofs.MadeClean.{made_clean}
use Rattle.lfs_layout.proofs.KeptFiles.{kept_few}
use Rattle.lfs_layout.proofs.Repairs.{repaired_room, repaired_names, blocks_are, kept_most}
use Rattle.lfs_layout.proofs.mend.rebuild.Goals as goal

pub kept_entries-requires : goal.kept_entries-requires
kept_entries-requires c =
    let P : List Index → Type 0 = λ ix. (i : ℕ) → i < index_count c.args.geometry → length (data_row ix i) ≡ 16 in
    record { rows = subst P (sym (c.as_slice.ensures.value ∙ c.in_ok-indexes.ensures.items)) (fields_shape c.args.geometry c.args.bytes.now).rows }

pub build-requires : goal.build-requires
build-requires c =
    let image = c.args.bytes.now in let g = c.args.geometry in
    let kept_is : c.in_ok-entries.entries.items ≡ kept_entries (geometry_of image) (fields_of (geometry_of image) image).indexes (directory_entries (geometry_of image) image) =
    c.in_ok-entries.ensures ∙ ap (λ ix. kept_entries g ix c.deref-2.result.now) (c.as_slice.ensures.value ∙ c.in_ok-indexes.ensures.items)
    ∙ ap (λ es. kept_entries g (fields_of g image).indexes es) (c.deref-2.ensures.value ∙ c.in_ok-directory.ensures.entries)
    ∙ ap (λ h. kept_entries h (fields_of h image).indexes (directory_entries h image)) c.requires.geometry in
    let files_is : all_files c.deref-4.result.now ≡ kept_files image =
    ap all_files c.deref-4.ensures.value ∙ c.in_ok-files.ensures ∙ ap (λ ix. files_in g ix image c.deref-3.result.now) (c.as_slice.ensures.value ∙ c.in_ok-indexes.ensures.items)
    ∙ ap (λ es. files_in g (fields_of g image).indexes image es) (c.deref-3.ensures.value ∙ kept_is)
    ∙ ap (λ h. files_in h (fields_of h image).indexes image (kept_entries (geometry_of image) (fields_of (geometry_of image) image).indexes (directory_entries (geometry_of image) image))) c.requires.geometry in
    let many : c.repaired_blocks.result ≡ repaired_blocks image = c.repaired_blocks.ensures ∙ ap (λ (h : Geometry). h.blocks + cond (nat_eq h.dirs 6) 0 6) c.requires.geometry ∙ blocks_are image in
    let P : List File → Type 0 = λ fs. Room c.repaired_blocks.result fs in
    let Q : ℕ → Type 0 = λ n. Room n (kept_files image) in
    subst P (sym files_is) (subst Q (sym many) (repaired_room image c.requires.size))

pub made-requires : goal.made-requires
made-requires c =
    let image = c.args.bytes.now in let g = c.args.geometry in
    let kept_is : c.in_ok-entries.entries.items ≡ kept_entries (geometry_of image) (fields_of (geometry_of image) image).indexes (directory_entries (geometry_of image) image) =
    c.in_ok-entries.ensures ∙ ap (λ ix. kept_entries g ix c.deref-2.result.now) (c.as_slice.ensures.value ∙ c.in_ok-indexes.ensures.items)
    ∙ ap (λ es. kept_entries g (fields_of g image).indexes es) (c.deref-2.ensures.value ∙ c.in_ok-directory.ensures.entries)
    ∙ ap (λ h. kept_entries h (fields_of h image).indexes (directory_entries h image)) c.requires.geometry in
    let files_is : all_files c.deref-4.result.now ≡ kept_files image =
    ap all_files c.deref-4.ensures.value ∙ c.in_ok-files.ensures ∙ ap (λ ix. files_in g ix image c.deref-3.result.now) (c.as_slice.ensures.value ∙ c.in_ok-indexes.ensures.items)
    ∙ ap (λ es. files_in g (fields_of g image).indexes image es) (c.deref-3.ensures.value ∙ kept_is)
    ∙ ap (λ h. files_in h (fields_of h image).indexes image (kept_entries (geometry_of image) (fields_of (geometry_of image) image).indexes (directory_entries (geometry_of image) image))) c.requires.geometry in
    let many : c.repaired_blocks.result ≡ repaired_blocks image = c.repaired_blocks.ensures ∙ ap (λ (h : Geometry). h.blocks + cond (nat_eq h.dirs 6) 0 6) c.requires.geometry ∙ blocks_are image in
    let made : c.in_ok-image.image.items ≡ image_with (repaired_blocks image) (kept_files image) =
    c.in_ok-image.ensures ∙ ap (λ n. image_with n (all_files c.deref-4.result.now)) many ∙ ap (image_with (repaired_blocks image)) files_is in
    let P : List ℕ → Type 0 = λ im. IsCleanImage im in
    subst P (sym made) (made_clean (repaired_blocks image) (kept_files image) (repaired_room image c.requires.size) (repaired_names image))

pub overflow_cast-result : goal.overflow_cast-result
overflow_cast-result c =
    let image = c.args.bytes.now in let g = c.args.geometry in
    let kept_is : c.in_ok-entries.entries.items ≡ kept_entries (geometry_of image) (fields_of (geometry_of image) image).indexes (directory_entries (geometry_of image) image) =
    c.in_ok-entries.ensures ∙ ap (λ ix. kept_entries g ix c.deref-2.result.now) (c.as_slice.ensures.value ∙ c.in_ok-indexes.ensures.items)
    ∙ ap (λ es. kept_entries g (fields_of g image).indexes es) (c.deref-2.ensures.value ∙ c.in_ok-directory.ensures.entries)
    ∙ ap (λ h. kept_entries h (fields_of h image).indexes (directory_entries h image)) c.requires.geometry in
    let l = ap length kept_is in let n = c.len-kept.ensures in let v = c.in_ok-entries.entries.ok in
    let few = c.in_ok-directory.ensures.few in let d = ap length (c.in_ok-directory.ensures.entries ∙ ap (λ h. directory_entries h image) c.requires.geometry) in
    let k = kept_few (geometry_of image) (fields_of (geometry_of image) image).indexes (directory_entries (geometry_of image) image) [] (directory_entries (geometry_of image) image) in
    omega (arith, l, n, v, few, d, k)

pub overflow_sub-result : goal.overflow_sub-result
overflow_sub-result c =
    let image = c.args.bytes.now in let g = c.args.geometry in
    let kept_is : c.in_ok-entries.entries.items ≡ kept_entries (geometry_of image) (fields_of (geometry_of image) image).indexes (directory_entries (geometry_of image) image) =
    c.in_ok-entries.ensures ∙ ap (λ ix. kept_entries g ix c.deref-2.result.now) (c.as_slice.ensures.value ∙ c.in_ok-indexes.ensures.items)
    ∙ ap (λ es. kept_entries g (fields_of g image).indexes es) (c.deref-2.ensures.value ∙ c.in_ok-directory.ensures.entries)
    ∙ ap (λ h. kept_entries h (fields_of h image).indexes (directory_entries h image)) c.requires.geometry in
    let l = ap length kept_is in let n = c.len-kept.ensures in let v = c.in_ok-entries.entries.ok in
    let u = c.used_count-used.ensures ∙ ap (count_by entry_is_used) (c.deref-5.ensures.value ∙ c.in_ok-directory.ensures.entries ∙ ap (λ h. directory_entries h image) c.requires.geometry) in
    let k = kept_most (geometry_of image) (fields_of (geometry_of image) image).indexes (directory_entries (geometry_of image) image) in
    omega (arith, l, n, v, u, k)

pub returns-clause-image : goal.returns-clause-image
returns-clause-image c =
    let image = c.args.bytes.now in let g = c.args.geometry in
    let kept_is : c.in_ok-entries.entries.items ≡ kept_entries (geometry_of image) (fields_of (geometry_of image) image).indexes (directory_entries (geometry_of image) image) =
    c.in_ok-entries.ensures ∙ ap (λ ix. kept_entries g ix c.deref-2.result.now) (c.as_slice.ensures.value ∙ c.in_ok-indexes.ensures.items)
    ∙ ap (λ es. kept_entries g (fields_of g image).indexes es) (c.deref-2.ensures.value ∙ c.in_ok-directory.ensures.entries)
    ∙ ap (λ h. kept_entries h (fields_of h image).indexes (directory_entries h image)) c.requires.geometry in
    let files_is : all_files c.deref-4.result.now ≡ kept_files image =
    ap all_files c.deref-4.ensures.value ∙ c.in_ok-files.ensures ∙ ap (λ ix. files_in g ix image c.deref-3.result.now) (c.as_slice.ensures.value ∙ c.in_ok-indexes.ensures.items)
    ∙ ap (λ es. files_in g (fields_of g image).indexes image es) (c.deref-3.ensures.value ∙ kept_is)
    ∙ ap (λ h. files_in h (fields_of h image).indexes image (kept_entries (geometry_of image) (fields_of (geometry_of image) image).indexes (directory_entries (geometry_of image) image))) c.requires.geometry in
    let many : c.repaired_blocks.result ≡ repaired_blocks image = c.repaired_blocks.ensures ∙ ap (λ (h : Geometry). h.blocks + cond (nat_eq h.dirs 6) 0 6) c.requires.geometry ∙ blocks_are image in
    let made : c.in_ok-image.image.items ≡ image_with (repaired_blocks image) (kept_files image) =
    c.in_ok-image.ensures ∙ ap (λ n. image_with n (all_files c.deref-4.result.now)) many ∙ ap (image_with (repaired_blocks image)) files_is in
    c.made.ensures ∙ made

pub returns-clause-kept : goal.returns-clause-kept
returns-clause-kept c =
    let image = c.args.bytes.now in let g = c.args.geometry in
    let kept_is : c.in_ok-entries.entries.items ≡ kept_entries (geometry_of image) (fields_of (geometry_of image) image).indexes (directory_entries (geometry_of image) image) =
    c.in_ok-entries.ensures ∙ ap (λ ix. kept_entries g ix c.deref-2.result.now) (c.as_slice.ensures.value ∙ c.in_ok-indexes.ensures.items)
    ∙ ap (λ es. kept_entries g (fields_of g image).indexes es) (c.deref-2.ensures.value ∙ c.in_ok-directory.ensures.entries)
    ∙ ap (λ h. kept_entries h (fields_of h image).indexes (directory_entries h image)) c.requires.geometry in
    let l = ap length kept_is in let n = c.len-kept.ensures in omega (arith, l, n)

pub returns-clause-dropped : goal.returns-clause-dropped
returns-clause-dropped c =
    let image = c.args.bytes.now in let g = c.args.geometry in
    let kept_is : c.in_ok-entries.entries.items ≡ kept_entries (geometry_of image) (fields_of (geometry_of image) image).indexes (directory_entries (geometry_of image) image) =
    c.in_ok-entries.ensures ∙ ap (λ ix. kept_entries g ix c.deref-2.result.now) (c.as_slice.ensures.value ∙ c.in_ok-indexes.ensures.items)
    ∙ ap (λ es. kept_entries g (fields_of g image).indexes es) (c.deref-2.ensures.value ∙ c.in_ok-directory.ensures.entries)
    ∙ ap (λ h. kept_entries h (fields_of h image).indexes (directory_entries h image)) c.requires.geometry in
    let l = ap length kept_is in let n = c.len-kept.ensures in let v = c.in_ok-entries.entries.ok in
    let u = c.used_count-used.ensures ∙ ap (count_by entry_is_used) (c.deref-5.ensures.value ∙ c.in_ok-directory.ensures.entries ∙ ap (λ h. directory_entries h image) c.requires.geometry) in
    let k = kept_most (geometry_of image) (fields_of (geometry_of image) image).indexes (directory_entries (geometry_of image) image) in
    omega (arith, l, n, v, u, k)
