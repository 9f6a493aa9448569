use Rattle.std.proofs.Common.{◌≡◌, ◌∙◌, ◌/◌, List, map, length, ap, refl, subst, IfOk}
use Rattle.files_c.specs.Judging.{judged}
use Rattle.files_c.proofs.Geometry.{geometry_is}
use Rattle.files_c.proofs.judging.judge.Goals as goal
use Rattle.lfs_check.specs.Fields.{directory_entries, geometry_of}
use Rattle.lfs_check.specs.declared.geometry.Geometry.{Geometry}
use Rattle.lfs_format.specs.declared.Entry.{Entry}
use Rattle.lfs_layout.specs.Files.{File, placed_files}
use Rattle.lfs_layout.specs.Images.{kept_files}

pub returns : goal.returns
returns c =
    let disk = c.args.disk.now in
    let texts = c.args.texts.now in
    let files = c.args.files.now in
    let kept : placed_files c.in-Ok-repair.repaired.image ≡ kept_files disk =
    ap placed_files c.in-Ok-repair.ensures.image.1 ∙ c.repaired_images_hold_the_kept_files.ensures.files disk c.in-Ok-repair.ensures.image.0 in
    let entries : c.deref.result.now ≡ directory_entries (geometry_of disk) disk =
    c.deref.ensures.value ∙ c.in-Ok.ensures.entries ∙ ap (λ (g : Geometry). directory_entries g disk) (geometry_is disk (length disk / 512) c.requires.disk refl) in
    record {
      judged = subst (λ (f : List File). IfOk c.judge_all.result (λ v. v.items ≡ map (judged f (directory_entries (geometry_of disk) disk) texts) files)) kept
          (subst (λ (es : List Entry). IfOk c.judge_all.result (λ v. v.items ≡ map (judged (placed_files c.in-Ok-repair.repaired.image) es texts) files)) entries
          c.judge_all.ensures.judged);
    }
