use Rattle.std.proofs.Common.{◌≡◌, ap, sym, ◌∙◌, None}
use Rattle.std.proofs.lemmas.Result.{MatchResult-weaker}
use Rattle.lfs_check.specs.Faults.{fault}
use Rattle.lfs_layout.specs.Files.{files_of}
use Rattle.lfs_layout.proofs.MadeClean.{opened_files}
use Rattle.lfs_layout.proofs.clean_image.CleanImage.new.Goals as goal

pub returns-clause-image : goal.returns-clause-image
returns-clause-image c =
    let clean : fault c.args.bytes.items ≡ None = sym (ap fault c.deref.ensures.value) ∙ c.in_ok-_report.ensures.0 in
    MatchResult-weaker c.open.result c.open.ensures.image (λ x h. (clean, h)) (λ e h. h)

pub returns-clause-files : goal.returns-clause-files
returns-clause-files c =
    let clean : fault c.args.bytes.items ≡ None = sym (ap fault c.deref.ensures.value) ∙ c.in_ok-_report.ensures.0 in
    MatchResult-weaker c.open.result c.open.ensures.image (λ x h. ap files_of h ∙ opened_files c.args.bytes.items clean) (λ y q. tt)
