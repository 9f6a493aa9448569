use Rattle.std.proofs.Common.{arith, ◌≡◌, ◌∙◌, false, true, ◌==◌, sym, ap, ℕ, List}
use Rattle.files_c.specs.Judging.{holds_file, holds_none}
use Rattle.files_c.specs.Spans.{is_span, span}
use Rattle.files_c.proofs.Tests.{test_fails, two_hold}
use Rattle.files_c.proofs.judging.is_held.Goals as goal
use Rattle.lfs_layout.specs.Files.{placed_files}

pub returns : goal.returns
returns c =
    let texts = c.args.texts.now in
    let f = c.args.file in
    let kept = placed_files c.args.image.now in
    let entries = c.args.entries.now in
    let name : is_span texts f.name f.name_bytes ≡ true = sym c.if-not-is_span.ensures.span in
    let bytes : is_span texts f.at f.bytes ≡ true = sym c.if-not-is_span-2.ensures.span in
    let exists : (f.exists == 0) ≡ false = test_fails f.exists 0 (λ z. absurd (omega (arith, z, c.if-file-eq0.false))) in
    record {
      holds = two_hold (is_span texts f.name f.name_bytes) (is_span texts f.at f.bytes) (f.exists == 0)
          (holds_none entries (span texts f.name f.name_bytes)) (holds_file kept entries (span texts f.name f.name_bytes) (span texts f.at f.bytes))
          c.in_ok-there.there name bytes exists
          (c.in_ok-there.ensures.there ∙ ap (λ (t : List ℕ). holds_file kept entries t c.span-bytes.result.now) c.span-text.ensures.bytes
          ∙ ap (λ (b : List ℕ). holds_file kept entries (span texts f.name f.name_bytes) b) c.span-bytes.ensures.bytes);
    }
