use Rattle.std.proofs.Common.{arith, ◌≡◌, ◌∙◌, true, ◌==◌, ℕ, List, sym, ap}
use Rattle.files_c.specs.Judging.{has_bytes, times_named}
use Rattle.files_c.proofs.Tests.{both_hold, test_holds}
use Rattle.files_c.proofs.judging.is_there.Goals as goal
use Rattle.lfs_layout.specs.Files.{found, is_text, padded_name, placed_files}

pub returns : goal.returns
returns c =
    let text = c.args.text.now in
    let name : is_text text ≡ true = sym c.if-not-is_file_name.ensures in
    let one : c.times_named.result ≡ 1 = omega (arith, c.if-times_named-ne1.false) in
    let times = test_holds (times_named (padded_name text) c.args.entries.now) 1
    (sym (ap (λ (n : List ℕ). times_named n c.args.entries.now) c.padded.ensures.padded) ∙ sym c.times_named.ensures.times ∙ one) in
    record {
      there = both_hold (is_text text) (times_named (padded_name text) c.args.entries.now == 1) (has_bytes (found text (placed_files c.args.image.now)) c.args.bytes.now)
          c.in_ok-same.same name times c.in_ok-same.ensures.same;
    }
