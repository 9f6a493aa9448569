-- The judgements so far, and those on the files that are left.
use Rattle.std.proofs.Common.{◌≡◌, ◌++◌, drop, map}
use Rattle.files_c.specs.Judging.{judged}
use Rattle.lfs_layout.specs.Files.{placed_files}
use Rattle.files_c.proofs.judging.judge_all.Given as goal

abbrev pub invariant-loop-file : goal.invariant-loop-file
invariant-loop-file l =
    l.judged.items ++ map (judged (placed_files l.image) l.entries l.texts) (drop l.file-index l.files)
    ≡ map (judged (placed_files l.image) l.entries l.texts) l.files
