-- Three pieces.
use Rattle.std.proofs.Common.{ℕ, List, ◌∙◌, ◌++◌, ap}
use Rattle.std.specs.Prelude.{codes}
use Rattle.gdb_answers.proofs.Pushes.{both}
use Rattle.gdb_answers.specs.Threads.{threads_below}
use Rattle.gdb_answers.proofs.threads.thread_list.Goals as goal

pub returns : goal.returns
returns c =
    let head : List ℕ = codes "<?xml version='1.0'?><threads>" in
    let threads = threads_below c.args.tables.now 64 in
    let t = c.new-text.result.items in
    let two = both t head threads _ _ c.in_ok-extend_from_slice.ensures.items c.in_ok-push_threads.ensures.appended in
    let three = both t (head ++ threads) (codes "</threads>") _ _ two c.in_ok-extend_from_slice-2.ensures.items in
    record { list = three ∙ ap (λ l. l ++ (head ++ threads ++ codes "</threads>")) c.new-text.ensures.items }
