-- One more process.
use Rattle.std.proofs.Common.{◌∙◌, ◌++◌, append-nil, ap, sym}
use Rattle.gdb_answers.proofs.Pushes.{both, threads_below-more}
use Rattle.gdb_answers.specs.Threads.{entry_if, is_thread, threads_below}
use Rattle.gdb_answers.proofs.threads.push_threads.Goals as goal

pub loop-number-init : goal.loop-number-init
unfolding threads_below
loop-number-init c = sym (append-nil c.args.text.now.items)

pub loop-number-preserved : goal.loop-number-preserved
loop-number-preserved c =
    let n = c.loop-number.number in
    let tables = c.args.tables.now in
    let t = c.args.text.now.items in
    let one = c.in_ok-push_if_thread.ensures.appended ∙ ap (λ p. c.loop-number.text.items ++ entry_if (is_thread tables p) tables p) c.at.ensures.number in
    both t (threads_below tables n) (entry_if (is_thread tables n) tables n) _ _ c.loop-number.invariant one
    ∙ ap (λ l. t ++ l) (sym (threads_below-more tables n))
