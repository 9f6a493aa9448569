use Rattle.std.proofs.Common.{◌≡◌, ◌∙◌, ℕ, ap, rules, w32}
use Rattle.std.proofs.lemmas.Int.{to_z-of_z}
use mir.Val.{SFits, of_z, to_z}
use Rattle.queue_table.specs.Table.{lists}
use Rattle.process_core.specs.Tables.{tables_of, wake_tick}
use Rattle.xinu_model.specs.Tables.{InSleepers, message_at, move_to, Nowhere, process_at, Tables}
use Rattle.kernel_tables.proofs.Running.{current_listed, current_of, moved_on}
use Rattle.kernel_tables.proofs.current.sleep_current.Goals as goal

pub returns-clause-sleeps : goal.returns-clause-sleeps
returns-clause-sleeps c b =
    let f : SFits w32 c.args.delay = search rules in
    let ls = lists c.args.lists.now in
    let s = c.args.procs.now in
    let t = tables_of ls s b in
    let x = record (process_at t t.current) { state = c.args.state; rest = c.args.rest } in
    let u = move_to t.current x (message_at t t.current) Nowhere t in
    let d = to_z w32 (of_z w32 c.args.delay) in
    let F : Tables → ℕ → Tables = λ u p. move_to p (process_at u p) (message_at u p) (InSleepers (wake_tick b.ticks d)) u in
    let p = c.current-current.result in
    let is : p ≡ t.current = current_of ls s b p (c.current-current.ensures.current ∙ c.block_current.ensures.same) in
    c.sleep_for.ensures.sleeps c.block_current.new.procs b
    ∙ ap (λ u. F u p) (c.block_current.ensures.blocked ls b c.requires.fits)
    ∙ ap (F u) is
    ∙ moved_on t x (InSleepers (wake_tick b.ticks d)) (current_listed ls s b c.requires.runs)
    ∙ ap (λ z. move_to t.current x (message_at t t.current) (InSleepers (wake_tick b.ticks z)) t) (to_z-of_z w32 c.args.delay f)
