use Rattle.std.proofs.Common.{◌≢◌, rules, sym}
use Rattle.machine.proofs.Lives.{current_lives}
use Rattle.machine.proofs.machine.is_over.Goals as goal

pub returns-then-ne : goal.returns-then-ne
returns-then-ne c =
    let s = c.args.k.now.call.state in
    let n : s.tables.current ≢ 0 = search rules in
    record { over = sym (current_lives s c.requires.sound n) }
