use Rattle.std.proofs.Common.{◌≡◌, ◌∙◌, ◌==◌, ap, false, rules}
use Rattle.xinu_model.specs.Machine.{start}
use Rattle.xinu_model.specs.Process.Death.{killed}
use Rattle.xinu_model.specs.Tables.{is_free, state_at}
use Rattle.reference_calls.proofs.Made.{kill_other}
use Rattle.reference_calls.proofs.death.kill.Goals as goal

pub returns : goal.returns
returns c =
    let s = c.args.m.now.state in
    let begins : c.args.m.now ≡ start s = search rules in
    let is : c.in-Some.p ≡ c.args.word = search rules in
    let some : (c.args.word == 0) ≡ false = search rules in
    let lives : is_free (state_at s.tables c.args.word) ≡ false = search rules in
    let other : (c.args.word == s.tables.current) ≡ false = search rules in
    record {
      kill = kill_other c.args.word s c.args.m.now c.killed.new.m begins some lives other
          (c.in_ok-killed.ensures.killed ∙ ap (λ p. killed p c.args.m.now) is);
    }
