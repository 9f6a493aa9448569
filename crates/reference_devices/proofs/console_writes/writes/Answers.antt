use Rattle.std.proofs.Common.{◌≡◌, ◌∙◌, ◌+◌, ◌-◌, suc, ap, sym, rules, arith, true, false, if◌then◌else◌}
use Rattle.xinu_model.specs.Console.Putting as model
use Rattle.xinu_model.specs.Console.Taking.{span}
use Rattle.xinu_model.specs.Machine.{Xinu, CallResult, Waits}
use Rattle.reference_devices.specs.Steps.{writes_one}
use Rattle.reference_devices.proofs.console_writes.writes.Goals as goal

pub returns-then-not-branch : goal.returns-then-not-branch
returns-then-not-branch c =
    let want = c.args.done + c.args.left in
    let i = c.loop-i.i in
    let at = c.args.at in
    let n = want - (i + 1) in
    let rest : Xinu → CallResult = model.writes n at (suc i) in
    let s = c.loop-i.m.state in
    let m = c.write_next.new.m in
    let left : want - i ≡ suc n = omega (arith, c.loop-i-test.true) in
    let whole : i + suc n ≡ want = omega (arith, c.loop-i-test.true) in
    let stops : c.in_ok-write_next.field-0 ≡ false = search rules in
    let a = c.in_ok-write_next.ensures.writes rest in
    record {
      writes = sym (a ∙ ap (λ b. if b then rest m.state else record { call = m; answer = Waits }) stops)
          ∙ ap (λ k. writes_one (span at i k) rest s) (sym whole) ∙ ap (λ k. model.writes k at i s) (sym left) ∙ c.loop-i.invariant.1;
    }

pub loop-i-preserved : goal.loop-i-preserved
loop-i-preserved c =
    let want = c.args.done + c.args.left in
    let i = c.loop-i.i in
    let at = c.args.at in
    let n = want - (i + 1) in
    let rest : Xinu → CallResult = model.writes n at (suc i) in
    let s = c.loop-i.m.state in
    let m = c.write_next.new.m in
    let left : want - i ≡ suc n = omega (arith, c.loop-i-test.true) in
    let whole : i + suc n ≡ want = omega (arith, c.loop-i-test.true) in
    let goes : c.in_ok-write_next.field-0 ≡ true = search rules in
    let a = c.in_ok-write_next.ensures.writes rest in
    let next : suc i ≡ i + 1 = omega arith in (
      c.in_ok-write_next.ensures.start,
      ap (λ k. model.writes n at k m.state) (sym next)
          ∙ sym (a ∙ ap (λ b. if b then rest m.state else record { call = m; answer = Waits }) goes)
          ∙ ap (λ k. writes_one (span at i k) rest s) (sym whole) ∙ ap (λ k. model.writes k at i s) (sym left) ∙ c.loop-i.invariant.1,
    )
