use Rattle.std.proofs.Common.{ℕ, [], ◌∷◌, ◌∙◌, ap, subst, sym}
use Rattle.xinu_base.specs.declared.lines.TranscriptLine.TheVariants as line
use Rattle.xinu_base.specs.declared.registers.Outcome.{Outcome}
use Rattle.xinu_base.specs.declared.registers.Outcome.TheVariants.{Exit, Trap, Went}
use Rattle.xinu_base.specs.declared.syscalls.Call as syscall
use Rattle.xinu_model.specs.Events.{reacted}
use Rattle.xinu_model.specs.Machine.{end_of_event, EventResult}
use Rattle.xinu_model.specs.Process.Death.{exit}
use Rattle.machine.specs.FileEffects.{ReactPrints}
use Rattle.machine.proofs.Closing.{effect_as}
use Rattle.machine.proofs.FirstCalls.{without_files}
use Rattle.machine.proofs.Happenings.{nothing_printed}
use Rattle.machine.proofs.events.react.Goals as goal

pub returns-in-Went-clause-effect : goal.returns-in-Went-clause-effect
returns-in-Went-clause-effect g c =
    let s = c.args.kernel.now.came.call.state in
    without_files c.args.outcome Went s s _ _ _ _ _ c.in-Went.is (nothing_printed s c.args.out.now (g.H.Host.view c.args.host.now))

pub returns-in-Call-clause-effect : goal.returns-in-Call-clause-effect
returns-in-Call-clause-effect g c =
    let s = c.args.kernel.now.came.call.state in
    let P : Outcome → Type 0
    = λ o. ReactPrints o s c.make_call.new.kernel.came.call.state c.make_call.result c.args.out.now c.make_call.new.out (g.H.Host.view c.args.host.now)
    (g.H.Host.view c.make_call.new.host) in
    subst P (sym c.in-Call.is) c.make_call.ensures.effect

pub returns-in-Exit-clause-effect : goal.returns-in-Exit-clause-effect
returns-in-Exit-clause-effect g c =
    let s = c.args.kernel.now.came.call.state in
    let dies : ℕ → syscall.Call → EventResult = λ p call. end_of_event s.tables.current (line.Call p (record call { number = 9 }) ∷ []) (exit s) in
    let e = ap (λ p. dies p c.call_of-call.result) c.current-current.ensures.current ∙ ap (dies s.tables.current) c.call_of-call.ensures.call in
    without_files c.args.outcome Exit s _ _ _ _ _ _ c.in-Exit.is (effect_as _ (reacted Exit s) _ _ _ _ _ _ e c.die.ensures.effect)

pub returns-in-Trap-clause-effect : goal.returns-in-Trap-clause-effect
returns-in-Trap-clause-effect g c =
    let s = c.args.kernel.now.came.call.state in
    let cause = c.in-Trap.cause in
    let e = ap (λ (p : ℕ). end_of_event s.tables.current (line.Trap p cause ∷ []) (exit s)) c.current-current.ensures.current in
    without_files c.args.outcome (Trap cause) s _ _ _ _ _ _ c.in-Trap.is (effect_as _ (reacted (Trap cause) s) _ _ _ _ _ _ e c.die-in-Trap.ensures.effect)
