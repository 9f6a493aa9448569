use Rattle.std.proofs.Common.{◌≡◌, ◌≢◌, ◌∙◌, ℕ, [], ap, refl, rules, subst}
use Rattle.machine.specs.FileEffects.{ReactPrints}
use Rattle.xinu_base.specs.declared.events.Event.TheVariants.{Step}
use Rattle.xinu_base.specs.declared.processes.Rest.TheVariants.{Nothing}
use Rattle.xinu_base.specs.declared.registers.Outcome.{Outcome}
use Rattle.xinu_model.specs.Events.{stepped}
use Rattle.xinu_model.specs.Isa.Exec.{exec}
use Rattle.xinu_model.specs.Machine.{CallResult, current_hart, end_of_event, Xinu}
use Rattle.xinu_model.specs.Tables.{process_at}
use Rattle.machine.proofs.Closing.{effect_as}
use Rattle.machine.proofs.FirstCalls.{step_chosen}
use Rattle.machine.proofs.Happenings.{goes_on_later, none_chosen, nothing_printed, null_steps}
use Rattle.machine.proofs.events.step.Goals as goal

pub returns-then-eq-clause-effect : goal.returns-then-eq-clause-effect
returns-then-eq-clause-effect g c =
    let s = c.args.kernel.now.came.call.state in
    none_chosen s s Step _ _ _ _ _ _ (null_steps s (search rules)) (nothing_printed s c.args.out.now (g.H.Host.view c.args.host.now))

pub returns-then-not-is_done-clause-effect : goal.returns-then-not-is_done-clause-effect
returns-then-not-is_done-clause-effect g c =
    let s = c.args.kernel.now.came.call.state in
    let n : s.tables.current ≢ 0 = search rules in
    let w : (process_at s.tables s.tables.current).rest ≢ Nothing = search rules in
    let e = ap (λ (n : ℕ). end_of_event n [] c.go_on_core.new.self.came) c.current-current.ensures.current
    ∙ ap (λ (r : CallResult). end_of_event s.tables.current [] r) c.go_on_core.ensures.continued ∙ goes_on_later s n w in
    none_chosen s c.end_event.new.kernel.came.call.state Step (stepped s) c.end_event.result _ _ _ _ refl (effect_as _ (stepped s) _ _ _ _ _ _ e c.end_event.ensures.effect)

pub returns-clause-effect : goal.returns-clause-effect
returns-clause-effect g c =
    let s = c.args.kernel.now.came.call.state in
    let n : s.tables.current ≢ 0 = search rules in
    let done : (process_at s.tables s.tables.current).rest ≡ Nothing = search rules in
    let did = exec (current_hart s) s.memory in
    let P : Outcome → Xinu → Type 0
    = λ o u. ReactPrints o u c.react.new.kernel.came.call.state c.react.result c.args.out.now c.react.new.out (g.H.Host.view c.args.host.now)
    (g.H.Host.view c.react.new.host) in
    let by_outcome = subst (λ o. P o c.instruction-outcome.new.self.came.call.state) c.instruction-outcome.ensures.outcome c.react.ensures.effect in
    step_chosen s _ _ _ _ _ _ n done (subst (P did.outcome) (ap (λ (r : CallResult). r.call.state) c.instruction-outcome.ensures.state) by_outcome)
