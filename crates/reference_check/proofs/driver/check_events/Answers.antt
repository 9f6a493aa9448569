use Rattle.std.proofs.Common.{◌≡◌, ◌≤◌, ◌+◌, ◌-◌, ◌∷◌, ◌∙◌, ap, arith, length, rules, sym, List, Option}
use Rattle.xinu_base.specs.declared.events.End.{End}
use Rattle.xinu_base.specs.declared.events.Event.{Event}
use Rattle.xinu_model.specs.Events.{effect_of}
use Rattle.transcript_laws.specs.Choices.{told}
use Rattle.transcript_laws.specs.Reading.{accepts, accepts_after}
use Rattle.reference_check.specs.Taking.{Took}
use Rattle.reference_check.proofs.Along.{event_taken}
use Rattle.reference_check.proofs.Counts.{within_after, within_more}
use Rattle.reference_check.proofs.driver.check_events.Goals as goal

pub ends_with-requires : goal.ends_with-requires
ends_with-requires c =
    let s = c.loop-e.machine.state in
    let new = c.take_event.new.machine.state in
    let rest = c.loop-e.rest.now in
    let e = c.in-Some.e in
    let took : Took (effect_of s e (told s e rest)) rest c.in-Some-2.taken new = search rules in
    let n = 1000000000 - length c.loop-e.schedule in
    let within = within_after n s e (told s e rest) new took.state c.loop-e.invariant.3 in
    record { within = within_more (n + 1) 1000000001 new (omega arith) within }

pub loop-e-preserved : goal.loop-e-preserved
loop-e-preserved c =
    let s = c.loop-e.machine.state in
    let new = c.take_event.new.machine.state in
    let rest = c.loop-e.rest.now in
    let e = c.in-Some.e in
    let t = c.in-Some-2.taken in
    let events = c.next_event.new.self in
    let took : Took (effect_of s e (told s e rest)) rest t new = search rules in
    let listed : c.loop-e.schedule ≡ e ∷ events = search rules in
    let most = c.loop-e.invariant.2 in
    let shorter = ap (λ (l : List Event). length l) listed in
    let n = 1000000000 - length c.loop-e.schedule in
    let within = within_after n s e (told s e rest) new took.state c.loop-e.invariant.3 in
    let less : n + 1 ≤ 1000000000 - length events = omega (arith, most, shorter) in
    let ended = ap (λ (o : Option End). accepts_after o (λ more. accepts told new events more) new t.rest.now) c.in_default-end.is in (
      sym ended ∙ sym (event_taken told s e events rest t new took) ∙ sym (ap (λ (l : List Event). accepts told s l rest) listed)
          ∙ c.loop-e.invariant.0,
      (search rules),
      omega (arith, most, shorter),
      within_more (n + 1) (1000000000 - length events) new less within,
    )
