use Rattle.std.proofs.Common.{◌≡◌, ◌≤◌, ◌+◌, ◌-◌, [], ◌∷◌, ◌∙◌, ap, arith, length, refl, rules, subst, List, Option, ℕ}
use Rattle.xinu_base.specs.declared.events.End.{End}
use Rattle.xinu_base.specs.declared.events.End.TheVariants.{Schedule}
use Rattle.xinu_base.specs.declared.events.Event.{Event}
use Rattle.xinu_model.specs.Events.{effect_of}
use Rattle.transcript_laws.specs.Choices.{told}
use Rattle.reference_check.proofs.Counts.{within_after, within_more}
use Rattle.trace_places.specs.Places.{mistake_after, mistake_from}
use Rattle.trace_places.specs.Reading.{TookSo}
use Rattle.trace_places.proofs.LinesRead.{event_read, found_if}
use Rattle.trace_places.proofs.Moments.{Came, came_many, came_more, came_none, ended_all, ended_with, found_at_end, in_event}
use Rattle.trace_places.proofs.walk.mistake_from.Goals as goal

pub loop-event-init : goal.loop-event-init
loop-event-init c = (
  refl,
  c.requires.idle,
  c.requires.most,
  within_more 0 (1000000000 - length c.args.schedule.now) c.args.machine.now.state (omega arith) c.requires.within,
  came_none c.args.machine.now.state c.args.schedule.now c.args.text.now,
)

pub mistake_at_end-requires : goal.mistake_at_end-requires
mistake_at_end-requires c =
    let s = c.loop-event.machine.state in
    let new = c.take_event.new.machine.state in
    let rest = c.loop-event.rest.now in
    let e = c.in-Some.event in
    let took : TookSo (effect_of s e (told s e rest)) rest c.in_ok-taken.taken c.take_event.new.due new = search rules in
    let n = 1000000000 - length c.loop-event.schedule in
    let within = within_after n s e (told s e rest) new took.state c.loop-event.invariant.3 in
    record { within = within_more (n + 1) 1000000001 new (omega arith) within }

pub returns-in-Some-due-clause-when : goal.returns-in-Some-due-clause-when
returns-in-Some-due-clause-when c =
    let first = c.args.machine.now.state in
    let all = c.args.schedule.now in
    let bytes = c.args.text.now in
    let s = c.loop-event.machine.state in
    let new = c.take_event.new.machine.state in
    let rest = c.loop-event.rest.now in
    let e = c.in-Some.event in
    let t = c.in_ok-taken.taken in
    let events = c.next_event.new.self in
    let n = c.loop-event.number in
    let took : TookSo (effect_of s e (told s e rest)) rest t c.take_event.new.due new = search rules in
    let listed : c.loop-event.schedule ≡ e ∷ events = search rules in
    let came : Came first all bytes n s (e ∷ events) rest = subst (λ (l : List Event). Came first all bytes n s l rest) listed c.loop-event.invariant.4 in
    let many = came_many first all bytes n s (e ∷ events) rest came in
    let most = c.requires.most in
    in_event first s new all events bytes rest n e t c.take_event.new.due c.in-Some-due.due c.saturating_add-number.result c.current-process.result came
    c.loop-event.invariant.3.sound took c.in-Some-due.is (omega (arith, many, most)) c.current-process.ensures.current

pub returns-in-Some-end : goal.returns-in-Some-end
returns-in-Some-end c =
    let first = c.args.machine.now.state in
    let all = c.args.schedule.now in
    let bytes = c.args.text.now in
    let s = c.loop-event.machine.state in
    let new = c.take_event.new.machine.state in
    let rest = c.loop-event.rest.now in
    let e = c.in-Some.event in
    let t = c.in_ok-taken.taken in
    let events = c.next_event.new.self in
    let n = c.loop-event.number in
    let end = c.in-Some-end.end in
    let took : TookSo (effect_of s e (told s e rest)) rest t c.take_event.new.due new = search rules in
    let listed : c.loop-event.schedule ≡ e ∷ events = search rules in
    let same = c.loop-event.invariant.0 ∙ ap (λ (l : List Event). mistake_from s l rest) listed
    ∙ event_read s new e events rest t c.take_event.new.due took c.in_default-due.is
    ∙ ap (λ (o : Option End). mistake_after o (λ y. mistake_from new events y) new t.rest.now) c.in-Some-end.is in
    let came : Came first all bytes n s (e ∷ events) rest = subst (λ (l : List Event). Came first all bytes n s l rest) listed c.loop-event.invariant.4 in
    let ended = ended_with first s new all events bytes rest n e t c.take_event.new.due end came c.loop-event.invariant.3.sound took
    c.in_default-due.is c.in-Some-end.is in
    record {
      finds = found_if _ _ c.mistake_at_end.result same c.mistake_at_end.ensures.finds;
      when = found_at_end first new all bytes t.rest.now end c.mistake_at_end.result ended c.mistake_at_end.ensures.finds c.mistake_at_end.ensures.end;
    }

pub loop-event-preserved : goal.loop-event-preserved
loop-event-preserved c =
    let first = c.args.machine.now.state in
    let all = c.args.schedule.now in
    let bytes = c.args.text.now in
    let s = c.loop-event.machine.state in
    let new = c.take_event.new.machine.state in
    let rest = c.loop-event.rest.now in
    let e = c.in-Some.event in
    let t = c.in_ok-taken.taken in
    let events = c.next_event.new.self in
    let n = c.loop-event.number in
    let took : TookSo (effect_of s e (told s e rest)) rest t c.take_event.new.due new = search rules in
    let listed : c.loop-event.schedule ≡ e ∷ events = search rules in
    let most = c.loop-event.invariant.2 in
    let shorter = ap (λ (l : List Event). length l) listed in
    let left = 1000000000 - length c.loop-event.schedule in
    let within = within_after left s e (told s e rest) new took.state c.loop-event.invariant.3 in
    let less : left + 1 ≤ 1000000000 - length events = omega (arith, most, shorter) in
    let came : Came first all bytes n s (e ∷ events) rest = subst (λ (l : List Event). Came first all bytes n s l rest) listed c.loop-event.invariant.4 in
    let many = came_many first all bytes n s (e ∷ events) rest came in
    let few = c.requires.most in
    let next : n + 1 ≡ c.saturating_add-number.result = omega (arith, many, few) in
    let more = came_more first s new all events bytes rest n e t c.take_event.new.due came c.loop-event.invariant.3.sound took c.in_default-due.is
    c.in_default-end.is in (
      c.loop-event.invariant.0 ∙ ap (λ (l : List Event). mistake_from s l rest) listed
          ∙ event_read s new e events rest t c.take_event.new.due took c.in_default-due.is
          ∙ ap (λ (o : Option End). mistake_after o (λ y. mistake_from new events y) new t.rest.now) c.in_default-end.is,
      (search rules),
      omega (arith, most, shorter),
      within_more (left + 1) (1000000000 - length events) new less within,
      subst (λ (k : ℕ). Came first all bytes k new events t.rest.now) next more,
    )

pub returns-clause-when : goal.returns-clause-when
returns-clause-when c =
    let first = c.args.machine.now.state in
    let all = c.args.schedule.now in
    let bytes = c.args.text.now in
    let s = c.loop-event.machine.state in
    let rest = c.loop-event.rest.now in
    let n = c.loop-event.number in
    let none : c.loop-event.schedule ≡ [] = search rules in
    let came : Came first all bytes n s [] rest = subst (λ (l : List Event). Came first all bytes n s l rest) none c.loop-event.invariant.4 in
    let ended = ended_all first s all bytes rest n came in
    found_at_end first s all bytes rest Schedule c.mistake_at_end-2.result ended c.mistake_at_end-2.ensures.finds c.mistake_at_end-2.ensures.end
