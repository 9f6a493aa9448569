-- Nothing is noted at the beginning, and then one event more.
use Rattle.std.proofs.Common.{refl, sym, subst}
use Rattle.explain_command.proofs.Ended.{ended_all}
use Rattle.explain_command.proofs.Passed.{lived_next, lived_none, noted_after, noted_none, refused_after, refused_none}
use Rattle.explain_command.proofs.SameInputs.{inputs_again}
use Rattle.explain_command.specs.Passing.{HasNoted}
use Rattle.memory_strays.specs.Strays.{Noted}
use Rattle.explain_command.proofs.running.take_events.Goals as goal

pub loop-event-init : goal.loop-event-init
loop-event-init c =
    let r = c.args.replay.now in (
      subst (λ (x : Noted). HasNoted r r x) (sym c.requires.none) (noted_none r c.requires.begins),
      refused_none r _ c.requires.begins c.requires.no_refusal,
      lived_none r _ c.requires.begins c.requires.first,
      record { same_disks = refl; same_files = refl; same_events = refl },
      c.requires.goes_on,
    )

pub loop-event-preserved : goal.loop-event-preserved
loop-event-preserved c = (
  noted_after c.args.replay.now c.loop-event.replay c.take_event.new.replay c.in-Some.event c.loop-event.strays c.note.new.strays
      c.loop-event.invariant.0 c.in-Some.ensures.next c.note.ensures.notes c.in_ok-go.ensures.takes,
  refused_after c.args.replay.now c.loop-event.replay c.take_event.new.replay c.in-Some.event c.loop-event.refused c.note_refused.new.refused
      c.loop-event.invariant.1 c.in-Some.ensures.next c.in_ok-note_refused.ensures.noted c.in_ok-go.ensures.takes,
  lived_next c.args.replay.now c.loop-event.replay c.take_event.new.replay c.loop-event.lives c.note_lives.new.lives
      c.loop-event.invariant.2 c.in_ok-go.ensures.takes c.note_lives.ensures.noted,
  inputs_again c.args.replay.now c.loop-event.replay c.take_event.new.replay c.loop-event.invariant.3 c.in_ok-go.ensures.inputs,
  rw c.in-Goes.is at c.in_ok-go.ensures.ends,
)

pub returns-in-Done : goal.returns-in-Done
returns-in-Done c = record {
  strays =
      noted_after c.args.replay.now c.loop-event.replay c.take_event.new.replay c.in-Some.event c.loop-event.strays c.note.new.strays
      c.loop-event.invariant.0 c.in-Some.ensures.next c.note.ensures.notes c.in_ok-go.ensures.takes;
  refusals =
      refused_after c.args.replay.now c.loop-event.replay c.take_event.new.replay c.in-Some.event c.loop-event.refused c.note_refused.new.refused
      c.loop-event.invariant.1 c.in-Some.ensures.next c.in_ok-note_refused.ensures.noted c.in_ok-go.ensures.takes;
  lived = lived_next c.args.replay.now c.loop-event.replay c.take_event.new.replay c.loop-event.lives c.note_lives.new.lives
      c.loop-event.invariant.2 c.in_ok-go.ensures.takes c.note_lives.ensures.noted;
  inputs = inputs_again c.args.replay.now c.loop-event.replay c.take_event.new.replay c.loop-event.invariant.3 c.in_ok-go.ensures.inputs;
  ended = rw c.in-Done.is at c.in_ok-go.ensures.ends;
}

pub returns-in-Panic : goal.returns-in-Panic
returns-in-Panic c = record {
  strays =
      noted_after c.args.replay.now c.loop-event.replay c.take_event.new.replay c.in-Some.event c.loop-event.strays c.note.new.strays
      c.loop-event.invariant.0 c.in-Some.ensures.next c.note.ensures.notes c.in_ok-go.ensures.takes;
  refusals =
      refused_after c.args.replay.now c.loop-event.replay c.take_event.new.replay c.in-Some.event c.loop-event.refused c.note_refused.new.refused
      c.loop-event.invariant.1 c.in-Some.ensures.next c.in_ok-note_refused.ensures.noted c.in_ok-go.ensures.takes;
  lived = lived_next c.args.replay.now c.loop-event.replay c.take_event.new.replay c.loop-event.lives c.note_lives.new.lives
      c.loop-event.invariant.2 c.in_ok-go.ensures.takes c.note_lives.ensures.noted;
  inputs = inputs_again c.args.replay.now c.loop-event.replay c.take_event.new.replay c.loop-event.invariant.3 c.in_ok-go.ensures.inputs;
  ended = rw c.in-Panic.is at c.in_ok-go.ensures.ends;
}

pub returns : goal.returns
returns c = record {
  strays = c.loop-event.invariant.0;
  refusals = c.loop-event.invariant.1;
  lived = c.loop-event.invariant.2;
  inputs = c.loop-event.invariant.3;
  ended = ended_all _ c.runs.ensures.runs c.loop-event.invariant.4 c.in_default.ensures.next;
}
