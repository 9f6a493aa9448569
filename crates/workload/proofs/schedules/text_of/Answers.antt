-- One line after another.
use Rattle.std.proofs.Common.{◌∙◌, ◌≡◌, ◌-◌, ◌++◌, ◌∷◌, [], ℕ, List, length, sym, ap, arith, append-nil, length-append}
use Rattle.xinu_base.specs.declared.events.Event.{Event}
use Rattle.workload.specs.Schedules.{events_in, line_of, text_of}
use Rattle.workload.proofs.Turns.{text_turn, events_in-zero, text_of-nil}
use Rattle.workload.proofs.schedules.text_of.Goals as goal

pub loop-preserved : goal.loop-preserved
loop-preserved c =
    let l = c.loop in
    let line = c.bytes.ensures.bytes ∙ c.line_of-line.ensures.line ∙ ap (λ (event : Event). line_of event ++ 10 ∷ []) c.draw_event.ensures.event in
    record {
      text = rw c.draw_event.ensures.draws
          (text_turn c.args.count l.counter l.draws l.text.items _ c.bytes.result.now _ c.loop-test.true c.in_ok-extend_from_slice.ensures.items line l.invariant.text);
      size = rw c.in_ok-extend_from_slice.ensures.items
          (omega (arith, l.invariant.size, length-append l.text.items c.bytes.result.now, ap length c.bytes.ensures.bytes, c.line_of-line.ensures.size));
    }

pub returns : goal.returns
returns c =
    let l = c.loop in
    let done : c.args.count - l.counter ≡ 0 = omega arith in
    record {
      text = sym (append-nil l.text.items)
          ∙ ap (λ (more : List ℕ). l.text.items ++ more)
          (sym (ap text_of (events_in-zero l.draws) ∙ text_of-nil) ∙ ap (λ (n : ℕ). text_of (events_in n l.draws)) (sym done))
          ∙ l.invariant.text;
      size = omega (arith, l.invariant.size, l.auto.counter-end);
    }
