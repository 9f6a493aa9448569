-- One line after another.
use Rattle.std.proofs.Common.{◌≡◌, ◌∙◌, ◌+◌, ◌++◌, ◌∷◌, ◌<◌, List, true, false, length, replicate, drop, take, get_or, sym, ap, arith, refl, add-one, drop-cons}
use Rattle.std.proofs.lemmas.List.{take_all}
use Rattle.xinu_base.specs.declared.events.Event.{Event}
use Rattle.xinu_base.specs.declared.events.Event.TheVariants.{Step}
use Rattle.schedule_text.specs.Written.{schedule_text, is_joined}
use Rattle.schedule_text.proofs.Joining.{joined_turn, line_turn, same}
use Rattle.schedule_text.proofs.Whole.{written_more}
use Rattle.schedule_text.proofs.texts.text_of.Goals.{then-is_joined, else-is_joined+in_ok-push_repeat}
use Rattle.schedule_text.proofs.texts.text_of.Goals as goal

pub loop-next-preserved : goal.loop-next-preserved
loop-next-preserved c =
    let l = c.loop-next in
    let events = c.args.events.now in
    let next = get_or events l.next-index Step in
    let rest = drop (l.next-index + 1) events in
    let within : l.next-index < length events = c.loop-next-test.true in
    let ahead : drop l.next-index events ≡ next ∷ rest = rw (add-one, drop-cons events l.next-index Step) refl in
    let so_far : l.text.items ++ schedule_text (replicate l.count l.event ++ next ∷ rest) ≡ schedule_text events = rw ahead at l.invariant.text in
    let written = written_more events l.next-index Step within l.invariant.written c.is_joined.ensures.written in
    elim c.if-is_joined.branch [
      | then-is_joined w ↦
          let joins : is_joined l.event next ≡ true = sym c.is_joined.ensures.joined ∙ w.if-is_joined.true in
          record {
            text = rw (w.text-is, w.event-is, w.count-is)
                (ap (λ (es : List Event). l.text.items ++ schedule_text es) (joined_turn l.event next rest l.count (l.count + 1) joins refl) ∙ so_far);
            counts = λ many. rw w.event-is (ap (is_joined l.event) (same l.event next joins) ∙ joins);
            few = omega (arith, w.count-is, l.invariant.few);
            written = written;
            size = rw (w.text-is, w.count-is) (omega (arith, l.invariant.size));
          }
      | else-is_joined+in_ok-push_repeat w ↦
          let apart : is_joined l.event next ≡ false = sym c.is_joined.ensures.joined ∙ w.if-is_joined.false in
          record {
            text = rw (w.text-is, w.event-is, w.count-is)
                (line_turn l.event next rest l.count l.text.items _ l.invariant.counts apart w.in_ok-push_repeat.ensures.text ∙ so_far);
            counts = λ many. absurd (omega (arith, w.count-is));
            few = omega (arith, w.count-is);
            written = written;
            size = rw (w.text-is, w.count-is) (omega (arith, w.in_ok-push_repeat.ensures.size, l.invariant.size));
          }
    ]

pub returns-clause-written : goal.returns-clause-written
returns-clause-written c =
    let l = c.loop-next in
    let events = c.args.events.now in
    let all : take l.next-index events ≡ events = take_all l.next-index events (omega arith) in
    rw all at l.invariant.written
