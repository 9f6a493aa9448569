-- The text.
use Rattle.std.proofs.Common.{◌≡◌, ◌∙◌, ◌++◌, ℕ, List, append_assoc, sym, ap, subst}
use Rattle.std.specs.Fmt.{decimal}
use Rattle.std.specs.Prelude.{codes}
use Rattle.gdb_command.proofs.NextEvents.{next-is}
use Rattle.gdb_command.specs.Console.{Shows}
use Rattle.gdb_command.specs.Monitor.{event_text, event_word, next_event}
use Rattle.gdb_command.proofs.session.Session.say_event.Goals as goal

-- four texts, one after another
joined : (a b c d : List ℕ) → a ++ (b ++ (c ++ d)) ≡ ((a ++ b) ++ c) ++ d
joined a b c d = sym (append_assoc (a ++ b) c d ∙ append_assoc a b (c ++ d))

pub returns : goal.returns
returns c =
    let r = c.args.self.now.run.replay in
    let next = next-is r c.next.result c.next.ensures.next c.next.ensures.goes_on in
    let middle = codes " events were taken; next: " in
    let whole : c.as_bytes.result.now ≡ event_text r =
    c.as_bytes.ensures.value
    ∙ c.in_ok-text.ensures.ok
    ∙ ap (λ (n : ℕ). decimal n ++ (middle ++ (c.event_name-next.result.now ++ codes "\n"))) c.taken-taken.ensures.taken
    ∙ ap (λ (w : List ℕ). decimal r.taken ++ (middle ++ (w ++ codes "\n"))) (c.event_name-next.ensures.word ∙ ap event_word next)
    ∙ joined (decimal r.taken) middle (event_word (next_event r)) (codes "\n") in
    record { says = subst (λ (t : List ℕ). Shows t c.args.out.now.items c.push_print.new.out.items) whole c.in_ok-push_print.ensures.shows }
