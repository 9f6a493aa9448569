-- What is left of a text after an event.
use Rattle.std.proofs.Common.{◌≡◌, ◌∙◌, ℕ, List, ◌∷◌, length, drop, sym, ap}
use Rattle.std.specs.Prelude.{◌&&◌}
use Rattle.xinu_base.specs.declared.events.Event.{Event}
use Rattle.xinu_model.specs.Events.{effect_of}
use Rattle.xinu_model.specs.Machine.{Xinu}
use Rattle.xinu_model.specs.Runs.{end_with, is_over}
use Rattle.xinu_model.specs.Text.{text}
use Rattle.transcript_laws.specs.Choices.{told}
use Rattle.transcript_laws.specs.Reading.{accepts, accepts_after}
use Rattle.reference_check.specs.Taking.{Took}
use Rattle.reference_check.specs.declared.driver.Taken.{Taken}

-- What is left of a text after an event is accepted of what is left of the run.
pub event_taken : (told : Xinu → Event → List ℕ → ℕ) (s : Xinu) (e : Event) (events : List Event) (rest : List ℕ) (t : Taken) (new : Xinu)
    → Took (effect_of s e (told s e rest)) rest t new
    → accepts told s (e ∷ events) rest ≡ accepts_after t.end (λ more. accepts told new events more) new t.rest.now
event_taken told s e events rest t new k =
    let x = effect_of s e (told s e rest) in
    let left = drop (length (text x.lines)) rest in
    ap (λ b. b && accepts_after (end_with x.panics (is_over x.state)) (λ more. accepts told x.state events more) x.state left) k.begins
    ∙ ap (λ o. accepts_after o (λ more. accepts told x.state events more) x.state left) (sym k.end)
    ∙ ap (λ (u : Xinu). accepts_after t.end (λ more. accepts told u events more) u left) (sym k.state)
    ∙ ap (λ l. accepts_after t.end (λ more. accepts told new events more) new l) (sym k.left)
