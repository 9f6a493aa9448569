-- An event that was taken along a text.
use Rattle.std.specs.Prelude.{◌≡◌, ℕ, true, List, length, drop}
use Rattle.transcript_laws.specs.Reading.{starts_with}
use Rattle.xinu_model.specs.Machine.{EventResult, Xinu}
use Rattle.xinu_model.specs.Runs.{end_with, is_over}
use Rattle.xinu_model.specs.Text.{text}
use Rattle.reference_check.specs.declared.driver.Taken.{Taken}

-- The text begins with what the event printed, and this is left of it; the machine is in the state that the event leaves, and the run ended
-- so with it, if it did.
pub record Took (x : EventResult) (rest : List ℕ) (t : Taken) (new : Xinu) : Type 0 where
  pub begins : starts_with (text x.lines) rest ≡ true
  pub left : t.rest.now ≡ drop (length (text x.lines)) rest
  pub state : new ≡ x.state
  pub end : t.end ≡ end_with x.panics (is_over x.state)
