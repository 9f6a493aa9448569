-- A text that begins with lines of a run tells what was chosen in the run, or the event that it tells has all these lines.
use Rattle.std.proofs.Common.{◌≡◌, ◌⊎◌, ℕ, false, List, ◌++◌, refl, inr}
use Rattle.xinu_base.specs.declared.events.Event.{Event}
use Rattle.xinu_base.specs.declared.events.Event.TheVariants.{Step, Tick, Key, Tx, Disk0, Disk1, Fail0, Fail1, Dump}
use Rattle.xinu_base.specs.declared.lines.TranscriptLine.{TranscriptLine}
use Rattle.xinu_model.specs.Agree.{begins_next}
use Rattle.xinu_model.specs.Events.{MayChoose, effect_of}
use Rattle.xinu_model.specs.Machine.{Xinu}
use Rattle.xinu_model.specs.Sound.State.{IsSound}
use Rattle.xinu_model.specs.Text.{text}
use Rattle.transcript_laws.specs.Choices.{told}
use Rattle.trace_places.proofs.Completions.{completion_fronts}
use Rattle.trace_places.proofs.Fronts.{IsFront}
use Rattle.trace_places.proofs.Steps.{step_fronts}

pub front_told : (s : Xinu) (e : Event) (c : ℕ) (f m more : List TranscriptLine) (d : List ℕ) → IsSound s → MayChoose s e c
    → begins_next more ≡ false → f ++ m ≡ (effect_of s e c).lines ++ more
    → (IsFront f (effect_of s e (told s e (text f ++ d))).lines) ⊎ (effect_of s e (told s e (text f ++ d)) ≡ effect_of s e c)
front_told s Step c f m more d k may none same = step_fronts c s f m more d k may none same
front_told s Disk1 c f m more d k may none same = completion_fronts c s f m more d may none same
front_told s Tick c f m more d k may none same = inr refl
front_told s Dump c f m more d k may none same = inr refl
front_told s (Key b) c f m more d k may none same = inr refl
front_told s Tx c f m more d k may none same = inr refl
front_told s Disk0 c f m more d k may none same = inr refl
front_told s Fail0 c f m more d k may none same = inr refl
front_told s Fail1 c f m more d k may none same = inr refl
