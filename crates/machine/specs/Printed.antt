-- What the machine shows of itself to contracts, and what an event prints.
use Rattle.std.specs.Prelude.{◌≡◌, ℕ, Bool, List}
use Rattle.host_port.specs.Outside.{Outside}
use Rattle.host_port.specs.Printing.{Printing, Prints}
use Rattle.xinu_base.specs.declared.events.Event.{Event}
use Rattle.xinu_base.specs.declared.lines.TranscriptLine.{TranscriptLine}
use Rattle.xinu_model.specs.Events.{Happens}
use Rattle.xinu_model.specs.Machine.{EventResult, Xinu}
use Rattle.xinu_model.specs.Text.{shown}

-- what the machine keeps for contracts: its state, the bytes of the disk with files, the number of events taken, and whether one of them
-- ended the run
pub record Booted : Type 0 where
  pub state : Xinu
  pub image : List ℕ
  pub events : ℕ
  pub over : Bool

-- The event happened, and its lines were printed.
pub record EventPrints (old : Xinu) (e : Event) (new : Xinu) (before after : Printing) (was is : Outside) : Type 0 where
  pub lines : List TranscriptLine
  pub happens : Happens old e lines new
  pub prints : Prints before after was is (shown before.plain lines)

-- What an event comes to was printed, is the new state, and says whether the kernel panicked.
pub record EffectPrints (effect : EventResult) (new : Xinu) (has_panicked : Bool) (before after : Printing) (was is : Outside) : Type 0 where
  pub state : effect.state ≡ new
  pub panics : effect.panics ≡ has_panicked
  pub prints : Prints before after was is (shown before.plain effect.lines)
