-- Who has which memory after an event.
use Rattle.xinu_base.specs.declared.events.Event.{Event}
use Rattle.event_laws.specs.Ownership.Apart.{IsApart}
use Rattle.event_laws.specs.Ownership.GivingAway.{GivesAway}
use Rattle.event_laws.specs.Ownership.Grants.{GivesOnlyFree}
use Rattle.xinu_model.specs.Machine.{Xinu}

-- If no address had two owners before the event none has them after it, unless a `freemem` or `freestk` gave back what a pool or a stack
-- has; after such a call one has. An address that more pools and stacks have after the event than before it was free before it, whatever
-- was given back earlier.
pub record KeepsApart (old : Xinu) (e : Event) (new : Xinu) : Type 0 where
  pub kept : IsApart old → (GivesAway old e new → ⊥) → IsApart new
  pub broken : GivesAway old e new → IsApart new → ⊥
  pub granted : GivesOnlyFree old new
