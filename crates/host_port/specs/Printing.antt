-- What a printer does to the outside.
use Rattle.std.specs.Prelude.{ℕ, Bool, ◌≡◌, ◌≤◌, ◌⊎◌, take, List, [], Option, Some, None, IsSome}
use Rattle.host_port.specs.declared.host.Channel.TheVariants.{Out}
use Rattle.host_port.specs.declared.host.HostFault.{HostFault}
use Rattle.host_port.specs.declared.host.HostFault.TheVariants.{Failed}
use Rattle.host_port.specs.Outside.{Outside, appended, counted}
use Rattle.host_port.specs.HostCalls.{Rose}

-- a printer: whether it prints the plain output, and the failure at which it stopped
pub record Printing : Type 0 where
  pub plain : Bool
  pub failure : Option HostFault

-- These bytes were printed: all of them if the printer has no failure afterwards, else a prefix of them, and nothing after an
-- earlier failure. Of no bytes nothing is sent, not even an empty line. The files, the other channels and the list of calls stay as they were.
pub record Prints (before after : Printing) (old new : Outside) (bytes : List ℕ) : Type 0 where
  pub mode : after.plain ≡ before.plain
  pub whole : after.failure ≡ None → (before.failure ≡ None) × (new ≡ counted (appended old Out bytes) new.faults)
  pub part : (n : ℕ) × (new ≡ counted (appended old Out (take n bytes)) new.faults)
  pub stays : IsSome before.failure → (after ≡ before) × (new ≡ old)
  pub nothing : bytes ≡ [] → (after ≡ before) × (new ≡ old)
  pub later : old.faults ≤ new.faults
  pub cause : after.failure ≡ Some Failed → (before.failure ≡ Some Failed) ⊎ Rose old.faults new.faults
