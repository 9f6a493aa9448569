-- What is left has an open file if the whole does.
use Rattle.std.proofs.Common.{◌≡◌, Option, drop}
use Rattle.std.specs.List.{list_any}
use Rattle.std.specs.Prelude.{is_some}
use Rattle.xinu_model.specs.Files.Systems.{OpenFile}
use Rattle.reference_boot.proofs.dump.devices.has_open.Given as goal

abbrev pub invariant-loop-x : goal.invariant-loop-x
invariant-loop-x l =
    list_any (λ (x : Option OpenFile). is_some x) (drop l.x-index l.devices) ≡ list_any (λ (x : Option OpenFile). is_some x) l.devices
