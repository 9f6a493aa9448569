-- What the replacements that are left make of the text is what the name is mapped to.
use Rattle.std.proofs.Common.{◌≡◌, Some}
use Rattle.xinu_model.specs.Names.Constants.{NAMESPACE}
use Rattle.xinu_model.specs.Names.Mapping.{map_name, replaced_times}
use Rattle.reference_devices.proofs.names.map_name.Given as goal

abbrev pub invariant-loop-left : goal.invariant-loop-left
invariant-loop-left l =
    replaced_times l.left l.rows (Some (record { device = NAMESPACE; name = l.text.items })) ≡ map_name l.rows l.fn.name.items

abbrev pub decreases-loop-left : goal.decreases-loop-left
decreases-loop-left l = l.left
