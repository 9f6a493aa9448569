use Rattle.std.proofs.Common.{◌≡◌, ◌++◌, map, drop}
use Rattle.xinu_base.specs.declared.console.Item.TheVariants.{Char}
use Rattle.reference_devices.proofs.receiving.add_chars.Given as goal

abbrev pub invariant-loop-b : goal.invariant-loop-b
invariant-loop-b l = l.items.items ++ map Char (drop l.b-index l.bytes) ≡ l.fn.items.items ++ map Char l.bytes
