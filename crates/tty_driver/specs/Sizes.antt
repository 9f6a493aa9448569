-- The sizes of a console.
use Rattle.std.specs.Prelude.{length}
use Rattle.tty_driver.specs.declared.tty.TtySizes.{TtySizes}
use Rattle.xinu_model.specs.Console.State.{Console}

-- how long each list is, and whether output is held
abbrev pub sizes_of : Console → TtySizes
sizes_of c = record {
  committed = length c.committed;
  line = length c.line;
  output = length c.output;
  echo = length c.echo;
  held = c.is_held;
}
