-- The console that the driver stands for.
use Rattle.std.specs.Prelude.{◌≡◌, ◌⊎◌, []}
use Rattle.tty_driver.specs.declared.tty.Tty.TheInside.{Inside}
use Rattle.xinu_base.specs.declared.console.TtyMode.TheVariants.{Cooked}
use Rattle.xinu_model.specs.Console.Constants.{TY_OBUFLEN, TY_EBUFLEN}
use Rattle.xinu_model.specs.Console.State.{Console}

-- the console by the driver's fields
abbrev pub console_of : Inside → Console
console_of t = record {
  mode = t.mode;
  echoes = t.echoes;
  is_held = t.held;
  committed = t.input.committed;
  line = t.input.line;
  output = t.output.items;
  echo = t.echo.items;
}

-- The rings have their sizes, and a line is typed only in cooked mode.
pub record IsTty (t : Inside) : Type 0 where
  pub output : t.output.capacity ≡ TY_OBUFLEN
  pub echo : t.echo.capacity ≡ TY_EBUFLEN
  pub line : (t.mode ≡ Cooked) ⊎ (t.input.line ≡ [])
