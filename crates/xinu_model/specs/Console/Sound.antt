-- What always holds of the console by itself.
use Rattle.std.specs.Prelude.{◌≡◌, ◌⊎◌, ◌≤◌, [], length}
use Rattle.xinu_base.specs.declared.console.TtyMode.TheVariants.{Cooked}
use Rattle.xinu_model.specs.Console.Constants.{TY_IBUFLEN, TY_OBUFLEN, TY_EBUFLEN}
use Rattle.xinu_model.specs.Console.State.{Console, input_size}

-- Input, output and echo have room for what they hold, and a line is typed only in cooked mode.
pub record IsSoundConsole (c : Console) : Type 0 where
  pub input : input_size c ≤ TY_IBUFLEN
  pub output : length c.output ≤ TY_OBUFLEN
  pub echo : length c.echo ≤ TY_EBUFLEN
  pub line : (c.mode ≡ Cooked) ⊎ (c.line ≡ [])
