-- Consoles on which something is typed.
use Rattle.std.specs.Prelude.{false, replicate}
use Rattle.xinu_base.specs.declared.console.Item.TheVariants.{Char}
use Rattle.xinu_base.specs.declared.console.TtyMode.TheVariants.{Raw}
use Rattle.xinu_model.specs.Console.State.{Console, first_console}

-- a console in raw mode
abbrev pub raw_console : Console
raw_console = record first_console { mode = Raw }

-- a console without echo
abbrev pub silent_console : Console
silent_console = record first_console { echoes = false }

-- a console without echo that has no room for an item
abbrev pub full_console : Console
full_console = record silent_console { committed = replicate 128 (Char 120) }

-- a console that has room for one more item
abbrev pub almost_full_console : Console
almost_full_console = record first_console { committed = replicate 127 (Char 120) }
