-- A received character (book, chapter 15, `ttyhandle_in.c`).
use Rattle.std.specs.Prelude.{ℕ, ◌==◌, true, false, if◌then◌else◌, List}
use Rattle.xinu_base.specs.declared.console.TtyMode.{TtyMode}
use Rattle.xinu_base.specs.declared.console.TtyMode.TheVariants.{Raw, Cbreak, Cooked}
use Rattle.xinu_model.specs.Console.Constants.{TY_NEWLINE, TY_RETURN, TY_STRTCH, TY_STOPCH}
use Rattle.xinu_model.specs.Console.Rows.{Committed, commits_none, ConsoleRow, raw_rows, cbreak_rows, cooked_rows, by_rows}
use Rattle.xinu_model.specs.Console.State.{Console}

-- the console with its output held, or not
abbrev pub holding : Console → Console
holding c = record c { is_held = true }

abbrev pub going_on : Console → Console
going_on c = record c { is_held = false }

-- The two characters that stop output and let it go on aren't input. Any other lets output go on, and then acts by a table.
abbrev pub flowing : List ConsoleRow → ℕ → Console → Committed
flowing rows b c =
    if b == TY_STOPCH then commits_none (holding c)
    else (if b == TY_STRTCH then commits_none (going_on c)
    else by_rows rows b (going_on c))

-- a carriage return is a newline
abbrev pub newline_for_return : ℕ → ℕ
newline_for_return b = if b == TY_RETURN then TY_NEWLINE else b

-- A character is received in a mode: in raw mode it is as it is, and doesn't let output go on.
abbrev pub received_in : TtyMode → ℕ → Console → Committed
received_in Raw b c = by_rows raw_rows b c
received_in Cbreak b c = flowing cbreak_rows (newline_for_return b) c
received_in Cooked b c = flowing cooked_rows (newline_for_return b) c

-- A character is received.
abbrev pub received : ℕ → Console → Committed
received b c = received_in c.mode b c
