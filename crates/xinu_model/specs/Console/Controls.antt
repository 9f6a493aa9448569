-- The control functions of the console (book, chapter 15, `ttycontrol.c`; the numbers are those of this profile).
use Rattle.std.specs.Prelude.{ℕ, ◌==◌, true, false, if◌then◌else◌, Option, Some, None}
use Rattle.xinu_base.specs.declared.console.TtyMode.{TtyMode}
use Rattle.xinu_base.specs.declared.console.TtyMode.TheVariants.{Raw, Cbreak, Cooked}
use Rattle.xinu_model.specs.Console.Receiving.{going_on}
use Rattle.xinu_model.specs.Console.Rows.{Committed, commits_none, commits_line}
use Rattle.xinu_model.specs.Console.State.{Console}

-- the console in another mode
abbrev pub in_mode : TtyMode → Console → Console
in_mode mode c = record c { mode = mode }

-- the console with echo on or off
abbrev pub echoing : Console → Console
echoing c = record c { echoes = true }

abbrev pub silent : Console → Console
silent c = record c { echoes = false }

-- A control function: 1 is raw mode, 2 cbreak mode, 3 cooked mode, 5 echo on, 6 echo off; there is no other that changes the console.
-- The first two commit the line, and raw mode lets output go on.
abbrev pub controlled : ℕ → Console → Option Committed
controlled f c =
    if f == 1 then Some (commits_line (going_on (in_mode Raw c)))
    else (if f == 2 then Some (commits_line (in_mode Cbreak c))
    else (if f == 3 then Some (commits_none (in_mode Cooked c))
    else (if f == 5 then Some (commits_none (echoing c))
    else (if f == 6 then Some (commits_none (silent c))
    else None))))

-- the console after it
abbrev pub after_control : Option Committed → Console → Console
after_control None c = c
after_control (Some committed) c = committed.console
