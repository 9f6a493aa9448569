-- The console: its mode, what it has received, and what it will send (book, chapter 15).
use Rattle.std.specs.Prelude.{ℕ, ◌+◌, Bool, true, false, List, [], ◌∷◌, ◌++◌, length}
use Rattle.xinu_base.specs.declared.console.Item.{Item}
use Rattle.xinu_base.specs.declared.console.Item.TheVariants.{Char, End}
use Rattle.xinu_base.specs.declared.console.TtyMode.{TtyMode}
use Rattle.xinu_base.specs.declared.console.TtyMode.TheVariants.{Cooked}
use Rattle.xinu_model.specs.Console.Constants.{TY_EOFCH}

-- The mode; whether echo is on; whether output is held; the items that can be taken and, after them, the line that is being typed; the
-- bytes of output and those of echo. The first of each list is first.
pub record Console : Type 0 where
  pub mode : TtyMode
  pub echoes : Bool
  pub is_held : Bool
  pub committed : List Item
  pub line : List ℕ
  pub output : List ℕ
  pub echo : List ℕ

-- the console at the start
abbrev pub first_console : Console
first_console =
    record { mode = Cooked; echoes = true; is_held = false; committed = []; line = []; output = []; echo = [] }

-- how many items of input there are
abbrev pub input_size : Console → ℕ
input_size c = length c.committed + length c.line

-- an item as a byte
abbrev pub byte_of : Item → ℕ
byte_of End = TY_EOFCH
byte_of (Char b) = b

-- the console before its next item, which is x, is taken
abbrev pub with_next_item : Item → Console → Console
with_next_item x c = record c { committed = x ∷ c.committed }

-- a byte is put to the output
abbrev pub with_output : ℕ → Console → Console
with_output b c = record c { output = c.output ++ b ∷ [] }
