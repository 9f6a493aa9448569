-- A transmission: one byte is sent, echo before output (book, chapter 15, `ttyhandle_out.c`).
use Rattle.std.specs.Prelude.{ℕ, Bool, true, false, if◌then◌else◌, List, [], ◌∷◌, Option, Some, None}
use Rattle.xinu_model.specs.Console.State.{Console}

-- What is sent: the byte, whether it was output, and the console after it.
pub record Sent : Type 0 where
  pub byte : ℕ
  pub is_output : Bool
  pub console : Console

-- the first of these bytes, which are the output, is sent
abbrev pub sent_output : List ℕ → Console → Option Sent
sent_output [] c = None
sent_output (b ∷ bytes) c = Some (record { byte = b; is_output = true; console = record c { output = bytes } })

-- the first of these bytes, which are the echo, is sent, or else the first of the output
abbrev pub sent_first : List ℕ → Console → Option Sent
sent_first [] c = sent_output c.output c
sent_first (b ∷ bytes) c = Some (record { byte = b; is_output = false; console = record c { echo = bytes } })

-- A transmission; nothing is sent while output is held.
abbrev pub transmitted : Console → Option Sent
transmitted c = if c.is_held then None else sent_first c.echo c

-- the console after it
abbrev pub after_transmission : Option Sent → Console → Console
after_transmission None c = c
after_transmission (Some sent) c = sent.console
