-- What a step of the console does to its lists.
use Rattle.std.specs.Prelude.{◌≡◌, true, false, List, [], ◌∷◌, ◌++◌, length}
use Rattle.xinu_base.specs.declared.console.Item.{Item}
use Rattle.xinu_base.specs.declared.console.Item.TheVariants.{End}
use Rattle.xinu_base.specs.declared.console.TtyMode.TheVariants.{Cooked}
use Rattle.xinu_model.specs.Console.Rows.{Committed}
use Rattle.xinu_model.specs.Console.State.{Console}
use Rattle.xinu_model.specs.Console.Transmitting.{Sent}

-- Items were committed after those that were there, as many as are counted, and the output is as it was.
pub record Appends (c : Console) (m : Committed) : Type 0 where
  pub items : List Item
  pub committed : m.console.committed ≡ c.committed ++ items
  pub count : m.count ≡ length items
  pub output : m.console.output ≡ c.output

-- The byte that was sent was the first of the echo, or if there is no echo the first of the output, and nothing else changed.
pub record SendsFirst (c : Console) (sent : Sent) : Type 0 where
  pub flows : c.is_held ≡ false
  pub echo : sent.is_output ≡ false → c ≡ record sent.console { echo = sent.byte ∷ sent.console.echo }
  pub output : sent.is_output ≡ true → c ≡ record sent.console { output = sent.byte ∷ sent.console.output }
  pub after_echo : sent.is_output ≡ true → c.echo ≡ []

-- The items that can be taken and the line are the same.
pub record SameInput (c d : Console) : Type 0 where
  pub committed : d.committed ≡ c.committed
  pub line : d.line ≡ c.line

-- The next item is the end mark, and it ends the input, since the mode is cooked.
pub record IsAtEnd (c : Console) : Type 0 where
  pub mode : c.mode ≡ Cooked
  pub items : List Item
  pub first : c.committed ≡ End ∷ items
