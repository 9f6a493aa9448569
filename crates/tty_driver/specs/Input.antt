-- What was received, in one ring: the items that can be taken, and the line after them.
use Rattle.std.specs.Prelude.{◌≡◌, ℕ, ◌-◌, ◌≤◌, List, ◌++◌, length, take, drop, map}
use Rattle.tty_driver.specs.declared.input.Input.TheInside.{Inside}
use Rattle.xinu_base.specs.declared.console.Item.{Item}
use Rattle.xinu_base.specs.declared.console.Item.TheVariants.{Char}
use Rattle.xinu_model.specs.Console.Constants.{TY_IBUFLEN}
use Rattle.xinu_model.specs.Console.State.{byte_of}

-- The items that can be taken, and the bytes of the line.
pub record Received : Type 0 where
  pub committed : List Item
  pub line : List ℕ

-- what of a ring's items can be taken, if the last n are the line, and the line
abbrev pub committed_in : ℕ → List Item → List Item
committed_in n items = take (length items - n) items

abbrev pub line_in : ℕ → List Item → List ℕ
line_in n items = map byte_of (drop (length items - n) items)

-- A ring's items are those that can be taken and then the n bytes of the line, and no more than there is room for.
pub record IsSplit (n : ℕ) (items : List Item) : Type 0 where
  pub whole : items ≡ committed_in n items ++ map Char (line_in n items)
  pub within : n ≤ length items
  pub short : length items ≤ TY_IBUFLEN

-- what the fields stand for
abbrev pub received_of : Inside → Received
received_of i = record { committed = committed_in i.typed i.ring.items; line = line_in i.typed i.ring.items }

-- The ring has its size, and its items are split.
pub record IsInput (i : Inside) : Type 0 where
  pub split : IsSplit i.typed i.ring.items
  pub capacity : i.ring.capacity ≡ TY_IBUFLEN
