-- A console whose items are taken.
use Rattle.std.specs.Prelude.{[]}
use Rattle.xinu_model.specs.Console.State.{Console}

-- the console once all items that could be taken are
abbrev pub with_none_committed : Console → Console
with_none_committed c = record c { committed = [] }
