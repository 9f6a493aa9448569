-- What a read of the console brings that finds all its items at once.
use Rattle.std.specs.Prelude.{◌≡◌, ℕ, ◌==◌, Bool, if◌then◌else◌, List, [], ◌∷◌, drop, length, map, pos}
use Rattle.xinu_base.specs.declared.console.Item.{Item}
use Rattle.xinu_model.specs.Console.Constants.{TY_NEWLINE}
use Rattle.xinu_model.specs.Console.State.{byte_of}
use Rattle.xinu_model.specs.Console.Taking.{console_of}
use Rattle.xinu_model.specs.Machine.{Xinu, Returns, CallResult}
use Rattle.xinu_model.specs.Memory.{with_bytes}

-- bytes up to the first newline, with it
abbrev pub line_of : List ℕ → List ℕ
line_of [] = []
line_of (b ∷ bytes) = if b == TY_NEWLINE then b ∷ [] else b ∷ line_of bytes

-- what a read takes of these items: in cooked mode a line, in another mode all
abbrev pub taken_of : Bool → List Item → List ℕ
taken_of cooked items = if cooked then line_of (map byte_of items) else map byte_of items

-- These bytes are answered to a read: they are at its address, they are counted in its answer, and as many items are taken.
pub record Brings (at : ℕ) (bytes : List ℕ) (s : Xinu) (h : CallResult) : Type 0 where
  pub answer : h.answer ≡ Returns (pos (length bytes))
  pub memory : h.call.state.memory ≡ with_bytes s.memory at (length bytes) bytes
  pub taken : (console_of h.call.state).committed ≡ drop (length bytes) (console_of s).committed
