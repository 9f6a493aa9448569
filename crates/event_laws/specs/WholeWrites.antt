-- What a write to the console puts that finds room for all of it at once.
use Rattle.std.specs.Prelude.{◌≡◌, ℕ, if◌then◌else◌, List, [], ◌∷◌, ◌++◌, pos}
use Rattle.xinu_base.specs.declared.console.TtyMode.{TtyMode}
use Rattle.xinu_model.specs.Console.Constants.{TY_NEWLINE, TY_RETURN}
use Rattle.xinu_model.specs.Console.Putting.{needs_return}
use Rattle.xinu_model.specs.Console.Taking.{console_of}
use Rattle.xinu_model.specs.Machine.{Xinu, Returns, CallResult}

-- these bytes as they are put: outside raw mode a carriage return goes before each newline
abbrev pub put_of : TtyMode → List ℕ → List ℕ
put_of mode [] = []
put_of mode (b ∷ bytes) =
    if needs_return b mode then TY_RETURN ∷ TY_NEWLINE ∷ put_of mode bytes else b ∷ put_of mode bytes

-- These bytes are put for a write of n, after those that wait to be sent, and n is answered.
pub record Puts (n : ℕ) (bytes : List ℕ) (s : Xinu) (h : CallResult) : Type 0 where
  pub answer : h.answer ≡ Returns (pos n)
  pub output : (console_of h.call.state).output ≡ (console_of s).output ++ bytes
  pub memory : h.call.state.memory ≡ s.memory
