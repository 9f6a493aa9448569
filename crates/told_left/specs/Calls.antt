-- A call in words.
use Rattle.std.specs.Prelude.{ℕ, if◌then◌else◌, List, [], ◌∷◌, ◌++◌, take, codes}
use Rattle.xinu_base.specs.Syscalls.{name_of, args_of, is_call}
use Rattle.xinu_base.specs.declared.syscalls.Call.{Call}
use Rattle.xinu_model.specs.Text.{signed_field}

-- numbers, with a blank before each
abbrev pub after_blanks : List ℕ → List ℕ
after_blanks [] = []
after_blanks (n ∷ numbers) = 32 ∷ signed_field n ++ after_blanks numbers

-- the name of a call and its arguments, as a transcript has them; of a number without a call the number
unfoldable pub call_words : Call → List ℕ
call_words call =
    if is_call call.number then name_of call.number ++ after_blanks (take (args_of call.number) call.args)
    else codes "unknown" ++ after_blanks (call.number ∷ [])
