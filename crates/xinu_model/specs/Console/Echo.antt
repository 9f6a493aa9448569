-- What the console echoes (book, chapter 15, `ttyhandle_in.c`, `echoch`, `eputc`, `erase1`).
use Rattle.std.specs.Prelude.{ℕ, ◌+◌, ◌-◌, ◌==◌, nat_lt, if◌then◌else◌, List, [], ◌∷◌, ◌++◌, length, take}
use Rattle.xinu_model.specs.Console.Constants.{TY_EBUFLEN, TY_BELL, TY_BACKSP, TY_NEWLINE, TY_RETURN, TY_BLANK, TY_UPARROW, DEL}
use Rattle.xinu_model.specs.Console.State.{Console}

-- the echo of a newline
abbrev pub new_line : List ℕ
new_line = TY_RETURN ∷ TY_NEWLINE ∷ []

-- The echo of a byte: a newline has its carriage return, any other control character takes two columns.
abbrev pub echo_of : ℕ → List ℕ
echo_of b =
    if b == TY_NEWLINE then new_line
    else (if nat_lt b TY_BLANK then TY_UPARROW ∷ (b + 64) ∷ []
    else (if b == DEL then TY_UPARROW ∷ 63 ∷ []
    else b ∷ []))

-- each of these columns is erased: a step back, a blank over it, and a step back
abbrev pub erasing : List ℕ → List ℕ
erasing [] = []
erasing (column ∷ columns) = TY_BACKSP ∷ TY_BLANK ∷ TY_BACKSP ∷ erasing columns

-- these bytes join the echo, as far as there is room
abbrev pub with_echo : List ℕ → Console → Console
with_echo bytes c = record c { echo = c.echo ++ take (TY_EBUFLEN - length c.echo) bytes }

-- they join it if echo is on
abbrev pub echoed : List ℕ → Console → Console
echoed bytes c = if c.echoes then with_echo bytes c else c

-- the bell rings, whether echo is on or off
abbrev pub rung : Console → Console
rung c = with_echo (TY_BELL ∷ []) c
