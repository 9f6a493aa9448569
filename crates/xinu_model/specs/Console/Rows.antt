-- What a received character does in each mode: three tables, in which the first row that fits acts (book, chapter 15,
-- `ttyhandle_in.c`).
use Rattle.std.specs.Prelude.{ℕ, ◌-◌, ◌==◌, nat_le, Bool, true, ◌&&◌, if◌then◌else◌, List, [], ◌∷◌, ◌++◌, length, map, take}
use Rattle.xinu_base.specs.declared.console.Item.{Item}
use Rattle.xinu_base.specs.declared.console.Item.TheVariants.{Char, End}
use Rattle.xinu_model.specs.Console.Constants.{TY_IBUFLEN, TY_EOFCH, TY_BACKSP, TY_NEWLINE, TY_KILLCH}
use Rattle.xinu_model.specs.Console.Echo.{new_line, echo_of, erasing, echoed, rung}
use Rattle.xinu_model.specs.Console.State.{Console, input_size}

-- The console after a character or a control function, and how many items were committed.
pub record Committed : Type 0 where
  pub console : Console
  pub count : ℕ

-- no item is committed
abbrev pub commits_none : Console → Committed
commits_none c = record { console = c; count = 0 }

-- an item is committed
abbrev pub commits_item : Item → Console → Committed
commits_item x c = record { console = record c { committed = c.committed ++ x ∷ [] }; count = 1 }

-- the whole line is committed
abbrev pub commits_line : Console → Committed
commits_line c =
    record { console = record c { committed = c.committed ++ map Char c.line; line = [] }; count = length c.line }

-- a byte joins the line, and shows on the screen
abbrev pub typed : ℕ → Console → Console
typed b c = record c { line = c.line ++ b ∷ [] }

abbrev pub joined : ℕ → Console → Console
joined b c = echoed (echo_of b) (typed b c)

-- a newline joins the line, and the whole line is committed
abbrev pub line_ended : Console → Committed
line_ended c = commits_line (joined TY_NEWLINE c)

-- the last byte of a line, and the line without it
abbrev pub last_or : ℕ → List ℕ → ℕ
last_or d [] = d
last_or d (b ∷ bytes) = last_or b bytes

abbrev pub without_last : List ℕ → List ℕ
without_last [] = []
without_last (b ∷ bytes) = take (length bytes) (b ∷ bytes)

-- the last byte leaves the line, and the screen
abbrev pub erased : Console → Console
erased c = echoed (erasing (echo_of (last_or 0 c.line))) (record c { line = without_last c.line })

-- the line is emptied
abbrev pub emptied : Console → Console
emptied c = echoed new_line (record c { line = [] })

-- whether nothing is typed
abbrev pub is_empty : Console → Bool
is_empty c = length c.line == 0

-- whether there is no room for an item
abbrev pub is_full : Console → Bool
is_full c = nat_le TY_IBUFLEN (input_size c)

-- whether there is no room for a byte of the line and the newline that has to follow it
abbrev pub is_line_full : Console → Bool
is_line_full c = nat_le (TY_IBUFLEN - 1) (input_size c)

-- A row: which characters it fits at which consoles, and what it does.
pub record ConsoleRow : Type 0 where
  pub fits : ℕ → Console → Bool
  pub effect : ℕ → Console → Committed

abbrev pub row : (ℕ → Console → Bool) → (ℕ → Console → Committed) → ConsoleRow
row fits effect = record { fits = fits; effect = effect }

-- raw mode
abbrev pub raw_rows : List ConsoleRow
raw_rows =
    row (λ b c. is_full c) (λ b c. commits_none c) ∷
    row (λ b c. true) (λ b c. commits_item (Char b) c) ∷
    []

-- cbreak mode
abbrev pub cbreak_rows : List ConsoleRow
cbreak_rows =
    row (λ b c. is_full c) (λ b c. commits_none (rung c)) ∷
    row (λ b c. true) (λ b c. commits_item (Char b) (echoed (echo_of b) c)) ∷
    []

-- cooked mode
abbrev pub cooked_rows : List ConsoleRow
cooked_rows =
    row (λ b c. (b == TY_BACKSP) && is_empty c) (λ b c. commits_none c) ∷
    row (λ b c. b == TY_BACKSP) (λ b c. commits_none (erased c)) ∷
    row (λ b c. b == TY_KILLCH) (λ b c. commits_none (emptied c)) ∷
    row (λ b c. (b == TY_NEWLINE) && is_full c) (λ b c. commits_none (rung c)) ∷
    row (λ b c. b == TY_NEWLINE) (λ b c. line_ended c) ∷
    row (λ b c. (b == TY_EOFCH) && (is_empty c && is_full c)) (λ b c. commits_none (rung c)) ∷
    row (λ b c. (b == TY_EOFCH) && is_empty c) (λ b c. commits_item End c) ∷
    row (λ b c. is_line_full c) (λ b c. commits_none (rung c)) ∷
    row (λ b c. true) (λ b c. commits_none (joined b c)) ∷
    []

-- what the first row that fits does
abbrev pub by_rows : List ConsoleRow → ℕ → Console → Committed
by_rows [] b c = commits_none c
by_rows (r ∷ rows) b c = if r.fits b c then r.effect b c else by_rows rows b c
