-- The groups of a program: each makes one call, whose arguments are drawn.
use Rattle.std.specs.Prelude.{ℕ, zero, suc, ◌+◌, ◌-◌, List, [], ◌∷◌, ◌++◌, codes, slice_index_or, unwrap_or}
use Rattle.xinu_model.specs.Isa.Instructions.{FormI, FormWhole}
use Rattle.rv_isa.specs.Encoding.{placed}
use Rattle.asm_syntax.specs.Statements.{load}
use Rattle.asm_syntax.specs.Values.{call_of}
use Rattle.workload.specs.declared.shapes.Argument.{Argument}
use Rattle.workload.specs.declared.shapes.Argument.TheVariants.{Number, Between, Address}
use Rattle.workload.specs.Draws.{next, drawn}

-- the shape of a group: the number of its call, and the arguments
pub record Shape : Type 0 where
  pub call : ℕ
  pub args : List Argument

-- a call of this name with these arguments
abbrev pub calling : List ℕ → List Argument → Shape
calling name args = record { call = unwrap_or (call_of name) 0; args = args }

-- the shapes
unfoldable pub shapes : List Shape
shapes =
    calling (codes "getpid") []
    ∷ calling (codes "yield") []
    ∷ calling (codes "sleepms") (Between 0 3 ∷ [])
    ∷ calling (codes "recvtime") (Between 0 3 ∷ [])
    ∷ calling (codes "send") (Between 1 4 ∷ Between 0 999 ∷ [])
    ∷ calling (codes "signal") (Between 4 7 ∷ [])
    ∷ calling (codes "getmem") (Between 8 71 ∷ [])
    ∷ calling (codes "putc") (Number 0 ∷ Between 32 95 ∷ [])
    ∷ calling (codes "semcreate") (Between 0 2 ∷ [])
    ∷ calling (codes "chprio") (Between 1 4 ∷ Between 10 13 ∷ [])
    ∷ calling (codes "wait") (Between 4 7 ∷ [])
    ∷ calling (codes "receive") []
    ∷ calling (codes "getbuf") (Number 0 ∷ [])
    ∷ calling (codes "mkbufpool") (Between 8 23 ∷ Between 1 4 ∷ [])
    ∷ calling (codes "open") (Number 3 ∷ Address 0 ∷ Address 4 ∷ [])
    ∷ calling (codes "write") (Between 4 5 ∷ Address 0 ∷ Between 1 600 ∷ [])
    ∷ []

-- the shape of this number, which is below 16
abbrev pub shape_at : ℕ → Shape
shape_at n = slice_index_or shapes n (calling (codes "getpid") [])

-- what an argument is in a program at this place: a number, one that is drawn between two, or an address in the program
abbrev pub value_of : ℕ → Argument → ℕ → ℕ
value_of place (Number n) x = n
value_of place (Between low high) x = low + drawn (high - low + 1) x
value_of place (Address offset) x = place + offset

-- the state after an argument
abbrev pub after_argument : Argument → ℕ → ℕ
after_argument (Number n) x = x
after_argument (Between low high) x = next x
after_argument (Address offset) x = x

-- the instructions that load arguments, from this register on; they are drawn from the first to the last
unfoldable pub loads_of : ℕ → ℕ → List Argument → ℕ → List ℕ
loads_of place register [] x = []
loads_of place register (arg ∷ args) x =
    load register (value_of place arg x) ++ loads_of place (register + 1) args (after_argument arg x)

-- the state after arguments
unfoldable pub after_arguments : List Argument → ℕ → ℕ
after_arguments [] x = x
after_arguments (arg ∷ args) x = after_arguments args (after_argument arg x)

-- the instructions of a call: its number in a7, and `ecall`
abbrev pub call_words : ℕ → List ℕ
call_words number = (0x13 + placed FormI 17 0 0 number) ∷ (0x73 + placed FormWhole 0 0 0 0) ∷ []

-- the instructions of a group of this shape: the arguments are in a0 and the registers after it
abbrev pub shaped : ℕ → Shape → ℕ → List ℕ
shaped place shape x = loads_of place 10 shape.args x ++ call_words shape.call

-- a group of one of the first so many shapes: its shape is drawn, and then its arguments
unfoldable pub group : ℕ → ℕ → ℕ → List ℕ
group place kinds x = shaped place (shape_at (drawn kinds x)) (next x)

-- the state after a group
unfoldable pub after_group : ℕ → ℕ → ℕ
after_group kinds x = after_arguments (shape_at (drawn kinds x)).args (next x)

-- n groups, one after another
unfoldable pub groups : ℕ → ℕ → ℕ → ℕ → List ℕ
groups place kinds zero x = []
groups place kinds (suc n) x = group place kinds x ++ groups place kinds n (after_group kinds x)

-- the state after n groups
unfoldable pub after_groups : ℕ → ℕ → ℕ → ℕ
after_groups kinds zero x = x
after_groups kinds (suc n) x = after_groups kinds n (after_group kinds x)
