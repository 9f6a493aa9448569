-- How the arguments after a command's name are read from the left, by a table of the options that the command has.
use Rattle.std.specs.Prelude.{◌==◌, ◌++◌, ℕ, Bool, true, false, List, [], ◌∷◌, Option, Some, None}
use Rattle.std.specs.Prelude.{Result, Ok, Err, if◌then◌else◌, find, fold, bytes_eq, is_some, option_map, option_and_then}
use Rattle.std.specs.List.{list_any, before_first, after_first}

abbrev pub Text : Type 0
Text = List ℕ

-- an option of a command: the name after its two hyphens, and whether it takes a value
pub record OptionRow : Type 0 where
  pub name : Text
  pub takes_value : Bool

-- the option `--name VALUE`
abbrev pub value_option : Text → OptionRow
value_option name = record { name = name; takes_value = true }

-- the option `--name`, which takes no value
abbrev pub flag_option : Text → OptionRow
flag_option name = record { name = name; takes_value = false }

-- what an argument is before the first `--`
pub data ArgForm : Type 0 where
  -- `--`
  end_mark : ArgForm
  -- `--x`, or `--x=v` with its value
  naming : Text → Option Text → ArgForm
  -- another argument of two or more characters with a leading hyphen
  dashed : ArgForm
  -- any other argument, a lone hyphen among them
  bare : ArgForm

-- the byte `=`, which is before a value that is attached
abbrev pub is_equals_sign : ℕ → Bool
is_equals_sign b = b == 61

-- what follows the two hyphens: a name, and after the first `=` a value
abbrev pub named_arg : Text → ArgForm
named_arg [] = end_mark
named_arg (x ∷ xs) = naming (before_first is_equals_sign (x ∷ xs))
    (if list_any is_equals_sign (x ∷ xs) then Some (after_first is_equals_sign (x ∷ xs)) else None)

-- the byte `-`
abbrev pub is_hyphen : ℕ → Bool
is_hyphen b = b == 45

abbrev pub arg_of : Text → ArgForm
arg_of [] = bare
arg_of (x ∷ []) = bare
arg_of (x ∷ y ∷ rest) = if is_hyphen x then (if is_hyphen y then named_arg rest else dashed) else bare

-- what was taken from the arguments: the options with their values, and the positional arguments, each in their order
pub record Taken : Type 0 where
  pub options : List (OptionRow × Text)
  pub positional : List Text

-- why arguments can't be read
pub data ReadingFault : Type 0 where
  -- there is no option that this argument names
  Unknown : (arg : Text) → ReadingFault
  -- the option of this name is given twice
  Twice : (name : Text) → ReadingFault
  -- the option of this name has no value
  NoValue : (name : Text) → ReadingFault
  -- the option of this name takes no value
  TakesNone : (name : Text) → ReadingFault

-- the state of the reading between two arguments
pub data State : Type 0 where
  -- before the first `--`
  choosing : Taken → State
  -- the next argument is the value of this option
  wanting : OptionRow → Taken → State
  -- after the first `--`
  listing : Taken → State
  -- these arguments can't be read, whatever follows
  refused : ReadingFault → State

-- the row of this name
abbrev pub row_named : List OptionRow → Text → Option OptionRow
row_named table name = find (λ o. bytes_eq o.name name) table

-- the option of this name among those that were given, with its value
abbrev pub given : Text → Taken → Option (OptionRow × Text)
given name t = find (λ p. bytes_eq p.0.name name) t.options

-- the value of an option that was given
abbrev pub option_value : Text → Taken → Option Text
option_value name t = option_map (λ p. p.1) (given name t)

-- whether an option was given
abbrev pub is_given : Text → Taken → Bool
is_given name t = is_some (given name t)

abbrev pub with_positional : Text → Taken → Taken
with_positional arg t = record t { positional = t.positional ++ arg ∷ [] }

-- an option is given once
abbrev pub with_option : OptionRow → Text → Taken → State
with_option o value t = if is_some (given o.name t) then refused (Twice o.name)
    else choosing (record t { options = t.options ++ (o, value) ∷ [] })

-- this argument named an option, by this row of the table and with this value attached
abbrev pub after_name : Text → Option OptionRow → Option Text → Taken → State
after_name text None value t = refused (Unknown text)
after_name text (Some o) None t = if o.takes_value then wanting o t else with_option o [] t
after_name text (Some o) (Some v) t = if o.takes_value then with_option o v t else refused (TakesNone o.name)

abbrev pub after_choice : List OptionRow → Taken → Text → ArgForm → State
after_choice table t text end_mark = listing t
after_choice table t text (naming name value) = after_name text (row_named table name) value t
after_choice table t text dashed = refused (Unknown text)
after_choice table t text bare = choosing (with_positional text t)

-- a value that is an argument of its own has no leading hyphen, unless it is one hyphen alone
abbrev pub after_value : OptionRow → Taken → Text → ArgForm → State
after_value o t text bare = with_option o text t
after_value o t text other = refused (NoValue o.name)

-- the state of the reading after one more argument
abbrev pub after_arg : List OptionRow → State → Text → State
after_arg table (choosing t) text = after_choice table t text (arg_of text)
after_arg table (wanting o t) text = after_value o t text (arg_of text)
after_arg table (listing t) text = listing (with_positional text t)
after_arg table (refused fault) text = refused fault

-- what the arguments give at their end: a value that is still missing doesn't come
abbrev pub ended : State → Result Taken ReadingFault
ended (choosing t) = Ok t
ended (listing t) = Ok t
ended (wanting o t) = Err (NoValue o.name)
ended (refused fault) = Err fault

-- what was taken, unless the arguments can't be read
abbrev pub taken_in : Result Taken ReadingFault → Option Taken
taken_in (Ok t) = Some t
taken_in (Err fault) = None

abbrev pub at_end : State → Option Taken
at_end s = taken_in (ended s)

abbrev pub nothing_taken : Taken
nothing_taken = record { options = []; positional = [] }

-- what the arguments give by the table, or why they can't be read: the first of them that is wrong, from the left
abbrev pub reading : List OptionRow → List Text → Result Taken ReadingFault
reading table args = ended (fold (after_arg table) (choosing nothing_taken) args)

-- what the arguments give by the table, or `None` if they are refused
abbrev pub read : List OptionRow → List Text → Option Taken
read table args = at_end (fold (after_arg table) (choosing nothing_taken) args)

-- a command of the program: its name, and its options
pub record CommandRow : Type 0 where
  pub name : Text
  pub options : List OptionRow

-- what the arguments give, and the command for which they give it
pub record Request : Type 0 where
  pub command : Text
  pub taken : Taken

abbrev pub command_named : List CommandRow → Text → Option CommandRow
command_named commands name = find (λ c. bytes_eq c.name name) commands

abbrev pub request_by : CommandRow → List Text → Option Request
request_by c args = option_map (λ t. record { command = c.name; taken = t }) (read c.options args)

-- the first argument names the command, and the others are read for it
abbrev pub request_of : List CommandRow → List Text → Option Request
request_of commands [] = None
request_of commands (arg ∷ args) = option_and_then (λ c. request_by c args) (command_named commands arg)
