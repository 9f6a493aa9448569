-- What the arguments of the command ask.
use Rattle.std.specs.Prelude.{ℕ, ◌==◌, ◌||◌, Bool, true, false, nat_lt, if◌then◌else◌, List, [], ◌∷◌, ◌++◌, length, Option, Some, None, is_some, option_map, option_and_then, bytes_eq, codes, slice_index}
use Rattle.program_logic.specs.declared.outline.Lock.{Lock}
use Rattle.program_logic.specs.declared.values.Term.{Term}
use Rattle.proof_words.specs.Rules.{parts_at, rule_in}
use Rattle.proof_words.specs.declared.words.Choice.{Choice}
use Rattle.proof_words.specs.declared.words.Choice.TheVariants as choice
use Rattle.run_inputs.specs.Numbers.{number}

-- What is asked: the lock with its word and its rule, and the names of the images.
pub record Asked : Type 0 where
  pub lock : Lock
  pub images : List (List ℕ)

-- What was read of the arguments: the values of the options, the option whose value comes next, whether `--` was read, after which no argument is
-- an option, and the names of images.
pub record Read : Type 0 where
  pub lock : Option ℕ
  pub word : Option ℕ
  pub rule : Option Term
  pub due : Option Choice
  pub is_past : Bool
  pub images : List (List ℕ)

-- nothing was read
abbrev pub nothing_read : Read
nothing_read = record { lock = None; word = None; rule = None; due = None; is_past = false; images = [] }

-- the option that an argument names
abbrev pub option_in : List ℕ → Option Choice
option_in arg =
    if bytes_eq arg (codes "--lock") then Some choice.Lock
    else if bytes_eq arg (codes "--word") then Some choice.Word
    else if bytes_eq arg (codes "--rule") then Some choice.Rule
    else None

-- the option that an argument names in front of `=`, and the value after it
abbrev pub option_with_value : List ℕ → Option (Choice × List ℕ)
option_with_value arg = option_and_then (λ p. option_map (λ choice. (choice, p.1)) (option_in p.0)) (parts_at 61 arg)

-- An option takes a value once: a semaphore from 1 to 127, an address from 1 to 1048572, or a rule.
abbrev pub chosen : Choice → List ℕ → Read → Option Read
chosen choice.Lock value r = if is_some r.lock then None else option_map (λ n. record r { lock = Some n }) (number value 127)
chosen choice.Word value r = if is_some r.word then None else option_map (λ n. record r { word = Some n }) (number value 1048572)
chosen choice.Rule value r = if is_some r.rule then None else option_map (λ t. record r { rule = Some t }) (rule_in value)

-- a name of an image, which isn't empty
abbrev pub named : List ℕ → Read → Option Read
named arg r = if length arg == 0 then None else Some (record r { images = r.images ++ arg ∷ [] })

-- before `--` it doesn't begin with a hyphen
abbrev pub named_first : List ℕ → Read → Option Read
named_first arg r = if slice_index arg 0 == 45 then None else named arg r

-- an argument that is no value names an option, or an option with its value, or it is `--`, or it names an image
abbrev pub after_word : Option Choice → Option (Choice × List ℕ) → List ℕ → Read → Option Read
after_word (Some choice) with_value arg r = Some (record r { due = Some choice })
after_word None (Some p) arg r = chosen p.0 p.1 r
after_word None None arg r = if bytes_eq arg (codes "--") then Some (record r { is_past = true }) else named_first arg r

-- what was read after one more argument, if it is a good one
abbrev pub after : Option Choice → List ℕ → Read → Option Read
after (Some choice) arg r = chosen choice arg (record r { due = None })
after None arg r = if r.is_past then named arg r else after_word (option_in arg) (option_with_value arg) arg r

-- what was read after more arguments, if all are good ones
abbrev pub read_on : Read → List (List ℕ) → Option Read
read_on r [] = Some r
read_on r (arg ∷ args) = option_and_then (λ next. read_on next args) (after r.due arg r)

-- what is asked if each option was given
abbrev pub asked_with : Option ℕ → Option ℕ → Option Term → List (List ℕ) → Option Asked
asked_with (Some lock) (Some word) (Some rule) images = Some (record { lock = record { sem = lock; word = word; rule = rule }; images = images })
asked_with (Some lock) (Some word) None images = None
asked_with (Some lock) None rule images = None
asked_with None word rule images = None

-- What was read asks something if each option was given, no value is missing, and one to eight images are named.
abbrev pub asked_by : Read → Option Asked
asked_by r =
    if is_some r.due || ((length r.images == 0) || nat_lt 8 (length r.images)) then None
    else asked_with r.lock r.word r.rule r.images

-- what the arguments ask, if they are good ones
unfoldable pub asked : List (List ℕ) → Option Asked
asked args = option_and_then asked_by (read_on nothing_read args)
