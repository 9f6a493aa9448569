-- One use of an option or of a positional argument, as the parser counts it.
use Rattle.std.proofs.Common.{◌≡◌, ℕ, Bool, true, false, if◌then◌else◌, List, [], ◌∷◌, ◌++◌, Option, Some, None, refl, codes, chars, is_some, slice_get, suc, ◌&&◌}
use Rattle.clap.specs.Walk.{Held, Row, Rule, arg_by_short, is_pending, more_values, takes_values, used}
use Rattle.clap.specs.declared.parser.matches.ValueSource.TheVariants.{CommandLine}
use Rattle.clap.specs.Kinds.{Kinds, or_else}
use Rattle.clap.specs.declared.error.kind.ErrorKind.TheVariants.{TooManyValues}
use Rattle.clap.specs.Faults.{flags_fault, long_fault, option_fault, positional_fault, react_fault, settle_fault, use_fault}
use Rattle.command_line.specs.Reading.{OptionRow, Text}
use Rattle.command_line.proofs.Rows.{at_row_none, find_row, has_found, row_made, without_none}
use Rattle.command_line.proofs.Table.{ready, ready_arg}

-- the values of a use: a flag has none
abbrev pub raw : OptionRow → Text → List Text
raw o v = if o.takes_value then v ∷ [] else []

first_by : (name : Text) (b : Bool) (v : Text) (rows : List Row) → find_row name rows ≡ None
    → use_fault false (ready (record { name = name; takes_value = b })) (raw (record { name = name; takes_value = b }) v) rows ≡ []
first_by name true v rows none = rw (has_found name rows, none) refl
first_by name false v rows none = rw (has_found name rows, none) refl

pub first_use : (o : OptionRow) (v : Text) (rows : List Row) → find_row o.name rows ≡ None → use_fault false (ready o) (raw o v) rows ≡ []
first_use o v rows none = first_by o.name o.takes_value v rows none

second_by : (name : Text) (b : Bool) (v : Text) (rows : List Row) → is_some (find_row name rows) ≡ true
    → use_fault false (ready (record { name = name; takes_value = b })) (raw (record { name = name; takes_value = b }) v) rows ≡ [] → ⊥
second_by name true v rows some = rw (has_found name rows, some) (λ e. cc)
second_by name false v rows some = rw (has_found name rows, some) (λ e. cc)

pub second_use : (o : OptionRow) (v : Text) (rows : List Row) → is_some (find_row o.name rows) ≡ true → use_fault false (ready o) (raw o v) rows ≡ [] → ⊥
second_use o v rows some = second_by o.name o.takes_value v rows some

empty_by : (name : Text) (b : Bool) (rows : List Row) → b ≡ true → use_fault false (ready (record { name = name; takes_value = b })) [] rows ≡ [] → ⊥
empty_by name true rows e = λ f. cc
empty_by name false rows e = absurd (cc)

-- an option that wants a value and has none fails
pub empty_use : (o : OptionRow) (rows : List Row) → o.takes_value ≡ true → use_fault false (ready o) [] rows ≡ [] → ⊥
empty_use o rows e = empty_by o.name o.takes_value rows e

used_by : (name : Text) (b : Bool) (v : Text) (rows : List Row) → find_row name rows ≡ None
    → used (ready (record { name = name; takes_value = b })) (raw (record { name = name; takes_value = b }) v) rows ≡ rows ++ row_made (record { name = name; takes_value = b }) v ∷ []
used_by name true v rows none = rw (without_none name rows none) (at_row_none name (more_values CommandLine (v ∷ [])) _ rows none)
used_by name false v rows none = rw (without_none name rows none) (at_row_none name (more_values CommandLine (codes "true" ∷ [])) _ rows none)

-- a first use adds its row
pub rows_used : (o : OptionRow) (v : Text) (rows : List Row) → find_row o.name rows ≡ None → used (ready o) (raw o v) rows ≡ rows ++ row_made o v ∷ []
rows_used o v rows none = used_by o.name o.takes_value v rows none

-- ---- what fails before an argument is used

pub first_fails : (a b : Kinds) → (a ≡ [] → ⊥) → or_else a b ≡ [] → ⊥
first_fails [] b h e = h refl
first_fails (k ∷ ks) b h e = absurd (cc)

pub second_fails : (a b : Kinds) → (b ≡ [] → ⊥) → or_else a b ≡ [] → ⊥
second_fails [] b h e = h e
second_fails (k ∷ ks) b h e = absurd (cc)

-- a positional argument settles what is pending
pub positional_is : (c : List Rule) (h : Held) → positional_fault c false ready_arg h ≡ settle_fault c false h
positional_is c h = go (is_pending ready_arg h.pending)
  where
    go : (b : Bool) → (if b && false then [] else settle_fault c false h) ≡ settle_fault c false h
    go true = refl
    go false = refl

option_fails : (c : List Rule) (a : Rule) (v : Option Text) (h : Held) → (settle_fault c false h ≡ [] → ⊥) → option_fault c false a v h ≡ [] → ⊥
option_fails c a None h bad = bad
option_fails c a (Some v) h bad = first_fails _ _ bad

flag_fails : (c : List Rule) (a : Rule) (v : Option Text) (h : Held) → (settle_fault c false h ≡ [] → ⊥)
    → (if is_some v then TooManyValues ∷ [] else react_fault c false a [] h) ≡ [] → ⊥
flag_fails c a None h bad = first_fails _ _ bad
flag_fails c a (Some v) h bad = λ e. cc

-- if what is pending fails, a named option does
pub long_fails : (c : List Rule) (a : Option Rule) (v : Option Text) (h : Held) → (settle_fault c false h ≡ [] → ⊥) → long_fault c false a v h ≡ [] → ⊥
long_fails c None v h bad = λ e. cc
long_fails c (Some a) v h bad = go (takes_values a)
  where
    go : (b : Bool) → (if b then option_fault c false a v h else (if is_some v then TooManyValues ∷ [] else react_fault c false a [] h)) ≡ [] → ⊥
    go true = option_fails c a v h bad
    go false = flag_fails c a v h bad

-- an argument of flags fails if no option has their first character
pub dashed_fails : (c : List Rule) (flags : Text) (x k : ℕ) (h : Held) → slice_get (chars flags) 0 ≡ Some x → arg_by_short c x ≡ None → flags_fault c false (suc k) flags 0 h ≡ [] → ⊥
unfolding flags_fault
dashed_fails c flags x k h first none = rw (first, none) (λ e. cc)
