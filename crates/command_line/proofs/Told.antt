-- A program that is told of its commands one by one, and a command that is told of its options.
use Rattle.std.proofs.Common.{◌≡◌, ◌∙◌, ◌<◌, ◌≤◌, ◌+◌, ℕ, List, [], ◌∷◌, ◌++◌, refl, append_assoc, add-one, ap, ap₂, drop, drop-cons, get_or, length, map, sym}
use Rattle.std.proofs.lemmas.List.{drop_all}
use Rattle.clap.specs.Walk.{Rule}
use Rattle.clap.specs.Simple.{App, new_app, with_rule, with_subcommand}
use Rattle.command_line.specs.declared.tables.CommandRow.{CommandRow}
use Rattle.command_line.specs.declared.tables.OptionRow.{OptionRow}
use Rattle.command_line.specs.Reading.{OptionRow as NamedOption}
use Rattle.command_line.specs.Names.{command_row, option_row}
use Rattle.command_line.specs.Parser.{arg_rule, command_app, option_rule, told_rules, with_commands}

-- the program with one more command
pub next_command : (rows : List CommandRow) (i : ℕ) (none : CommandRow) (old new sub whole : App) → i < length rows → new ≡ with_subcommand old sub.top
    → sub ≡ command_app (command_row (get_or rows i none)) → with_commands old (map command_row (drop i rows)) ≡ whole
    → with_commands new (map command_row (drop (i + 1) rows)) ≡ whole
next_command rows i none old new sub whole within adds is so_far =
    let left : drop i rows ≡ get_or rows i none ∷ drop (i + 1) rows = rw add-one (drop-cons rows i none within) in
    ap (λ a. with_commands a (map command_row (drop (i + 1) rows))) (adds ∙ ap (λ (s : App). with_subcommand old s.top) is)
    ∙ sym (ap (λ xs. with_commands old (map command_row xs)) left)
    ∙ so_far

-- the command with these options after those that it has
abbrev pub with_options : App → List NamedOption → App
with_options app [] = app
with_options app (o ∷ os) = with_options (with_rule app (option_rule o)) os

-- the command with one more option
pub next_option : (options : List OptionRow) (i : ℕ) (none : OptionRow) (old new whole : App) (rule : Rule) → i < length options → new ≡ with_rule old rule
    → rule ≡ option_rule (option_row (get_or options i none)) → with_options old (map option_row (drop i options)) ≡ whole
    → with_options new (map option_row (drop (i + 1) options)) ≡ whole
next_option options i none old new whole rule within adds is so_far =
    let left : drop i options ≡ get_or options i none ∷ drop (i + 1) options = rw add-one (drop-cons options i none within) in
    ap (λ a. with_options a (map option_row (drop (i + 1) options))) (adds ∙ ap (with_rule old) is)
    ∙ sym (ap (λ xs. with_options old (map option_row xs)) left)
    ∙ so_far

-- the app with these rules after those that it has
abbrev with_rules : App → List Rule → App
with_rules app rules = record app { top = record app.top { rules = app.top.rules ++ rules } }

then_args : (app : App) (os : List NamedOption) → with_rule (with_options app os) arg_rule ≡ with_rules app (told_rules os)
then_args app [] = refl
then_args app (o ∷ os) =
    then_args (with_rule app (option_rule o)) os
    ∙ ap (λ (rs : List Rule). record app { top = record app.top { rules = rs } }) (append_assoc app.top.rules (option_rule o ∷ []) (told_rules os))

-- a command was told of all its options, and is told of its positional arguments
pub told_command : (row : CommandRow) (i : ℕ) (app new : App) (rule : Rule) → length row.options.now ≤ i
    → with_options app (map option_row (drop i row.options.now)) ≡ with_options (new_app row.name.now) (map option_row row.options.now)
    → rule ≡ arg_rule → new ≡ with_rule app rule → new ≡ command_app (command_row row)
told_command row i app new rule all so_far is adds =
    let told = sym (ap (λ xs. with_options app (map option_row xs)) (drop_all i row.options.now all)) ∙ so_far in
    adds ∙ ap₂ with_rule told is ∙ then_args (new_app row.name.now) (map option_row row.options.now)
