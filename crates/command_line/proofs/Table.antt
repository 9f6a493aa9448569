-- The rules that the parser builds of a table of options, and what a look-up among them finds.
use Rattle.std.proofs.Common.{◌≡◌, ◌∙◌, ℕ, Bool, true, false, cond, not, ◌&&◌, ◌||◌, List, [], ◌∷◌, Some, None, refl, ap, codes, bytes_eq, option_map, sym}
use Rattle.std.specs.List.{list_all}
use Rattle.std.specs.Option.{option_map_or}
use Rattle.std.specs.Bool.{Decides}
use Rattle.std.proofs.lemmas.Slice.Eq.{bytes_eq-Decides}
use Rattle.clap.specs.Walk.{Rule, arg_by_id, arg_by_index, arg_by_long, arg_by_short}
use Rattle.clap.specs.Simple.{Shape, filled, new_shape, with_index}
use Rattle.command_line.specs.Reading.{OptionRow, Text, row_named}
use Rattle.command_line.specs.Parser.{option_rule, arg_rule}

abbrev pub arg_id : Text
arg_id = codes "arg"

-- the rule of an option, once the command is built
abbrev pub ready : OptionRow → Rule
ready o = filled (option_rule o)

-- the rule of the positional arguments, once the command is built
abbrev pub ready_arg : Rule
ready_arg = with_index 1 (filled arg_rule)

abbrev pub rules : List OptionRow → List Rule
rules [] = ready_arg ∷ []
rules (o ∷ os) = ready o ∷ rules os

-- a command of the program, once it is built
abbrev pub leaf : Text → List OptionRow → Shape
leaf name os = record (new_shape name) {
  rules = rules os;
  no_binary_name = true;
  disable_help_flag = true;
  disable_help_subcommand = true;
  disable_version_flag = true;
  is_built = true;
}

-- no option has the name under which the positional arguments are kept
abbrev pub is_apart : List OptionRow → Bool
is_apart os = list_all (λ o. not (bytes_eq o.name arg_id)) os

pub by_long : (os : List OptionRow) (name : Text) → arg_by_long (rules os) name ≡ option_map ready (row_named os name)
by_long [] name = refl
by_long (o ∷ os) name = go (bytes_eq o.name name) (by_long os name)
  where
    go : (b : Bool) → arg_by_long (rules os) name ≡ option_map ready (row_named os name)
        → cond (b || false) (Some (ready o)) (arg_by_long (rules os) name) ≡ option_map ready (cond b (Some o) (row_named os name))
    go true e = refl
    go false e = e

pub by_short : (os : List OptionRow) (x : ℕ) → arg_by_short (rules os) x ≡ None
by_short [] x = refl
by_short (o ∷ os) x = by_short os x

pub by_index : (os : List OptionRow) → arg_by_index (rules os) 1 ≡ Some ready_arg
by_index [] = refl
by_index (o ∷ os) = by_index os

pub by_id : (os : List OptionRow) (name : Text) (o : OptionRow) → row_named os name ≡ Some o → arg_by_id (rules os) name ≡ Some (ready o)
by_id [] name o e = absurd (cc)
by_id (p ∷ os) name o e = go (bytes_eq p.name name) (by_id os name o) e
  where
    go : (b : Bool) → (row_named os name ≡ Some o → arg_by_id (rules os) name ≡ Some (ready o))
        → cond b (Some p) (row_named os name) ≡ Some o → cond b (Some (ready p)) (arg_by_id (rules os) name) ≡ Some (ready o)
    go true h e = ap (option_map ready) e
    go false h e = h e

pub by_arg_id : (os : List OptionRow) → is_apart os ≡ true → arg_by_id (rules os) arg_id ≡ Some ready_arg
by_arg_id [] e = refl
by_arg_id (o ∷ os) e = go (bytes_eq o.name arg_id) (by_arg_id os) e
  where
    go : (b : Bool) → (is_apart os ≡ true → arg_by_id (rules os) arg_id ≡ Some ready_arg)
        → (not b && is_apart os) ≡ true → cond b (Some (ready o)) (arg_by_id (rules os) arg_id) ≡ Some ready_arg
    go true h e = absurd (cc)
    go false h e = h e

-- a row is found by its own name
pub same_name : (os : List OptionRow) (name : Text) (o : OptionRow) → row_named os name ≡ Some o → o.name ≡ name
same_name [] name o e = absurd (cc)
same_name (p ∷ os) name o e = go (bytes_eq p.name name) (bytes_eq-Decides p.name name) (same_name os name o) e
  where
    go : (b : Bool) → Decides b (p.name ≡ name) → (row_named os name ≡ Some o → o.name ≡ name) → cond b (Some p) (row_named os name) ≡ Some o → o.name ≡ name
    go true d more e = sym (ap (λ x. option_map_or (λ (r : OptionRow). r.name) x name) e) ∙ d.0 refl
    go false d more e = more e

pub by_own_name : (os : List OptionRow) (name : Text) (o : OptionRow) → row_named os name ≡ Some o → row_named os o.name ≡ Some o
by_own_name os name o e = ap (row_named os) (same_name os name o e) ∙ e

-- an option of a table is named apart from the positional arguments
pub row_apart : (os : List OptionRow) (name : Text) (o : OptionRow) → is_apart os ≡ true → row_named os name ≡ Some o → bytes_eq o.name arg_id ≡ false
row_apart [] name o apart e = absurd (cc)
row_apart (p ∷ os) name o apart e = go (bytes_eq p.name name) (bytes_eq p.name arg_id) refl (λ a h. row_apart os name o a h) apart e
  where
    go : (b x : Bool) → bytes_eq p.name arg_id ≡ x → (is_apart os ≡ true → row_named os name ≡ Some o → bytes_eq o.name arg_id ≡ false)
        → (not x && is_apart os) ≡ true → cond b (Some p) (row_named os name) ≡ Some o → bytes_eq o.name arg_id ≡ false
    go b true f more a h = absurd (cc)
    go true false f more a h = sym (ap (λ y. option_map_or (λ (r : OptionRow). bytes_eq r.name arg_id) y false) h) ∙ f
    go false false f more a h = more a h
