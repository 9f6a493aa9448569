-- The parser's reading of a program's arguments is the definition's, for every table of commands.
use Rattle.std.proofs.Common.{◌≡◌, ◌∙◌, Bool, true, false, cond, ◌&&◌, ◌||◌, if◌then◌else◌, List, [], ◌∷◌, ◌++◌, Option, Some, None, refl, sym, ap, map, fold, find, option_map, bytes_eq, length, append_assoc, append-nil, option_and_then, true≢false}
use Rattle.std.specs.List.{list_all}
use Rattle.std.specs.Option.{option_map_or}
use Rattle.std.specs.Bool.{Decides}
use Rattle.std.proofs.lemmas.Slice.Eq.{bytes_eq-Decides}
use Rattle.clap.specs.Walk.{Names, Row, Walk, answers_to, nothing_held, rows_after, settled, stop_after, walk, walk_from, walked, with_default}
use Rattle.clap.specs.Simple.{App, Shape, entered, label_of, names_of, new_shape}
use Rattle.clap.specs.Kinds.{Kinds, or_else}
use Rattle.clap.specs.Faults.{built_fault, defaults_fault, level_fault, walk_fault}
use Rattle.command_line.specs.Reading.{CommandRow, Request, Taken, Text, command_named, read, request_by, request_of}
use Rattle.command_line.proofs.Table.{is_apart, leaf, rules}
use Rattle.command_line.proofs.Views.{View, sees_bare, sees_dashed, sees_end, sees_name, two_hyphens, view}
use Rattle.command_line.proofs.Rows.{Holds}
use Rattle.command_line.proofs.Uses.{dashed_fails, first_fails}
use Rattle.command_line.proofs.Law.{AllUtf8, Verdict, level}

-- the program, once it is built
abbrev pub top : Text → Shape
top name = record (new_shape name) {
  is_leaf = false;
  no_binary_name = true;
  disable_help_flag = true;
  disable_help_subcommand = true;
  disable_version_flag = true;
  subcommand_required = true;
  is_built = true;
}

abbrev pub leaf_of : CommandRow → Shape
leaf_of c = leaf c.name c.options

abbrev pub app : Text → List CommandRow → App
app name commands = record { top = top name; subs = map leaf_of commands }

abbrev pub all_apart : List CommandRow → Bool
all_apart commands = list_all (λ c. is_apart c.options) commands

-- ---- a command by its name

pub same_command : (commands : List CommandRow) (name : Text) (c : CommandRow) → command_named commands name ≡ Some c → command_named commands c.name ≡ Some c
same_command commands name c e = ap (command_named commands) (go commands e) ∙ e
  where
    here : (d : CommandRow) (b : Bool) → Decides b (d.name ≡ name) → (rest : List CommandRow) → (command_named rest name ≡ Some c → c.name ≡ name)
        → cond b (Some d) (command_named rest name) ≡ Some c → c.name ≡ name
    here d true is rest more h = sym (ap (λ x. option_map_or (λ (r : CommandRow). r.name) x name) h) ∙ is.0 refl
    here d false is rest more h = more h

    go : (cs : List CommandRow) → command_named cs name ≡ Some c → c.name ≡ name
    go [] h = absurd (cc)
    go (d ∷ cs) h = here d (bytes_eq d.name name) (bytes_eq-Decides d.name name) cs (go cs) h

pub apart_named : (commands : List CommandRow) (name : Text) (c : CommandRow) → all_apart commands ≡ true → command_named commands name ≡ Some c → is_apart c.options ≡ true
apart_named [] name c all e = absurd (cc)
apart_named (d ∷ cs) name c all e = go (bytes_eq d.name name) (is_apart d.options) refl (λ a h. apart_named cs name c a h) all e
  where
    go : (b x : Bool) → is_apart d.options ≡ x → (all_apart cs ≡ true → command_named cs name ≡ Some c → is_apart c.options ≡ true)
        → (x && all_apart cs) ≡ true → cond b (Some d) (command_named cs name) ≡ Some c → is_apart c.options ≡ true
    go b false f more a h = absurd (cc)
    go true true f more a h = sym (ap (λ y. option_map_or (λ (r : CommandRow). is_apart r.options) y true) h) ∙ f
    go false true f more a h = more a h

names_find : (name : Text) (commands : List CommandRow) (arg : Text) → find (answers_to arg) (names_of (app name commands)) ≡ option_map (λ c. (c.name, [])) (command_named commands arg)
names_find name [] arg = refl
names_find name (c ∷ cs) arg = go (bytes_eq c.name arg) (names_find name cs arg)
  where
    go : (b : Bool) → find (answers_to arg) (names_of (app name cs)) ≡ option_map (λ d. (d.name, [])) (command_named cs arg)
        → cond (b || false) (Some (c.name, [])) (find (answers_to arg) (names_of (app name cs))) ≡ option_map (λ d. (d.name, [])) (cond b (Some c) (command_named cs arg))
    go true e = refl
    go false e = e

subs_find : (commands : List CommandRow) (arg : Text) → find (λ s. answers_to arg (label_of s)) (map leaf_of commands) ≡ option_map leaf_of (command_named commands arg)
subs_find [] arg = refl
subs_find (c ∷ cs) arg = go (bytes_eq c.name arg) (subs_find cs arg)
  where
    go : (b : Bool) → find (λ s. answers_to arg (label_of s)) (map leaf_of cs) ≡ option_map leaf_of (command_named cs arg)
        → cond (b || false) (Some (leaf_of c)) (find (λ s. answers_to arg (label_of s)) (map leaf_of cs)) ≡ option_map leaf_of (cond b (Some c) (command_named cs arg))
    go true e = refl
    go false e = e

-- ---- the first argument names a command

abbrev stop_walk : Text → List Text → Walk
stop_walk command args = record (walk_from nothing_held) { stopped = Some (command, args) }

-- after a command's name every argument is the command's
stopped_walk : (names : Names) (command : Text) (before args : List Text) → fold (walked [] names) (stop_walk command before) args ≡ stop_walk command (before ++ args)
unfolding walked
stopped_walk names command before [] = ap (stop_walk command) (sym (append-nil before))
stopped_walk names command before (w ∷ ws) = stopped_walk names command (before ++ w ∷ []) ws ∙ ap (stop_walk command) (append_assoc before (w ∷ []) ws)

stopped_fault : (name : Text) (names : Names) (command : Text) (before args : List Text) → walk_fault (top name) names (stop_walk command before) args ≡ []
unfolding walk_fault walked
stopped_fault name names command before [] = refl
stopped_fault name names command before (w ∷ ws) = stopped_fault name names command (before ++ w ∷ []) ws

or_nothing : (k : Kinds) → or_else k [] ≡ k
or_nothing [] = refl
or_nothing (x ∷ xs) = refl

-- there is no help command
no_help : (b : Bool) (k : Kinds) → (if b && false then k else []) ≡ []
no_help true k = refl
no_help false k = refl

module _ (name : Text) (commands : List CommandRow) where
  abbrev names : Names
  names = names_of (app name commands)

  walk_is : (arg : Text) (args : List Text) (c : CommandRow) → command_named commands arg ≡ Some c → walk [] names nothing_held (arg ∷ args) ≡ stop_walk c.name args
  unfolding walked
  walk_is arg args c is = rw (names_find name commands arg, is) (stopped_walk names c.name [] args)

  entered_is : (args : List Text) (c : CommandRow) → command_named commands c.name ≡ Some c
      → entered (app name commands) (Some (c.name, args)) ≡ Some (c.name, rows_after (rules c.options) [] args)
  entered_is args c own = rw (subs_find commands c.name, own) refl

  walk_fault_is : (arg : Text) (args : List Text) (c : CommandRow) → command_named commands arg ≡ Some c → walk_fault (top name) names (walk_from nothing_held) (arg ∷ args) ≡ []
  unfolding walk_fault walked
  walk_fault_is arg args c is = rw (names_find name commands arg, is, no_help) (stopped_fault name names c.name [] args)

  -- the parse fails exactly as that of the command
  line_fault : (arg : Text) (args : List Text) (c : CommandRow) → command_named commands arg ≡ Some c
      → built_fault (app name commands) nothing_held (arg ∷ args) ≡ level_fault (leaf_of c) [] nothing_held args false []
  unfolding defaults_fault
  line_fault arg args c is = rw (walk_fault_is arg args c is, walk_is arg args c is, subs_find commands c.name, same_command commands arg c is) (or_nothing _)

  line_enters : (arg : Text) (args : List Text) (c : CommandRow) → command_named commands arg ≡ Some c
      → entered (app name commands) (stop_after [] names (arg ∷ args)) ≡ Some (c.name, rows_after (rules c.options) [] args)
  line_enters arg args c is = ap (λ (w : Walk). entered (app name commands) w.stopped) (walk_is arg args c is) ∙ entered_is args c (same_command commands arg c is)

  -- ---- the first argument names no command

  -- only `--` passes, and then nothing takes the next argument
  no_turn : (arg : Text) (args : List Text) → command_named commands arg ≡ None → View arg → (bytes_eq arg two_hyphens ≡ true → (x : Text) × ((xs : List Text) × (args ≡ x ∷ xs)))
      → walk_fault (top name) names (walk_from nothing_held) (arg ∷ args) ≡ [] → ⊥
  unfolding walk_fault walked
  no_turn arg args none (sees_end w d) more = let some = more d in rw (some.1.1, names_find name commands arg, none, d) (λ e. cc)
  no_turn arg args none (sees_name n v w l d) more = rw (names_find name commands arg, none, d, l) (λ e. cc)
  no_turn arg args none (sees_dashed x xs c w l f first d) more =
      rw (names_find name commands arg, none, d, l, f) (first_fails _ _ (first_fails _ _ (dashed_fails [] (x ∷ xs) c (length xs) nothing_held first refl)))
  no_turn arg args none (sees_bare w l f d) more = rw (names_find name commands arg, none, d, l, f) (λ e. cc)

  no_args : (arg : Text) → command_named commands arg ≡ None → bytes_eq arg two_hyphens ≡ true → built_fault (app name commands) nothing_held (arg ∷ []) ≡ [] → ⊥
  unfolding walk_fault walked defaults_fault
  no_args arg none d = rw (names_find name commands arg, none, d) (λ e. cc)

  no_command : (arg : Text) (args : List Text) → View arg → command_named commands arg ≡ None → built_fault (app name commands) nothing_held (arg ∷ args) ≡ [] → ⊥
  no_command arg [] v none = go (bytes_eq arg two_hyphens) refl
    where
      go : (b : Bool) → bytes_eq arg two_hyphens ≡ b → built_fault (app name commands) nothing_held (arg ∷ []) ≡ [] → ⊥
      go true e = no_args arg none e
      go false e = first_fails _ _ (no_turn arg [] none v (λ f. absurd (true≢false (sym f ∙ e))))
  no_command arg (x ∷ xs) v none = first_fails _ _ (no_turn arg (x ∷ xs) none v (λ f. (x, (xs, refl))))

-- ---- the law

-- the parse enters the command, and its rows hold what was taken
pub record Enters (commands : List CommandRow) (r : Request) (sub : Option (Text × List Row)) : Type 0 where
  pub row : CommandRow
  pub named : command_named commands r.command ≡ Some row
  pub rows : List Row
  pub holds : Holds row.options rows r.taken
  pub entered : sub ≡ Some (r.command, fold with_default rows (rules row.options))

-- no kind of error comes, and the parse enters the command; or a kind comes, and nothing is requested
abbrev pub ProgramVerdict : List CommandRow → Kinds → Option (Text × List Row) → Option Request → Type 0
ProgramVerdict commands kinds sub None = kinds ≡ [] → ⊥
ProgramVerdict commands kinds sub (Some r) = (kinds ≡ []) × Enters commands r sub

by_command : (name : Text) (commands : List CommandRow) → all_apart commands ≡ true → (arg : Text) (args : List Text) → AllUtf8 args → (c : CommandRow) → command_named commands arg ≡ Some c
    → ProgramVerdict commands (built_fault (app name commands) nothing_held (arg ∷ args)) (entered (app name commands) (stop_after [] (names_of (app name commands)) (arg ∷ args)))
    (request_by c args)
by_command name commands apart arg args u c is = go (read c.options args) (level c.name c.options (apart_named commands arg c apart is) args u)
  where
    go : (t : Option Taken) → Verdict c.options (level_fault (leaf_of c) [] nothing_held args false []) (settled (rules c.options) (walk (rules c.options) [] nothing_held args).held).rows t
        → ProgramVerdict commands (built_fault (app name commands) nothing_held (arg ∷ args)) (entered (app name commands) (stop_after [] (names_of (app name commands)) (arg ∷ args)))
        (option_map (λ t. record { command = c.name; taken = t }) t)
    go None bad = λ e. bad (sym (line_fault name commands arg args c is) ∙ e)
    go (Some t) good = (
      line_fault name commands arg args c is ∙ good.0,
      record {
        row = c;
        named = same_command commands arg c is;
        rows = (settled (rules c.options) (walk (rules c.options) [] nothing_held args).held).rows;
        holds = good.1;
        entered = line_enters name commands arg args c is;
      },
    )

-- The parser's reading of the arguments of a program is the definition's.
pub program_law : (name : Text) (commands : List CommandRow) → all_apart commands ≡ true → (args : List Text) → AllUtf8 args
    → ProgramVerdict commands (built_fault (app name commands) nothing_held args) (entered (app name commands) (stop_after [] (names_of (app name commands)) args)) (request_of commands args)
unfolding walk_fault defaults_fault
program_law name commands apart [] u = λ e. cc
program_law name commands apart (arg ∷ args) u = go (command_named commands arg) refl
  where
    go : (x : Option CommandRow) → command_named commands arg ≡ x
        → ProgramVerdict commands (built_fault (app name commands) nothing_held (arg ∷ args)) (entered (app name commands) (stop_after [] (names_of (app name commands)) (arg ∷ args)))
        (option_and_then (λ c. request_by c args) x)
    go None none = no_command name commands arg args (view arg u.0) none
    go (Some c) is = by_command name commands apart arg args u.1 c is
