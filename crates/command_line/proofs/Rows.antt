-- The rows of the parser's matches, and what they hold of what the definition took.
use Rattle.std.proofs.Common.{◌≡◌, ◌∙◌, Bool, true, false, cond, if◌then◌else◌, ◌||◌, List, [], ◌∷◌, ◌++◌, Option, Some, None, refl, sym, ap, codes, find, bytes_eq, is_some, option_map, true≢false, append-nil}
use Rattle.std.specs.Option.{option_or}
use Rattle.std.specs.Bool.{Decides}
use Rattle.std.proofs.lemmas.List.Folds.{find-append}
use Rattle.std.proofs.lemmas.Slice.Eq.{bytes_eq-Decides}
use Rattle.clap.specs.Walk.{Row, at_row, has_row, more_values, reading_by, stronger, used, without}
use Rattle.clap.specs.declared.parser.matches.ValueSource.TheVariants.{CommandLine}
use Rattle.command_line.specs.Reading.{OptionRow, Taken, Text, given, row_named, with_positional}
use Rattle.command_line.proofs.Table.{ready, ready_arg, arg_id}

abbrev pub find_row : Text → List Row → Option Row
find_row id rows = find (λ r. bytes_eq r.id id) rows

pub has_found : (id : Text) (rows : List Row) → has_row id rows ≡ is_some (find_row id rows)
has_found id [] = refl
has_found id (r ∷ rs) = go (bytes_eq r.id id) (has_found id rs)
  where
    go : (b : Bool) → has_row id rs ≡ is_some (find_row id rs) → (b || has_row id rs) ≡ is_some (cond b (Some r) (find_row id rs))
    go true e = refl
    go false e = e

-- if there is no row of this id, none is changed
pub at_row_none : (id : Text) (change : Row → List Row) (missing rows : List Row) → find_row id rows ≡ None → at_row id change missing rows ≡ rows ++ missing
at_row_none id change missing [] none = refl
at_row_none id change missing (r ∷ rs) none = go (bytes_eq r.id id) (at_row_none id change missing rs) none
  where
    go : (b : Bool) → (find_row id rs ≡ None → at_row id change missing rs ≡ rs ++ missing) → cond b (Some r) (find_row id rs) ≡ None
        → cond b (change r ++ rs) (r ∷ at_row id change missing rs) ≡ r ∷ (rs ++ missing)
    go true more none = absurd (cc)
    go false more none = ap (λ x. r ∷ x) (more none)

pub without_none : (id : Text) (rows : List Row) → find_row id rows ≡ None → without id rows ≡ rows
without_none id rows none = at_row_none id (λ x. []) [] rows none ∙ append-nil rows

-- ---- what the rows hold

-- the row of an option that was given
abbrev pub row_made : OptionRow → Text → Row
row_made o v = record {
  id = o.name;
  values = if o.takes_value then v ∷ [] else codes "true" ∷ [];
  count = None;
  source = Some CommandLine;
  reading = reading_by (ready o);
}

abbrev pub arg_row : List Text → Row
arg_row args = record {
  id = arg_id;
  values = args;
  count = None;
  source = Some CommandLine;
  reading = reading_by ready_arg;
}

abbrev pub args_row : List Text → Option Row
args_row [] = None
args_row (w ∷ ws) = Some (arg_row (w ∷ ws))

-- the rows hold what was taken, by a table of options
pub record Holds (os : List OptionRow) (rows : List Row) (t : Taken) : Type 0 where
  -- what was given is of the table
  pub known : (id : Text) (p : OptionRow × Text) → given id t ≡ Some p → row_named os id ≡ Some p.0
  pub options : (id : Text) → bytes_eq id arg_id ≡ false → find_row id rows ≡ option_map (λ p. row_made p.0 p.1) (given id t)
  pub args : find_row arg_id rows ≡ args_row t.positional

-- ---- small facts of tests and options

pub or_none : {X : Type 0} (x : Option X) → option_or x None ≡ x
or_none None = refl
or_none (Some x) = refl

-- ---- one more option

module _ (o : OptionRow) (v : Text) where
  known_more : (os : List OptionRow) (id : Text) (b : Bool) → row_named os o.name ≡ Some o → Decides b (o.name ≡ id) → (found : Option (OptionRow × Text))
      → ((p : OptionRow × Text) → found ≡ Some p → row_named os id ≡ Some p.0) → (p : OptionRow × Text) → option_or found (cond b (Some (o, v)) None) ≡ Some p → row_named os id ≡ Some p.0
  known_more os id b row d (Some q) k p e = k p e
  known_more os id true row d None k p e = ap (row_named os) (sym (d.0 refl)) ∙ row ∙ ap (option_map (λ (q : OptionRow × Text). q.0)) e
  known_more os id false row d None k p e = absurd (cc)

  made_more : (b : Bool) (found : Option (OptionRow × Text)) → option_or (option_map (λ p. row_made p.0 p.1) found) (cond b (Some (row_made o v)) None)
      ≡ option_map (λ p. row_made p.0 p.1) (option_or found (cond b (Some (o, v)) None))
  made_more b (Some q) = refl
  made_more true None = refl
  made_more false None = refl

pub one_more_option : (os : List OptionRow) (o : OptionRow) (v : Text) (rows : List Row) (t : Taken) → row_named os o.name ≡ Some o → bytes_eq o.name arg_id ≡ false
    → Holds os rows t → Holds os (rows ++ row_made o v ∷ []) (record t { options = t.options ++ (o, v) ∷ [] })
one_more_option os o v rows t row apart h = record {
  known = λ id p e. known_more o v os id (bytes_eq o.name id) row (bytes_eq-Decides o.name id) (given id t) (h.known id) p
      (sym (find-append (λ (q : OptionRow × Text). bytes_eq q.0.name id) t.options ((o, v) ∷ [])) ∙ e);
  options = λ id other. find-append (λ (r : Row). bytes_eq r.id id) rows (row_made o v ∷ [])
      ∙ ap (λ x. option_or x (cond (bytes_eq o.name id) (Some (row_made o v)) None)) (h.options id other)
      ∙ made_more o v (bytes_eq o.name id) (given id t)
      ∙ ap (option_map (λ (p : OptionRow × Text). row_made p.0 p.1)) (sym (find-append (λ (q : OptionRow × Text). bytes_eq q.0.name id) t.options ((o, v) ∷ [])));
  args = find-append (λ (r : Row). bytes_eq r.id arg_id) rows (row_made o v ∷ [])
      ∙ ap (λ b. option_or (find_row arg_id rows) (cond b (Some (row_made o v)) None)) apart ∙ or_none (find_row arg_id rows) ∙ h.args;
}

-- ---- one more positional argument

apart_back : (a b : Text) → bytes_eq a b ≡ false → bytes_eq b a ≡ false
apart_back a b e = go (bytes_eq b a) (bytes_eq-Decides b a)
  where
    go : (d : Bool) → Decides d (b ≡ a) → d ≡ false
    go true d = absurd (true≢false (sym ((bytes_eq-Decides a b).1 (sym (d.0 refl))) ∙ e))
    go false d = refl

abbrev grown : List Text → Row → Row
grown values r = record r { values = r.values ++ values; source = Some (stronger r.source CommandLine) }

-- the row of this id grows
find_changed : (id : Text) (values : List Text) (new : Row) (rows : List Row) (r : Row) → find_row id rows ≡ Some r
    → find_row id (at_row id (more_values CommandLine values) (new ∷ []) rows) ≡ Some (grown values r)
find_changed id values new [] r e = absurd (cc)
find_changed id values new (x ∷ xs) r e = go (bytes_eq x.id id) refl (find_changed id values new xs r) e
  where
    go : (b : Bool) → bytes_eq x.id id ≡ b → (find_row id xs ≡ Some r → find_row id (at_row id (more_values CommandLine values) (new ∷ []) xs) ≡ Some (grown values r))
        → cond b (Some x) (find_row id xs) ≡ Some r → find_row id (at_row id (more_values CommandLine values) (new ∷ []) (x ∷ xs)) ≡ Some (grown values r)
    go true is more e = rw is (rw is (ap (option_map (grown values)) e))
    go false is more e = rw is (rw is (more e))

-- the rows of other ids stay
find_others : (id other : Text) (values : List Text) (new : Row) → new.id ≡ id → bytes_eq id other ≡ false → (rows : List Row)
    → find_row other (at_row id (more_values CommandLine values) (new ∷ []) rows) ≡ find_row other rows
find_others id other values new is apart [] = ap (λ x. cond (bytes_eq x other) (Some new) None) is ∙ rw apart refl
find_others id other values new is apart (x ∷ xs) = go (bytes_eq x.id id) (bytes_eq-Decides x.id id) (find_others id other values new is apart xs)
  where
    go : (b : Bool) → Decides b (x.id ≡ id) → find_row other (at_row id (more_values CommandLine values) (new ∷ []) xs) ≡ find_row other xs
        → find_row other (cond b (more_values CommandLine values x ++ xs) (x ∷ at_row id (more_values CommandLine values) (new ∷ []) xs)) ≡ find_row other (x ∷ xs)
    go true d more = let miss : bytes_eq x.id other ≡ false = ap (λ y. bytes_eq y other) (d.0 refl) ∙ apart in rw miss refl
    go false d more = ap (λ y. cond (bytes_eq x.id other) (Some x) y) more

args_more : (arg : Text) (rows : List Row) (args : List Text) → find_row arg_id rows ≡ args_row args → find_row arg_id (used ready_arg (arg ∷ []) rows) ≡ args_row (args ++ arg ∷ [])
args_more arg rows [] e = ap (find_row arg_id) (at_row_none arg_id (more_values CommandLine (arg ∷ [])) (arg_row (arg ∷ []) ∷ []) rows e)
    ∙ find-append (λ (r : Row). bytes_eq r.id arg_id) rows (arg_row (arg ∷ []) ∷ []) ∙ ap (λ x. option_or x (Some (arg_row (arg ∷ [])))) e
args_more arg rows (w ∷ ws) e = find_changed arg_id (arg ∷ []) (arg_row (arg ∷ [])) rows (arg_row (w ∷ ws)) e

pub one_more_arg : (os : List OptionRow) (arg : Text) (rows : List Row) (t : Taken) → Holds os rows t → Holds os (used ready_arg (arg ∷ []) rows) (with_positional arg t)
one_more_arg os arg rows t h = record {
  known = h.known;
  options = λ id other. find_others arg_id id (arg ∷ []) (arg_row (arg ∷ [])) refl (apart_back id arg_id other) rows ∙ h.options id other;
  args = args_more arg rows t.positional h.args;
}
