-- What the parser's matches of a command give, by what the definition took.
use Rattle.std.proofs.Common.{◌≡◌, ◌∙◌, Bool, true, false, cond, not, ◌||◌, codes, List, [], ◌∷◌, Option, Some, None, refl, sym, ap, fold, option_map, option_and_then, bytes_eq, slice_get, is_some, subst, unwrap_or}
use Rattle.std.specs.List.{list_all}
use Rattle.std.specs.Option.{option_map_or}
use Rattle.std.specs.Bool.{Decides}
use Rattle.std.proofs.lemmas.List.Folds.{find-append}
use Rattle.std.proofs.lemmas.Slice.Eq.{bytes_eq-Decides}
use Rattle.std.proofs.lemmas.Bool.{not-true, and_parts}
use Rattle.clap.specs.Walk.{Row, at_row, first_of, has_row, more_values, reading_by, with_default}
use Rattle.clap.specs.declared.parser.matches.ValueSource.TheVariants.{DefaultValue}
use Rattle.command_line.specs.Reading.{OptionRow, Taken, Text, given, is_given, option_value, row_named}
use Rattle.command_line.specs.Parser.{args_in, flag_in}
use Rattle.command_line.proofs.Table.{ready, rules, arg_id}
use Rattle.command_line.proofs.Rows.{Holds, at_row_none, find_row, has_found, or_none, row_made, args_row}

-- no flag has this name, so that no default is in for it
abbrev pub has_no_default : List OptionRow → Text → Bool
has_no_default os id = list_all (λ o. o.takes_value || not (bytes_eq o.name id)) os

-- the row that a flag gets if it isn't given
abbrev false_row : Text → Row
false_row name = record {
  id = name;
  values = codes "false" ∷ [];
  count = None;
  source = Some DefaultValue;
  reading = reading_by (ready (record { name = name; takes_value = false }));
}

no_row : (name : Text) (rows : List Row) → has_row name rows ≡ false → find_row name rows ≡ None
no_row name rows e = go (find_row name rows) (sym (has_found name rows) ∙ e)
  where
    go : (x : Option Row) → is_some x ≡ false → x ≡ None
    go None e = refl
    go (Some r) e = absurd (cc)

-- the default of one option leaves the rows of the others
one_default : (name id : Text) (b : Bool) (rows : List Row) → (b || not (bytes_eq name id)) ≡ true → find_row id (with_default rows (ready (record { name = name; takes_value = b }))) ≡ find_row id rows
one_default name id true rows e = go (has_row name rows)
  where
    go : (h : Bool) → find_row id (cond h rows rows) ≡ find_row id rows
    go true = refl
    go false = refl
one_default name id false rows e = go (has_row name rows) refl
  where
    go : (h : Bool) → has_row name rows ≡ h → find_row id (cond h rows (at_row name (more_values DefaultValue (codes "false" ∷ [])) (false_row name ∷ []) rows)) ≡ find_row id rows
    go true is = refl
    go false is = ap (find_row id) (at_row_none name (more_values DefaultValue (codes "false" ∷ [])) (false_row name ∷ []) rows (no_row name rows is))
        ∙ find-append (λ (r : Row). bytes_eq r.id id) rows (false_row name ∷ []) ∙ rw (not-true (bytes_eq name id) e) (or_none (find_row id rows))

-- the defaults leave the row of an option that takes a value
pub defaults_leave : (os : List OptionRow) (rows : List Row) (id : Text) → has_no_default os id ≡ true → find_row id (fold with_default rows (rules os)) ≡ find_row id rows
defaults_leave [] rows id e = go (has_row arg_id rows)
  where
    go : (h : Bool) → find_row id (cond h rows rows) ≡ find_row id rows
    go true = refl
    go false = refl
defaults_leave (o ∷ os) rows id e =
    let here = and_parts (o.takes_value || not (bytes_eq o.name id)) (has_no_default os id) e in
    defaults_leave os (with_default rows (ready o)) id here.1 ∙ one_default o.name id o.takes_value rows here.0

-- the defaults leave the row of an option that was given
default_keeps : (o : OptionRow) (rows : List Row) (id : Text) (r : Row) → find_row id rows ≡ Some r
    → find_row id (with_default rows (ready o)) ≡ Some r
default_keeps o rows id r is = by_kind o.name o.takes_value
  where
    by_kind : (name : Text) (b : Bool) → find_row id (with_default rows (ready (record { name = name; takes_value = b }))) ≡ Some r
    by_kind name true = go (has_row name rows)
      where
        go : (h : Bool) → find_row id (cond h rows rows) ≡ Some r
        go true = is
        go false = is
    by_kind name false = go (has_row name rows) refl
      where
        go : (h : Bool) → has_row name rows ≡ h
            → find_row id (cond h rows (at_row name (more_values DefaultValue (codes "false" ∷ [])) (false_row name ∷ []) rows)) ≡ Some r
        go true e = is
        go false e = ap (find_row id) (at_row_none name (more_values DefaultValue (codes "false" ∷ [])) (false_row name ∷ []) rows
            (no_row name rows e))
            ∙ find-append (λ (x : Row). bytes_eq x.id id) rows (false_row name ∷ []) ∙ rw is refl

defaults_keep : (os : List OptionRow) (rows : List Row) (id : Text) (r : Row) → find_row id rows ≡ Some r
    → find_row id (fold with_default rows (rules os)) ≡ Some r
defaults_keep [] rows id r is = go (has_row arg_id rows)
  where
    go : (h : Bool) → find_row id (cond h rows rows) ≡ Some r
    go true = is
    go false = is
defaults_keep (o ∷ os) rows id r is = defaults_keep os (with_default rows (ready o)) id r (default_keeps o rows id r is)

-- a flag that wasn't given gets the row of its default
flag_default : (name id : Text) (rows : List Row) → name ≡ id → find_row id rows ≡ None
    → find_row id (with_default rows (ready (record { name = name; takes_value = false }))) ≡ Some (false_row id)
flag_default name id rows same none =
    subst (λ (n : Text). find_row id (with_default rows (ready (record { name = n; takes_value = false }))) ≡ Some (false_row id))
    (sym same) own
  where
    own : find_row id (with_default rows (ready (record { name = id; takes_value = false }))) ≡ Some (false_row id)
    own =
        rw (has_found id rows, none) (ap (find_row id) (at_row_none id (more_values DefaultValue (codes "false" ∷ []))
        (false_row id ∷ []) rows none)
        ∙ find-append (λ (x : Row). bytes_eq x.id id) rows (false_row id ∷ []) ∙ rw (none, (bytes_eq-Decides id id).1 refl) refl)

either_true : (b : Bool) → (b || true) ≡ true
either_true true = refl
either_true false = refl

defaults_flag : (os : List OptionRow) (rows : List Row) (id : Text) (o : OptionRow) → row_named os id ≡ Some o → o.takes_value ≡ false
    → find_row id rows ≡ None
    → find_row id (fold with_default rows (rules os)) ≡ Some (false_row id)
defaults_flag [] rows id o row flag none = absurd (cc)
defaults_flag (p ∷ os) rows id o row flag none =
    go (bytes_eq p.name id) refl (bytes_eq-Decides p.name id) row
    (λ found left. defaults_flag os (with_default rows (ready p)) id o found flag left)
  where
    plain_default : (b : Bool) → b ≡ false → p.name ≡ id
        → find_row id (with_default rows (ready (record { name = p.name; takes_value = b }))) ≡ Some (false_row id)
    plain_default true e same = absurd (cc)
    plain_default false e same = flag_default p.name id rows same none

    go : (b : Bool) → bytes_eq p.name id ≡ b → Decides b (p.name ≡ id) → cond b (Some p) (row_named os id) ≡ Some o
        → (row_named os id ≡ Some o → find_row id (with_default rows (ready p)) ≡ None → find_row id
        (fold with_default (with_default rows (ready p)) (rules os)) ≡ Some (false_row id))
        → find_row id (fold with_default (with_default rows (ready p)) (rules os)) ≡ Some (false_row id)
    go true is d found more =
        let plain : p.takes_value ≡ false = ap (λ x. option_map_or (λ (r : OptionRow). r.takes_value) x false) found ∙ flag in
        defaults_keep os (with_default rows (ready p)) id (false_row id) (plain_default p.takes_value plain (d.0 refl))
    go false is d found more = more found (one_default p.name id p.takes_value rows (rw is (either_true p.takes_value)) ∙ none)

module _ (os : List OptionRow) (rows : List Row) (t : Taken) (h : Holds os rows t) where
  -- the value of an option
  pub value_read : (id : Text) (o : OptionRow) → row_named os id ≡ Some o → o.takes_value ≡ true → bytes_eq id arg_id ≡ false → has_no_default os id ≡ true
      → first_of id (fold with_default rows (rules os)) ≡ option_value id t
  value_read id o row takes apart plain = ap (option_and_then (λ (r : Row). slice_get r.values 0)) (defaults_leave os rows id plain ∙ h.options id apart) ∙ go (given id t) (h.known id)
    where
      go : (x : Option (OptionRow × Text)) → ((p : OptionRow × Text) → x ≡ Some p → row_named os id ≡ Some p.0)
          → option_and_then (λ (r : Row). slice_get r.values 0) (option_map (λ p. row_made p.0 p.1) x) ≡ option_map (λ p. p.1) x
      go None known = refl
      go (Some p) known =
          let same : p.0.takes_value ≡ true = ap (λ x. option_map_or (λ (r : OptionRow). r.takes_value) x false) (sym (known p refl) ∙ row) ∙ takes in
          rw same refl

  -- whether a flag was given
  pub flag_read : (id : Text) (o : OptionRow) → row_named os id ≡ Some o → o.takes_value ≡ false → bytes_eq id arg_id ≡ false
      → flag_in id (fold with_default rows (rules os)) ≡ is_given id t
  flag_read id o row flag apart = go (given id t) (h.known id) (h.options id apart)
    where
      go : (x : Option (OptionRow × Text)) → ((p : OptionRow × Text) → x ≡ Some p → row_named os id ≡ Some p.0)
          → find_row id rows ≡ option_map (λ p. row_made p.0 p.1) x
          → option_map_or (bytes_eq (codes "true")) (option_and_then (λ (r : Row). slice_get r.values 0)
          (find_row id (fold with_default rows (rules os)))) false ≡ is_some x
      go None known is = rw (defaults_flag os rows id o row flag is) refl
      go (Some p) known is =
          let same : p.0.takes_value ≡ false = ap (λ x. option_map_or (λ (r : OptionRow). r.takes_value) x true) (sym (known p refl) ∙ row)
          ∙ flag in
          rw (defaults_keep os rows id (row_made p.0 p.1) is, same) refl

  -- the positional arguments
  pub args_read : has_no_default os arg_id ≡ true → args_in (fold with_default rows (rules os)) ≡ t.positional
  args_read plain = ap (λ x. unwrap_or (option_map (λ (r : Row). r.values) x) []) (defaults_leave os rows arg_id plain ∙ h.args) ∙ go t.positional
    where
      go : (ws : List Text) → unwrap_or (option_map (λ (r : Row). r.values) (args_row ws)) [] ≡ ws
      go [] = refl
      go (w ∷ ws) = refl
