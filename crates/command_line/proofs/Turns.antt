-- One turn of the parser's walk over the arguments after a command's name, beside one step of the definition.
--
-- The parser holds back what it read last (it is pending) and uses it at the next argument or at the end. So the two walks fit if what is pending
-- passes and makes the rows hold what was taken; and if the definition refuses, what is pending fails.
use Rattle.std.proofs.Common.{◌≡◌, ◌∙◌, ◌⊎◌, inl, inr, Bool, true, false, not, ◌&&◌, ◌||◌, if◌then◌else◌, List, [], ◌∷◌, ◌++◌, Option, Some, None, refl, sym, ap, subst, bytes_eq, is_some, option_map, IsUtf8, length}
use Rattle.std.proofs.lemmas.Slice.Eq.{bytes_eq-Decides}
use Rattle.std.proofs.lemmas.Bool.{not-true}
use Rattle.clap.specs.Walk.{Held, Row, Rule, Step, Waiting, Walk, after_flag, after_step, arg_by_long, flag_met, idle, is_pending, long_met, most_values, next, option, option_met, plain_word, positional, positional_held, pushed, reacted, settled, settled_rows, subcommand_met, takes_values, used, value, walked}
use Rattle.clap.specs.Kinds.{Kinds, or_else}
use Rattle.clap.specs.declared.error.kind.ErrorKind.TheVariants.{TooManyValues}
use Rattle.clap.specs.Faults.{long_fault, react_fault, settle_fault, step_fault, turn_fault, use_fault}
use Rattle.command_line.specs.Reading.{OptionRow, ReadingFault, State, Taken, Twice, TakesNone, Text, after_name, after_arg, choosing, given, listing, refused, row_named, wanting, with_option, with_positional}
use Rattle.command_line.proofs.Table.{by_id, by_index, by_long, by_own_name, by_short, by_arg_id, is_apart, leaf, ready, ready_arg, row_apart, rules, arg_id}
use Rattle.command_line.proofs.Views.{View, sees_bare, sees_dashed, sees_end, sees_name, view}
use Rattle.command_line.proofs.Rows.{Holds, find_row, one_more_option, one_more_arg, row_made}
use Rattle.command_line.proofs.Uses.{dashed_fails, empty_use, first_fails, first_use, long_fails, positional_is, raw, rows_used, second_fails, second_use}

-- the argument that is used next, with its values so far
abbrev pub Pending : Type 0
Pending = Option (Text × List Text)

abbrev pub held_at : List Row → Pending → Held
held_at rows pending = record { rows = rows; pending = pending; skip = 0 }

-- the walk before it enters a command below: the positional arguments have place 1
abbrev pub walk_at : List Row → Pending → Waiting → Bool → Walk
walk_at rows pending waiting trailing = record {
  held = held_at rows pending;
  waiting = waiting;
  position = 1;
  is_trailing = trailing;
  stopped = None;
}

-- an option waits for the next argument
abbrev pub wants_value : Waiting → Bool
wants_value (option id) = true
wants_value other = false

-- a command has none below it
no_command : (waiting : Waiting) (arg : Text) → subcommand_met [] waiting arg ≡ None
no_command idle arg = refl
no_command (option id) arg = refl
no_command positional arg = refl

-- the parser lets an option take a value if and only if the table does
takes_by : (name : Text) (b : Bool) → takes_values (ready (record { name = name; takes_value = b })) ≡ b
takes_by name true = refl
takes_by name false = refl

takes_is : (o : OptionRow) → takes_values (ready o) ≡ o.takes_value
takes_is o = takes_by o.name o.takes_value

same_text : (a : Text) → bytes_eq a a ≡ true
same_text a = (bytes_eq-Decides a a).1 refl

-- a positional argument waits, once what was pending is used
positional_held_is : (os : List OptionRow) (rows : List Row) (pending : Pending) (arg : Text)
    → positional_held (rules os) ready_arg arg (held_at rows pending) ≡ held_at (settled_rows (rules os) pending rows) (Some (arg_id, arg ∷ []))
positional_held_is os rows pending arg = go (is_pending ready_arg pending)
  where
    go : (b : Bool) → pushed arg_id arg (if b && false then held_at rows pending else settled (rules os) (held_at rows pending))
        ≡ held_at (settled_rows (rules os) pending rows) (Some (arg_id, arg ∷ []))
    go true = refl
    go false = refl

most_by : (name : Text) (b : Bool) → b ≡ true → most_values (ready (record { name = name; takes_value = b })) ≡ 1
most_by name true e = refl
most_by name false e = absurd (cc)

-- an option that takes a value takes one
most_is : (o : OptionRow) → o.takes_value ≡ true → most_values (ready o) ≡ 1
most_is o e = most_by o.name o.takes_value e

-- an argument that is no flag goes to the positional arguments if no option waits for it
bare_is : (c : List Rule) (waiting : Waiting) (arg : Text) (h : Held) → wants_value waiting ≡ false → plain_word c waiting arg h ≡ (h, value)
bare_is c idle arg h e = refl
bare_is c positional arg h e = refl
bare_is c (option id) arg h e = absurd (cc)

module _ (name : Text) (os : List OptionRow) (apart : is_apart os ≡ true) where
  -- the kinds of error that what is pending may give
  abbrev pub settling : List Row → Pending → Kinds
  settling rows pending = settle_fault (rules os) false (held_at rows pending)

  -- what is pending passes, and the rows with it hold what was taken
  pub record Settled (rows : List Row) (pending : Pending) (t : Taken) : Type 0 where
    pub passes : settling rows pending ≡ []
    pub holds : Holds os (settled_rows (rules os) pending rows) t

  -- the walk is at the place at which the definition is
  pub data Fits : State → Walk → Type 0 where
    fits_choosing : (t : Taken) (rows : List Row) (pending : Pending) (waiting : Waiting) → wants_value waiting ≡ false → Settled rows pending t → Fits (choosing t) (walk_at rows pending waiting false)
    fits_wanting : (o : OptionRow) (t : Taken) (rows : List Row) → row_named os o.name ≡ Some o → o.takes_value ≡ true → Holds os rows t
        → Fits (wanting o t) (walk_at rows (Some (o.name, [])) (option o.name) false)
    fits_listing : (t : Taken) (rows : List Row) (pending : Pending) (waiting : Waiting) → Settled rows pending t → Fits (listing t) (walk_at rows pending waiting true)
    -- what is pending fails, and no argument mends that
    fits_refused : (cause : ReadingFault) (rows : List Row) (pending : Pending) (waiting : Waiting) (trailing : Bool) → (trailing || not (wants_value waiting)) ≡ true → (settling rows pending ≡ [] → ⊥)
        → Fits (refused cause) (walk_at rows pending waiting trailing)

  -- the definition refuses, for some cause
  abbrev pub IsRefused : State → Type 0
  IsRefused s = (cause : ReadingFault) × (s ≡ refused cause)

  -- an argument passes, and both go on; or the parser fails, and the definition refuses
  abbrev pub Turned : Text → State → Walk → Kinds → Held × Step → Type 0
  Turned arg s w fault met = ((or_else fault (step_fault (leaf name os) 1 met.0 met.1) ≡ []) × Fits s (after_step (rules os) arg w met.0 met.1))
      ⊎ ((or_else fault (step_fault (leaf name os) 1 met.0 met.1) ≡ [] → ⊥) × IsRefused s)

  -- the same of the argument's whole turn
  abbrev pub Goes : State → Walk → Text → Type 0
  Goes s w arg = ((turn_fault (leaf name os) [] w arg ≡ []) × Fits (after_arg os s arg) (walked (rules os) [] w arg))
      ⊎ ((turn_fault (leaf name os) [] w arg ≡ [] → ⊥) × IsRefused (after_arg os s arg))

  -- ---- a positional argument

  arg_settled : (arg : Text) (rows : List Row) (pending : Pending) (t : Taken) → Settled rows pending t → Settled (settled_rows (rules os) pending rows) (Some (arg_id, arg ∷ [])) (with_positional arg t)
  arg_settled arg rows pending t s = record {
    passes = rw (by_arg_id os apart) refl;
    holds = rw (by_arg_id os apart) (one_more_arg os arg (settled_rows (rules os) pending rows) t s.holds);
  }

  -- the argument goes to the positional arguments
  abbrev at_arg : List Row → Pending → Held × Step
  at_arg rows pending = (held_at rows pending, value)

  listing_turn : (arg : Text) (t : Taken) (rows : List Row) (pending : Pending) (waiting : Waiting) → Settled rows pending t
      → Turned arg (listing (with_positional arg t)) (walk_at rows pending waiting true) [] (at_arg rows pending)
  listing_turn arg t rows pending waiting s = rw (by_index os, positional_is (rules os) (held_at rows pending), positional_held_is os rows pending arg)
      (inl (s.passes, fits_listing (with_positional arg t) (settled_rows (rules os) pending rows) (Some (arg_id, arg ∷ [])) positional (arg_settled arg rows pending t s)))

  bare_turn : (arg : Text) (t : Taken) (rows : List Row) (pending : Pending) (waiting : Waiting) → Settled rows pending t
      → Turned arg (choosing (with_positional arg t)) (walk_at rows pending waiting false) [] (at_arg rows pending)
  bare_turn arg t rows pending waiting s = rw (by_index os, positional_is (rules os) (held_at rows pending), positional_held_is os rows pending arg)
      (inl (s.passes, fits_choosing (with_positional arg t) (settled_rows (rules os) pending rows) (Some (arg_id, arg ∷ [])) positional refl (arg_settled arg rows pending t s)))

  -- ---- an option that is used with the value that it has

  -- an option has a row if and only if it was given
  found_as_given : (o : OptionRow) (rows : List Row) (t : Taken) → row_named os o.name ≡ Some o → Holds os rows t → find_row o.name rows ≡ option_map (λ p. row_made p.0 p.1) (given o.name t)
  found_as_given o rows t row h = h.options o.name (row_apart os o.name o apart row)

  some_made : (x : Option (OptionRow × Text)) → is_some (option_map (λ p. row_made p.0 p.1) x) ≡ is_some x
  some_made None = refl
  some_made (Some p) = refl

  none_made : (x : Option (OptionRow × Text)) → is_some x ≡ false → option_map (λ p. row_made p.0 p.1) x ≡ None
  none_made None e = refl
  none_made (Some p) e = absurd (cc)

  is_found : (o : OptionRow) (rows : List Row) (t : Taken) → row_named os o.name ≡ Some o → Holds os rows t → is_some (given o.name t) ≡ true → is_some (find_row o.name rows) ≡ true
  is_found o rows t row h e = ap is_some (found_as_given o rows t row h) ∙ some_made (given o.name t) ∙ e

  is_not_found : (o : OptionRow) (rows : List Row) (t : Taken) → row_named os o.name ≡ Some o → Holds os rows t → is_some (given o.name t) ≡ false → find_row o.name rows ≡ None
  is_not_found o rows t row h e = found_as_given o rows t row h ∙ none_made (given o.name t) e

  abbrev with_one : OptionRow → Text → Taken → Taken
  with_one o v t = record t { options = t.options ++ (o, v) ∷ [] }

  -- the rows after a first use hold one option more
  used_once : (o : OptionRow) (v : Text) (rows : List Row) (t : Taken) → row_named os o.name ≡ Some o → Holds os rows t → is_some (given o.name t) ≡ false
      → Holds os (used (ready o) (raw o v) rows) (with_one o v t)
  used_once o v rows t row h e = rw (rows_used o v rows (is_not_found o rows t row h e)) (one_more_option os o v rows t row (row_apart os o.name o apart row) h)

  -- the option is used, or it was given before and fails
  used_at_once : (arg : Text) (o : OptionRow) (v : Text) (rows : List Row) (pending : Pending) (waiting : Waiting) (t : Taken) → row_named os o.name ≡ Some o → Settled rows pending t
      → Turned arg (with_option o v t) (walk_at rows pending waiting false) (react_fault (rules os) false (ready o) (raw o v) (held_at rows pending))
      (reacted (rules os) (ready o) (raw o v) (held_at rows pending), next idle)
  used_at_once arg o v rows pending waiting t row s = go (is_some (given o.name t)) refl
    where
      go : (b : Bool) → is_some (given o.name t) ≡ b
          → Turned arg (if b then refused (Twice o.name) else choosing (with_one o v t)) (walk_at rows pending waiting false) (react_fault (rules os) false (ready o) (raw o v) (held_at rows pending))
          (reacted (rules os) (ready o) (raw o v) (held_at rows pending), next idle)
      go true e = inr (first_fails _ _ (second_fails _ _ (second_use o v (settled_rows (rules os) pending rows) (is_found o _ t row s.holds e))), (_, refl))
      go false e = inl (
        rw (s.passes, first_use o v (settled_rows (rules os) pending rows) (is_not_found o _ t row s.holds e)) refl,
        fits_choosing (with_one o v t) (used (ready o) (raw o v) (settled_rows (rules os) pending rows)) None idle refl (record { passes = refl; holds = used_once o v _ t row s.holds e }),
      )

  -- ---- an argument that names an option

  -- a name alone: the option waits for its value, or it is a flag
  named_alone : (arg : Text) (o : OptionRow) (b d : Bool) → o.takes_value ≡ b → d ≡ b → (rows : List Row) (pending : Pending) (waiting : Waiting) (t : Taken) → row_named os o.name ≡ Some o → Settled rows pending t
      → Turned arg (if b then wanting o t else with_option o [] t) (walk_at rows pending waiting false)
      (if d then settling rows pending else react_fault (rules os) false (ready o) [] (held_at rows pending))
      (after_flag (rules os) waiting arg (if d then option_met (rules os) (ready o) None (held_at rows pending) else flag_met (rules os) (ready o) None (held_at rows pending)).0
      (if d then option_met (rules os) (ready o) None (held_at rows pending) else flag_met (rules os) (ready o) None (held_at rows pending)).1)
  named_alone arg o true true takes e rows pending waiting t row s = inl (rw s.passes refl, fits_wanting o t (settled_rows (rules os) pending rows) row takes s.holds)
  named_alone arg o false false takes e rows pending waiting t row s =
      subst (λ vs. Turned arg (with_option o [] t) (walk_at rows pending waiting false) (react_fault (rules os) false (ready o) vs (held_at rows pending))
      (reacted (rules os) (ready o) vs (held_at rows pending), next idle)) (ap (λ b. if b then [] ∷ [] else []) takes) (used_at_once arg o [] rows pending waiting t row s)
  named_alone arg o true false takes e rows pending waiting t row s = absurd (cc)
  named_alone arg o false true takes e rows pending waiting t row s = absurd (cc)

  -- a name with its value: a flag takes none
  named_with : (arg : Text) (o : OptionRow) (v : Text) (b d : Bool) → o.takes_value ≡ b → d ≡ b → (rows : List Row) (pending : Pending) (waiting : Waiting) (t : Taken) → row_named os o.name ≡ Some o
      → Settled rows pending t → Turned arg (if b then with_option o v t else refused (TakesNone o.name)) (walk_at rows pending waiting false)
      (if d then react_fault (rules os) false (ready o) (v ∷ []) (held_at rows pending) else TooManyValues ∷ [])
      (after_flag (rules os) waiting arg (if d then option_met (rules os) (ready o) (Some v) (held_at rows pending) else flag_met (rules os) (ready o) (Some v) (held_at rows pending)).0
      (if d then option_met (rules os) (ready o) (Some v) (held_at rows pending) else flag_met (rules os) (ready o) (Some v) (held_at rows pending)).1)
  named_with arg o v true true takes e rows pending waiting t row s =
      subst (λ vs. Turned arg (with_option o v t) (walk_at rows pending waiting false) (react_fault (rules os) false (ready o) vs (held_at rows pending))
      (reacted (rules os) (ready o) vs (held_at rows pending), next idle)) (ap (λ b. if b then v ∷ [] else []) takes) (used_at_once arg o v rows pending waiting t row s)
  named_with arg o v false false takes e rows pending waiting t row s = inr (λ f. cc, (_, refl))
  named_with arg o v true false takes e rows pending waiting t row s = absurd (cc)
  named_with arg o v false true takes e rows pending waiting t row s = absurd (cc)

  named_turn : (arg : Text) (n : Text) (found : Option OptionRow) → row_named os n ≡ found → (v : Option Text) (rows : List Row) (pending : Pending) (waiting : Waiting) (t : Taken) → Settled rows pending t
      → Turned arg (after_name arg found v t) (walk_at rows pending waiting false) (long_fault (rules os) false (option_map ready found) v (held_at rows pending))
      (after_flag (rules os) waiting arg (long_met (rules os) (option_map ready found) v (held_at rows pending)).0 (long_met (rules os) (option_map ready found) v (held_at rows pending)).1)
  named_turn arg n None is v rows pending waiting t s = inr (λ e. cc, (_, refl))
  named_turn arg n (Some o) is None rows pending waiting t s = named_alone arg o o.takes_value (takes_values (ready o)) refl (takes_is o) rows pending waiting t (by_own_name os n o is) s
  named_turn arg n (Some o) is (Some v) rows pending waiting t s = named_with arg o v o.takes_value (takes_values (ready o)) refl (takes_is o) rows pending waiting t (by_own_name os n o is) s

  -- ---- an argument that is the value of an option

  settling_is : (o : OptionRow) (rows : List Row) (values : List Text) → row_named os o.name ≡ Some o → settling rows (Some (o.name, values)) ≡ use_fault false (ready o) values rows
  settling_is o rows values row = rw (by_id os o.name o row) refl

  settled_is : (o : OptionRow) (rows : List Row) (values : List Text) → row_named os o.name ≡ Some o → settled_rows (rules os) (Some (o.name, values)) rows ≡ used (ready o) values rows
  settled_is o rows values row = rw (by_id os o.name o row) refl

  value_turn : (arg : Text) (o : OptionRow) (rows : List Row) (t : Taken) → row_named os o.name ≡ Some o → o.takes_value ≡ true → Holds os rows t
      → Turned arg (with_option o arg t) (walk_at rows (Some (o.name, [])) (option o.name) false) [] (held_at rows (Some (o.name, arg ∷ [])), next idle)
  value_turn arg o rows t row takes h = go (is_some (given o.name t)) refl
    where
      as_raw : raw o arg ≡ arg ∷ []
      as_raw = ap (λ b. if b then arg ∷ [] else []) takes

      go : (b : Bool) → is_some (given o.name t) ≡ b
          → Turned arg (if b then refused (Twice o.name) else choosing (with_one o arg t)) (walk_at rows (Some (o.name, [])) (option o.name) false) [] (held_at rows (Some (o.name, arg ∷ [])), next idle)
      go true e = inl (
        refl,
        fits_refused _ rows (Some (o.name, arg ∷ [])) idle false refl
            (λ none. second_use o arg rows (is_found o rows t row h e) (ap (λ vs. use_fault false (ready o) vs rows) as_raw ∙ sym (settling_is o rows (arg ∷ []) row) ∙ none)),
      )
      go false e = inl (
        refl,
        fits_choosing (with_one o arg t) rows (Some (o.name, arg ∷ [])) idle refl (record {
          passes = settling_is o rows (arg ∷ []) row ∙ ap (λ vs. use_fault false (ready o) vs rows) (sym as_raw) ∙ first_use o arg rows (is_not_found o rows t row h e);
          holds = subst (λ rs. Holds os rs (with_one o arg t)) (ap (λ vs. used (ready o) vs rows) as_raw ∙ sym (settled_is o rows (arg ∷ []) row)) (used_once o arg rows t row h e);
        }),
      )

  -- an option that still wants its value fails
  pub wanting_fails : (o : OptionRow) (rows : List Row) → row_named os o.name ≡ Some o → o.takes_value ≡ true → settling rows (Some (o.name, [])) ≡ [] → ⊥
  wanting_fails o rows row takes e = empty_use o rows takes (sym (settling_is o rows [] row) ∙ e)

  -- ---- one turn, from each place

  choosing_goes : (t : Taken) (rows : List Row) (pending : Pending) (waiting : Waiting) → wants_value waiting ≡ false → Settled rows pending t → (arg : Text) → View arg
      → Goes (choosing t) (walk_at rows pending waiting false) arg
  unfolding walked
  choosing_goes t rows pending waiting idles s arg (sees_end w d) = rw (w, no_command waiting arg, d) (inl (refl, fits_listing t rows pending waiting s))
  choosing_goes t rows pending waiting idles s arg (sees_name n v w l d) =
      rw (w, no_command waiting arg, d, l, by_long os n) (named_turn arg n (row_named os n) refl v rows pending waiting t s)
  choosing_goes t rows pending waiting idles s arg (sees_dashed x xs c w l f first d) =
      rw (w, no_command waiting arg, d, l, f) (inr (first_fails _ _ (dashed_fails (rules os) (x ∷ xs) c (length xs) (held_at rows pending) first (by_short os c)), (_, refl)))
  choosing_goes t rows pending waiting idles s arg (sees_bare w l f d) =
      rw (w, no_command waiting arg, d, l, f, bare_is (rules os) waiting arg (held_at rows pending) idles) (bare_turn arg t rows pending waiting s)

  listing_goes : (t : Taken) (rows : List Row) (pending : Pending) (waiting : Waiting) → Settled rows pending t → (arg : Text) → Goes (listing t) (walk_at rows pending waiting true) arg
  unfolding walked
  listing_goes t rows pending waiting s arg = listing_turn arg t rows pending waiting s

  wanting_goes : (o : OptionRow) (t : Taken) (rows : List Row) → row_named os o.name ≡ Some o → o.takes_value ≡ true → Holds os rows t → (arg : Text) → View arg
      → Goes (wanting o t) (walk_at rows (Some (o.name, [])) (option o.name) false) arg
  unfolding walked
  wanting_goes o t rows row takes h arg (sees_end w d) =
      rw (w, d) (inl (refl, fits_refused _ rows (Some (o.name, [])) (option o.name) true refl (wanting_fails o rows row takes)))
  wanting_goes o t rows row takes h arg (sees_name n v w l d) =
      rw (w, d, l) (inr (first_fails _ _ (long_fails (rules os) (arg_by_long (rules os) n) v (held_at rows (Some (o.name, []))) (wanting_fails o rows row takes)), (_, refl)))
  wanting_goes o t rows row takes h arg (sees_dashed x xs c w l f first d) =
      rw (w, d, l, f) (inr (first_fails _ _ (dashed_fails (rules os) (x ∷ xs) c (length xs) (held_at rows (Some (o.name, []))) first (by_short os c)), (_, refl)))
  wanting_goes o t rows row takes h arg (sees_bare w l f d) =
      rw (w, d, l, f, by_id os o.name o row, same_text o.name, most_is o takes) (value_turn arg o rows t row takes h)

  refused_goes : (cause : ReadingFault) (rows : List Row) (pending : Pending) (waiting : Waiting) (trailing : Bool) → (trailing || not (wants_value waiting)) ≡ true → (settling rows pending ≡ [] → ⊥) → (arg : Text) → View arg
      → Goes (refused cause) (walk_at rows pending waiting trailing) arg
  unfolding walked
  refused_goes cause rows pending waiting true idles bad arg v = rw (by_index os, positional_is (rules os) (held_at rows pending)) (inr (bad, (_, refl)))
  refused_goes cause rows pending waiting false idles bad arg (sees_end w d) = rw (no_command waiting arg, d) (inl (refl, fits_refused _ rows pending waiting true refl bad))
  refused_goes cause rows pending waiting false idles bad arg (sees_name n v w l d) =
      rw (no_command waiting arg, d, l) (inr (first_fails _ _ (long_fails (rules os) (arg_by_long (rules os) n) v (held_at rows pending) bad), (_, refl)))
  refused_goes cause rows pending waiting false idles bad arg (sees_dashed x xs c w l f first d) =
      rw (no_command waiting arg, d, l, f) (inr (first_fails _ _ (dashed_fails (rules os) (x ∷ xs) c (length xs) (held_at rows pending) first (by_short os c)), (_, refl)))
  refused_goes cause rows pending waiting false idles bad arg (sees_bare w l f d) =
      rw (no_command waiting arg, d, l, f, bare_is (rules os) waiting arg (held_at rows pending) (not-true (wants_value waiting) idles), by_index os, positional_is (rules os) (held_at rows pending)) (inr (bad, (_, refl)))

  -- each argument is one step of both
  pub goes : (s : State) (w : Walk) → Fits s w → (arg : Text) → IsUtf8 arg → Goes s w arg
  goes s w (fits_choosing t rows pending waiting idles settled) arg u = choosing_goes t rows pending waiting idles settled arg (view arg u)
  goes s w (fits_wanting o t rows row takes h) arg u = wanting_goes o t rows row takes h arg (view arg u)
  goes s w (fits_listing t rows pending waiting settled) arg u = listing_goes t rows pending waiting settled arg
  goes s w (fits_refused cause rows pending waiting trailing idles bad) arg u = refused_goes cause rows pending waiting trailing idles bad arg (view arg u)
