-- The parser's reading of the arguments after a command's name is the definition's, for every table of options.
use Rattle.std.proofs.Common.{◌≡◌, ◌∙◌, inl, inr, Bool, true, false, not, ◌&&◌, ◌||◌, if◌then◌else◌, codes, List, [], ◌∷◌, Option, Some, None, refl, ap, map, fold, IsUtf8, String, string_bytes}
use Rattle.std.specs.List.{list_any}
use Rattle.std.proofs.lemmas.Str.{IsUtf8-string_bytes}
use Rattle.clap.specs.Walk.{Row, Walk, finished, has_row, idle, nothing_held, settled, walk, walk_from, walked, with_default}
use Rattle.clap.specs.Takes.{is_given}
use Rattle.clap.specs.Kinds.{Kinds, or_else}
use Rattle.clap.specs.Faults.{check_fault, default_fault, defaults_fault, given_default_fault, level_fault, settle_fault, walk_fault}
use Rattle.command_line.specs.Reading.{OptionRow, State, Taken, Text, ReadingFault, after_arg, at_end, choosing, nothing_taken, read, refused}
use Rattle.command_line.proofs.Table.{is_apart, leaf, ready, ready_arg, rules, arg_id}
use Rattle.command_line.proofs.Rows.{Holds}
use Rattle.command_line.proofs.Uses.{first_fails}
use Rattle.command_line.proofs.Turns.{Fits, fits_choosing, fits_listing, fits_refused, fits_wanting, goes, wanting_fails}

-- each argument is text
abbrev pub AllUtf8 : List Text → Type 0
AllUtf8 [] = Unit {0}
AllUtf8 (w ∷ ws) = IsUtf8 w × AllUtf8 ws

pub strings_utf8 : {Z : Type 0} (ss : List (String Z)) → AllUtf8 (map string_bytes ss)
strings_utf8 [] = tt
strings_utf8 (s ∷ ss) = (IsUtf8-string_bytes s, strings_utf8 ss)

-- no kind of error comes, and the rows hold what was taken; or a kind comes, and nothing is taken
abbrev pub Verdict : List OptionRow → Kinds → List Row → Option Taken → Type 0
Verdict os kinds rows None = kinds ≡ [] → ⊥
Verdict os kinds rows (Some t) = (kinds ≡ []) × Holds os rows t

-- ---- the checks after the last argument ask nothing more

default_passes : (name : Text) (b : Bool) (rows : List Row) → default_fault rows (ready (record { name = name; takes_value = b })) ≡ []
default_passes name true rows = go (has_row name rows)
  where
    go : (h : Bool) → (if h || true then [] else given_default_fault (ready (record { name = name; takes_value = true })) []) ≡ []
    go true = refl
    go false = refl
default_passes name false rows = go (has_row name rows)
  where
    go : (h : Bool) → (if h || false then [] else given_default_fault (ready (record { name = name; takes_value = false })) (codes "false" ∷ [])) ≡ []
    go true = refl
    go false = refl

arg_default_passes : (rows : List Row) → default_fault rows ready_arg ≡ []
arg_default_passes rows = go (has_row arg_id rows)
  where
    go : (h : Bool) → (if h || true then [] else given_default_fault ready_arg []) ≡ []
    go true = refl
    go false = refl

no_defaults : (os : List OptionRow) (rows : List Row) → defaults_fault rows (rules os) ≡ []
unfolding defaults_fault
no_defaults [] rows = rw arg_default_passes refl
no_defaults (o ∷ os) rows = ap (λ k. or_else k (defaults_fault (with_default rows (ready o)) (rules os))) (default_passes o.name o.takes_value rows) ∙ no_defaults os (with_default rows (ready o))

none_required : (os : List OptionRow) (rows : List Row) → list_any (λ a. a.required && not (is_given a.id rows)) (rules os) ≡ false
none_required [] rows = refl
none_required (o ∷ os) rows = none_required os rows

no_check : (name : Text) (os : List OptionRow) (rows : List Row) → check_fault (leaf name os) rows false ≡ []
no_check name os rows = rw (none_required os rows) refl

-- ---- the law

stays_refused : (os : List OptionRow) (args : List Text) (s : State) (cause : ReadingFault) → s ≡ refused cause → at_end (fold (after_arg os) s args) ≡ None
stays_refused os [] s cause is = ap at_end is
stays_refused os (w ∷ ws) s cause is = stays_refused os ws (after_arg os s w) cause (ap (λ x. after_arg os x w) is)

module _ (name : Text) (os : List OptionRow) (apart : is_apart os ≡ true) where
  -- the walk over the arguments that are left, and what is checked after it
  abbrev rest_fault : Walk → List Text → Kinds
  rest_fault w args = or_else (walk_fault (leaf name os) [] w args)
      (or_else (settle_fault (rules os) false (fold (walked (rules os) []) w args).held)
      (or_else (defaults_fault (settled (rules os) (fold (walked (rules os) []) w args).held).rows (rules os))
      (check_fault (leaf name os) (finished (rules os) (fold (walked (rules os) []) w args).held) false)))

  abbrev held_rows : Walk → List Text → List Row
  held_rows w args = (settled (rules os) (fold (walked (rules os) []) w args).held).rows

  ends : (s : State) (w : Walk) → Fits name os apart s w → Verdict os (rest_fault w []) (held_rows w []) (at_end s)
  unfolding walk_fault
  ends s w (fits_choosing t rows pending waiting idles settled) = (rw (settled.passes, no_defaults, no_check) refl, settled.holds)
  ends s w (fits_wanting o t rows row takes h) = first_fails _ _ (wanting_fails name os apart o rows row takes)
  ends s w (fits_listing t rows pending waiting settled) = (rw (settled.passes, no_defaults, no_check) refl, settled.holds)
  ends s w (fits_refused cause rows pending waiting trailing idles bad) = first_fails _ _ bad

  along : (args : List Text) → AllUtf8 args → (s : State) (w : Walk) → Fits name os apart s w
      → Verdict os (rest_fault w args) (held_rows w args) (at_end (fold (after_arg os) s args))
  unfolding walk_fault
  along [] u s w fits = ends s w fits
  along (arg ∷ args) u s w fits = elim (goes name os apart s w fits arg u.0) [
    | inl both ↦ rw both.0 (along args u.1 (after_arg os s arg) (walked (rules os) [] w arg) both.1)
    | inr fails ↦ rw (stays_refused os args (after_arg os s arg) fails.1.0 fails.1.1) (first_fails _ _ (first_fails _ _ fails.0))
  ]

  -- what the parser makes of the arguments after the command's name
  pub level : (args : List Text) → AllUtf8 args
      → Verdict os (level_fault (leaf name os) [] nothing_held args false []) (settled (rules os) (walk (rules os) [] nothing_held args).held).rows (read os args)
  level args u = along args u (choosing nothing_taken) (walk_from nothing_held) (fits_choosing nothing_taken [] None idle refl (record {
    passes = refl;
    holds = record { known = λ id p e. absurd (cc); options = λ id other. refl; args = refl };
  }))
