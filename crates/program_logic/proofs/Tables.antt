-- The check of a table of places, place by place and program by program.
use Rattle.std.proofs.Common.{List, [], ap, arith, drop, length, refl, suc, true, zero, ℕ, ◌&&◌, ◌+◌, ◌<◌, ◌∙◌, ◌∷◌, ◌≡◌, ◌≤◌}
use Rattle.std.proofs.lemmas.Bool.{and_from}
use Rattle.std.specs.Prelude.{get_or}
use Rattle.program_logic.specs.Claims.{no_place}
use Rattle.program_logic.specs.Kept.{program_at, programs_in}
use Rattle.program_logic.specs.PlaceCheck.{place_checks, places_check}
use Rattle.program_logic.specs.SystemCheck.{lock_checks, program_checks, programs_check, system_checks}
use Rattle.program_logic.specs.declared.outline.Lock.{Lock}
use Rattle.program_logic.specs.declared.outline.Place.{Place}
use Rattle.program_logic.specs.declared.outline.Range.{Range}

split : (qs : List Place) (i : ℕ) → i < length qs → drop i qs ≡ get_or qs i no_place ∷ drop (suc i) qs
split [] i a = absurd (omega arith)
split (q ∷ qs) zero a = refl
split (q ∷ qs) (suc i) a = split qs i (omega arith)

-- a place that checks, after which the rest is to be checked
pub table_step : (l : Lock) (first : ℕ) (places qs : List Place) (i : ℕ) → i < length qs
    → places_check l first places 0 qs ≡ places_check l first places i (drop i qs) → place_checks l first places i (get_or qs i no_place) ≡ true
    → places_check l first places 0 qs ≡ places_check l first places (i + 1) (drop (i + 1) qs)
table_step l first places qs i a so goes =
    let e : suc i ≡ i + 1 = omega arith in
    so ∙ ap (places_check l first places i) (split qs i a) ∙ ap (λ t. t && places_check l first places (suc i) (drop (suc i) qs)) goes
    ∙ ap (λ j. places_check l first places j (drop j qs)) e

pub table_done : (l : Lock) (first : ℕ) (places qs : List Place) (i : ℕ) → length qs ≤ i → places_check l first places i (drop i qs) ≡ true
table_done l first places qs i a = ap (places_check l first places i) (drop_all qs i a)
  where
    drop_all : (xs : List Place) (i : ℕ) → length xs ≤ i → drop i xs ≡ []
    drop_all [] zero a = refl
    drop_all [] (suc i) a = refl
    drop_all (x ∷ xs) zero a = absurd (omega arith)
    drop_all (x ∷ xs) (suc i) a = drop_all xs i (omega arith)

pub table_ends : (l : Lock) (first : ℕ) (places qs : List Place) (i : ℕ) → length qs ≤ i
    → places_check l first places 0 qs ≡ places_check l first places i (drop i qs) → places_check l first places 0 qs ≡ true
table_ends l first places qs i a so = so ∙ table_done l first places qs i a

range_split : (rs : List Range) (i : ℕ) (d : Range) → i < length rs → drop i rs ≡ get_or rs i d ∷ drop (suc i) rs
range_split [] i d a = absurd (omega arith)
range_split (r ∷ rs) zero d a = refl
range_split (r ∷ rs) (suc i) d a = range_split rs i d a'
  where
    a' : i < length rs
    a' = omega (arith, a)

pub range_step : (l : Lock) (places : List Place) (rs : List Range) (i : ℕ) (d : Range) → i < length rs
    → programs_check l (programs_in places rs) ≡ programs_check l (programs_in places (drop i rs)) → program_checks l (program_at places (get_or rs i d)) ≡ true
    → programs_check l (programs_in places rs) ≡ programs_check l (programs_in places (drop (i + 1) rs))
range_step l places rs i d a so goes =
    let e : suc i ≡ i + 1 = omega arith in
    so ∙ ap (λ z. programs_check l (programs_in places z)) (range_split rs i d a) ∙ ap (λ t. t && programs_check l (programs_in places (drop (suc i) rs))) goes
    ∙ ap (λ j. programs_check l (programs_in places (drop j rs))) e

pub range_ends : (l : Lock) (places : List Place) (rs : List Range) (i : ℕ) → length rs ≤ i
    → programs_check l (programs_in places rs) ≡ programs_check l (programs_in places (drop i rs)) → programs_check l (programs_in places rs) ≡ true
range_ends l places rs i a so = so ∙ ap (λ z. programs_check l (programs_in places z)) (drop_all rs i a)
  where
    drop_all : (xs : List Range) (i : ℕ) → length xs ≤ i → drop i xs ≡ []
    drop_all [] zero a = refl
    drop_all [] (suc i) a = refl
    drop_all (x ∷ xs) zero a = absurd (omega arith)
    drop_all (x ∷ xs) (suc i) a = drop_all xs i (omega arith)

in_all : (places : List Place) (rs : List Range) → length (programs_in places rs) ≡ length rs
in_all places [] = refl
in_all places (r ∷ rs) = ap suc (in_all places rs)

pub all_check : (l : Lock) (places : List Place) (rs : List Range) → lock_checks l (length rs) ≡ true → programs_check l (programs_in places rs) ≡ true
    → system_checks l (programs_in places rs) ≡ true
all_check l places rs a b =
    and_from (lock_checks l (length (programs_in places rs))) (programs_check l (programs_in places rs)) (ap (lock_checks l) (in_all places rs) ∙ a) b
