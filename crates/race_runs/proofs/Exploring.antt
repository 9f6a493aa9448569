-- Placements that are gone through one by one.
use Rattle.std.proofs.Common.{◌≡◌, ◌∙◌, ℕ, ◌<◌, Bool, true, ◌&&◌, List, [], ◌∷◌, ◌++◌, length, map, take, drop, refl, sym, ap, subst, arith, append_assoc, append-nil, length-append}
use Rattle.std.specs.List.{All, sum}
use Rattle.std.proofs.lemmas.Bool.{and_parts}
use Rattle.std.proofs.lemmas.List.{length-map, map-append}
use Rattle.std.proofs.lemmas.List.Elements.{All-cons, All-head, All-nil, All-push, All-tail}
use Rattle.race_tables.specs.Outcomes.{Outcome}
use Rattle.race_tables.specs.Rows.{Row, Run, rows}
use Rattle.race_runs.specs.Explored.{Explores, ExploresSome}
use Rattle.race_runs.specs.Forced.{AreForced, ForcesOn}
use Rattle.race_tables.proofs.Tables.{adds_up, all_rows}
use Rattle.preemptions.proofs.Members.{all_placements}
use Rattle.preemptions.specs.Placements.{IsPlacement, placements}
use Rattle.preemptions.specs.Preempted.{preempted_at}
use Rattle.preemptions.specs.declared.stretches.Stretch.{Stretch}
use Rattle.race_runs.specs.Runs.{ComesToOn}
use Rattle.xinu_base.specs.declared.events.Event.{Event}
use Rattle.xinu_model.specs.Boot.{Disks, Loaded}

-- some placements were gone through, in which nothing was chosen if the flag says so, and these are left
pub record UnderWay (are_forced : Bool) (disks : Disks) (images : List Loaded) (base : List Event) (most : ℕ) (stretch : Stretch) (all left : List (List ℕ)) (table : List Row) : Type 0 where
  pub tried : List (List ℕ)
  pub split : tried ++ left ≡ all
  pub explores : Explores disks images base tried table
  pub forced : AreForced are_forced disks images base tried
  pub good : All (IsPlacement most stretch) left

-- nothing is chosen with this placement
abbrev ForcedWith : Disks → List Loaded → List Event → List ℕ → Type 0
ForcedWith disks images base places = ForcesOn true disks images (preempted_at places base)

rows-none : [] ≡ rows []
unfolding rows
rows-none = refl

All-append_left : (P : List ℕ → Type 0) (xs ys : List (List ℕ)) → All P (xs ++ ys) → All P xs
All-append_left P [] ys all = All-nil P
All-append_left P (x ∷ xs) ys all = All-cons P x xs (All-head P x (xs ++ ys) all) (All-append_left P xs ys (All-tail P x (xs ++ ys) all))

all_mapped : (P : List ℕ → Type 0) (runs : List Run) → All P (map (λ run. run.places) runs) → All (λ run. P run.places) runs
all_mapped P [] all = All-nil (λ run. P run.places)
all_mapped P (x ∷ xs) all =
    All-cons (λ run. P run.places) x xs (All-head P x.places (map (λ run. run.places) xs) all) (all_mapped P xs (All-tail P x.places (map (λ run. run.places) xs) all))

-- at the start none was
pub under_way-start : (are_forced : Bool) (disks : Disks) (images : List Loaded) (base : List Event) (most : ℕ) (stretch : Stretch) (all : List (List ℕ)) (table : List Row) → table ≡ [] → All (IsPlacement most stretch) all
    → UnderWay are_forced disks images base most stretch all all table
under_way-start are_forced disks images base most stretch all table none good = record {
  tried = [];
  split = refl;
  explores = record { runs = []; are = refl; real = All-nil (λ run. ComesToOn disks images (preempted_at run.places base) run.outcome); is = none ∙ rows-none };
  forced = record { nothing = λ _. All-nil (ForcedWith disks images base) };
  good = good;
}

-- one more
pub explores-more : (disks : Disks) (images : List Loaded) (base : List Event) (tried : List (List ℕ)) (table : List Row) (places : List ℕ) (outcome : Outcome) (next : List Row)
    → Explores disks images base tried table → ComesToOn disks images (preempted_at places base) outcome
    → ((runs : List Run) → table ≡ rows runs → next ≡ rows (runs ++ record { places = places; outcome = outcome } ∷ []))
    → Explores disks images base (tried ++ places ∷ []) next
explores-more disks images base tried table places outcome next so_far comes added =
    let run : Run = record { places = places; outcome = outcome } in
    record {
      runs = so_far.runs ++ run ∷ [];
      are = map-append (λ (r : Run). r.places) so_far.runs (run ∷ []) ∙ ap (λ (ps : List (List ℕ)). ps ++ places ∷ []) so_far.are;
      real = All-push (λ r. ComesToOn disks images (preempted_at r.places base) r.outcome) so_far.runs run so_far.real comes;
      is = added so_far.runs so_far.is;
    }

-- nothing is chosen with one placement more
forced-more : (were_forced is_forced both : Bool) (disks : Disks) (images : List Loaded) (base : List Event) (tried : List (List ℕ)) (places : List ℕ)
    → AreForced were_forced disks images base tried → ForcesOn is_forced disks images (preempted_at places base) → both ≡ (were_forced && is_forced)
    → AreForced both disks images base (tried ++ places ∷ [])
forced-more were_forced is_forced both disks images base tried places were forces same = record {
  nothing = λ all.
      let each = and_parts were_forced is_forced (sym same ∙ all) in
      All-push (ForcedWith disks images base) tried places (were.nothing each.0) (record { nothing = λ _. forces.nothing each.1 });
}

pub under_way-more : {are_forced : Bool} (is_forced both : Bool) (disks : Disks) (images : List Loaded) (base : List Event) (most : ℕ) (stretch : Stretch) (all left rest : List (List ℕ)) (table : List Row) (places : List ℕ) (outcome : Outcome) (next : List Row)
    → UnderWay are_forced disks images base most stretch all left table → left ≡ places ∷ rest → ComesToOn disks images (preempted_at places base) outcome
    → ((runs : List Run) → table ≡ rows runs → next ≡ rows (runs ++ record { places = places; outcome = outcome } ∷ []))
    → ForcesOn is_forced disks images (preempted_at places base) → both ≡ (are_forced && is_forced)
    → UnderWay both disks images base most stretch all rest next
under_way-more {are_forced} is_forced both disks images base most stretch all left rest table places outcome next so_far is comes added forces same = record {
  tried = so_far.tried ++ places ∷ [];
  split = append_assoc so_far.tried (places ∷ []) rest ∙ ap (λ (ps : List (List ℕ)). so_far.tried ++ ps) (sym is) ∙ so_far.split;
  explores = explores-more disks images base so_far.tried table places outcome next so_far.explores comes added;
  forced = forced-more are_forced is_forced both disks images base so_far.tried places so_far.forced forces same;
  good = All-tail (IsPlacement most stretch) places rest (subst (λ (ps : List (List ℕ)). All (IsPlacement most stretch) ps) is so_far.good);
}

-- the first of those that are left is a placement
pub first_is_good : {are_forced : Bool} (disks : Disks) (images : List Loaded) (base : List Event) (most : ℕ) (stretch : Stretch) (all left rest : List (List ℕ)) (table : List Row) (places : List ℕ)
    → UnderWay are_forced disks images base most stretch all left table → left ≡ places ∷ rest → IsPlacement most stretch places
first_is_good disks images base most stretch all left rest table places so_far is =
    All-head (IsPlacement most stretch) places rest (subst (λ (ps : List (List ℕ)). All (IsPlacement most stretch) ps) is so_far.good)

-- what holds of the events of the front with the first of them, and the back, holds of the base's with it
pub through_parts : {are_forced : Bool} (P : List Event → Type 0) (disks : Disks) (images : List Loaded) (base front back : List Event) (most : ℕ) (stretch : Stretch) (cut : ℕ) (all left rest : List (List ℕ)) (table : List Row) (places : List ℕ)
    → UnderWay are_forced disks images base most stretch all left table → left ≡ places ∷ rest
    → ((m : ℕ) (ps : List ℕ) → IsPlacement m stretch ps → preempted_at ps base ≡ preempted_at ps (take cut base) ++ drop cut base)
    → front ≡ take cut base → back ≡ drop cut base → P (preempted_at places front ++ back) → P (preempted_at places base)
through_parts P disks images base front back most stretch cut all left rest table places so_far is parts front_is back_is holds =
    let whole = parts most places (first_is_good disks images base most stretch all left rest table places so_far is) in
    subst P (ap (λ (f : List Event). preempted_at places f ++ back) front_is ∙ ap (λ (b : List Event). preempted_at places (take cut base) ++ b) back_is ∙ sym whole) holds

-- the counts stay below the number of placements
pub counts_fit : {are_forced : Bool} (disks : Disks) (images : List Loaded) (base : List Event) (most : ℕ) (stretch : Stretch) (all left rest : List (List ℕ)) (table : List Row) (places : List ℕ)
    → UnderWay are_forced disks images base most stretch all left table → left ≡ places ∷ rest → sum (map (λ row. row.count) table) < length all
counts_fit disks images base most stretch all left rest table places so_far is =
    let total : sum (map (λ row. row.count) table) ≡ length so_far.explores.runs =
    ap (λ (t : List Row). sum (map (λ row. row.count) t)) so_far.explores.is ∙ adds_up so_far.explores.runs in
    let size : length so_far.explores.runs ≡ length so_far.tried =
    sym (length-map so_far.explores.runs (λ (r : Run). r.places)) ∙ ap (λ (ps : List (List ℕ)). length ps) so_far.explores.are in
    omega (
      arith,
      total,
      size,
      length-append so_far.tried left,
      ap (λ (ps : List (List ℕ)). length ps) so_far.split,
      ap (λ (ps : List (List ℕ)). length ps) is,
    )

-- none is left
pub under_way-end : {are_forced : Bool} (disks : Disks) (images : List Loaded) (base : List Event) (most : ℕ) (stretch : Stretch) (all left : List (List ℕ)) (table : List Row) → UnderWay are_forced disks images base most stretch all left table → left ≡ []
    → Explores disks images base all table
under_way-end disks images base most stretch all left table so_far none =
    subst (λ (ps : List (List ℕ)). Explores disks images base ps table)
    (sym (append-nil so_far.tried) ∙ ap (λ (ps : List (List ℕ)). so_far.tried ++ ps) (sym none) ∙ so_far.split)
    so_far.explores

-- and nothing was chosen in them, if the flag says so
pub forced-end : {are_forced : Bool} (disks : Disks) (images : List Loaded) (base : List Event) (most : ℕ) (stretch : Stretch) (all left : List (List ℕ)) (table : List Row) → UnderWay are_forced disks images base most stretch all left table → left ≡ []
    → AreForced are_forced disks images base all
forced-end {are_forced} disks images base most stretch all left table so_far none =
    subst (λ (ps : List (List ℕ)). AreForced are_forced disks images base ps)
    (sym (append-nil so_far.tried) ∙ ap (λ (ps : List (List ℕ)). so_far.tried ++ ps) (sym none) ∙ so_far.split)
    so_far.forced

-- some were gone through
pub some-under_way : {are_forced : Bool} (disks : Disks) (images : List Loaded) (base : List Event) (most : ℕ) (stretch : Stretch) (all left : List (List ℕ)) (table : List Row) → UnderWay are_forced disks images base most stretch all left table
    → ExploresSome disks images base all table
some-under_way disks images base most stretch all left table so_far =
    record { tried = so_far.tried; left = left; split = so_far.split; explores = so_far.explores }

-- the placements of the rows are placements
pub first_are_placements : (disks : Disks) (images : List Loaded) (base : List Event) (most : ℕ) (stretch : Stretch) (tried left all : List (List ℕ)) (table : List Row)
    → Explores disks images base tried table → tried ++ left ≡ all → All (IsPlacement most stretch) all → All (λ row. IsPlacement most stretch row.first) table
first_are_placements disks images base most stretch tried left all table explores split good =
    let here : All (IsPlacement most stretch) tried =
    All-append_left (IsPlacement most stretch) tried left (subst (λ (ps : List (List ℕ)). All (IsPlacement most stretch) ps) (sym split) good) in
    let runs : All (λ run. IsPlacement most stretch run.places) explores.runs =
    all_mapped (IsPlacement most stretch) explores.runs (subst (λ (ps : List (List ℕ)). All (IsPlacement most stretch) ps) (sym explores.are) here) in
    subst (λ (t : List Row). All (λ row. IsPlacement most stretch row.first) t) (sym explores.is) (all_rows (IsPlacement most stretch) explores.runs runs)

pub under_way-first : {are_forced : Bool} (disks : Disks) (images : List Loaded) (base : List Event) (most : ℕ) (stretch : Stretch) (left : List (List ℕ)) (table : List Row)
    → UnderWay are_forced disks images base most stretch (placements most stretch) left table → All (λ row. IsPlacement most stretch row.first) table
under_way-first disks images base most stretch left table so_far =
    first_are_placements disks images base most stretch so_far.tried left (placements most stretch) table so_far.explores so_far.split (all_placements most stretch)
