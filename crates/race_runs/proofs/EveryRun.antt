-- Every run of a placement in which nothing is chosen.
use Rattle.std.proofs.Common.{◌≡◌, ◌∙◌, ℕ, zero, suc, true, List, [], ◌∷◌, map, refl, sym, ap, subst, arith}
use Rattle.std.specs.List.{Contains}
use Rattle.std.proofs.lemmas.List.Elements.{All-contains, Contains-append_right}
use Rattle.preemptions.proofs.Members.{is_among}
use Rattle.preemptions.specs.Placements.{IsPlacement, placements}
use Rattle.preemptions.specs.Preempted.{preempted_at}
use Rattle.preemptions.specs.declared.stretches.Stretch.{Stretch}
use Rattle.race_tables.specs.Outcomes.{Outcome}
use Rattle.race_runs.specs.Runs.{ComesTo, ComesToOn, outcome_of}
use Rattle.race_runs.specs.Explored.{Explores}
use Rattle.race_runs.specs.Forced.{AreForced, ForcesOn}
use Rattle.race_tables.specs.Rows.{HasRow, Row, Run, rows}
use Rattle.race_tables.proofs.Tables.{all_have, only}
use Rattle.xinu_base.specs.declared.events.Event.{Event}
use Rattle.xinu_laws.proofs.RunOutcomes.{runs_are_forced}
use Rattle.xinu_laws.specs.Outcomes.{ChoosesNothing}
use Rattle.xinu_model.specs.Boot.{Boots, Disks, Loaded, boot_on}
use Rattle.xinu_model.specs.Machine.{Xinu}

-- if nothing is chosen, all runs from a state have one outcome
same_outcome : (start : Xinu) (events : List Event) (one other : Outcome) → ChoosesNothing start events → ComesTo start events one → ComesTo start events other
    → one ≡ other
same_outcome start events one other none r s =
    let same = runs_are_forced events start r.lines s.lines r.last s.last r.end s.end none r.runs s.runs in
    sym r.is
    ∙ ap (λ lines. outcome_of lines r.last r.end) same.0
    ∙ ap (λ last. outcome_of s.lines last r.end) same.1
    ∙ ap (λ end. outcome_of s.lines s.last end) same.2
    ∙ s.is

-- so have all runs from where the images boot
same_outcome_on : (disks : Disks) (images : List Loaded) (start : Xinu) (events : List Event) (one other : Outcome) → boot_on disks images ≡ Boots start
    → ChoosesNothing start events → ComesToOn disks images events one → ComesTo start events other → one ≡ other
same_outcome_on disks images start events one other boots none r s =
    let both = sym r.boots ∙ boots in
    let starts : r.start ≡ start = cc in
    same_outcome start events one other none (subst (λ x. ComesTo x events one) starts r.comes) s

-- the run of a placement that is among those of these runs
record RunOf (runs : List Run) (places : List ℕ) : Type 0 where
  run : Run
  among : Contains runs run
  at : run.places ≡ places

run_of : (runs : List Run) (places : List ℕ) → Contains (map (λ run. run.places) runs) places → RunOf runs places
run_of [] places (k, within, is) = absurd (omega (arith, within))
run_of (x ∷ xs) places (zero, within, is) = record { run = x; among = (0, omega arith, refl); at = is }
run_of (x ∷ xs) places (suc k, within, is) =
    let later = run_of xs places (k, omega (arith, within), is) in
    record { run = later.run; among = Contains-append_right (x ∷ []) xs later.run later.among; at = later.at }

-- every run of a placement has its row
pub has_its_row : (disks : Disks) (images : List Loaded) (base : List Event) (most : ℕ) (stretch : Stretch) (table : List Row) (places : List ℕ) (start : Xinu) (outcome : Outcome)
    → Explores disks images base (placements most stretch) table → IsPlacement most stretch places → boot_on disks images ≡ Boots start
    → ChoosesNothing start (preempted_at places base) → ComesTo start (preempted_at places base) outcome
    → HasRow table (record { places = places; outcome = outcome })
has_its_row disks images base most stretch table places start outcome explores good boots none comes =
    let counted = run_of explores.runs places
    (subst (λ (all : List (List ℕ)). Contains all places) (sym explores.are) (is_among most stretch places good)) in
    let real = All-contains (λ (run : Run). ComesToOn disks images (preempted_at run.places base) run.outcome) explores.runs counted.run explores.real counted.among in
    let same = same_outcome_on disks images start (preempted_at places base) counted.run.outcome outcome boots none
    (subst (λ (ps : List ℕ). ComesToOn disks images (preempted_at ps base) counted.run.outcome) counted.at real) comes in
    let has = All-contains (HasRow (rows explores.runs)) explores.runs counted.run (all_have explores.runs) counted.among in
    record {
      row = has.row;
      among = subst (λ (t : List Row). Contains t has.row) (sym explores.is) has.among;
      is = has.is ∙ same;
    }

-- and its outcome, if one row is left and nothing is chosen in the runs of all placements
pub has_the_outcome : (disks : Disks) (images : List Loaded) (base : List Event) (most : ℕ) (stretch : Stretch) (row : Row) (places : List ℕ) (start : Xinu) (outcome : Outcome)
    → Explores disks images base (placements most stretch) (row ∷ []) → AreForced true disks images base (placements most stretch) → IsPlacement most stretch places
    → boot_on disks images ≡ Boots start → ComesTo start (preempted_at places base) outcome → outcome ≡ row.outcome
has_the_outcome disks images base most stretch row places start outcome explores forced good boots comes =
    let forces = All-contains (λ (ps : List ℕ). ForcesOn true disks images (preempted_at ps base)) (placements most stretch) places (forced.nothing refl) (is_among most stretch places good) in
    let has = has_its_row disks images base most stretch (row ∷ []) places start outcome explores good boots (forces.nothing refl start boots) comes in
    sym has.is ∙ ap (λ (r : Row). r.outcome) (sym (only row has.row has.among))
