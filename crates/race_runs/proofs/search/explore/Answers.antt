-- One placement more.
use Rattle.std.proofs.Common.{rules, ◌≡◌, ◌∙◌, true, ◌&&◌, List, ℕ, ap, map, drop, sym, subst, arith}
use Rattle.given_disks.specs.Disks.{disks_of}
use Rattle.image_loader.specs.Images.{loaded_of}
use Rattle.preemptions.proofs.Members.{all_placements}
use Rattle.preemptions.specs.Placements.{IsPlacement, placements}
use Rattle.preemptions.specs.Preempted.{preempted_at}
use Rattle.race_runs.specs.Forced.{ForcesOn}
use Rattle.race_runs.specs.Runs.{ComesToOn}
use Rattle.xinu_base.specs.declared.events.Event.{Event}
use Rattle.race_runs.proofs.search.explore.Goals.{then-are_forced, else-are_forced}
use Rattle.std.specs.List.{All}
use Rattle.race_tables.specs.Rows.{Row}
use Rattle.race_runs.proofs.Exploring.{UnderWay, counts_fit, some-under_way, through_parts, under_way-first, under_way-more, under_way-start}
use Rattle.preemptions.proofs.Fewness.{few_placements}
use Rattle.race_runs.proofs.search.explore.Goals as goal

pub loop-places-init : goal.loop-places-init
loop-places-init g c =
    let disks = disks_of c.args.disk0.now c.args.disk1.now in
    let images = map loaded_of c.args.images.now in
    let base = c.args.base.now in
    let all = placements c.args.most c.args.stretch in
    record {
      under_way = subst (λ (left : List (List ℕ)). UnderWay true disks images base c.args.most c.args.stretch all left c.args.table.now.items) (sym c.new-left.ensures.all)
          (under_way-start true disks images base c.args.most c.args.stretch all c.args.table.now.items c.requires.empty (all_placements c.args.most c.args.stretch));
      known_back = search rules;
    }

pub count_run-requires : goal.count_run-requires
count_run-requires g c =
    let l = c.loop-places in
    let disks = disks_of c.args.disk0.now c.args.disk1.now in
    let images = map loaded_of c.args.images.now in
    let base = c.args.base.now in
    let all = placements c.args.most c.args.stretch in
    let fits = counts_fit disks images base c.args.most c.args.stretch all l.left (drop 1 l.left) l.table.items c.in-Some.places.now l.invariant.under_way c.in-Some.ensures.first in
    record { fits = omega (arith, fits, few_placements c.args.most c.args.stretch c.requires.most c.requires.within) }

pub loop-places-preserved : goal.loop-places-preserved
loop-places-preserved g c =
    let l = c.loop-places in
    let disks = disks_of c.args.disk0.now c.args.disk1.now in
    let images = map loaded_of c.args.images.now in
    let base = c.args.base.now in
    let all = placements c.args.most c.args.stretch in
    let next = c.count_run.new.table.items in
    let forces : ForcesOn c.in-Ok.ran.is_forced disks images (preempted_at c.in-Some.places.now base) =
    through_parts (λ (events : List Event). ForcesOn c.in-Ok.ran.is_forced disks images events) disks images base _ _ c.args.most c.args.stretch _ all l.left (drop 1 l.left) l.table.items c.in-Some.places.now
    l.invariant.under_way c.in-Some.ensures.first c.cut_of-cut.ensures.parts c.split_at.ensures.front c.split_at.ensures.back c.in-Ok.ensures.forced in
    let both : c.if-are_forced.are_forced ≡ (l.are_forced && c.in-Ok.ran.is_forced) = elim c.if-are_forced.branch [
      | then-are_forced w ↦ w.are_forced-is ∙ sym (ap (λ b. b && c.in-Ok.ran.is_forced) w.if-are_forced.true)
      | else-are_forced w ↦ w.are_forced-is ∙ w.if-are_forced.false ∙ sym (ap (λ b. b && c.in-Ok.ran.is_forced) w.if-are_forced.false)
    ] in
    record {
      under_way = subst (λ (left : List (List ℕ)). UnderWay c.if-are_forced.are_forced disks images base c.args.most c.args.stretch all left next) (sym c.in-Ok-advance.ensures.next)
          (under_way-more c.in-Ok.ran.is_forced c.if-are_forced.are_forced disks images base c.args.most c.args.stretch all l.left (drop 1 l.left) l.table.items c.in-Some.places.now c.in-Ok.ran.outcome next
          l.invariant.under_way c.in-Some.ensures.first (through_parts (λ (events : List Event). ComesToOn disks images events c.in-Ok.ran.outcome) disks images base _ _ c.args.most c.args.stretch _ all l.left (drop 1 l.left) l.table.items c.in-Some.places.now
          l.invariant.under_way c.in-Some.ensures.first c.cut_of-cut.ensures.parts c.split_at.ensures.front c.split_at.ensures.back c.in-Ok.ensures.comes) c.in-Ok-count_run.ensures.added forces both);
      known_back = search rules;
    }

pub returns-in-Err-advance-clause-explores : goal.returns-in-Err-advance-clause-explores
returns-in-Err-advance-clause-explores g c =
    let l = c.loop-places in
    let disks = disks_of c.args.disk0.now c.args.disk1.now in
    let images = map loaded_of c.args.images.now in
    let base = c.args.base.now in
    let all = placements c.args.most c.args.stretch in
    let next = c.count_run.new.table.items in
    let forces : ForcesOn c.in-Ok.ran.is_forced disks images (preempted_at c.in-Some.places.now base) =
    through_parts (λ (events : List Event). ForcesOn c.in-Ok.ran.is_forced disks images events) disks images base _ _ c.args.most c.args.stretch _ all l.left (drop 1 l.left) l.table.items c.in-Some.places.now
    l.invariant.under_way c.in-Some.ensures.first c.cut_of-cut.ensures.parts c.split_at.ensures.front c.split_at.ensures.back c.in-Ok.ensures.forced in
    let both : c.if-are_forced.are_forced ≡ (l.are_forced && c.in-Ok.ran.is_forced) = elim c.if-are_forced.branch [
      | then-are_forced w ↦ w.are_forced-is ∙ sym (ap (λ b. b && c.in-Ok.ran.is_forced) w.if-are_forced.true)
      | else-are_forced w ↦ w.are_forced-is ∙ w.if-are_forced.false ∙ sym (ap (λ b. b && c.in-Ok.ran.is_forced) w.if-are_forced.false)
    ] in
    some-under_way disks images base c.args.most c.args.stretch all (drop 1 l.left) next
    (under_way-more c.in-Ok.ran.is_forced c.if-are_forced.are_forced disks images base c.args.most c.args.stretch all l.left (drop 1 l.left) l.table.items c.in-Some.places.now c.in-Ok.ran.outcome next
    l.invariant.under_way c.in-Some.ensures.first (through_parts (λ (events : List Event). ComesToOn disks images events c.in-Ok.ran.outcome) disks images base _ _ c.args.most c.args.stretch _ all l.left (drop 1 l.left) l.table.items c.in-Some.places.now
    l.invariant.under_way c.in-Some.ensures.first c.cut_of-cut.ensures.parts c.split_at.ensures.front c.split_at.ensures.back c.in-Ok.ensures.comes) c.in-Ok-count_run.ensures.added forces both)

pub returns-in-Err-advance-clause-first : goal.returns-in-Err-advance-clause-first
returns-in-Err-advance-clause-first g c =
    let l = c.loop-places in
    let disks = disks_of c.args.disk0.now c.args.disk1.now in
    let images = map loaded_of c.args.images.now in
    let base = c.args.base.now in
    let all = placements c.args.most c.args.stretch in
    let next = c.count_run.new.table.items in
    let forces : ForcesOn c.in-Ok.ran.is_forced disks images (preempted_at c.in-Some.places.now base) =
    through_parts (λ (events : List Event). ForcesOn c.in-Ok.ran.is_forced disks images events) disks images base _ _ c.args.most c.args.stretch _ all l.left (drop 1 l.left) l.table.items c.in-Some.places.now
    l.invariant.under_way c.in-Some.ensures.first c.cut_of-cut.ensures.parts c.split_at.ensures.front c.split_at.ensures.back c.in-Ok.ensures.forced in
    let both : c.if-are_forced.are_forced ≡ (l.are_forced && c.in-Ok.ran.is_forced) = elim c.if-are_forced.branch [
      | then-are_forced w ↦ w.are_forced-is ∙ sym (ap (λ b. b && c.in-Ok.ran.is_forced) w.if-are_forced.true)
      | else-are_forced w ↦ w.are_forced-is ∙ w.if-are_forced.false ∙ sym (ap (λ b. b && c.in-Ok.ran.is_forced) w.if-are_forced.false)
    ] in
    under_way-first disks images base c.args.most c.args.stretch (drop 1 l.left) next
    (under_way-more c.in-Ok.ran.is_forced c.if-are_forced.are_forced disks images base c.args.most c.args.stretch all l.left (drop 1 l.left) l.table.items c.in-Some.places.now c.in-Ok.ran.outcome next
    l.invariant.under_way c.in-Some.ensures.first (through_parts (λ (events : List Event). ComesToOn disks images events c.in-Ok.ran.outcome) disks images base _ _ c.args.most c.args.stretch _ all l.left (drop 1 l.left) l.table.items c.in-Some.places.now
    l.invariant.under_way c.in-Some.ensures.first c.cut_of-cut.ensures.parts c.split_at.ensures.front c.split_at.ensures.back c.in-Ok.ensures.comes) c.in-Ok-count_run.ensures.added forces both)

pub returns-in-Err-clause-first : goal.returns-in-Err-clause-first
returns-in-Err-clause-first g c =
    let l = c.loop-places in
    let disks = disks_of c.args.disk0.now c.args.disk1.now in
    let images = map loaded_of c.args.images.now in
    let base = c.args.base.now in
    under_way-first disks images base c.args.most c.args.stretch l.left l.table.items l.invariant.under_way

pub returns-in-Err-count_run-clause-first : goal.returns-in-Err-count_run-clause-first
returns-in-Err-count_run-clause-first g c =
    let l = c.loop-places in
    let disks = disks_of c.args.disk0.now c.args.disk1.now in
    let images = map loaded_of c.args.images.now in
    let base = c.args.base.now in
    subst (λ (table : List Row). All (λ row. IsPlacement c.args.most c.args.stretch row.first) table) (sym c.in-Err-count_run.ensures.kept)
    (under_way-first disks images base c.args.most c.args.stretch l.left l.table.items l.invariant.under_way)

pub returns-clause-first : goal.returns-clause-first
returns-clause-first g c =
    let l = c.loop-places in
    let disks = disks_of c.args.disk0.now c.args.disk1.now in
    let images = map loaded_of c.args.images.now in
    let base = c.args.base.now in
    under_way-first disks images base c.args.most c.args.stretch l.left l.table.items l.invariant.under_way
