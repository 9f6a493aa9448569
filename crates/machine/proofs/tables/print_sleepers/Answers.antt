use Rattle.std.proofs.Common.{◌∙◌, ℕ, Option, ap, subst}
use Rattle.std.specs.Prelude.{IfSome, option_map}
use Rattle.kernel_tables.specs.Walks.{entries_from, StandsAt}
use Rattle.xinu_model.specs.Text.{sleeper_line}
use Rattle.machine.proofs.Walks.{printed_next, printed_start}
use Rattle.machine.proofs.tables.print_sleepers.Goals as goal

pub loop-next-init : goal.loop-next-init
loop-next-init g c =
    let sleepers = c.args.tables.now.sleepers in
    (printed_start sleeper_line sleepers (entries_from (option_map (λ e. e.0) c.first_sleeper-next.result) sleepers) _ _ c.first_sleeper-next.ensures.all, c.first_sleeper-next.ensures.sleeps)

pub sleeper_after-next-requires-clause-sleeps : goal.sleeper_after-next-requires-clause-sleeps
sleeper_after-next-requires-clause-sleeps g c =
    let P : Option (ℕ × ℕ) → Type 0 = λ o. IfSome o (λ e. StandsAt e.0 e.1 c.args.tables.now.sleepers) in
    subst P c.in-Some.is c.loop-next.invariant.1

pub loop-next-preserved : goal.loop-next-preserved
loop-next-preserved g c =
    let sleepers = c.args.tables.now.sleepers in
    let e = ap (λ (o : Option (ℕ × ℕ)). entries_from (option_map (λ e. e.0) o) sleepers) c.in-Some.is ∙ c.sleeper_after-next.ensures.next in (
      printed_next sleeper_line sleepers (entries_from (option_map (λ e. e.0) c.loop-next.next) sleepers) (entries_from (option_map (λ e. e.0) c.sleeper_after-next.result) sleepers)
          c.in-Some.sleeper _ _ _ _ _ _ e c.loop-next.invariant.0 c.print_line.ensures.prints,
      c.sleeper_after-next.ensures.sleeps,
    )
