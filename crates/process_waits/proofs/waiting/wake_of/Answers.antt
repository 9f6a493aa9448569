-- The next sleeper is another process.
use Rattle.std.proofs.Common.{ℕ, ◌≡◌, ◌∙◌, ◌==◌, false, Option, ap, arith}
use Rattle.std.specs.Prelude.{option_map}
use Rattle.std.proofs.lemmas.Bool.Decides.{nat_tests}
use Rattle.std.proofs.lemmas.Grind.{common_steps}
use Rattle.process_waits.proofs.Searches.{wake_next}
use Rattle.kernel_tables.specs.Walks.{entries_from}
use Rattle.process_waits.proofs.waiting.wake_of.Goals as goal

pub loop-next-preserved : goal.loop-next-preserved
loop-next-preserved c =
    let x = c.in-Some.sleeper in
    let sleepers = c.args.tables.now.sleepers in
    let e = ap (λ (o : Option (ℕ × ℕ)). entries_from (option_map (λ e. e.0) o) sleepers) c.in-Some.is ∙ c.sleeper_after-next.ensures.next in
    let other : (x.0 == c.args.p) ≡ false = grind (arith, common_steps, nat_tests) in (
      wake_next c.args.p x sleepers (entries_from (option_map (λ e. e.0) c.loop-next.next) sleepers)
          (entries_from (option_map (λ e. e.0) c.sleeper_after-next.result) sleepers) e other c.loop-next.invariant.0,
      c.sleeper_after-next.ensures.sleeps,
    )
