use Rattle.std.proofs.Common.{◌≡◌, ◌∙◌, pos, ◌≤ℤ◌, rules, w32, ap}
use Rattle.xinu_base.specs.declared.syscalls.Next.TheVariants.{Returns}
use Rattle.xinu_model.specs.Machine.{CallState}
use Rattle.xinu_model.specs.Semaphores.Calls.{semreset}
use Rattle.kernel_state.specs.Results.{came_to}
use Rattle.kernel_state.specs.States.{kernel_state}
use Rattle.kernel_state.proofs.Together.{releasing}
use Rattle.core_calls.proofs.SemaphoreCalls.{at_least_zero, semreset_counts}
use Rattle.std.proofs.lemmas.Int.{to_z-of_z}
use mir.Val.{SFits, of_z, to_z}
use Rattle.kernel_state.proofs.Values.{call_is}
use Rattle.core_calls.proofs.semaphore_calls.semreset.Goals as goal

pub returns-clause-semreset : goal.returns-clause-semreset
returns-clause-semreset c =
    let s = (kernel_state c.k.inside).state in
    let u = c.reset_semaphore-released.new.self in
    let f : SFits w32 c.args.count = search rules in
    let z = to_z w32 (of_z w32 c.args.count) in
    let is : z ≡ c.args.count = to_z-of_z w32 c.args.count f in
    let l : pos 0 ≤ℤ z = at_least_zero z c.if-count-lt0.false in
    ap (λ d. came_to d (Returns (pos 0)))
    (c.release.ensures.released ∙ ap (λ l. releasing (pos 0) l u s) c.as_slice.ensures.value)
    ∙ semreset_counts s c.in-Some.sem c.args.word z c.reset_semaphore-released.result.items u l c.in-Some.ensures.named c.in-Some.ensures.good c.reset_semaphore-released.ensures.released c.reset_semaphore-released.ensures.reset
    ∙ ap (λ z. semreset c.args.word z s) is
    ∙ ap (λ (d : CallState). semreset c.args.word c.args.count d.state) (call_is c.k.view_is)
