use Rattle.std.proofs.Common.{◌∙◌, pos, negsuc, ap}
use Rattle.xinu_base.specs.declared.syscalls.Next.TheVariants.{Returns}
use Rattle.xinu_model.specs.Machine.{CallState}
use Rattle.xinu_model.specs.Semaphores.Calls.{semdelete}
use Rattle.kernel_state.specs.Results.{came_to}
use Rattle.kernel_state.specs.States.{kernel_state}
use Rattle.kernel_state.proofs.Together.{releasing}
use Rattle.core_calls.proofs.SemaphoreCalls.{semdelete_is}
use Rattle.kernel_state.proofs.Values.{call_is}
use Rattle.core_calls.proofs.semaphore_calls.semdelete.Goals as goal

pub returns-clause-semdelete : goal.returns-clause-semdelete
returns-clause-semdelete c =
    let s = (kernel_state c.k.inside).state in
    let u = c.delete_semaphore-released.new.self in
    ap (λ d. came_to d (Returns (pos 0)))
    (c.release.ensures.released ∙ ap (λ l. releasing (negsuc 0) l u s) c.as_slice.ensures.value)
    ∙ semdelete_is s c.in-Some.sem c.args.word c.delete_semaphore-released.result.items u c.in-Some.ensures.named c.in-Some.ensures.good c.delete_semaphore-released.ensures.released c.delete_semaphore-released.ensures.deleted
    ∙ ap (λ (d : CallState). semdelete c.args.word d.state) (call_is c.k.view_is)
