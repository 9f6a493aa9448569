use Rattle.std.proofs.Common.{◌≡◌, ◌∙◌, pos, nat_abs, rules, w32, ap, sym}
use Rattle.xinu_base.specs.declared.syscalls.Next.TheVariants.{Returns}
use Rattle.xinu_model.specs.Machine.{CallState}
use Rattle.xinu_model.specs.Semaphores.Calls.{signaln}
use Rattle.kernel_state.specs.Results.{came_to}
use Rattle.kernel_state.specs.States.{kernel_state}
use Rattle.kernel_state.proofs.Together.{releasing}
use Rattle.ports.proofs.Entries.{pos_abs}
use Rattle.core_calls.proofs.SemaphoreCalls.{at_least_zero, signaln_is}
use Rattle.std.proofs.lemmas.Int.{to_z-of_z}
use mir.Val.{SFits, of_z, to_z}
use Rattle.kernel_state.proofs.Values.{call_is}
use Rattle.core_calls.proofs.semaphore_calls.signaln.Goals as goal

pub returns-clause-signaln : goal.returns-clause-signaln
returns-clause-signaln c =
    let s = (kernel_state c.k.inside).state in
    let u = c.signaln-released.new.self in
    let f : SFits w32 c.args.n = search rules in
    let z = to_z w32 (of_z w32 c.args.n) in
    let n = nat_abs z in
    let is : c.args.n ≡ pos n = sym (to_z-of_z w32 c.args.n f) ∙ pos_abs z (at_least_zero z c.if-n-lt0.false) in
    ap (λ d. came_to d (Returns (pos 0)))
    (c.release.ensures.released ∙ ap (λ l. releasing (pos 0) l u s) c.as_slice.ensures.value)
    ∙ signaln_is s c.in-Some.sem c.args.word n c.signaln-released.result.items u c.in-Some.ensures.named c.in-Some.ensures.good
    (sym c.if-not-has_room.ensures.room) c.signaln-released.ensures.released c.signaln-released.ensures.signalled
    ∙ ap (λ z. signaln c.args.word z s) (sym is)
    ∙ ap (λ (d : CallState). signaln c.args.word c.args.n d.state) (call_is c.k.view_is)
