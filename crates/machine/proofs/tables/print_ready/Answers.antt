use Rattle.std.proofs.Common.{◌∙◌, ◌∷◌, [], ℤ, ap, rules, subst, w16}
use Rattle.std.proofs.lemmas.Int.{to_z-of_z}
use mir.Val.{SFits}
use Rattle.host_port.specs.Printing.{Prints}
use Rattle.xinu_base.specs.declared.lines.TranscriptLine.TheVariants.{Ready}
use Rattle.xinu_base.specs.declared.processes.Process.{Process}
use Rattle.kernel_tables.specs.Walks.{entries_from}
use Rattle.xinu_model.specs.Tables.{process_at}
use Rattle.xinu_model.specs.Text.{ready_line, shown}
use Rattle.machine.proofs.Walks.{printed_next, printed_start}
use Rattle.machine.proofs.tables.print_ready.Goals as goal

pub loop-next-init : goal.loop-next-init
loop-next-init g c =
    let t = c.args.tables.now in
    (printed_start ready_line t.ready (entries_from c.first_ready-next.result t.ready) _ _ c.first_ready-next.ensures.all, c.first_ready-next.ensures.ready)

pub loop-next-preserved : goal.loop-next-preserved
loop-next-preserved g c =
    let t = c.args.tables.now in
    let p = c.in-Some.p in
    let e = ap (λ o. entries_from o t.ready) c.in-Some.is ∙ c.ready_after-next.ensures.next in
    let P : ℤ → Type 0 = λ n. Prints c.loop-next.out c.print_line.new.out (g.H.Host.view c.loop-next.host) (g.H.Host.view c.print_line.new.host) (shown c.loop-next.out.plain (Ready p n ∷ [])) in
    let f : SFits w16 c.process.result.now.priority = search rules in
    let one = subst P (to_z-of_z w16 c.process.result.now.priority f ∙ ap (λ (x : Process). x.priority) c.process.ensures.process) c.print_line.ensures.prints in (
      printed_next ready_line t.ready (entries_from c.loop-next.next t.ready) (entries_from c.ready_after-next.result t.ready) (p, (process_at t p).priority) _ _ _ _ _ _ e c.loop-next.invariant.0 one,
      c.ready_after-next.ensures.ready,
    )
