use Rattle.std.proofs.Common.{◌≡◌, ◌∙◌, false, sym, ap, arith}
use Rattle.xinu_model.proofs.Searches.{find_later}
use Rattle.semaphores.proofs.Finding.{is_free_in}
use Rattle.semaphores.proofs.sems.Sems.free_within.Goals as goal

pub loop-number-preserved : goal.loop-number-preserved
loop-number-preserved c =
    let test = is_free_in c.args.self.now.entries in
    let f : test c.loop-number.number ≡ false
    = ap test (sym c.at-sem.ensures.number) ∙ sym c.is_free.ensures.free ∙ c.if-is_free.false in
    sym (find_later test c.loop-number.number c.args.end (omega arith) f) ∙ c.loop-number.invariant
