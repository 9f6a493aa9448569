use Rattle.std.proofs.Common.{◌≡◌, ◌∙◌, ℕ, Bool, false, sym, ap, arith}
use Rattle.std.specs.Prelude.{not, is_some}
use Rattle.xinu_model.specs.Tables as model
use Rattle.xinu_model.proofs.Searches.{find_later}
use Rattle.reference_tables.proofs.tables.Tables.semaphore_from.Goals as goal

pub loop-number-preserved : goal.loop-number-preserved
loop-number-preserved c =
    let test : ℕ → Bool = λ (x : ℕ). not (is_some (model.semaphore_at c.args.self.now x).owner) in
    let f : test c.loop-number.number ≡ false = ap test (sym c.at-sem.ensures.number) ∙ sym c.is_unused.ensures.unused
    ∙ c.if-is_unused.false in
    sym (find_later test c.loop-number.number c.args.end (omega arith) f) ∙ c.loop-number.invariant
