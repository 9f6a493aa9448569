use Rattle.std.proofs.Common.{◌≡◌, ◌∙◌, ℕ, Bool, false, sym, ap, arith}
use Rattle.xinu_model.specs.Tables as model
use Rattle.xinu_model.proofs.Searches.{find_later}
use Rattle.reference_tables.proofs.tables.Tables.process_from.Goals as goal

pub loop-number-preserved : goal.loop-number-preserved
loop-number-preserved c =
    let test : ℕ → Bool = λ (p : ℕ). model.is_free (model.state_at c.args.self.now p) in
    let f : test c.loop-number.number ≡ false = ap test (sym c.at-p.ensures.number) ∙ sym c.is_free.ensures.free
    ∙ c.if-is_free.false in
    sym (find_later test c.loop-number.number c.args.end (omega arith) f) ∙ c.loop-number.invariant
