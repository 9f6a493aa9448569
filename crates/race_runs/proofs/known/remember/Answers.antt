use Rattle.std.proofs.Common.{sym, subst, List}
use Rattle.std.specs.List.{All}
use Rattle.std.proofs.lemmas.List.Elements.{All-nil}
use Rattle.race_runs.specs.Remainders.{IsKnown, Known}
use Rattle.race_runs.proofs.known.remember.Goals as goal

pub returns-then-len-ge-MOST : goal.returns-then-len-ge-MOST
returns-then-len-ge-MOST c = record {
  known = λ events all one. c.add.ensures.known events (subst (λ (ks : List Known). All (λ k. IsKnown events k) ks) (sym c.clear.ensures.items) (All-nil (λ k. IsKnown events k))) one;
}
