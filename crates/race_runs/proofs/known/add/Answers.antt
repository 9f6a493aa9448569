use Rattle.std.proofs.Common.{sym, subst, List}
use Rattle.std.specs.List.{All}
use Rattle.std.proofs.lemmas.List.Elements.{All-push}
use Rattle.race_runs.specs.Remainders.{IsKnown, Known}
use Rattle.race_runs.proofs.known.add.Goals as goal

pub returns-in_default : goal.returns-in_default
returns-in_default c = record {
  known = λ events all one. subst (λ (ks : List Known). All (λ k. IsKnown events k) ks) (sym c.in_default.ensures.items) all;
}

pub returns : goal.returns
returns c = record {
  known = λ events all one. subst (λ (ks : List Known). All (λ k. IsKnown events k) ks) (sym c.in-Ok.ensures.items)
      (All-push (λ k. IsKnown events k) c.args.known.now.items c.args.entry all one);
}
