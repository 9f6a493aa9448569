use Rattle.std.proofs.Common.{◌∙◌, ℕ, List, [], ◌∷◌, drop, sym, ap, refl}
use Rattle.preemptions.proofs.Order.{starts}
use Rattle.preemptions.proofs.laws.first_is_empty.Goals as goal

pub returns : goal.returns
returns c = λ most stretch.
    let is = starts most stretch [] refl in
    sym is ∙ ap (λ (xs : List (List ℕ)). [] ∷ drop 1 xs) is
