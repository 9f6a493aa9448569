-- The processes that are left, one after another.
use Rattle.std.proofs.Common.{◌≡◌, ◌+◌, ℕ, suc, List, [], ◌++◌, subst, sym, add-one}
use Rattle.process_lives.specs.declared.lives.Life.{Life}
use Rattle.told_left.specs.Left.{AreTold, IsTold}
use Rattle.xinu_model.specs.Machine.{Xinu}

pub told_none : (files : List (List ℕ)) (s : Xinu) (lives : List Life) (text : List ℕ) → text ≡ [] → AreTold files s lives 0 text
unfolding AreTold
told_none files s lives text is = is

-- one more
told_next : (files : List (List ℕ)) (s : Xinu) (lives : List Life) (n : ℕ) (before more text : List ℕ) → AreTold files s lives n before → IsTold files s lives (suc n) more
    → text ≡ before ++ more → AreTold files s lives (suc n) text
unfolding AreTold
told_next files s lives n before more text first one is = record { before = before; first = first; more = more; one = one; is = is }

pub told_more : (files : List (List ℕ)) (s : Xinu) (lives : List Life) (n : ℕ) (before more text : List ℕ) → AreTold files s lives n before → IsTold files s lives (n + 1) more
    → text ≡ before ++ more → AreTold files s lives (n + 1) text
told_more files s lives n before more text first one is =
    let next : IsTold files s lives (suc n) more = subst (λ (k : ℕ). IsTold files s lives k more) (add-one n) one in
    subst (λ (k : ℕ). AreTold files s lives k text) (sym (add-one n)) (told_next files s lives n before more text first next is)
