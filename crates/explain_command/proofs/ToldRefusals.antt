-- The kinds of refused calls, one after another.
use Rattle.std.proofs.Common.{◌≡◌, ◌∙◌, ◌+◌, ◌<◌, ◌≤◌, ℕ, suc, List, [], ◌∷◌, ◌++◌, add-one, drop, drop-cons, get_or, length, refl, sym, subst, ap}
use Rattle.std.proofs.lemmas.List.{append_assoc, append-nil, drop_all}
use Rattle.explain_command.specs.Refusals.{AreRefusals, IsRefusal, ToldFirst}
use Rattle.refused_calls.specs.declared.kinds.Kind.{Kind}

-- What follows of the other kinds makes the text whole.
pub record Goes (kinds left : List Kind) (told : List ℕ) : Type 0 where
  pub on : (more : List ℕ) → AreRefusals left more → AreRefusals kinds (told ++ more)

pub told_none : (kinds : List Kind) (told : List ℕ) → told ≡ [] → Goes kinds kinds told
told_none kinds told is = record { on = λ more so. subst (λ (t : List ℕ). AreRefusals kinds (t ++ more)) (sym is) so }

-- one more
first_told : (k : Kind) (left : List Kind) (line more : List ℕ) → IsRefusal k line → AreRefusals left more → AreRefusals (k ∷ left) (line ++ more)
unfolding AreRefusals
first_told k left line more one so = record { line = line; first = one; more = more; rest = so; is = refl }

pub told_more : (kinds left rest : List Kind) (k : Kind) (told line new : List ℕ) → left ≡ k ∷ rest → Goes kinds left told → IsRefusal k line
    → new ≡ told ++ line → Goes kinds rest new
told_more kinds left rest k told line new is so one grows = record {
  on = λ more then_.
      let whole : AreRefusals left (line ++ more) = subst (λ (l : List Kind). AreRefusals l (line ++ more)) (sym is) (first_told k rest line more one then_) in
      subst (λ (t : List ℕ). AreRefusals kinds t) (sym (ap (λ (t : List ℕ). t ++ more) grows ∙ append_assoc told line more)) (so.on (line ++ more) whole);
}

-- the same by the place of the kind
pub told_next : (kinds : List Kind) (i : ℕ) (k : Kind) (told line new : List ℕ) → i < length kinds → k ≡ get_or kinds i k → Goes kinds (drop i kinds) told
    → IsRefusal k line → new ≡ told ++ line → Goes kinds (drop (i + 1) kinds) new
told_next kinds i k told line new there is so one grows =
    told_more kinds (drop i kinds) (drop (i + 1) kinds) k told line new
    (drop-cons kinds i k there ∙ ap (λ x. x ∷ drop (suc i) kinds) (sym is) ∙ ap (λ n. k ∷ drop n kinds) (sym (add-one i))) so one grows

-- none is left
pub told_all : (kinds left : List Kind) (told : List ℕ) → left ≡ [] → Goes kinds left told → AreRefusals kinds told
unfolding AreRefusals
told_all kinds left told is so =
    subst (λ (t : List ℕ). AreRefusals kinds t) (append-nil told) (so.on [] (subst (λ (l : List Kind). AreRefusals l []) (sym is) refl))

pub told_end : (kinds : List Kind) (i : ℕ) (told : List ℕ) → length kinds ≤ i → Goes kinds (drop i kinds) told → AreRefusals kinds told
told_end kinds i told all so = told_all kinds (drop i kinds) told (drop_all i kinds all) so
