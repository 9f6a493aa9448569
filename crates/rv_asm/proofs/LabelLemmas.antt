-- One more label.
use Rattle.std.proofs.Common.{◌≡◌, ℕ, Bool, true, false, cond, List, Option, Some, None, refl, sym, ap, ◌∙◌}
use Rattle.std.specs.Str.{bytes_eq}
use Rattle.std.specs.Bool.{one_answer}
use Rattle.std.proofs.lemmas.Slice.Eq.{bytes_eq-Decides}
use Rattle.rv_asm.specs.CodeLabels.{found}
use Rattle.rv_asm.specs.Layouts.{or_address}
use Rattle.rv_asm.specs.declared.labels.Labels.{Labels}

-- the same test the other way round
turned : (xs ys : List ℕ) → bytes_eq xs ys ≡ bytes_eq ys xs
turned xs ys =
    let one = bytes_eq-Decides xs ys in
    let other = bytes_eq-Decides ys xs in
    one_answer (bytes_eq xs ys) (bytes_eq ys xs) one ((λ e. sym (other.0 e)), (λ e. other.1 (sym e)))

put_first : (x y : Bool) (o : Option ℕ) (a : ℕ) → x ≡ y → (x ≡ true → o ≡ None) → cond x (Some a) o ≡ or_address o y a
put_first true true o a same none = rw (none refl) refl
put_first false false None a same none = refl
put_first false false (Some b) a same none = refl
put_first true false o a same none = cc
put_first false true o a same none = cc

-- a label that wasn't there is put
pub found-put : (old new : Labels) (name : List ℕ) (address : ℕ)
    → ((q : List ℕ) → found new q ≡ cond (bytes_eq name q) (Some address) (found old q)) → found old name ≡ None → (q : List ℕ)
    → found new q ≡ or_address (found old q) (bytes_eq q name) address
found-put old new name address put none q =
    put q
    ∙ put_first (bytes_eq name q) (bytes_eq q name) (found old q) address (turned name q)
    (λ e. ap (found old) (sym ((bytes_eq-Decides name q).0 e)) ∙ none)
