-- The words of a program in RAM, word by word, and the rule before anything runs.
use Rattle.std.proofs.Common.{◌≡◌, ◌∙◌, ◌&&◌, ◌==◌, ◌+◌, ◌*◌, ◌^◌, ◌<◌, ◌≤◌, ℕ, zero, suc, List, [], ◌∷◌, length, drop, true, refl, ap, arith}
use Rattle.std.specs.Prelude.{get_or}
use Rattle.std.proofs.lemmas.Bool.{eq-eqb, le-leb}
use Rattle.program_logic.specs.SystemCheck.{lie_there, words_in}
use Rattle.program_logic.specs.Terms.{value}
use Rattle.program_logic.specs.declared.outline.Lock.{Lock}
use Rattle.program_logic.specs.declared.outline.Place.{Place}
use Rattle.xinu_model.specs.Memory.{number_at}

-- before the token was given back once, the rule is its second number
pub rule_of_none : (l : Lock) (v : ℕ) → v ≡ l.rule.plus → l.rule.plus < 2 ^ 32 → (v == value l.rule 0) ≡ true
rule_of_none l v is fits = eq-eqb v (value l.rule 0) (omega arith)

lie_suc : (memory : List ℕ) (q : Place) (rest : List Place) (a : ℕ) → a + 4 ≤ length memory → number_at memory a 4 ≡ q.word
    → lie_there memory a (words_in (q ∷ rest)) ≡ lie_there memory (a + 4) (words_in rest)
lie_suc memory q rest a within is =
    ap (λ t. t && ((number_at memory a 4 == q.word) && lie_there memory (a + 4) (words_in rest))) (le-leb (a + 4) (length memory) within)
    ∙ ap (λ t. t && lie_there memory (a + 4) (words_in rest)) (eq-eqb (number_at memory a 4) q.word is)

pub lie_step : (memory : List ℕ) (first : ℕ) (qs : List Place) (i : ℕ) (d : Place) → i < length qs → first + 4 * length qs ≤ length memory
    → lie_there memory first (words_in qs) ≡ lie_there memory (first + 4 * i) (words_in (drop i qs)) → number_at memory (first + 4 * i) 4 ≡ (get_or qs i d).word
    → lie_there memory first (words_in qs) ≡ lie_there memory (first + 4 * (i + 1)) (words_in (drop (i + 1) qs))
lie_step memory first qs i d a room so is =
    let e : suc i ≡ i + 1 = omega arith in
    let f : first + 4 * i + 4 ≡ first + 4 * (i + 1) = omega arith in
    so ∙ ap (λ z. lie_there memory (first + 4 * i) (words_in z)) (split_by qs i d a)
    ∙ lie_suc memory (get_or qs i d) (drop (suc i) qs) (first + 4 * i) (omega (arith, a, room)) is
    ∙ ap (λ j. lie_there memory j (words_in (drop (suc i) qs))) f ∙ ap (λ j. lie_there memory (first + 4 * (i + 1)) (words_in (drop j qs))) e
  where
    split_by : (qs : List Place) (i : ℕ) (d : Place) → i < length qs → drop i qs ≡ get_or qs i d ∷ drop (suc i) qs
    split_by [] i d a = absurd (omega arith)
    split_by (q ∷ qs) zero d a = refl
    split_by (q ∷ qs) (suc i) d a = split_by qs i d (omega arith)

pub lie_ends : (memory : List ℕ) (first : ℕ) (qs : List Place) (i : ℕ) → length qs ≤ i
    → lie_there memory first (words_in qs) ≡ lie_there memory (first + 4 * i) (words_in (drop i qs)) → lie_there memory first (words_in qs) ≡ true
lie_ends memory first qs i a so = so ∙ ap (λ z. lie_there memory (first + 4 * i) (words_in z)) (drop_all qs i a)
  where
    drop_all : (xs : List Place) (i : ℕ) → length xs ≤ i → drop i xs ≡ []
    drop_all [] zero a = refl
    drop_all [] (suc i) a = refl
    drop_all (x ∷ xs) zero a = absurd (omega arith)
    drop_all (x ∷ xs) (suc i) a = drop_all xs i (omega arith)
