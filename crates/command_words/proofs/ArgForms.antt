-- The forms of arguments, as what stands behind a leading hyphen gives them, and where an `=` or a dot stands.
use Rattle.std.proofs.Common.{◌≡◌, ◌≢◌, ◌∙◌, ◌==◌, ◌||◌, ◌+◌, ℕ, Bool, true, false, not, cond, if◌then◌else◌, List, [], ◌∷◌, Option, Some, None, refl, sym, ap, arith, eqb-true, length, option_map, take}
use Rattle.std.proofs.lemmas.List.{take_all}
use Rattle.std.proofs.lemmas.Str.Pattern.{IsSplitOnceResult, split_once_first}
use Rattle.std.specs.List.{list_any, position_or_len}
use Rattle.std.specs.Option.{MatchOption}
use Rattle.command_line.specs.Reading.{Text, arg_of, bare, dashed, is_equals_sign, is_hyphen, named_arg, naming}
use Rattle.command_words.specs.ValueKinds.{behind_dot}
use denote.Ref.{Bor}

-- an argument without a leading hyphen
pub bare_arg : (arg : Text) → ((rest : Text) → arg ≢ 45 ∷ rest) → bare ≡ arg_of arg
bare_arg [] none = refl
bare_arg (x ∷ []) none = refl
bare_arg (x ∷ y ∷ rest) none = go (x == 45) refl
  where
    go : (b : Bool) → (x == 45) ≡ b → bare ≡ (if b then (if is_hyphen y then named_arg rest else dashed) else bare)
    go true e = absurd (none (y ∷ rest) (ap (λ n. n ∷ y ∷ rest) (eqb-true x 45 e)))
    go false e = refl

-- an argument with one leading hyphen, and something after it
pub dashed_arg : (rest : Text) → (length rest == 0) ≡ false → ((more : Text) → rest ≢ 45 ∷ more) → dashed ≡ arg_of (45 ∷ rest)
dashed_arg [] some none = absurd (cc)
dashed_arg (y ∷ more) some none = go (y == 45) refl
  where
    go : (b : Bool) → (y == 45) ≡ b → dashed ≡ (if b then named_arg more else dashed)
    go true e = absurd (none more (ap (λ n. n ∷ more) (eqb-true y 45 e)))
    go false e = refl

-- no element passes a test that none is the first to pass
none_pass : (p : ℕ → Bool) (xs : List ℕ) → position_or_len p xs ≡ length xs → list_any p xs ≡ false
none_pass p [] e = refl
none_pass p (x ∷ xs) e = go (p x) (none_pass p xs) e
  where
    go : (b : Bool) → (position_or_len p xs ≡ length xs → list_any p xs ≡ false) → cond (not b) (1 + position_or_len p xs) 0 ≡ length (x ∷ xs) → (b || list_any p xs) ≡ false
    go true more e = absurd (omega (arith, e))
    go false more e = more (omega (arith, e))

-- what follows two hyphens, without an `=`
pub named_alone : (text : Text) → (length text == 0) ≡ false → IsSplitOnceResult 61 text None → naming text None ≡ named_arg text
named_alone [] some split = absurd (cc)
named_alone (x ∷ xs) some split =
    let at : position_or_len is_equals_sign (x ∷ xs) ≡ length (x ∷ xs) = split_once_first 61 (x ∷ xs) None split (omega arith) in
    rw (none_pass is_equals_sign (x ∷ xs) at) (ap (λ t. naming t None) (sym (ap (λ n. take n (x ∷ xs)) at ∙ take_all (length (x ∷ xs)) (x ∷ xs) (omega arith))))

no_dot : (text : List ℕ) → ((rest : List ℕ) → text ≢ 46 ∷ rest) → None ≡ behind_dot text
no_dot [] none = refl
no_dot (x ∷ xs) none = go (x == 46) refl
  where
    go : (b : Bool) → (x == 46) ≡ b → None ≡ (if b then Some xs else None)
    go true e = absurd (none xs (ap (λ n. n ∷ xs) (eqb-true x 46 e)))
    go false e = refl

-- what follows a dot
pub behind_is : (text : List ℕ) (r : Option (Bor (List ℕ))) → MatchOption r ((rest : List ℕ) → text ≢ 46 ∷ rest) (λ x. text ≡ 46 ∷ x.now)
    → option_map (λ s. s.now) r ≡ behind_dot text
behind_is text None none = no_dot text none
behind_is text (Some x) is = sym (ap behind_dot is)
