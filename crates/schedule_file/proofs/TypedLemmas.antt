-- The bytes that tokens stand for, one token after another.
use Rattle.std.proofs.Common.{◌≡◌, ℕ, ◌+◌, ◌≤◌, ◌==◌, nat_le, Bool, true, false, cond, List, [], ◌++◌, length, Option, Some, None, refl, ap}
use Rattle.std.proofs.Common.{◌∙◌, arith, append-nil, ◌&&◌}
use Rattle.std.proofs.lemmas.Bool.{le-leb}
use Rattle.std.proofs.lemmas.Bool.Decides.{nat_tests}
use Rattle.text_lines.specs.Lines.{tokens_of}
use Rattle.schedule_file.specs.Numbers.{bytes_in, typed_in}

-- bytes after others
abbrev pub behind : List ℕ → Option (List ℕ) → Option (List ℕ)
behind front None = None
behind front (Some bytes) = Some (front ++ bytes)

-- a number that differs from 0
some_from : (n : ℕ) → false ≡ (n == 0) → 1 ≤ n
some_from n some = grind (arith, nat_tests)

-- two tests that hold
both_hold : {X : Type 0} (a b : Bool) (x y : X) → a ≡ true → b ≡ true → cond (a && b) x y ≡ x
both_hold a b x y first second = rw (first, second) refl

-- tokens that were all read are typed
pub typed_all : (tokens : List (List ℕ)) (bytes rest : List ℕ) → tokens_of rest ≡ []
    → bytes_in tokens ≡ behind bytes (bytes_in (tokens_of rest)) → length tokens ≡ length bytes + length (tokens_of rest)
    → false ≡ (length bytes == 0) → length bytes ≤ 64 → typed_in tokens ≡ Some bytes
typed_all tokens bytes rest none read count some few =
    let all : length tokens ≡ length bytes = omega (arith, ap length none) in
    let least : 1 ≤ length tokens = omega (arith, some_from (length bytes) some) in
    let most : length tokens ≤ 64 = omega arith in
    both_hold (nat_le 1 (length tokens)) (nat_le (length tokens) 64) (bytes_in tokens) None (le-leb 1 (length tokens) least)
    (le-leb (length tokens) 64 most)
    ∙ read
    ∙ ap (λ (ws : List (List ℕ)). behind bytes (bytes_in ws)) none
    ∙ ap Some (append-nil bytes)
