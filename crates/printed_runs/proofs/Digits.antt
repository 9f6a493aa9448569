-- Digits of names, two at a time.
use Rattle.std.proofs.Common.{◌≡◌, ◌∙◌, ◌≤◌, ℕ, Bool, true, List, [], ◌∷◌, ◌&&◌, length, drop, get_or, nat_eq, refl, ap, arith}
use Rattle.std.specs.List.{list_all}
use Rattle.std.proofs.lemmas.Bool.{and_parts}
use Rattle.printed_runs.specs.Names.{byte_of, is_digit, is_name, is_pair, is_shown, name_of}

pub is_name-pair : (digits : List ℕ) → 2 ≤ length digits → is_name digits ≡ (is_pair (get_or digits 0 0) (get_or digits 1 0) && is_name (drop 2 digits))
unfolding is_name
is_name-pair [] few = absurd (omega (arith, few))
is_name-pair (b ∷ []) few = absurd (omega (arith, few))
is_name-pair (high ∷ low ∷ digits) few = refl

pub is_name-end : (digits : List ℕ) → length digits ≤ 1 → is_name digits ≡ (nat_eq (length digits) 0)
unfolding is_name
is_name-end [] few = refl
is_name-end (b ∷ []) few = refl
is_name-end (high ∷ low ∷ digits) few = absurd (omega (arith, few))

pub name_of-pair : (digits : List ℕ) → 2 ≤ length digits → name_of digits ≡ byte_of (get_or digits 0 0) (get_or digits 1 0) ∷ name_of (drop 2 digits)
unfolding name_of
name_of-pair [] few = absurd (omega (arith, few))
name_of-pair (b ∷ []) few = absurd (omega (arith, few))
name_of-pair (high ∷ low ∷ digits) few = refl

pub name_of-end : (digits : List ℕ) → length digits ≤ 1 → name_of digits ≡ []
unfolding name_of
name_of-end [] few = refl
name_of-end (b ∷ []) few = refl
name_of-end (high ∷ low ∷ digits) few = absurd (omega (arith, few))

-- each byte of a name can be shown
pub name_of-shown : (digits : List ℕ) → is_name digits ≡ true → list_all is_shown (name_of digits) ≡ true
unfolding is_name name_of
name_of-shown [] name = refl
name_of-shown (b ∷ []) name = absurd (cc name)
name_of-shown (high ∷ low ∷ digits) name =
    let both = and_parts (is_pair high low) (is_name digits) name in
    let pair = and_parts (is_digit high) (is_digit low && is_shown (byte_of high low)) both.0 in
    let shown = (and_parts (is_digit low) (is_shown (byte_of high low)) pair.1).1 in
    ap (λ (t : Bool). t && list_all is_shown (name_of digits)) shown ∙ name_of-shown digits both.1
