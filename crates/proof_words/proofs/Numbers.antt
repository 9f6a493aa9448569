-- A number in the range that is asked for.
use Rattle.std.proofs.Common.{◌≡◌, ◌&&◌, ◌≤◌, ◌⊎◌, ℕ, List, None, Some, false, inl, inr, length, subst, sym, true, ◌∙◌}
use Rattle.std.proofs.lemmas.Bool.{and_parts, cases_Bool, cond-false, cond-true, leb-true}
use Rattle.std.specs.Prelude.{nat_le, nat_lt}
use Rattle.std.specs.Str.Parse.{digits_value}
use Rattle.run_inputs.specs.Numbers.{are_digits, is_number, number}

pub at_most : (digits : List ℕ) (most n : ℕ) → number digits most ≡ Some n → n ≤ most
at_most digits most n is = by (cases_Bool (is_number digits most))
  where
    by : (is_number digits most ≡ true) ⊎ (is_number digits most ≡ false) → n ≤ most
    by (inr e) = let none = sym (cond-false (is_number digits most) (Some (digits_value 10 digits)) None e) ∙ is in absurd (cc)
    by (inl e) =
        let some : Some (digits_value 10 digits) ≡ Some n = sym (cond-true (is_number digits most) (Some (digits_value 10 digits)) None e) ∙ is in
        let same : digits_value 10 digits ≡ n = cc in
        let a = and_parts (are_digits digits) (nat_lt 0 (length digits) && (nat_le (length digits) 10 && (nat_le 1 (digits_value 10 digits) && nat_le (digits_value 10 digits) most))) e in
        let b = and_parts (nat_lt 0 (length digits)) (nat_le (length digits) 10 && (nat_le 1 (digits_value 10 digits) && nat_le (digits_value 10 digits) most)) a.1 in
        let c = and_parts (nat_le (length digits) 10) (nat_le 1 (digits_value 10 digits) && nat_le (digits_value 10 digits) most) b.1 in
        let d = and_parts (nat_le 1 (digits_value 10 digits)) (nat_le (digits_value 10 digits) most) c.1 in
        let low = leb-true (digits_value 10 digits) most d.1 in
        subst (λ v. v ≤ most) same low
