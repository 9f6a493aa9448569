-- Numbers and bytes that digits write, one digit after another.
use Rattle.std.proofs.Common.{ℕ, ◌≡◌, ◌+◌, ◌*◌, ◌<◌, List, [], ◌∷◌, ◌++◌, length, take, get_or, Option, Some, None, refl, ap, sym, ◌∙◌, arith, append_assoc}
use Rattle.std.specs.Prelude.{min}
use Rattle.std.specs.Char.{digit_value}
use Rattle.std.specs.Str.Parse.{digits_value}
use Rattle.std.proofs.lemmas.Int.Digits.{digits_value_more}
use Rattle.gdb_packets.specs.Digits.{in_front}

clipped : (a n d : ℕ) → n ≡ min 4294967296 a → min (n * 16 + d) 4294967296 ≡ min 4294967296 (a * 16 + d)
clipped a n d is = omega arith

-- one more digit
pub value-more : (digits : List ℕ) (i n d next : ℕ) → i < length digits → n ≡ min 4294967296 (digits_value 16 (take i digits))
    → d ≡ digit_value (get_or digits i 0) → next ≡ min (n * 16 + d) 4294967296
    → next ≡ min 4294967296 (digits_value 16 (take (i + 1) digits))
value-more digits i n d next within is digit then =
    then ∙ clipped (digits_value 16 (take i digits)) n d is
    ∙ ap (λ (k : ℕ). min 4294967296 (digits_value 16 (take i digits) * 16 + k)) digit
    ∙ ap (λ (k : ℕ). min 4294967296 k) (sym (digits_value_more 16 digits i within))

-- bytes after others
abbrev pub behind : List ℕ → Option (List ℕ) → Option (List ℕ)
behind front None = None
behind front (Some bytes) = Some (front ++ bytes)

-- one byte goes from the front of what follows to the end of what came before
pub behind-front : (front : List ℕ) (b : ℕ) (rest : Option (List ℕ)) → behind front (in_front (Some b) rest) ≡ behind (front ++ b ∷ []) rest
behind-front front b None = refl
behind-front front b (Some bytes) = ap Some (sym (append_assoc front (b ∷ []) bytes))
