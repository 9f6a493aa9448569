-- The text of a line while it grows.
use Rattle.std.proofs.Common.{◌≡◌, ℕ, ◌+◌, ◌<◌, List, [], ◌∷◌, ◌++◌, length, map, take, get_or, refl, sym, ap, ◌∙◌, append_assoc, append-nil, arith}
use Rattle.std.proofs.lemmas.List.{map-append, take_more}
use Rattle.host_port.specs.LineText.{blanked}
use Rattle.xinu_base.specs.Hexadecimal.{hex_of}
use Rattle.xinu_model.specs.Text.{with_field, with_fields, or_hyphen}

-- A word after a blank is a word of the line.
pub with_field-blanked : (line word : List ℕ) → blanked line ++ word ≡ with_field line word
with_field-blanked [] word = refl
with_field-blanked (b ∷ line) word = ap (λ (l : List ℕ). b ∷ l) (append_assoc line (32 ∷ []) word)

-- Words after words are one list of words.
pub with_fields-append : (line : List ℕ) (first second : List (List ℕ)) → with_fields line (first ++ second) ≡ with_fields (with_fields line first) second
with_fields-append line [] second = refl
with_fields-append line (field ∷ first) second = with_fields-append (with_field line field) first second

-- One more number stands after the words so far.
pub one_more : {A : Type 0} (shown : A → List ℕ) (text line : List ℕ) (numbers : List A) (k : ℕ) (n d : A) → k < length numbers → n ≡ get_or numbers k d
    → text ≡ with_fields line (map shown (take k numbers))
    → blanked text ++ shown n ≡ with_fields line (map shown (take (k + 1) numbers))
one_more {A} shown text line numbers k n d within is so_far =
    let more : take (k + 1) numbers ≡ take k numbers ++ n ∷ [] =
    take_more numbers k d within ∙ ap (λ (x : A). take k numbers ++ x ∷ []) (sym is) in
    with_field-blanked text (shown n)
    ∙ ap (λ (t : List ℕ). with_field t (shown n)) so_far
    ∙ sym (with_fields-append line (map shown (take k numbers)) (shown n ∷ []))
    ∙ sym (ap (λ (ws : List (List ℕ)). with_fields line ws) (ap (map shown) more ∙ map-append shown (take k numbers) (n ∷ [])))

-- A name's digits are no hyphen.
pub named : (line name : List ℕ) → 0 < length name → (blanked line ++ []) ++ hex_of name ≡ blanked line ++ or_hyphen (hex_of name)
named line [] some = absurd (omega arith)
named line (b ∷ name) some = ap (λ (l : List ℕ). l ++ hex_of (b ∷ name)) (append-nil (blanked line))
