-- The registers, searched for a name by their numbers.
use Rattle.std.proofs.Common.{◌≡◌, ℕ, suc, ◌+◌, ◌<◌, ◌≤◌, true, false, List, [], ◌∷◌, length, drop, map, get_or, Option, Some, None, refl, sym, ap, ◌∙◌, arith}
use Rattle.std.specs.Str.{bytes_eq}
use Rattle.std.proofs.lemmas.List.{length-map}
use Rattle.std.proofs.Math.ListN.{drop_of_length-le}
use Rattle.std.proofs.Math.Seq.{drop-cons}
use Rattle.asm_syntax.specs.Meanings.{named_in}
use Rattle.asm_syntax.specs.Values.{registers, register_named}

-- these names with their numbers, from k on
abbrev pub numbered : ℕ → List (List ℕ) → List (List ℕ × ℕ)
numbered k [] = []
numbered k (name ∷ names) = (name, k) ∷ numbered (suc k) names

-- the search from the register of this number on
unfoldable pub register_from : {A : Type 0} → (A → List ℕ) → List A → ℕ → List ℕ → Option ℕ
register_from text items number name = named_in (numbered number (map text (drop number items))) name

-- the search over all registers
pub register_from-start : {A : Type 0} (text : A → List ℕ) (items : List A) (name : List ℕ) → map text items ≡ map (λ row. row.0) registers
    → register_named name ≡ register_from text items 0 name
unfolding register_named register_from
register_from-start text items name is = ap (λ (names : List (List ℕ)). named_in (numbered 0 names) name) (sym is)

-- a register of another name is passed by
pub register_from-next : {A : Type 0} (text : A → List ℕ) (items : List A) (i : ℕ) (name : List ℕ) (d : A) → i < length items
    → bytes_eq name (text (get_or items i d)) ≡ false → register_from text items i name ≡ register_from text items (i + 1) name
unfolding register_from
register_from-next text items i name d within other =
    let step : i + 1 ≡ suc i = omega arith in
    let here : drop i items ≡ get_or items i d ∷ drop (suc i) items = drop-cons items i d within in
    rw (here, step, other) refl

-- the register of this name is found
pub register_from-here : {A : Type 0} (text : A → List ℕ) (items : List A) (i : ℕ) (name : List ℕ) (d : A) → i < length items
    → bytes_eq name (text (get_or items i d)) ≡ true → register_from text items i name ≡ Some i
unfolding register_from
register_from-here text items i name d within same =
    let here : drop i items ≡ get_or items i d ∷ drop (suc i) items = drop-cons items i d within in
    rw (here, same) refl

-- there are 32 names
pub names_are : {A : Type 0} (text : A → List ℕ) (items : List A) → map text items ≡ map (λ row. row.0) registers → length items ≡ 32
names_are text items is = sym (length-map items text) ∙ ap length is

-- no register is left
pub register_from-end : {A : Type 0} (text : A → List ℕ) (items : List A) (i : ℕ) (name : List ℕ) → length items ≤ i → register_from text items i name ≡ None
unfolding register_from
register_from-end text items i name all =
    let none : drop i items ≡ [] = drop_of_length-le items all in
    rw none refl
