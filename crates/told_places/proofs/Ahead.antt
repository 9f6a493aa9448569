-- The nearest function of files, one file after another from the last.
use Rattle.std.proofs.Common.{◌≡◌, ◌∙◌, ◌<◌, ◌≤◌, ℕ, suc, List, [], ◌∷◌, Option, drop, get_or, length, map, sym, ap, arith}
use Rattle.std.proofs.Math.Seq.{drop-cons}
use Rattle.std.proofs.lemmas.List.{get_or-map, length-map}
use Rattle.elf_symbols.specs.Functions.{Place, function_at}
use Rattle.told_places.specs.Places.{nearer, nearest_function}

-- the files from one on
files_from : {V : Type 0} (items : V → List ℕ) (files : List V) (n : ℕ) (file : V) → n < length files → file ≡ get_or files n file
    → drop n (map items files) ≡ items file ∷ drop (suc n) (map items files)
files_from {V} items files n file within is =
    let fits : n < length (map items files) = rw length-map within in
    let here : get_or (map items files) n [] ≡ items file = get_or-map items files n file [] within ∙ ap items (sym is) in
    drop-cons (map items files) n [] fits ∙ ap (λ (x : List ℕ). x ∷ drop (suc n) (map items files)) here

-- one file more, ahead of the others
pub file_ahead : {V : Type 0} (items : V → List ℕ) (files : List V) (left n address : ℕ) (file : V) (found best made : Option Place) → left ≡ suc n
    → left ≤ length files → file ≡ get_or files n file → found ≡ function_at (items file) address
    → best ≡ nearest_function (drop left (map items files)) address → made ≡ nearer found best
    → made ≡ nearest_function (drop n (map items files)) address
file_ahead {V} items files left n address file found best made more within is at so new =
    let inside : n < length files = omega arith in
    let cut = files_from items files n file inside is in
    let rest = so ∙ ap (λ (k : ℕ). nearest_function (drop k (map items files)) address) more in
    new ∙ ap (λ (f : Option Place). nearer f best) at ∙ ap (λ (b : Option Place). nearer (function_at (items file) address) b) rest
    ∙ sym (ap (λ (d : List (List ℕ)). nearest_function d address) cut)
