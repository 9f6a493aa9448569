-- Images one after another.
use Rattle.std.proofs.Common.{◌≡◌, ◌∙◌, ℕ, suc, ◌+◌, ◌<◌, Bool, true, false, ◌||◌, cond, Some, List, [], ◌∷◌, ◌++◌, length, map, take, drop, get_or, refl, sym, ap, drop-cons, add-one}
use Rattle.std.proofs.lemmas.List.{map-append, take_more}
use Rattle.image_loader.specs.Images.{loaded_of}
use Rattle.image_loader.specs.declared.images.Image.{Image}
use Rattle.xinu_model.specs.Boot.{first_overlap, Loaded, overlap}
use Rattle.std.specs.List.{list_any}

-- the elements of a list before others, the last first
abbrev pub onto : {A : Type 0} → List A → List A → List A
onto [] acc = acc
onto (x ∷ xs) acc = onto xs (x ∷ acc)

-- one element more comes first
pub onto-last : {A : Type 0} (xs : List A) (x : A) (acc : List A) → onto (xs ++ x ∷ []) acc ≡ x ∷ onto xs acc
onto-last [] x acc = refl
onto-last (y ∷ xs) x acc = onto-last xs x (y ∷ acc)

-- the order of three tests
or_order : (a b c : Bool) → (a || (b || c)) ≡ ((b || a) || c)
or_order true true c = refl
or_order true false c = refl
or_order false true c = refl
or_order false false c = refl

-- whether one passes doesn't depend on the order
any-onto : {A : Type 0} (p : A → Bool) (xs acc : List A) → list_any p (onto xs acc) ≡ (list_any p xs || list_any p acc)
any-onto p [] acc = refl
any-onto p (x ∷ xs) acc = any-onto p xs (x ∷ acc) ∙ or_order (list_any p xs) (p x) (list_any p acc)

or_false : (a : Bool) → (a || false) ≡ a
or_false true = refl
or_false false = refl

pub any-reversed : {A : Type 0} (p : A → Bool) (xs : List A) → list_any p (onto xs []) ≡ list_any p xs
any-reversed p xs = any-onto p xs [] ∙ or_false (list_any p xs)

-- the image at k stands before those after it
pub next_image : (images : List Image) (k : ℕ) (image : Image) → k < length images → image ≡ get_or images k image → drop k images ≡ image ∷ drop (k + 1) images
next_image images k image within is = drop-cons images k image within ∙ ap (λ y. y ∷ drop (suc k) images) (sym is) ∙ ap (λ n. image ∷ drop n images) (sym (add-one k))

-- it is the last of those up to it
earlier_next : (images : List Image) (k : ℕ) (image : Image) → k < length images → image ≡ get_or images k image
    → loaded_of image ∷ onto (map loaded_of (take k images)) [] ≡ onto (map loaded_of (take (k + 1) images)) []
earlier_next images k image within is =
    sym (ap (λ (l : List Image). onto (map loaded_of l) []) (take_more images k image within ∙ ap (λ y. take k images ++ y ∷ []) (sym is))
    ∙ ap (λ l. onto l []) (map-append loaded_of (take k images) (image ∷ []))
    ∙ onto-last (map loaded_of (take k images)) (loaded_of image) [])

-- the image at k is the first that overlaps an earlier one, or the search goes on
pub decided : (images : List Image) (k : ℕ) (image : Image) → k < length images → image ≡ get_or images k image
    → first_overlap (k + 1) (onto (map loaded_of (take k images)) []) (map loaded_of (drop k images))
    ≡ cond (list_any (overlap (loaded_of image)) (map loaded_of (take k images))) (Some (k + 1)) (first_overlap (k + 1 + 1) (onto (map loaded_of (take (k + 1) images)) []) (map loaded_of (drop (k + 1) images)))
decided images k image within is =
    let e : List Loaded = onto (map loaded_of (take k images)) [] in
    let rest : List Loaded = map loaded_of (drop (k + 1) images) in
    ap (λ (l : List Image). first_overlap (k + 1) e (map loaded_of l)) (next_image images k image within is)
    ∙ ap (λ b. cond b (Some (k + 1)) (first_overlap (k + 1 + 1) (loaded_of image ∷ e) rest)) (any-reversed (overlap (loaded_of image)) (map loaded_of (take k images)))
    ∙ ap (λ l. cond (list_any (overlap (loaded_of image)) (map loaded_of (take k images))) (Some (k + 1)) (first_overlap (k + 1 + 1) l rest)) (earlier_next images k image within is)
