-- The search for an image that overlaps an earlier one finds the first.
use Rattle.std.proofs.Common.{◌≡◌, ℕ, ◌+◌, ◌<◌, ◌≤◌, Bool, true, false, ◌||◌, List, [], ◌∷◌, ◌++◌, length, take, Option, Some, None, refl, sym, ap, subst, ◌∙◌, arith, append_assoc, length-append, ⊎_elim}
use Rattle.std.specs.List.{list_any}
use Rattle.std.proofs.Math.Seq.{get_or-append_seam, take-append_seam}
use Rattle.std.proofs.lemmas.Bool.{cond_both, cases_eq}
use Rattle.xinu_model.specs.Boot.{Loaded, overlap, first_overlap}
use Rattle.event_laws.specs.FirstOverlap.{no_image, overlaps_earlier, IsFirstOverlap}

-- What is found from a place on: an image that overlaps an earlier one, and none from there up to it does; or none does.
pub record Finds (all : List Loaded) (from k : ℕ) : Type 0 where
  pub place : ℕ
  pub number : k ≡ place + 1
  pub low : from ≤ place
  pub within : place < length all
  pub overlaps : overlaps_earlier all place ≡ true
  pub least : (i : ℕ) → from ≤ i → i < place → overlaps_earlier all i ≡ false

abbrev OfFound : List Loaded → ℕ → Option ℕ → Type 0
OfFound all from None = (i : ℕ) → from ≤ i → i < length all → overlaps_earlier all i ≡ false
OfFound all from (Some k) = Finds all from k

-- what doesn't overlap at a place is passed over
passed_over : (all : List Loaded) (from : ℕ) (found : Option ℕ) → overlaps_earlier all from ≡ false → OfFound all (from + 1) found
    → OfFound all from found
passed_over all from None here rest = λ i low high.
    ⊎_elim (λ (e : i ≡ from). subst (λ j. overlaps_earlier all j ≡ false) (sym e) here)
    (λ n. rest i (omega (arith, low, n)) high) (cases_eq i from)
passed_over all from (Some k) here rest = record {
  place = rest.place;
  number = rest.number;
  low = (let l = rest.low in omega (arith, l));
  within = rest.within;
  overlaps = rest.overlaps;
  least = λ i low high.
      ⊎_elim (λ (e : i ≡ from). subst (λ j. overlaps_earlier all j ≡ false) (sym e) here)
      (λ n. rest.least i (omega (arith, low, n)) high) (cases_eq i from);
}

-- two lists in which the same is found
abbrev HaveSame : List Loaded → List Loaded → Type 0
HaveSame l m = (test : Loaded → Bool) → list_any test l ≡ list_any test m

any_last : (test : Loaded → Bool) (l : List Loaded) (x : Loaded) → list_any test (x ∷ l) ≡ list_any test (l ++ x ∷ [])
any_last test [] x = refl
any_last test (y ∷ l) x = swap (test x) (test y) (list_any test l) ∙ ap (λ b. test y || b) (any_last test l x)
  where
    swap : (a b c : Bool) → a || (b || c) ≡ b || (a || c)
    swap true true c = refl
    swap true false c = refl
    swap false b c = refl

-- The image after those that were seen is looked for among them, in whichever order they are.
seen : (before images : List Loaded) (image : Loaded)
    → overlaps_earlier (before ++ image ∷ images) (length before) ≡ list_any (overlap image) before
seen before images image =
    ap (λ x. list_any (overlap x) (take (length before) (before ++ image ∷ images))) (get_or-append_seam before image images no_image)
    ∙ ap (list_any (overlap image)) (take-append_seam before (image ∷ images))

found_from : (images before earlier : List Loaded) → HaveSame earlier before
    → OfFound (before ++ images) (length before) (first_overlap (length before + 1) earlier images)
found_from [] before earlier same = λ i low high. (let none : List Loaded = [] in let n = length-append before none in absurd (omega (arith, low, high, n)))
found_from (image ∷ images) before earlier same =
    let all = before ++ image ∷ images in
    let n = length before in
    let here : overlaps_earlier all n ≡ list_any (overlap image) earlier = seen before images image ∙ sym (same (overlap image)) in
    let many : length (before ++ image ∷ []) ≡ n + 1 = length-append before (image ∷ []) in
    let rest = found_from images (before ++ image ∷ []) (image ∷ earlier)
    (λ test. ap (λ b. test image || b) (same test) ∙ any_last test before image) in
    let moved : OfFound all (n + 1) (first_overlap (n + 1 + 1) (image ∷ earlier) images) =
    subst (λ l. OfFound l (n + 1) (first_overlap (n + 1 + 1) (image ∷ earlier) images)) (append_assoc before (image ∷ []) images)
    (subst (λ m. OfFound ((before ++ image ∷ []) ++ images) m (first_overlap (m + 1) (image ∷ earlier) images)) many rest) in
    cond_both (list_any (overlap image) earlier) (Some (n + 1)) (first_overlap (n + 1 + 1) (image ∷ earlier) images) (OfFound all n)
    (λ b. record {
      place = n;
      number = refl;
      low = omega arith;
      within = (let e = length-append before (image ∷ images) in omega (arith, e));
      overlaps = here ∙ b;
      least = λ i low high. absurd (omega (arith, low, high));
    })
    (λ b. passed_over all n (first_overlap (n + 1 + 1) (image ∷ earlier) images) (here ∙ b) moved)

-- Of all images.
pub first_is_least : (images : List Loaded) (k : ℕ) → first_overlap 1 [] images ≡ Some k → IsFirstOverlap images k
first_is_least images k e =
    let f : Finds images 0 k = subst (OfFound images 0) e (found_from images [] [] (λ test. refl)) in
    record { place = f.place; number = f.number; within = f.within; overlaps = f.overlaps; least = λ i high. f.least i (omega arith) high }

pub none_overlaps : (images : List Loaded) (i : ℕ) → first_overlap 1 [] images ≡ None → i < length images
    → overlaps_earlier images i ≡ false
none_overlaps images i e high = subst (OfFound images 0) e (found_from images [] [] (λ test. refl)) i (omega arith) high
