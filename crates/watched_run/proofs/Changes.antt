-- Watches that are looked at one after another.
use Rattle.std.proofs.Common.{◌≡◌, ◌∙◌, ◌+◌, ◌-◌, ◌<◌, ℕ, zero, suc, Bool, true, false, cond, List, [], ◌∷◌, ◌++◌, drop, take, length, length-drop, map, min, replicate, Option, Some, None, refl, sym, ap, arith}
use Rattle.std.specs.Prelude.{slice_index_or, slice_set}
use Rattle.std.proofs.Math.Seq.{take-append_seam}
use Rattle.std.proofs.lemmas.List.{length-take}
use Rattle.std.proofs.lemmas.Bool.Decides.{Decides-like, same_from_decides}
use Rattle.std.proofs.lemmas.Slice.Eq.{bytes_eq-Decides}
use Rattle.std.specs.List.{filter}
use Rattle.std.specs.Str.{bytes_eq}
use Rattle.watched_run.specs.Watching.{Area, HaveSeen, area_of, areas_of, bytes_of, changed_in, first_changed, first_of, first_other, is_other, other_in, padded, seen}
use Rattle.watched_run.specs.declared.points.Watch.{Watch}

-- the list after the elements below i were changed
abbrev pub changed_below : {A : Type 0} → (A → A) → ℕ → List A → List A
changed_below f i l = map f (take i l) ++ drop i l

-- the element at i wasn't changed yet
pub unchanged_at : {A : Type 0} (f : A → A) (l : List A) (i : ℕ) (d : A) → slice_index_or (changed_below f i l) i d ≡ slice_index_or l i d
unchanged_at f [] zero d = refl
unchanged_at f [] (suc i) d = refl
unchanged_at f (x ∷ l) zero d = refl
unchanged_at f (x ∷ l) (suc i) d = unchanged_at f l i d

one_more : {A : Type 0} (f : A → A) (l : List A) (i : ℕ) (d : A) → i < length l
    → slice_set (changed_below f i l) i (f (slice_index_or l i d)) ≡ changed_below f (suc i) l
one_more f [] i d h = absurd (omega arith)
one_more f (x ∷ l) zero d h = refl
one_more f (x ∷ l) (suc i) d h = ap (λ y. f x ∷ y) (one_more f l i d (omega arith))

-- the element at i is changed too
pub one_more_at : {A : Type 0} (f : A → A) (l : List A) (i : ℕ) (d : A) → i < length l
    → slice_set (changed_below f i l) i (f (slice_index_or l i d)) ≡ changed_below f (i + 1) l
one_more_at f l i d h = one_more f l i d h ∙ ap (λ k. changed_below f k l) (let z : suc i ≡ i + 1 = omega arith in z)

-- the first of three places
first_of-three : (a b c : Option ℕ) → first_of (first_of a b) c ≡ first_of a (first_of b c)
first_of-three None b c = refl
first_of-three (Some at) b c = refl

-- nothing comes after the last place
first_of-none : (a : Option ℕ) → first_of a None ≡ a
first_of-none None = refl
first_of-none (Some at) = refl

-- one watch more
first_other-more : (memory : List ℕ) (l : List Watch) (i : ℕ) (d : Watch) → i < length l
    → first_of (first_other memory (take i l)) (other_in memory (slice_index_or l i d)) ≡ first_other memory (take (suc i) l)
first_other-more memory [] i d h = absurd (omega arith)
first_other-more memory (x ∷ l) zero d h = sym (first_of-none (other_in memory x))
first_other-more memory (x ∷ l) (suc i) d h =
    first_of-three (other_in memory x) (first_other memory (take i l)) (other_in memory (slice_index_or l i d))
    ∙ ap (first_of (other_in memory x)) (first_other-more memory l i d (omega arith))

pub first_other-more_at : (memory : List ℕ) (l : List Watch) (i : ℕ) (d : Watch) → i < length l
    → first_of (first_other memory (take i l)) (other_in memory (slice_index_or l i d)) ≡ first_other memory (take (i + 1) l)
first_other-more_at memory l i d h =
    first_other-more memory l i d h ∙ ap (λ k. first_other memory (take k l)) (let z : suc i ≡ i + 1 = omega arith in z)

-- an element more of a filtered list
filter-area : (b : Bool) (area : Area) (x : Watch) (l : List Watch)
    → areas_of (cond b (x ∷ l) l) ≡ cond b (area_of x ∷ areas_of l) (areas_of l)
filter-area true area x l = refl
filter-area false area x l = refl

-- the areas of the watches that are kept
pub areas-filter : (area : Area) (l : List Watch) → areas_of (filter (λ w. is_other area (area_of w)) l) ≡ filter (is_other area) (areas_of l)
areas-filter area [] = refl
areas-filter area (x ∷ l) =
    filter-area (is_other area (area_of x)) area x (filter (λ w. is_other area (area_of w)) l)
    ∙ ap (λ (xs : List Area). cond (is_other area (area_of x)) (area_of x ∷ xs) xs) (areas-filter area l)

-- bytes are the same with zeros after them
padded-same : (xs ys : List ℕ) → length xs ≡ length ys → bytes_eq (padded xs) (padded ys) ≡ bytes_eq xs ys
padded-same xs ys many =
    same_from_decides (bytes_eq (padded xs) (padded ys)) (bytes_eq xs ys) (bytes_eq-Decides (padded xs) (padded ys))
    (Decides-like (bytes_eq xs ys) (λ e. ap padded e)
    (λ e. sym (take-append_seam xs (replicate (8 - length xs) 0)) ∙ ap (take (length xs)) e ∙ ap (λ n. take n (padded ys)) many ∙ take-append_seam ys (replicate (8 - length ys) 0))
    (bytes_eq-Decides xs ys))

-- the watches that have seen a memory find what is another in the next one
other-is : (old new : List ℕ) (watch : Watch) → length old ≡ length new → other_in new (seen old watch) ≡ changed_in old new (area_of watch)
other-is old new watch many =
    ap (λ b. cond b None (Some watch.at)) (padded-same (bytes_of old (area_of watch)) (bytes_of new (area_of watch))
    (length-take watch.count (drop watch.at old)
    ∙ ap (λ n. min watch.count n) (length-drop watch.at old ∙ ap (λ n. n - watch.at) many ∙ sym (length-drop watch.at new))
    ∙ sym (length-take watch.count (drop watch.at new))))

first-is : (old new : List ℕ) (watches : List Watch) → length old ≡ length new → first_other new (map (seen old) watches) ≡ first_changed old new (areas_of watches)
first-is old new [] many = refl
first-is old new (watch ∷ watches) many =
    ap (λ f. first_of f (first_other new (map (seen old) watches))) (other-is old new watch many)
    ∙ ap (first_of (changed_in old new (area_of watch))) (first-is old new watches many)

pub first-changed : (old new : List ℕ) (watches : List Watch) → length new ≡ 1048576 → HaveSeen old watches → first_other new watches ≡ first_changed old new (areas_of watches)
first-changed old new watches many have = ap (first_other new) (sym have.same) ∙ first-is old new watches (have.whole ∙ sym many)

-- a look changes no area
pub areas-seen : (memory : List ℕ) (watches : List Watch) → areas_of (map (seen memory) watches) ≡ areas_of watches
areas-seen memory [] = refl
areas-seen memory (watch ∷ watches) = ap (λ areas. area_of watch ∷ areas) (areas-seen memory watches)

-- after a look all have seen
seen-twice : (memory : List ℕ) (watches : List Watch) → map (seen memory) (map (seen memory) watches) ≡ map (seen memory) watches
seen-twice memory [] = refl
seen-twice memory (watch ∷ watches) = ap (λ ws. seen memory watch ∷ ws) (seen-twice memory watches)

pub have-seen : (memory : List ℕ) (watches looked : List Watch) → length memory ≡ 1048576 → looked ≡ map (seen memory) watches → HaveSeen memory looked
have-seen memory watches looked whole is = record { whole = whole; same = ap (map (seen memory)) is ∙ seen-twice memory watches ∙ sym is }
