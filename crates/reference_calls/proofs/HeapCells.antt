-- Cells one after another.
use Rattle.std.proofs.Common.{◌≡◌, ◌≢◌, ℕ, zero, suc, ◌+◌, ◌-◌, ◌<◌, ◌≤◌, Bool, true, false, if◌then◌else◌, List, [], ◌∷◌, drop, length, Option, Some, None, refl, sym, ap, ◌∙◌, arith, drop-cons}
use Rattle.std.proofs.lemmas.List.{drop-drop, get_or-drop, length-drop}
use Rattle.std.specs.Prelude.{slice_index_or, option_map}
use Rattle.xinu_model.specs.Heap.Cells as model

-- whether the first cell is of a kind, and the others after it
begins_one : (kind c : Bool) (n : ℕ) (cells : List Bool) → c ≡ kind
    → model.begins_with kind (suc n) (c ∷ cells) ≡ model.begins_with kind n cells
begins_one true true n cells e = refl
begins_one false false n cells e = refl
begins_one true false n cells e = absurd (cc)
begins_one false true n cells e = absurd (cc)

begins_not : (kind c : Bool) (n : ℕ) (cells : List Bool) → c ≢ kind → model.begins_with kind (suc n) (c ∷ cells) ≡ false
begins_not true true n cells e = absurd (e refl)
begins_not false false n cells e = absurd (e refl)
begins_not true false n cells e = refl
begins_not false true n cells e = refl

-- the cell at i is of the kind
pub begins_next : (kind d : Bool) (k i : ℕ) (cells : List Bool) → i < k → i < length cells → slice_index_or cells i d ≡ kind
    → model.begins_with kind (k - i) (drop i cells) ≡ model.begins_with kind (k - (i + 1)) (drop (i + 1) cells)
begins_next kind d k i cells h g e =
    let left : k - i ≡ suc (k - (i + 1)) = omega arith in
    let next : suc i ≡ i + 1 = omega arith in
    ap (λ n. model.begins_with kind n (drop i cells)) left
    ∙ ap (λ l. model.begins_with kind (suc (k - (i + 1))) l) (drop-cons cells i d g)
    ∙ begins_one kind (slice_index_or cells i d) (k - (i + 1)) (drop (suc i) cells) e
    ∙ ap (λ n. model.begins_with kind (k - (i + 1)) (drop n cells)) next

-- it isn't
pub begins_other : (kind d : Bool) (k i : ℕ) (cells : List Bool) → i < k → i < length cells → slice_index_or cells i d ≢ kind
    → model.begins_with kind (k - i) (drop i cells) ≡ false
begins_other kind d k i cells h g e =
    let left : k - i ≡ suc (k - (i + 1)) = omega arith in
    ap (λ n. model.begins_with kind n (drop i cells)) left
    ∙ ap (λ l. model.begins_with kind (suc (k - (i + 1))) l) (drop-cons cells i d g)
    ∙ begins_not kind (slice_index_or cells i d) (k - (i + 1)) (drop (suc i) cells) e

-- k cells don't begin a list of fewer
pub begins_short : (kind : Bool) (k : ℕ) (cells : List Bool) → length cells < k → model.begins_with kind k cells ≡ false
begins_short kind zero cells h = absurd (omega arith)
begins_short kind (suc k) [] h = refl
begins_short true (suc k) (true ∷ cells) h = begins_short true k cells (omega arith)
begins_short false (suc k) (true ∷ cells) h = refl
begins_short true (suc k) (false ∷ cells) h = refl
begins_short false (suc k) (false ∷ cells) h = begins_short false k cells (omega arith)

-- there are fewer than k cells from i on
pub begins_beyond : (kind : Bool) (k i : ℕ) (cells : List Bool) → 1 ≤ k → length cells < i + k
    → model.begins_with kind k (drop i cells) ≡ false
begins_beyond kind k i cells some h =
    begins_short kind k (drop i cells) (let e = length-drop i cells in omega (arith, e))

pub freed_beyond : (h : model.Heap) (k start : ℕ) → 1 ≤ k → length h.cells < start + k → model.freed h start k ≡ None
freed_beyond h k start some lt =
    ap (λ b. if b then Some (record h { cells = model.marked true start k h.cells }) else None)
    (begins_beyond false k start h.cells some lt)

-- k cells that begin a list are in it
pub begins_within : (kind : Bool) (k i : ℕ) (cells : List Bool) → i ≤ length cells → model.begins_with kind k (drop i cells) ≡ true
    → i + k ≤ length cells
begins_within kind k i cells h e = within k (drop i cells) e (length-drop i cells)
  where
    fits : (kind : Bool) (k : ℕ) (cells : List Bool) → model.begins_with kind k cells ≡ true → k ≤ length cells
    fits kind zero cells e = omega arith
    fits kind (suc k) [] e = absurd (cc)
    fits true (suc k) (true ∷ cells) e = let f = fits true k cells e in omega (arith, f)
    fits false (suc k) (true ∷ cells) e = absurd (cc)
    fits true (suc k) (false ∷ cells) e = absurd (cc)
    fits false (suc k) (false ∷ cells) e = let f = fits false k cells e in omega (arith, f)

    within : (k : ℕ) (rest : List Bool) → model.begins_with kind k rest ≡ true → length rest ≡ length cells - i → i + k ≤ length cells
    within k rest e l = let f = fits kind k rest e in omega (arith, f, l, h)

-- how many free cells a list begins with
abbrev pub free_in_front : List Bool → ℕ
free_in_front [] = 0
free_in_front (true ∷ cells) = suc (free_in_front cells)
free_in_front (false ∷ cells) = 0

pub free_enough : (k : ℕ) (cells : List Bool) → k ≤ free_in_front cells → model.begins_with true k cells ≡ true
free_enough zero cells h = refl
free_enough (suc k) [] h = absurd (omega arith)
free_enough (suc k) (true ∷ cells) h = free_enough k cells (omega arith)
free_enough (suc k) (false ∷ cells) h = absurd (omega arith)

pub free_too_few : (k : ℕ) (cells : List Bool) → free_in_front cells < k → model.begins_with true k cells ≡ false
free_too_few zero cells h = absurd (omega arith)
free_too_few (suc k) [] h = refl
free_too_few (suc k) (true ∷ cells) h = free_too_few k cells (omega arith)
free_too_few (suc k) (false ∷ cells) h = refl

pub free_in_front-within : (cells : List Bool) → free_in_front cells ≤ length cells
free_in_front-within [] = omega arith
free_in_front-within (true ∷ cells) = let h = free_in_front-within cells in omega arith
free_in_front-within (false ∷ cells) = omega arith

-- one more where the first cell is free
front_is : (c : Bool) (cells : List Bool) → free_in_front (c ∷ cells) ≡ (if c then free_in_front cells + 1 else 0)
front_is true cells = omega arith
front_is false cells = refl

pub front_at : (i : ℕ) (d : Bool) (cells : List Bool) → i < length cells
    → free_in_front (drop i cells) ≡ (if slice_index_or cells i d then free_in_front (drop (i + 1) cells) + 1 else 0)
front_at i d cells h =
    let next : suc i ≡ i + 1 = omega arith in
    ap free_in_front (drop-cons cells i d h)
    ∙ front_is (slice_index_or cells i d) (drop (suc i) cells)
    ∙ ap (λ n. if slice_index_or cells i d then free_in_front (drop n cells) + 1 else 0) next

-- the free cells that begin a list are one more if the next one is free
pub begins_longer : (n : ℕ) (d : Bool) (cells : List Bool) → n < length cells → model.begins_with true n cells ≡ true
    → slice_index_or cells n d ≡ true → model.begins_with true (suc n) cells ≡ true
begins_longer n d [] h b e = absurd (omega arith)
begins_longer zero d (true ∷ cells) h b e = refl
begins_longer zero d (false ∷ cells) h b e = absurd (cc)
begins_longer (suc n) d (true ∷ cells) h b e = begins_longer n d cells (omega arith) b e
begins_longer (suc n) d (false ∷ cells) h b e = absurd (cc)

-- a cell that is taken is in none of the rows that begin before it
begins_stopped : (n k : ℕ) (d : Bool) (cells : List Bool) → n < k → n < length cells → slice_index_or cells n d ≡ false
    → model.begins_with true k cells ≡ false
begins_stopped n zero d cells h g e = absurd (omega arith)
begins_stopped n (suc k) d [] h g e = absurd (omega arith)
begins_stopped zero (suc k) d (true ∷ cells) h g e = absurd (cc)
begins_stopped zero (suc k) d (false ∷ cells) h g e = refl
begins_stopped (suc n) (suc k) d (true ∷ cells) h g e = begins_stopped n k d cells (omega arith) (omega arith) e
begins_stopped (suc n) (suc k) d (false ∷ cells) h g e = refl

one_on : (n : ℕ) (o : Option ℕ) → option_map suc (option_map (λ j. n + j) o) ≡ option_map (λ j. suc n + j) o
one_on n None = refl
one_on n (Some j) = ap (λ m. Some m) (let z : suc (n + j) ≡ suc n + j = omega arith in z)

from_none : (o : Option ℕ) → option_map suc o ≡ option_map (λ j. 1 + j) o
from_none None = refl
from_none (Some j) = ap (λ m. Some m) (let z : suc j ≡ 1 + j = omega arith in z)

-- so the search goes on behind it
pub lowest_behind : (n k : ℕ) (d : Bool) (cells : List Bool) → n < k → n < length cells → slice_index_or cells n d ≡ false
    → model.lowest_free k cells ≡ option_map (λ j. suc n + j) (model.lowest_free k (drop (suc n) cells))
lowest_behind n k d [] h g e = absurd (omega arith)
lowest_behind zero k d (c ∷ cells) h g e =
    ap (λ b. if b then Some 0 else option_map suc (model.lowest_free k cells)) (begins_stopped zero k d (c ∷ cells) h g e)
    ∙ from_none (model.lowest_free k cells)
lowest_behind (suc n) k d (c ∷ cells) h g e =
    ap (λ b. if b then Some 0 else option_map suc (model.lowest_free k cells)) (begins_stopped (suc n) k d (c ∷ cells) h g e)
    ∙ ap (option_map suc) (lowest_behind n k d cells (omega arith) (omega arith) e)
    ∙ one_on (suc n) (model.lowest_free k (drop (suc n) cells))

-- k free cells begin a list
pub lowest_first : (k : ℕ) (cells : List Bool) → 1 ≤ k → model.begins_with true k cells ≡ true → model.lowest_free k cells ≡ Some 0
lowest_first zero cells some e = absurd (omega arith)
lowest_first (suc k) [] some e = absurd (cc)
lowest_first (suc k) (c ∷ cells) some e = ap (λ b. if b then Some 0 else option_map suc (model.lowest_free (suc k) cells)) e

-- fewer than k cells have none
pub lowest_nowhere : (k : ℕ) (cells : List Bool) → length cells < k → model.lowest_free k cells ≡ None
lowest_nowhere k [] h = refl
lowest_nowhere k (c ∷ cells) h =
    ap (λ b. if b then Some 0 else option_map suc (model.lowest_free k cells)) (begins_short true k (c ∷ cells) h)
    ∙ ap (option_map suc) (lowest_nowhere k cells (omega arith))

pub highest_nowhere : (k : ℕ) (cells : List Bool) → length cells < k → model.highest_free k cells ≡ None
highest_nowhere k [] h = refl
highest_nowhere k (c ∷ cells) h =
    ap (model.or_here k (c ∷ cells)) (highest_nowhere k cells (omega arith))
    ∙ ap (λ b. if b then Some 0 else None) (begins_short true k (c ∷ cells) h)

-- going on from one place behind another is going on behind both
on_behind : (m n : ℕ) (o : Option ℕ) → option_map (λ j. m + j) (option_map (λ j. n + j) o) ≡ option_map (λ j. (m + n) + j) o
on_behind m n None = refl
on_behind m n (Some j) = ap (λ i. Some i) (let z : m + (n + j) ≡ (m + n) + j = omega arith in z)

-- The cell at i is taken: the search from a start before it goes on behind it.
pub lowest_goes_on : (start i k : ℕ) (d : Bool) (cells : List Bool) → start ≤ i → i < start + k → i < length cells
    → slice_index_or cells i d ≡ false
    → option_map (λ j. (i + 1) + j) (model.lowest_free k (drop (i + 1) cells))
    ≡ option_map (λ j. start + j) (model.lowest_free k (drop start cells))
lowest_goes_on start i k d cells before fewer inside e =
    let n = i - start in
    let at : start + n ≡ i = omega arith in
    let behind : start + suc n ≡ i + 1 = omega arith in
    let cell : slice_index_or (drop start cells) n d ≡ false =
    get_or-drop start cells n d ∙ ap (λ m. slice_index_or cells m d) at ∙ e in
    let h : n < length (drop start cells) = let l = length-drop start cells in omega (arith, l) in
    let on = lowest_behind n k d (drop start cells) (omega arith) h cell in
    sym (ap (λ m. option_map (λ j. m + j) (model.lowest_free k (drop m cells))) behind)
    ∙ ap (λ l. option_map (λ j. (start + suc n) + j) (model.lowest_free k l)) (sym (drop-drop (suc n) start cells))
    ∙ sym (on_behind start (suc n) (model.lowest_free k (drop (suc n) (drop start cells))))
    ∙ ap (option_map (λ j. start + j)) (sym on)

-- It is free: one more cell is free from the start on.
pub free_goes_on : (start i : ℕ) (d : Bool) (cells : List Bool) → start ≤ i → i < length cells
    → model.begins_with true (i - start) (drop start cells) ≡ true → slice_index_or cells i d ≡ true
    → model.begins_with true ((i + 1) - start) (drop start cells) ≡ true
free_goes_on start i d cells before inside free e =
    let n = i - start in
    let at : start + n ≡ i = omega arith in
    let more : (i + 1) - start ≡ suc n = omega arith in
    let cell : slice_index_or (drop start cells) n d ≡ true =
    get_or-drop start cells n d ∙ ap (λ m. slice_index_or cells m d) at ∙ e in
    let h : n < length (drop start cells) = let l = length-drop start cells in omega (arith, l) in
    ap (λ m. model.begins_with true m (drop start cells)) more ∙ begins_longer n d (drop start cells) h free cell

-- k cells that are free from the start on are found there
pub lowest_there : (start k : ℕ) (cells : List Bool) → 1 ≤ k → model.begins_with true k (drop start cells) ≡ true
    → option_map (λ j. start + j) (model.lowest_free k (drop start cells)) ≡ Some start
lowest_there start k cells some e =
    ap (option_map (λ j. start + j)) (lowest_first k (drop start cells) some e) ∙ ap (λ n. Some n) (let z : start + 0 ≡ start = omega arith in z)

-- the free cells from the one before i on
pub front_free : (i free : ℕ) (d : Bool) (cells : List Bool) → 0 < i → i ≤ length cells → free ≡ free_in_front (drop i cells)
    → slice_index_or cells (i - 1) d ≡ true → free + 1 ≡ free_in_front (drop (i - 1) cells)
front_free i free d cells some inside is e =
    let next : (i - 1) + 1 ≡ i = omega arith in
    ap (λ n. n + 1) (is ∙ sym (ap (λ m. free_in_front (drop m cells)) next))
    ∙ sym (front_at (i - 1) d cells (omega arith) ∙ ap (λ b. if b then free_in_front (drop ((i - 1) + 1) cells) + 1 else 0) e)

pub front_taken : (i : ℕ) (d : Bool) (cells : List Bool) → 0 < i → i ≤ length cells → slice_index_or cells (i - 1) d ≡ false
    → 0 ≡ free_in_front (drop (i - 1) cells)
front_taken i d cells some inside e =
    sym (front_at (i - 1) d cells (omega arith) ∙ ap (λ b. if b then free_in_front (drop ((i - 1) + 1) cells) + 1 else 0) e)

-- what is found from i on is found of the whole
highest_from : (k i j : ℕ) (cells : List Bool) → model.highest_free k (drop i cells) ≡ Some j → model.highest_free k cells ≡ Some (i + j)
highest_from k zero j cells e = e ∙ ap (λ n. Some n) (let z : j ≡ 0 + j = omega arith in z)
highest_from k (suc i) j [] e = absurd (cc)
highest_from k (suc i) j (c ∷ cells) e =
    ap (model.or_here k (c ∷ cells)) (highest_from k i j cells e) ∙ ap (λ n. Some n) (let z : suc (i + j) ≡ suc i + j = omega arith in z)

-- no k free cells begin behind i; they begin at i, or don't
highest_at : (k i : ℕ) (cells : List Bool) (b : Bool) → i < length cells → model.highest_free k (drop (i + 1) cells) ≡ None
    → model.begins_with true k (drop i cells) ≡ b → model.highest_free k (drop i cells) ≡ (if b then Some 0 else None)
highest_at k i cells b h n e =
    let next : suc i ≡ i + 1 = omega arith in
    ap (model.highest_free k) (drop-cons cells i false h)
    ∙ ap (model.or_here k (slice_index_or cells i false ∷ drop (suc i) cells)) (ap (λ m. model.highest_free k (drop m cells)) next ∙ n)
    ∙ ap (λ b. if b then Some 0 else None) (ap (model.begins_with true k) (sym (drop-cons cells i false h)) ∙ e)

pub highest_here : (k i : ℕ) (cells : List Bool) → i < length cells → model.highest_free k (drop (i + 1) cells) ≡ None
    → model.begins_with true k (drop i cells) ≡ true → model.highest_free k cells ≡ Some i
highest_here k i cells h n e =
    highest_from k i 0 cells (highest_at k i cells true h n e) ∙ ap (λ n. Some n) (let z : i + 0 ≡ i = omega arith in z)

pub highest_next : (k i : ℕ) (cells : List Bool) → i < length cells → model.highest_free k (drop (i + 1) cells) ≡ None
    → model.begins_with true k (drop i cells) ≡ false → model.highest_free k (drop i cells) ≡ None
highest_next k i cells h n e = highest_at k i cells false h n e
