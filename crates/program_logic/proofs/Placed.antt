-- Programs that are loaded one behind the other lie in RAM.
use Rattle.std.proofs.Common.{Bool, List, [], ap, arith, length, refl, subst, sym, take, true, ℕ, ◌&&◌, ◌*◌, ◌++◌, ◌+◌, ◌<◌, ◌==◌, ◌^◌, ◌∙◌, ◌∷◌, ◌≡◌, ◌≤◌}
use Rattle.std.proofs.lemmas.Bool.{and_from, and_parts, eq-eqb, le-leb, leb-true, ltb-true}
use Rattle.std.proofs.lemmas.List.{length-append, length-replicate}
use Rattle.std.specs.List.{AllByRecursion, flat_map}
use Rattle.std.specs.Prelude.{nat_le, nat_lt}
use Rattle.xinu_model.proofs.WholeRam.{length-with_bytes}
use Rattle.xinu_model.specs.Boot.{Loaded, with_images}
use Rattle.xinu_model.specs.Memory.{number_at, ram_size, with_bytes, zeros}
use Rattle.program_logic.proofs.Ram.{lie_below, put_lies, put_whole}
use Rattle.program_logic.specs.Images.{Lie, bytes_of, image_of}
use Rattle.program_logic.specs.Claims.{Program}
use Rattle.program_logic.specs.SystemCheck.{all_there, are_there, begin_there, lie_there, ram_checks, words_in}
use Rattle.program_logic.specs.Terms.{value}
use Rattle.program_logic.specs.declared.outline.Lock.{Lock}

-- a program to be loaded: where, and its words
pub record Piece : Type 0 where
  pub place : ℕ
  pub words : List ℕ

abbrev pub images_of : List Piece → List Loaded
images_of [] = []
images_of (x ∷ xs) = image_of x.place x.words ∷ images_of xs

-- they lie from an address on, one behind the other
abbrev pub AreBehind : ℕ → List Piece → Type 0
AreBehind low [] = Unit {0}
AreBehind low (x ∷ xs) = (low ≤ x.place) × ((x.place + 4 * length x.words ≤ ram_size) × (AllByRecursion (λ w. w < 2 ^ 32) x.words × AreBehind (x.place + 4 * length x.words) xs))

-- the same as a test
abbrev pub all_fit : List ℕ → Bool
all_fit [] = true
all_fit (w ∷ words) = nat_lt w (2 ^ 32) && all_fit words

abbrev pub are_behind : ℕ → List Piece → Bool
are_behind low [] = true
are_behind low (x ∷ xs) =
    (nat_le low x.place && nat_le (x.place + 4 * length x.words) ram_size) && (all_fit x.words && are_behind (x.place + 4 * length x.words) xs)

words_fit : (words : List ℕ) → all_fit words ≡ true → AllByRecursion (λ w. w < 2 ^ 32) words
words_fit [] is = tt
words_fit (w ∷ words) is =
    let a = and_parts (nat_lt w (2 ^ 32)) (all_fit words) is in (ltb-true w (2 ^ 32) a.0, words_fit words a.1)

behind_by_test : (low : ℕ) (xs : List Piece) → are_behind low xs ≡ true → AreBehind low xs
behind_by_test low [] is = tt
behind_by_test low (x ∷ xs) is =
    let a = and_parts (nat_le low x.place && nat_le (x.place + 4 * length x.words) ram_size) (all_fit x.words && are_behind (x.place + 4 * length x.words) xs) is in
    let b = and_parts (nat_le low x.place) (nat_le (x.place + 4 * length x.words) ram_size) a.0 in
    let c = and_parts (all_fit x.words) (are_behind (x.place + 4 * length x.words) xs) a.1 in (
      leb-true low x.place b.0,
      (leb-true (x.place + 4 * length x.words) ram_size b.1, (words_fit x.words c.0, behind_by_test (x.place + 4 * length x.words) xs c.1)),
    )

-- each of them lies there
abbrev pub AllLie : List ℕ → List Piece → Type 0
AllLie memory [] = Unit {0}
AllLie memory (x ∷ xs) = Lie memory x.place x.words × AllLie memory xs

zeros_size : length zeros ≡ ram_size
unfolding zeros
zeros_size = length-replicate {A = ℕ} ram_size 0

bytes_length : (words : List ℕ) → length (flat_map bytes_of words) ≡ 4 * length words
bytes_length [] = refl
bytes_length (w ∷ words) = omega (arith, length-append (bytes_of w) (flat_map bytes_of words), bytes_length words)

-- what lies below stays
stays : (xs : List Piece) (low a : ℕ) (words memory : List ℕ) → AreBehind low xs → a + 4 * length words ≤ low → Lie memory a words → Lie (with_images (images_of xs) memory) a words
stays [] low a words memory all below lie = lie
stays (x ∷ xs) low a words memory all below lie =
    let bytes = flat_map bytes_of x.words in
    stays xs (x.place + 4 * length x.words) a words (with_bytes memory x.place (length (take (length bytes) bytes)) (take (length bytes) bytes)) all.1.1.1 (omega (arith, all.0))
    (lie_below memory x.place (length (take (length bytes) bytes)) (take (length bytes) bytes) a words (omega (arith, all.0)) lie)

all_lie : (xs : List Piece) (low : ℕ) (memory : List ℕ) → AreBehind low xs → length memory ≡ ram_size → AllLie (with_images (images_of xs) memory) xs
all_lie [] low memory all size = tt
all_lie (x ∷ xs) low memory all size =
    let bytes = flat_map bytes_of x.words in
    let whole = put_whole memory x.place bytes in
    let next = with_bytes memory x.place (length (take (length bytes) bytes)) (take (length bytes) bytes) in
    let many = bytes_length x.words in
    let next_size : length next ≡ ram_size = ap length whole ∙ length-with_bytes memory x.place (length bytes) bytes refl (omega (arith, all.1.0)) ∙ size in (
      stays xs (x.place + 4 * length x.words) x.place x.words next all.1.1.1 (omega arith)
          (subst (λ m. Lie m x.place x.words) (sym whole) (put_lies x.place x.words memory all.1.1.0 (omega (arith, all.1.0)))),
      all_lie xs (x.place + 4 * length x.words) next all.1.1.1 next_size,
    )

-- Programs that are loaded one behind the other lie in RAM.
pub pieces_lie : (xs : List Piece) → are_behind 0 xs ≡ true → AllLie (with_images (images_of xs) zeros) xs
pieces_lie xs is = all_lie xs 0 zeros (behind_by_test 0 xs is) zeros_size

-- words that lie there, and the first of some, by the test
pub lie_by_test : (memory : List ℕ) (a : ℕ) (words more : List ℕ) → Lie memory a (words ++ more) → lie_there memory a words ≡ true
lie_by_test memory a [] more lie = refl
lie_by_test memory a (w ∷ words) more lie =
    and_from (nat_le (a + 4) (length memory)) ((number_at memory a 4 == w) && lie_there memory (a + 4) words) (le-leb (a + 4) (length memory) lie.0)
    (and_from (number_at memory a 4 == w) (lie_there memory (a + 4) words) (eq-eqb (number_at memory a 4) w lie.1.0) (lie_by_test memory (a + 4) words more lie.1.1))

-- a word behind others
pub word_behind : (memory : List ℕ) (a b w : ℕ) (words more : List ℕ) → b ≡ a + 4 * length words → Lie memory a (words ++ w ∷ more) → number_at memory b 4 ≡ w
word_behind memory a b w [] more is lie = let e : b ≡ a = omega arith in ap (λ i. number_at memory i 4) e ∙ lie.1.0
word_behind memory a b w (x ∷ words) more is lie = word_behind memory (a + 4) b w words more (omega arith) lie.1.1

-- ---- programs with the guarded word behind the last

abbrev pub pieces_from : Program → List Program → ℕ → List Piece
pieces_from g [] w = (record { place = g.first; words = words_in g.places ++ w ∷ [] }) ∷ []
pieces_from g (h ∷ programs) w = (record { place = g.first; words = words_in g.places ++ [] }) ∷ pieces_from h programs w

abbrev pub end_from : Program → List Program → ℕ
end_from g [] = g.first + 4 * length (words_in g.places)
end_from g (h ∷ programs) = end_from h programs

all_there_by_test : (memory : List ℕ) (g : Program) (programs : List Program) (w : ℕ) → AllLie memory (pieces_from g programs w) → all_there memory (g ∷ programs) ≡ true
all_there_by_test memory g [] w lie = and_from (lie_there memory g.first (words_in g.places)) true (lie_by_test memory g.first (words_in g.places) (w ∷ []) lie.0) refl
all_there_by_test memory g (h ∷ programs) w lie =
    and_from (lie_there memory g.first (words_in g.places)) (all_there memory (h ∷ programs)) (lie_by_test memory g.first (words_in g.places) [] lie.0)
    (all_there_by_test memory h programs w lie.1)

word_at_end : (memory : List ℕ) (g : Program) (programs : List Program) (w : ℕ) → AllLie memory (pieces_from g programs w)
    → number_at memory (end_from g programs) 4 ≡ w
word_at_end memory g [] w lie = word_behind memory g.first (end_from g []) w (words_in g.places) [] refl lie.0
word_at_end memory g (h ∷ programs) w lie = word_at_end memory h programs w lie.1

-- The images of such programs are these programs.
pub programs_there : (l : Lock) (g : Program) (programs : List Program) (w : ℕ) → are_behind 0 (pieces_from g programs w) ≡ true → l.sem ≡ 4
    → l.word ≡ end_from g programs → w ≡ value l.rule 0 → begin_there (g ∷ programs) (images_of (pieces_from g programs w)) ≡ true
    → are_there l (g ∷ programs) (images_of (pieces_from g programs w)) ≡ true
programs_there l g programs w behind sem word is begin =
    let memory = with_images (images_of (pieces_from g programs w)) zeros in
    let lie = pieces_lie (pieces_from g programs w) behind in
    let e : number_at memory l.word 4 ≡ value l.rule 0 = ap (λ a. number_at memory a 4) word ∙ word_at_end memory g programs w lie ∙ is in
    and_from (begin_there (g ∷ programs) (images_of (pieces_from g programs w))) (ram_checks memory l (g ∷ programs)) begin
    (and_from (l.sem == 4) ((number_at memory l.word 4 == value l.rule 0) && all_there memory (g ∷ programs)) (eq-eqb l.sem 4 sem)
    (and_from (number_at memory l.word 4 == value l.rule 0) (all_there memory (g ∷ programs)) (eq-eqb (number_at memory l.word 4) (value l.rule 0) e)
    (all_there_by_test memory g programs w lie)))
