-- How many bytes a program has at most: a group has at most eight instructions.
use Rattle.std.proofs.Common.{◌≡◌, ℕ, zero, suc, ◌+◌, ◌*◌, ◌≤◌, List, [], ◌∷◌, length, refl, arith, length-append}
use Rattle.std.specs.Prelude.{Bool, true, codes, nat_le, slice_index_or}
use Rattle.std.specs.List.{flat_map, list_all}
use Rattle.std.proofs.lemmas.Bool.{and_parts, leb-true}
use Rattle.asm_syntax.specs.Statements.{load, word_bytes}
use Rattle.workload.specs.declared.shapes.Argument.{Argument}
use Rattle.workload.specs.Draws.{drawn, next}
use Rattle.workload.specs.Groups.{Shape, after_argument, after_group, call_words, calling, group, groups, loads_of, shape_at, shapes, value_of}
use Rattle.workload.specs.Programs.{content, kinds_of, place_of, repeated, texts}

-- whether each of these shapes has at most three arguments
abbrev are_short : List Shape → Bool
are_short shapes = list_all (λ (s : Shape). nat_le (length s.args) 3) shapes

short_at : (all : List Shape) (n : ℕ) (s : Shape) → are_short all ≡ true → length s.args ≤ 3 → length (slice_index_or all n s).args ≤ 3
short_at [] n s few one = one
short_at (first ∷ rest) zero s few one = leb-true (length first.args) 3 (and_parts (nat_le (length first.args) 3) (are_short rest) few).0
short_at (first ∷ rest) (suc n) s few one = short_at rest n s (and_parts (nat_le (length first.args) 3) (are_short rest) few).1 one

all_short : are_short shapes ≡ true
unfolding shapes
all_short = refl

shape_short : (n : ℕ) → length (shape_at n).args ≤ 3
shape_short n = short_at shapes n (calling (codes "getpid") []) all_short (omega arith)

loads_length : (place register : ℕ) (args : List Argument) (x : ℕ) → length (loads_of place register args x) ≡ 2 * length args
unfolding loads_of
loads_length place register [] x = refl
loads_length place register (arg ∷ args) x =
    let rest = loads_length place (register + 1) args (after_argument arg x) in
    let both = length-append (load register (value_of place arg x)) (loads_of place (register + 1) args (after_argument arg x)) in
    omega arith

group_length : (place kinds x : ℕ) → length (group place kinds x) ≤ 8
unfolding group
group_length place kinds x =
    let shape = shape_at (drawn kinds x) in
    let few = shape_short (drawn kinds x) in
    let loads = loads_length place 10 shape.args (next x) in
    let both = length-append (loads_of place 10 shape.args (next x)) (call_words shape.call) in
    omega arith

groups_length : (place kinds n x : ℕ) → length (groups place kinds n x) ≤ 8 * n
unfolding groups
groups_length place kinds zero x = omega arith
groups_length place kinds (suc n) x =
    let one = group_length place kinds x in
    let rest = groups_length place kinds n (after_group kinds x) in
    let both = length-append (group place kinds x) (groups place kinds n (after_group kinds x)) in
    omega arith

bytes_length : (words : List ℕ) → length (flat_map word_bytes words) ≡ 4 * length words
bytes_length [] = refl
bytes_length (w ∷ words) = omega (arith, length-append (word_bytes w) (flat_map word_bytes words), bytes_length words)

-- and the jump back
one_more : (words : List ℕ) → length (repeated words) ≡ length words + 1
one_more words = length-append words _

-- two texts, 64 groups and a jump
pub content_length : (i x : ℕ) → length (content i x) ≤ 2060
unfolding content
content_length i x =
    let words = groups (place_of i) (kinds_of i) 64 x in
    let few = groups_length (place_of i) (kinds_of i) 64 x in
    let all = bytes_length (repeated words) in
    let more = one_more words in
    let both = length-append (texts i) (flat_map word_bytes (repeated words)) in
    omega arith
