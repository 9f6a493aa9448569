-- The words of a program are code, and each fits into a word.
use Rattle.std.proofs.Common.{◌≡◌, ℕ, zero, suc, ◌+◌, ◌-◌, ◌*◌, ◌/◌, ◌%◌, ◌^◌, ◌≤◌, ◌<◌, true, false, List, [], ◌∷◌, ◌++◌, length, map, get_or, inl, inr, refl, sym, subst, arith, append_assoc, length-append}
use Rattle.std.specs.Prelude.{codes, nat_lt}
use Rattle.std.specs.List.{AllByRecursion, list_all}
use Rattle.std.proofs.lemmas.Bool.{and_parts, ltb-true}
use Rattle.asm_syntax.specs.Values.{call_of}
use Rattle.rv_isa.specs.Encoding.{placed}
use Rattle.soak_laws.specs.Code.{IsCode, made_calls}
use Rattle.soak_laws.proofs.Lists.{all_append}
use Rattle.soak_laws.proofs.Words.{addi_loads, ecall_calls, jumps_back, lui_loads, puts_number}
use Rattle.table_laws.proofs.Lists.Maps.{get_or_seen}
use Rattle.workload.specs.Draws.{drawn, next}
use Rattle.workload.specs.Groups.{Shape, after_argument, after_group, call_words, calling, group, groups, loads_of, shape_at, shapes, value_of}
use Rattle.workload.specs.Programs.{repeated}
use Rattle.xinu_model.specs.Isa.Instructions.{FormI, FormJ, FormU}

-- ---- the shapes

-- numbers below a bound, and what is read past them
each_below : (bound : ℕ) (l : List ℕ) (i d : ℕ) → list_all (λ n. nat_lt n bound) l ≡ true → d < bound → get_or l i d < bound
each_below bound [] i d all other = other
each_below bound (x ∷ l) zero d all other = ltb-true x bound (and_parts (nat_lt x bound) (list_all (λ n. nat_lt n bound) l) all).0
each_below bound (x ∷ l) (suc i) d all other = each_below bound l i d (and_parts (nat_lt x bound) (list_all (λ n. nat_lt n bound) l) all).1 other

-- their calls are those that programs make
call_made : (i : ℕ) → (shape_at i).call ≡ get_or made_calls i 1
unfolding shapes call_of
call_made i = get_or_seen (λ (s : Shape). s.call) shapes i (calling (codes "getpid") [])

small_call : (i : ℕ) → (shape_at i).call < 2048
small_call i = rw (call_made i) (each_below 2048 made_calls i 1 refl (omega arith))

-- they have at most three arguments
few_args : (i : ℕ) → length (shape_at i).args < 4
unfolding shapes
few_args i =
    rw (get_or_seen (λ (s : Shape). length s.args) shapes i (calling (codes "getpid") []))
    (each_below 4 (map (λ (s : Shape). length s.args) shapes) i 0 refl (omega arith))

-- ---- code

-- words that load arguments, before more code
loads_code : (place register : ℕ) (args : List _) (x n m : ℕ) (more : List ℕ) → register + length args ≤ 31
    → m ≡ n + length (loads_of place register args x) → IsCode false m more → IsCode false n (loads_of place register args x ++ more)
unfolding loads_of
loads_code place register [] x n m more few is code = subst (λ k. IsCode false k more) (omega arith) code
loads_code place register (arg ∷ args) x n m more few is code =
    let v = value_of place arg x in
    inl (
      lui_loads (0x37 + placed FormU register 0 0 ((v + 0x800) / 0x1000 % 0x100000 * 0x1000)) (omega arith) (omega arith),
      inl (
        addi_loads (0x13 + placed FormI register register 0 v) (omega arith) (omega arith) (omega arith),
        loads_code place (register + 1) args (after_argument arg x) (suc (suc n)) m more (omega arith) (omega arith) code,
      ),
    )

-- a group, before more code
group_code : (place kinds x n m : ℕ) (more : List ℕ) → m ≡ n + length (group place kinds x) → IsCode false m more
    → IsCode false n (group place kinds x ++ more)
unfolding group
group_code place kinds x n m more is code =
    let i = drawn kinds x in
    let shape = shape_at i in
    let loads = loads_of place 10 shape.args (next x) in
    let k = n + length loads in
    let few = few_args i in
    let both = length-append loads (call_words shape.call) in
    let last : m ≡ suc (suc k) = omega arith in
    subst (IsCode false n) (sym (append_assoc loads (call_words shape.call) more))
    (loads_code place 10 shape.args (next x) n k (call_words shape.call ++ more) (omega arith) refl
    (inr (inl (
      puts_number (0x13 + placed FormI 17 0 0 shape.call) shape.call i refl (small_call i) (call_made i),
      (ecall_calls, subst (λ j. IsCode false j more) last code),
    ))))

-- groups, before more code
groups_code : (place kinds count x n m : ℕ) (more : List ℕ) → m ≡ n + length (groups place kinds count x) → IsCode false m more
    → IsCode false n (groups place kinds count x ++ more)
unfolding groups
groups_code place kinds zero x n m more is code = subst (λ k. IsCode false k more) (omega arith) code
groups_code place kinds (suc count) x n m more is code =
    let one = group place kinds x in
    let rest = groups place kinds count (after_group kinds x) in
    let both = length-append one rest in
    subst (IsCode false n) (sym (append_assoc one rest more))
    (group_code place kinds x n (n + length one) (rest ++ more) refl
    (groups_code place kinds count (after_group kinds x) (n + length one) m more (omega arith) code))

-- The words of a program.
pub program_code : (place kinds count x : ℕ) → length (groups place kinds count x) < 1024 → IsCode false 0 (repeated (groups place kinds count x))
program_code place kinds count x few =
    let all = groups place kinds count x in
    groups_code place kinds count x 0 (length all) ((0x6f + placed FormJ 0 0 0 ((4294967296 - 4 * length all) % 4294967296)) ∷ []) (omega arith)
    (inr (inr (jumps_back (length all) _ few refl, refl)))

-- ---- each is a word

abbrev AreWords : List ℕ → Type 0
AreWords l = AllByRecursion (λ w. w < 2 ^ 32) l

loads_fit : (place register : ℕ) (args : List _) (x : ℕ) → register + length args ≤ 31 → AreWords (loads_of place register args x)
unfolding loads_of
loads_fit place register [] x few = tt
loads_fit place register (arg ∷ args) x few = (omega arith, (omega arith, loads_fit place (register + 1) args (after_argument arg x) (omega arith)))

group_fits : (place kinds x : ℕ) → AreWords (group place kinds x)
unfolding group
group_fits place kinds x =
    let shape = shape_at (drawn kinds x) in
    let few = few_args (drawn kinds x) in
    let small = small_call (drawn kinds x) in
    all_append (λ w. w < 2 ^ 32) (loads_of place 10 shape.args (next x)) (call_words shape.call) (loads_fit place 10 shape.args (next x) (omega arith))
    (omega arith, (omega arith, tt))

groups_fit : (place kinds count x : ℕ) → AreWords (groups place kinds count x)
unfolding groups
groups_fit place kinds zero x = tt
groups_fit place kinds (suc count) x =
    all_append (λ w. w < 2 ^ 32) (group place kinds x) (groups place kinds count (after_group kinds x)) (group_fits place kinds x)
    (groups_fit place kinds count (after_group kinds x))

pub program_fits : (place kinds count x : ℕ) → AllByRecursion (λ w. w < 2 ^ 32) (repeated (groups place kinds count x))
program_fits place kinds count x = all_append (λ w. w < 2 ^ 32) (groups place kinds count x) _ (groups_fit place kinds count x) (omega arith, tt)
