-- Calls take effect in their order.
use Rattle.std.proofs.Common.{◌≡◌, ℕ, zero, suc, List, [], ◌∷◌, ◌++◌, map, take, drop, Option, Some, None, ℤ, refl, sym, ap, ◌∙◌, append-nil, append_assoc, ◌+◌, ◌≤◌, length, arith}
use Rattle.std.proofs.lemmas.List.{length-append, length-map, length-take}
use Rattle.xinu_model.proofs.FileOutcomes.{first_calls}
use Rattle.xinu_base.specs.declared.lines.FileMoment.{FileMoment}
use Rattle.xinu_base.specs.declared.lines.FileMoment.TheVariants.{Turn, Finished, Next}
use Rattle.part_laws.specs.FileWork.{caller_first, callers_told, first_moment}
use Rattle.xinu_model.specs.Files.Calls.{file_effect}
use Rattle.xinu_model.specs.Files.Systems.{FileSystem}
use Rattle.xinu_model.specs.Files.Work.{FileRequest, FileNote, FileStep, had_turn, took_effect, with_first, first_effect, next_effects, turned, calls_completed}

pub system_of : (calls : List FileRequest) (memory : List ℕ) (s : FileSystem) → (with_first calls memory s).system ≡ s
system_of [] memory s = refl
system_of (a ∷ calls) memory s = refl

-- the first effect takes one call out
one_out : (calls : List FileRequest) (moment : FileMoment) (x : FileStep) → x.work.calls ≡ calls
    → (first_effect calls moment x).work.calls ≡ drop 1 calls
one_out [] moment x e = e
one_out (a ∷ calls) moment x e = first_calls calls _ _

-- one and then k are one more than k
drop_more : (k : ℕ) (calls : List FileRequest) → drop k (drop 1 calls) ≡ drop (suc k) calls
drop_more zero [] = refl
drop_more (suc k) [] = refl
drop_more k (a ∷ calls) = refl

next_out : (k : ℕ) (x : FileStep) → (next_effects k x).work.calls ≡ drop k x.work.calls
next_out zero x = refl
next_out (suc k) x =
    next_out k (first_effect x.work.calls Next x) ∙ ap (drop k) (one_out x.work.calls Next x refl) ∙ drop_more k x.work.calls

pub calls_left : (k : ℕ) (x : FileStep) → (calls_completed k x).work.calls ≡ drop k x.work.calls
calls_left zero x = by_calls x.work.calls
  where
    by_calls : (calls : List FileRequest) → (turned calls x).work.calls ≡ x.work.calls
    by_calls [] = refl
    by_calls (a ∷ calls) = refl
calls_left (suc k) x =
    next_out k (first_effect x.work.calls Finished x) ∙ ap (drop k) (one_out x.work.calls Finished x refl) ∙ drop_more k x.work.calls

-- what notes tell, one after another
first_append : (reply : Option ℤ) (caller : Option ℕ) (all more : List (Option ℕ))
    → caller_first reply caller (all ++ more) ≡ caller_first reply caller all ++ more
first_append None caller all more = refl
first_append (Some reply) caller all more = refl

pub told_append : (notes more : List FileNote) → callers_told (notes ++ more) ≡ callers_told notes ++ callers_told more
told_append [] more = refl
told_append (n ∷ notes) more =
    ap (caller_first n.reply n.caller) (told_append notes more) ∙ first_append n.reply n.caller (callers_told notes) (callers_told more)

-- the caller of a request
abbrev caller_of : FileRequest → Option ℕ
caller_of a = a.caller

-- the first effect tells of the call that it takes out
one_told : (calls : List FileRequest) (moment : FileMoment) (x : FileStep)
    → callers_told (first_effect calls moment x).notes ≡ callers_told x.notes ++ map caller_of (take 1 calls)
one_told [] moment x = sym (append-nil (callers_told x.notes))
one_told (a ∷ calls) moment x = told_append x.notes _

-- the first effect and those after it
first_and_next : (k : ℕ) (calls : List FileRequest) (moment : FileMoment) (x : FileStep) → x.work.calls ≡ calls
    → callers_told (next_effects k (first_effect calls moment x)).notes
    ≡ callers_told (first_effect calls moment x).notes ++ map caller_of (take k (first_effect calls moment x).work.calls)
    → callers_told (next_effects k (first_effect calls moment x)).notes ≡ callers_told x.notes ++ map caller_of (take (suc k) calls)
first_and_next k calls moment x e go =
    go ∙ ap (λ l. callers_told (first_effect calls moment x).notes ++ map caller_of (take k l)) (one_out calls moment x e)
    ∙ ap (λ l. l ++ map caller_of (take k (drop 1 calls))) (one_told calls moment x)
    ∙ append_assoc (callers_told x.notes) (map caller_of (take 1 calls)) (map caller_of (take k (drop 1 calls)))
    ∙ ap (λ l. callers_told x.notes ++ l) (by_calls k calls)
  where
    by_calls : (k : ℕ) (calls : List FileRequest)
        → map caller_of (take 1 calls) ++ map caller_of (take k (drop 1 calls)) ≡ map caller_of (take (suc k) calls)
    by_calls zero [] = refl
    by_calls (suc k) [] = refl
    by_calls k (a ∷ calls) = refl

next_told : (k : ℕ) (x : FileStep) → callers_told (next_effects k x).notes ≡ callers_told x.notes ++ map caller_of (take k x.work.calls)
next_told zero x = sym (append-nil (callers_told x.notes))
next_told (suc k) x = first_and_next k x.work.calls Next x refl (next_told k (first_effect x.work.calls Next x))

pub calls_told : (k : ℕ) (x : FileStep)
    → callers_told (calls_completed k x).notes ≡ callers_told x.notes ++ map caller_of (take k x.work.calls)
calls_told zero x = by_calls x.work.calls
  where
    by_calls : (calls : List FileRequest) → callers_told (turned calls x).notes ≡ callers_told x.notes ++ []
    by_calls [] = sym (append-nil (callers_told x.notes))
    by_calls (a ∷ calls) = told_append x.notes (had_turn a ∷ [])
calls_told (suc k) x = first_and_next k x.work.calls Finished x refl (next_told k (first_effect x.work.calls Finished x))

-- what the first note tells stays
first_stays : (notes more : List FileNote) (m : FileMoment) → first_moment notes ≡ Some m → first_moment (notes ++ more) ≡ Some m
first_stays [] more m e = cc
first_stays (n ∷ notes) more m e = e

effect_first : (calls : List FileRequest) (moment : FileMoment) (x : FileStep) (m : FileMoment) → first_moment x.notes ≡ Some m
    → first_moment (first_effect calls moment x).notes ≡ Some m
effect_first [] moment x m e = e
effect_first (a ∷ calls) moment x m e = first_stays x.notes (took_effect a moment _ ∷ []) m e

next_first : (k : ℕ) (x : FileStep) (m : FileMoment) → first_moment x.notes ≡ Some m → first_moment (next_effects k x).notes ≡ Some m
next_first zero x m e = e
next_first (suc k) x m e = next_first k (first_effect x.work.calls Next x) m (effect_first x.work.calls Next x m e)

-- A completion tells of the first call first.
pub turn_first : (a : FileRequest) (calls : List FileRequest) (x : FileStep) → x.work.calls ≡ a ∷ calls → x.notes ≡ []
    → first_moment (calls_completed 0 x).notes ≡ Some Turn
turn_first a calls x e none = ap (λ l. first_moment (turned l x).notes) e ∙ ap (λ n. first_moment (n ++ had_turn a ∷ [])) none

pub finished_first : (a : FileRequest) (calls : List FileRequest) (k : ℕ) (x : FileStep) → x.work.calls ≡ a ∷ calls → x.notes ≡ []
    → first_moment (calls_completed (suc k) x).notes ≡ Some Finished
finished_first a calls k x e none =
    next_first k (first_effect x.work.calls Finished x) Finished
    (ap (λ l. first_moment (first_effect l Finished x).notes) e
    ∙ ap (λ n. first_moment (n ++ took_effect a Finished (file_effect a.call x.work.bytes x.work.system).reply ∷ [])) none)

-- how many calls took effect is told
told_count : (k : ℕ) (x : FileStep) → k ≤ length x.work.calls
    → length (callers_told (calls_completed k x).notes) ≡ length (callers_told x.notes) + k
told_count k x few =
    let a = ap length (calls_told k x) in
    let b = length-append (callers_told x.notes) (map caller_of (take k x.work.calls)) in
    let c = length-map (take k x.work.calls) caller_of in
    let d = length-take k x.work.calls in
    omega (arith, a, b, c, d, few)

-- So completions that tell the same let as many calls take effect.
pub same_told : (m n : ℕ) (x : FileStep) → m ≤ length x.work.calls → n ≤ length x.work.calls
    → (calls_completed m x).notes ≡ (calls_completed n x).notes
    → m ≡ n
same_told m n x few fewer same =
    let a = told_count m x few in
    let b = told_count n x fewer in
    let c = ap (λ notes. length (callers_told notes)) same in
    omega (arith, a, b, c)
