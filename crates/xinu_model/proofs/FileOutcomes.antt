-- The lines of an event tell how many calls on files took effect in it.
use Rattle.std.proofs.Common.{◌≡◌, ◌==◌, ℕ, zero, suc, ◌+◌, ◌-◌, ◌≤◌, nat_lt, false, List, [], ◌∷◌, ◌++◌, map, length, refl, ap, ◌∙◌, ℤ, arith, take, drop, Option, Some, None, append-nil, take-append-drop}
use Rattle.std.specs.Prelude.{unwrap_or, nat_lt}
use Rattle.std.proofs.lemmas.Bool.{cond_both}
use Rattle.xinu_base.specs.declared.lines.TranscriptLine.{TranscriptLine}
use Rattle.xinu_base.specs.declared.lines.TranscriptLine.TheVariants.{Switch, File}
use Rattle.xinu_base.specs.declared.lines.FileMoment.{FileMoment}
use Rattle.xinu_base.specs.declared.lines.FileMoment.TheVariants.{Turn, Finished, Next}
use Rattle.xinu_model.specs.Agree.{begins_next}
use Rattle.xinu_model.specs.Files.Syscalls.{files_of, file_step, file_line, completing, completed_in}
use Rattle.xinu_model.specs.Files.Calls.{file_effect}
use Rattle.xinu_model.specs.Files.Systems.{FileSystem, replies}
use Rattle.xinu_model.specs.Files.Work.{FileRequest, FileWork, FileNote, FileStep, had_turn, took_effect, with_first, first_effect, next_effects, turned, calls_completed, least_effects, most_turns, copied}
use Rattle.xinu_model.specs.Machine.{Xinu, CallResult, return_line, switched, end_of_event, replies_of, closed}

-- how many effects a line tells of, and lines
abbrev pub tells_effect : TranscriptLine → ℕ
tells_effect (File p Finished) = 1
tells_effect (File p Next) = 1
tells_effect _ = 0

abbrev pub effects_told : List TranscriptLine → ℕ
effects_told [] = 0
effects_told (l ∷ lines) = tells_effect l + effects_told lines

pub effects_append : (xs ys : List TranscriptLine) → effects_told (xs ++ ys) ≡ effects_told xs + effects_told ys
effects_append [] ys = omega arith
effects_append (x ∷ xs) ys = let i = effects_append xs ys in omega (arith, i)

-- replies and the line of a switch tell of no call on files
switch_tells : (was is : ℕ) → effects_told (switched was is) ≡ 0
switch_tells was is = cond_both (was == is) [] (Switch is ∷ []) (λ l. effects_told l ≡ 0) (λ _. refl) (λ _. refl)

replies_tell : (replies : List (ℕ × ℤ)) → effects_told (map return_line replies) ≡ 0
replies_tell [] = refl
replies_tell (r ∷ replies) = let i = replies_tell replies in omega (arith, i)

-- The end of an event tells what its first lines tell.
pub end_tells : (was : ℕ) (first : List TranscriptLine) (result : CallResult) → effects_told (end_of_event was first result).lines ≡ effects_told first
end_tells was first result =
    let replies = map return_line (replies_of result) in
    let end = switched was (closed result).current in
    let a : effects_told ((first ++ replies) ++ end) ≡ effects_told (first ++ replies) + effects_told end = effects_append (first ++ replies) end in
    let b : effects_told (first ++ replies) ≡ effects_told first + effects_told replies = effects_append first replies in
    let c : effects_told replies ≡ 0 = replies_tell (replies_of result) in
    let d : effects_told end ≡ 0 = switch_tells was (closed result).current in
    a ∙ (let z : effects_told (first ++ replies) + effects_told end ≡ effects_told first = omega (arith, b, c, d) in z)

-- the lines of notes
abbrev pub note_lines : List FileNote → List TranscriptLine
note_lines notes = map file_line notes

pub notes_append : (xs ys : List FileNote) → note_lines (xs ++ ys) ≡ note_lines xs ++ note_lines ys
notes_append [] ys = refl
notes_append (x ∷ xs) ys = ap (λ l. file_line x ∷ l) (notes_append xs ys)

-- the calls after the first
pub first_calls : (calls : List FileRequest) (memory : List ℕ) (s : FileSystem) → (with_first calls memory s).calls ≡ calls
first_calls [] memory s = refl
first_calls (a ∷ calls) memory s = refl

-- the first effect leaves one call less and one note more
pub effect_one : (calls : List FileRequest) (moment : FileMoment) (x : FileStep) → tells_effect (File 0 moment) ≡ 1 → 1 ≤ length calls
    → (length (first_effect calls moment x).work.calls + 1 ≡ length calls)
    × (effects_told (note_lines (first_effect calls moment x).notes) ≡ effects_told (note_lines x.notes) + 1)
effect_one [] moment x e h = absurd (omega (arith, h))
effect_one (a ∷ calls) Turn x e h = absurd (cc)
effect_one (a ∷ calls) Finished x e h =
    let c : length (first_effect (a ∷ calls) Finished x).work.calls ≡ length calls = ap length (first_calls calls _ _) in
    let m = ap effects_told (notes_append x.notes (took_effect a Finished (file_effect a.call x.work.bytes x.work.system).reply ∷ [])) in
    let n = effects_append (note_lines x.notes) (File (unwrap_or a.caller 0) Finished ∷ []) in
    (omega (arith, c), omega (arith, m, n))
effect_one (a ∷ calls) Next x e h =
    let c : length (first_effect (a ∷ calls) Next x).work.calls ≡ length calls = ap length (first_calls calls _ _) in
    let m = ap effects_told (notes_append x.notes (took_effect a Next (file_effect a.call x.work.bytes x.work.system).reply ∷ [])) in
    let n = effects_append (note_lines x.notes) (File (unwrap_or a.caller 0) Next ∷ []) in
    (omega (arith, c), omega (arith, m, n))

nexts_tell : (k : ℕ) (x : FileStep) → k ≤ length x.work.calls
    → effects_told (note_lines (next_effects k x).notes) ≡ effects_told (note_lines x.notes) + k
nexts_tell zero x h = omega arith
nexts_tell (suc k) x h =
    let one = effect_one x.work.calls Next x refl (omega (arith, h)) in
    let a = one.0 in
    let b = one.1 in
    let i = nexts_tell k (first_effect x.work.calls Next x) (omega (arith, a, h)) in
    omega (arith, i, b)

turned_tells : (calls : List FileRequest) (x : FileStep) → effects_told (note_lines x.notes) ≡ 0
    → effects_told (note_lines (turned calls x).notes) ≡ 0
turned_tells [] x e = e
turned_tells (a ∷ calls) x e =
    let m = ap effects_told (notes_append x.notes (had_turn a ∷ [])) in
    let n = effects_append (note_lines x.notes) (File (unwrap_or a.caller 0) Turn ∷ []) in
    omega (arith, m, n, e)

-- A good completion tells how many calls took effect.
completed_tells : (k : ℕ) (x : FileStep) → x.notes ≡ [] → k ≤ length x.work.calls → effects_told (note_lines (calls_completed k x).notes) ≡ k
completed_tells zero x e h = turned_tells x.work.calls x (ap (λ n. effects_told (note_lines n)) e)
completed_tells (suc k) x e h =
    let one = effect_one x.work.calls Finished x refl (omega (arith, h)) in
    let a = one.0 in
    let b = one.1 in
    let z = ap (λ n. effects_told (note_lines n)) e in
    let i = nexts_tell k (first_effect x.work.calls Finished x) (omega (arith, a, h)) in
    omega (arith, i, b, z)

-- the number of calls that have to take effect is at most that of those that can
pub least_le : (calls : List FileRequest) (w : FileWork) → least_effects calls w ≤ length calls
least_le [] w = omega arith
least_le (a ∷ calls) w =
    cond_both (nat_lt (w.turns + 1) (most_turns a.call w.system)) 0 1 (λ n. n ≤ suc (length calls)) (λ _. omega arith) (λ _. omega arith)

-- So the choice is told.
pub choices_told : (c d : ℕ) (calls : List FileRequest) (s : Xinu) → (files_of s).calls ≡ calls
    → c ≤ length calls - least_effects calls (files_of s) → d ≤ length calls - least_effects calls (files_of s)
    → (completed_in calls c s).lines ≡ (completed_in calls d s).lines → c ≡ d
choices_told c d [] s e h k same = omega (arith, h, k)
choices_told c d (a ∷ calls) s e h k same =
    let p = told c h in
    let q = told d k in
    let r = ap effects_told same in
    omega (arith, p, q, r)
  where
    told : (n : ℕ) → n ≤ length (a ∷ calls) - least_effects (a ∷ calls) (files_of s)
        → effects_told (completed_in (a ∷ calls) n s).lines ≡ least_effects (a ∷ calls) (files_of s) + n
    told n h =
        let k = least_effects (a ∷ calls) (files_of s) + n in
        let x = calls_completed k (file_step s) in
        let l = least_le (a ∷ calls) (files_of s) in
        let m = ap length e in
        end_tells s.tables.current (note_lines x.notes) (completing x s) ∙ completed_tells k (file_step s) refl (omega (arith, l, m, h))

-- notes are only added after those that there are
effect_starts : (calls : List FileRequest) (moment : FileMoment) (x : FileStep) (n : FileNote) (ns : List FileNote) → x.notes ≡ n ∷ ns
    → (more : List FileNote) × ((first_effect calls moment x).notes ≡ n ∷ more)
effect_starts [] moment x n ns e = (ns, e)
effect_starts (a ∷ calls) moment x n ns e =
    let note = took_effect a moment (file_effect a.call x.work.bytes x.work.system).reply in (ns ++ note ∷ [], ap (λ l. l ++ note ∷ []) e)

nexts_start : (k : ℕ) (x : FileStep) (n : FileNote) (ns : List FileNote) → x.notes ≡ n ∷ ns → (more : List FileNote) × ((next_effects k x).notes ≡ n ∷ more)
nexts_start zero x n ns e = (ns, e)
nexts_start (suc k) x n ns e =
    let s = effect_starts x.work.calls Next x n ns e in nexts_start k (first_effect x.work.calls Next x) n s.0 s.1

-- The first note is of the first call, and tells that it took effect, or had a turn.
pub first_note : (k : ℕ) (a : FileRequest) (calls : List FileRequest) (x : FileStep) → x.notes ≡ [] → x.work.calls ≡ a ∷ calls
    → (n : FileNote) × ((ns : List FileNote) × (((calls_completed k x).notes ≡ n ∷ ns) × (begins_next (file_line n ∷ []) ≡ false)))
first_note zero a calls x none e =
    (had_turn a, ([], (ap (λ l. (turned l x).notes) e ∙ ap (λ n. n ++ had_turn a ∷ []) none, refl)))
first_note (suc k) a calls x none e =
    let note = took_effect a Finished (file_effect a.call x.work.bytes x.work.system).reply in
    let first : (first_effect x.work.calls Finished x).notes ≡ note ∷ [] =
    ap (λ l. (first_effect l Finished x).notes) e ∙ ap (λ n. n ++ note ∷ []) none in
    let s = nexts_start k (first_effect x.work.calls Finished x) note [] first in
    (note, (s.0, (s.1, refl)))

-- whether lines begin so is seen from the first
by_moment : (m : FileMoment) (p : ℕ) (more : List TranscriptLine) → begins_next (File p m ∷ []) ≡ false → begins_next (File p m ∷ more) ≡ false
by_moment Turn p more e = refl
by_moment Finished p more e = refl
by_moment Next p more e = cc

-- The lines of a completion don't begin with a call that took effect as the next one.
pub completed_no_next : (calls : List FileRequest) (c : ℕ) (s : Xinu) → (files_of s).calls ≡ calls → begins_next (completed_in calls c s).lines ≡ false
completed_no_next [] c s e = refl
completed_no_next (a ∷ calls) c s e =
    let k = least_effects (a ∷ calls) (files_of s) + c in
    let x = calls_completed k (file_step s) in
    let n = first_note k a calls (file_step s) refl e in
    begins n.0 n.1.0 x.notes (map return_line (replies_of (completing x s))) (switched s.tables.current (closed (completing x s)).current) n.1.1.0 n.1.1.1
  where
    begins : (n : FileNote) (ns notes : List FileNote) (replies end : List TranscriptLine) → notes ≡ n ∷ ns → begins_next (file_line n ∷ []) ≡ false
        → begins_next ((note_lines notes ++ replies) ++ end) ≡ false
    begins n ns notes replies end is first =
        ap (λ l. begins_next ((note_lines l ++ replies) ++ end)) is ∙ by_moment n.moment (unwrap_or n.caller 0) ((note_lines ns ++ replies) ++ end) first

-- nothing comes to RAM from a call that brings nothing
pub nothing_brought : (caller : Option ℕ) (at : ℕ) (memory : List ℕ) → copied caller at [] memory ≡ memory
nothing_brought None at memory = refl
nothing_brought (Some p) at memory =
    let same : at + 0 ≡ at = omega arith in
    ap (λ l. l ++ drop (at + 0) memory) (append-nil (take at memory)) ∙ ap (λ n. take at memory ++ drop n memory) same
    ∙ take-append-drop at memory

-- at most one has to take effect
pub one_at_most : (calls : List FileRequest) (w : FileWork) → least_effects calls w ≤ 1
one_at_most [] w = omega arith
one_at_most (a ∷ calls) w = cond_both (nat_lt (w.turns + 1) (most_turns a.call w.system)) 0 1 (λ n. n ≤ 1) (λ _. omega arith) (λ _. omega arith)
