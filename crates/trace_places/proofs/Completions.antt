-- A good completion of the disk with files: the calls that take effect come first, each with its line.
use Rattle.std.proofs.Common.{◌≡◌, ◌⊎◌, ℕ, zero, suc, ◌+◌, ◌-◌, ◌≤◌, false, if◌then◌else◌, List, [], ◌∷◌, ◌++◌, map, length, drop, refl, sym, ap, ◌∙◌, subst, inl, inr, ⊎_elim, append_assoc, append-nil, arith}
use Rattle.std.specs.Prelude.{unwrap_or}
use Rattle.std.proofs.lemmas.Bool.{cond_both}
use Rattle.xinu_base.specs.declared.events.Event.TheVariants.{Disk1}
use Rattle.xinu_base.specs.declared.lines.FileMoment.TheVariants.{Finished, Next, Turn}
use Rattle.xinu_base.specs.declared.lines.TranscriptLine.{TranscriptLine}
use Rattle.xinu_base.specs.declared.lines.TranscriptLine.TheVariants as line
use Rattle.xinu_model.proofs.FileOutcomes.{note_lines, notes_append, least_le, first_calls}
use Rattle.xinu_model.specs.Agree.{begins_next}
use Rattle.xinu_model.specs.Events.{effect_of}
use Rattle.xinu_model.specs.Files.Calls.{file_effect}
use Rattle.xinu_model.specs.Files.Syscalls.{completed_in, completing, file_step, files_of}
use Rattle.xinu_model.specs.Files.Work.{FileRequest, FileStep, calls_completed, first_effect, least_effects, next_effects, took_effect, turned}
use Rattle.xinu_model.specs.Machine.{Xinu, closed, end_of_event, replies_of, return_line, switched}
use Rattle.xinu_model.specs.Text.{line_text, text}
use Rattle.transcript_laws.specs.Choices.{effects_told, moment_text, nexts_told, told}
use Rattle.transcript_laws.specs.Reading.{starts_with}
use Rattle.transcript_laws.proofs.LineStarts.{turn_apart}
use Rattle.transcript_laws.proofs.Texts.{rest_of, starts}
use Rattle.trace_places.proofs.Fronts.{IsFront, other_line}
use Rattle.transcript_laws.proofs.Told.{end_begins, nexts_most}

-- the lines of this many calls, each of which took effect as the next one
abbrev nexts : ℕ → List FileRequest → List TranscriptLine
nexts zero calls = []
nexts (suc k) [] = []
nexts (suc k) (a ∷ calls) = line.File (unwrap_or a.caller 0) Next ∷ nexts k calls

-- the lines of a completion with which this many calls take effect
abbrev lead : ℕ → FileRequest → List FileRequest → List TranscriptLine
lead zero a calls = line.File (unwrap_or a.caller 0) Turn ∷ []
lead (suc k) a calls = line.File (unwrap_or a.caller 0) Finished ∷ nexts k calls

-- the lines of fewer begin those of more
nexts_more : (j k : ℕ) (calls : List FileRequest) → j ≤ k → IsFront (nexts j calls) (nexts k calls)
nexts_more zero k calls h = (nexts k calls, refl)
nexts_more (suc j) zero calls h = absurd (omega (arith, h))
nexts_more (suc j) (suc k) [] h = ([], refl)
nexts_more (suc j) (suc k) (a ∷ calls) h =
    let i = nexts_more j k calls (omega (arith, h)) in (i.0, ap (λ l. line.File (unwrap_or a.caller 0) Next ∷ l) i.1)

-- A text that begins with lines of a completion tells its calls, or the lines are those of no more calls than it tells.
nexts_front : (k : ℕ) (calls : List FileRequest) (f m tail : List TranscriptLine) (d : List ℕ) → k ≤ length calls
    → f ++ m ≡ nexts k calls ++ tail → begins_next tail ≡ false
    → (nexts_told calls (text f ++ d) ≡ k) ⊎ ((j : ℕ) × ((j ≤ nexts_told calls (text f ++ d)) × (f ≡ nexts j calls)))
nexts_front k calls [] m tail d few e none = inr (0, (omega arith, refl))
nexts_front zero [] (l ∷ f) m tail d few e none = inl refl
nexts_front (suc k) [] (l ∷ f) m tail d few e none = absurd (omega (arith, few))
nexts_front zero (a ∷ calls) (l ∷ f) m tail d few e none =
    let other : begins_next (l ∷ (f ++ m)) ≡ false = subst (λ (x : List TranscriptLine). begins_next x ≡ false) (sym e) none in
    let next = moment_text Next a in
    inl (ap (λ r. if starts_with next r then suc (nexts_told calls (drop (length next) r)) else 0) (append_assoc (line_text l) (text f) d)
    ∙ ap (λ b. if b then suc (nexts_told calls (drop (length next) (line_text l ++ (text f ++ d)))) else 0) (other_line (unwrap_or a.caller 0) l (f ++ m) (text f ++ d) other))
nexts_front (suc k) (a ∷ calls) (l ∷ f) m tail d few e none =
    let mine = line.File (unwrap_or a.caller 0) Next in
    let same : l ≡ mine = cc in
    let rest : f ++ m ≡ nexts k calls ++ tail = cc in
    let i = nexts_front k calls f m tail d (omega (arith, few)) rest none in
    let one : nexts_told (a ∷ calls) (text (l ∷ f) ++ d) ≡ suc (nexts_told calls (text f ++ d)) =
    ap (λ h. nexts_told (a ∷ calls) (text (h ∷ f) ++ d)) same ∙ told_one in
    ⊎_elim (λ n. inl (one ∙ ap suc n))
    (λ j. inr (suc j.0, ((let h = j.1.0 in omega (arith, one, h)), ap (λ h. h ∷ f) same ∙ ap (λ x. mine ∷ x) j.1.1))) i
  where
    told_one : nexts_told (a ∷ calls) (text (line.File (unwrap_or a.caller 0) Next ∷ f) ++ d) ≡ suc (nexts_told calls (text f ++ d))
    told_one =
        let next = moment_text Next a in
        ap (λ r. if starts_with next r then suc (nexts_told calls (drop (length next) r)) else 0) (append_assoc next (text f) d)
        ∙ ap (λ b. if b then suc (nexts_told calls (drop (length next) (next ++ (text f ++ d)))) else 0) (starts next (text f ++ d))
        ∙ ap (λ r. suc (nexts_told calls r)) (rest_of next (text f ++ d))

-- the first call that took effect is told
told_first : (a : FileRequest) (calls : List FileRequest) (f : List TranscriptLine) (d : List ℕ)
    → effects_told (a ∷ calls) (text (line.File (unwrap_or a.caller 0) Finished ∷ f) ++ d) ≡ suc (nexts_told calls (text f ++ d))
told_first a calls f d =
    let first = moment_text Finished a in
    ap (λ r. if starts_with first r then suc (nexts_told calls (drop (length first) r)) else 0) (append_assoc first (text f) d)
    ∙ ap (λ b. if b then suc (nexts_told calls (drop (length first) (first ++ (text f ++ d)))) else 0) (starts first (text f ++ d))
    ∙ ap (λ r. suc (nexts_told calls r)) (rest_of first (text f ++ d))

-- a turn tells no call
told_turn : (a : FileRequest) (calls : List FileRequest) (f : List TranscriptLine) (d : List ℕ)
    → effects_told (a ∷ calls) (text (line.File (unwrap_or a.caller 0) Turn ∷ f) ++ d) ≡ 0
told_turn a calls f d =
    let first = moment_text Finished a in
    let turn = moment_text Turn a in
    ap (λ r. if starts_with first r then suc (nexts_told calls (drop (length first) r)) else 0) (append_assoc turn (text f) d)
    ∙ ap (λ b. if b then suc (nexts_told calls (drop (length first) (turn ++ (text f ++ d)))) else 0)
    (turn_apart (unwrap_or a.caller 0) (unwrap_or a.caller 0) (text f ++ d))

-- The same of a whole completion: the lines begin those of each with at least as many calls.
lead_front : (k : ℕ) (a : FileRequest) (calls : List FileRequest) (l : TranscriptLine) (f m tail : List TranscriptLine) (d : List ℕ)
    → k ≤ suc (length calls) → (l ∷ f) ++ m ≡ lead k a calls ++ tail → begins_next tail ≡ false
    → (effects_told (a ∷ calls) (text (l ∷ f) ++ d) ≡ k)
    ⊎ ((n : ℕ) → effects_told (a ∷ calls) (text (l ∷ f) ++ d) ≤ n → IsFront (l ∷ f) (lead n a calls))
lead_front zero a calls l f m tail d few e none =
    let same : l ≡ line.File (unwrap_or a.caller 0) Turn = cc in
    inl (ap (λ h. effects_told (a ∷ calls) (text (h ∷ f) ++ d)) same ∙ told_turn a calls f d)
lead_front (suc k) a calls l f m tail d few e none =
    let mine = line.File (unwrap_or a.caller 0) Finished in
    let same : l ≡ mine = cc in
    let rest : f ++ m ≡ nexts k calls ++ tail = cc in
    let i = nexts_front k calls f m tail d (omega (arith, few)) rest none in
    let one : effects_told (a ∷ calls) (text (l ∷ f) ++ d) ≡ suc (nexts_told calls (text f ++ d)) =
    ap (λ h. effects_told (a ∷ calls) (text (h ∷ f) ++ d)) same ∙ told_first a calls f d in
    ⊎_elim (λ n. inl (one ∙ ap suc n)) (λ j. inr (λ n h. longer n j.0 same j.1.1 (let g = j.1.0 in omega (arith, one, g, h)))) i
  where
    longer : (n j : ℕ) → l ≡ line.File (unwrap_or a.caller 0) Finished → f ≡ nexts j calls → suc j ≤ n → IsFront (l ∷ f) (lead n a calls)
    longer zero j same is h = absurd (omega (arith, h))
    longer (suc n) j same is h =
        let i = nexts_more j n calls (omega (arith, h)) in
        (i.0, ap (λ x. line.File (unwrap_or a.caller 0) Finished ∷ x) (i.1 ∙ ap (λ x. x ++ i.0) (sym is)) ∙ ap (λ h. h ∷ (f ++ i.0)) (sym same))

-- the notes of further effects
next_notes : (k : ℕ) (calls : List FileRequest) (x : FileStep) → x.work.calls ≡ calls → k ≤ length calls
    → note_lines (next_effects k x).notes ≡ note_lines x.notes ++ nexts k calls
next_notes zero calls x e h = sym (append-nil (note_lines x.notes))
next_notes (suc k) [] x e h = absurd (omega (arith, h))
next_notes (suc k) (a ∷ calls) x e h =
    let y = first_effect (a ∷ calls) Next x in
    let r = (file_effect a.call x.work.bytes x.work.system).reply in
    let i = next_notes k calls y (first_calls calls _ _) (omega (arith, h)) in
    ap (λ l. note_lines (next_effects k (first_effect l Next x)).notes) e ∙ i
    ∙ ap (λ l. l ++ nexts k calls) (notes_append x.notes (took_effect a Next r ∷ []))
    ∙ append_assoc (note_lines x.notes) (line.File (unwrap_or a.caller 0) Next ∷ []) (nexts k calls)

-- the notes of a completion
all_notes : (k : ℕ) (a : FileRequest) (calls : List FileRequest) (s : Xinu) → (files_of s).calls ≡ a ∷ calls → k ≤ suc (length calls)
    → note_lines (calls_completed k (file_step s)).notes ≡ lead k a calls
all_notes zero a calls s e few = ap (λ l. note_lines (turned l (file_step s)).notes) e
all_notes (suc k) a calls s e few =
    let w = file_step s in
    let y = first_effect (a ∷ calls) Finished w in
    ap (λ l. note_lines (next_effects k (first_effect l Finished w)).notes) e
    ∙ next_notes k calls y (first_calls calls _ _) (omega (arith, few))

-- what follows them
abbrev after_notes : ℕ → Xinu → List TranscriptLine
after_notes k s =
    let x = completing (calls_completed k (file_step s)) s in
    map return_line (replies_of x) ++ switched s.tables.current (closed x).current

-- the lines of a completion, from the notes on
completion_lines : (k : ℕ) (a : FileRequest) (calls : List FileRequest) (s : Xinu) → (files_of s).calls ≡ a ∷ calls → k ≤ suc (length calls)
    → (let x = calls_completed k (file_step s) in (end_of_event s.tables.current (note_lines x.notes) (completing x s)).lines) ≡ lead k a calls ++ after_notes k s
completion_lines k a calls s e few =
    let x = completing (calls_completed k (file_step s)) s in
    append_assoc (note_lines (calls_completed k (file_step s)).notes) (map return_line (replies_of x)) (switched s.tables.current (closed x).current)
    ∙ ap (λ l. l ++ after_notes k s) (all_notes k a calls s e few)

effects_most : (a : FileRequest) (calls : List FileRequest) (rest : List ℕ) → effects_told (a ∷ calls) rest ≤ suc (length calls)
effects_most a calls rest =
    let i = nexts_most calls (drop (length (moment_text Finished a)) rest) in
    cond_both (starts_with (moment_text Finished a) rest) (suc (nexts_told calls (drop (length (moment_text Finished a)) rest))) 0
    (λ n. n ≤ suc (length calls)) (λ _. omega (arith, i)) (λ _. omega arith)

-- What begins the lines of a completion begins those of the completion that a text with them tells, or that is the same.
completion_front : (calls : List FileRequest) (c : ℕ) (s : Xinu) (f m more : List TranscriptLine) (d : List ℕ) → (files_of s).calls ≡ calls
    → c ≤ length calls - least_effects calls (files_of s) → begins_next more ≡ false → f ++ m ≡ (completed_in calls c s).lines ++ more
    → (IsFront f (completed_in calls (effects_told calls (text f ++ d) - least_effects calls (files_of s)) s).lines)
    ⊎ (completed_in calls (effects_told calls (text f ++ d) - least_effects calls (files_of s)) s ≡ completed_in calls c s)
completion_front [] c s f m more d e may none same = inr refl
completion_front (a ∷ calls) c s [] m more d e may none same =
    inl ((completed_in (a ∷ calls) (effects_told (a ∷ calls) d - least_effects (a ∷ calls) (files_of s)) s).lines, refl)
completion_front (a ∷ calls) c s (l ∷ f) m more d e may none same =
    let low = least_effects (a ∷ calls) (files_of s) in
    let least = least_le (a ∷ calls) (files_of s) in
    let t = effects_told (a ∷ calls) (text (l ∷ f) ++ d) in
    let most = effects_most a calls (text (l ∷ f) ++ d) in
    let k = low + c in
    let few : k ≤ suc (length calls) = omega (arith, least, may) in
    let whole : (l ∷ f) ++ m ≡ lead k a calls ++ (after_notes k s ++ more) =
    same ∙ ap (λ x. x ++ more) (completion_lines k a calls s e few) ∙ append_assoc (lead k a calls) (after_notes k s) more in
    let x = completing (calls_completed k (file_step s)) s in
    let n = low + (t - low) in
    let enough : t ≤ n = omega arith in
    let fits : n ≤ suc (length calls) = omega (arith, least, most) in
    ⊎_elim (λ is. inr (ap (λ h. completed_in (a ∷ calls) h s) (let z : t - low ≡ c = omega (arith, is) in z)))
    (λ longer. let i = longer n enough in
    inl (i.0 ++ after_notes n s, completion_lines n a calls s e fits ∙ ap (λ y. y ++ after_notes n s) i.1 ∙ append_assoc (l ∷ f) i.0 (after_notes n s)))
    (lead_front k a calls l f m (after_notes k s ++ more) d few whole (end_begins (replies_of x) s.tables.current (closed x).current more none))

pub completion_fronts : (c : ℕ) (s : Xinu) (f m more : List TranscriptLine) (d : List ℕ)
    → c ≤ length (files_of s).calls - least_effects (files_of s).calls (files_of s) → begins_next more ≡ false
    → f ++ m ≡ (effect_of s Disk1 c).lines ++ more
    → (IsFront f (effect_of s Disk1 (told s Disk1 (text f ++ d))).lines)
    ⊎ (effect_of s Disk1 (told s Disk1 (text f ++ d)) ≡ effect_of s Disk1 c)
completion_fronts c s f m more d may none same = completion_front (files_of s).calls c s f m more d refl may none same
