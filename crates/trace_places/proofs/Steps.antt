-- A step in which a call on files is made: the line of the call comes first, whether it waits or takes effect as it is made.
use Rattle.std.proofs.Common.{◌≡◌, ◌≢◌, ◌⊎◌, ◌==◌, ℕ, zero, suc, ◌≤◌, false, if◌then◌else◌, List, [], ◌∷◌, ◌++◌, Option, Some, None, refl, sym, ap, ◌∙◌, subst, inl, inr}
use Rattle.std.specs.Prelude.{is_some}
use Rattle.std.proofs.lemmas.Bool.{cond_both}
use Rattle.xinu_base.specs.declared.events.Event.TheVariants.{Step}
use Rattle.xinu_base.specs.declared.lines.TranscriptLine.{TranscriptLine}
use Rattle.xinu_base.specs.declared.registers.Outcome.{Outcome}
use Rattle.xinu_base.specs.declared.registers.Outcome.TheVariants as outcome
use Rattle.xinu_laws.proofs.FileSyscalls.AtOnce.{next_is}
use Rattle.xinu_laws.proofs.FileSyscalls.Chosen.{exit_none, touched_files}
use Rattle.xinu_laws.proofs.Touches.Continued.{continued_touches}
use Rattle.xinu_model.specs.Agree.{begins_next}
use Rattle.xinu_model.specs.Calls.{continued}
use Rattle.xinu_model.specs.Events.{call_line, call_of, effect_of, instruction_step, is_done, next_file_call, reacted, step_with, stepped, with_executed}
use Rattle.xinu_model.specs.Files.Syscalls.{files_of}
use Rattle.xinu_model.specs.Files.Work.{FileRequest}
use Rattle.xinu_model.specs.Isa.Exec.{exec}
use Rattle.xinu_model.specs.Machine.{Xinu, EventResult, current_hart, end_of_event, nothing_happens}
use Rattle.xinu_model.specs.Sound.State.{IsSound}
use Rattle.xinu_model.specs.Tables.{process_at}
use Rattle.xinu_model.specs.Text.{text}
use Rattle.transcript_laws.specs.Choices.{says_done, step_told, told}
use Rattle.transcript_laws.proofs.Texts.{text_append}
use Rattle.transcript_laws.proofs.Told.{tells}
use Rattle.trace_places.proofs.Fronts.{IsFront, says_same}

-- the machine after the instruction of a step, and the line of the call that it makes
abbrev after : Xinu → Xinu
after s = with_executed (exec (current_hart s) s.memory) s

abbrev call_made : Xinu → TranscriptLine
call_made s = call_line (after s) (call_of (current_hart (after s)))

-- lines with that of the call first
abbrev BeginsWith : TranscriptLine → List TranscriptLine → Type 0
BeginsWith l lines = (tail : List TranscriptLine) × (lines ≡ l ∷ tail)

-- A step in which a call on files is made and waits.
stepped_begins : (s : Xinu) (a : FileRequest) → IsSound s → next_file_call s ≡ Some a → BeginsWith (call_made s) (stepped s).lines
stepped_begins s a k made =
    let left = (process_at s.tables s.tables.current).rest in
    let goes_on = end_of_event s.tables.current [] (continued left s) in
    let m = next_is s a made in
    let some : (files_of (stepped s).state).calls ≢ [] = λ none. (let f : a ∷ m.more ≡ [] = sym m.is ∙ none in absurd (cc)) in
    let P : EventResult → Type 0 = λ x. (files_of x.state).calls ≢ [] → BeginsWith (call_made s) x.lines in
    (cond_both (s.tables.current == 0) (nothing_happens s) (if is_done left then instruction_step s else goes_on) P
    (λ _ n. absurd (n m.none))
    (λ _. cond_both (is_done left) (instruction_step s) goes_on P
    (λ _. by_outcome (exec (current_hart s) s.memory).outcome m.none)
    (λ _ n. absurd (n (ap (λ w. w.calls) ((continued_touches left s k).parts.devices.files (touched_files left)) ∙ m.none)))))
    some
  where
    by_outcome : (o : Outcome) → (files_of s).calls ≡ [] → (files_of (reacted o (after s)).state).calls ≢ []
        → BeginsWith (call_made s) (reacted o (after s)).lines
    by_outcome outcome.Went e n = absurd (n e)
    by_outcome outcome.Call e n = (_, refl)
    by_outcome outcome.Exit e n = absurd (n (exit_none (after s) e))
    by_outcome (outcome.Trap cause) e n = absurd (n (exit_none (after s) e))

-- Whatever is chosen in it.
step_begins : (c : ℕ) (s : Xinu) (a : FileRequest) → IsSound s → next_file_call s ≡ Some a → BeginsWith (call_made s) (step_with c (Some a) s).lines
step_begins zero s a k made = stepped_begins s a k made
step_begins (suc c) s a k made = (_, refl)

-- the first of lines that begin alike
first_alike : (l b : TranscriptLine) (f m lines more : List TranscriptLine) → BeginsWith b lines → l ∷ (f ++ m) ≡ lines ++ more → l ≡ b
first_alike l b f m lines more begins e =
    let whole : l ∷ (f ++ m) ≡ b ∷ (begins.0 ++ more) = e ∙ ap (λ x. x ++ more) begins.1 in cc

-- What begins the lines of a step begins those of the step that a text with them tells, or that is the same.
step_front : (c : ℕ) (found : Option FileRequest) (s : Xinu) (f m more : List TranscriptLine) (d : List ℕ) → IsSound s → next_file_call s ≡ found
    → c ≤ (if is_some found then 1 else 0) → begins_next more ≡ false → f ++ m ≡ (step_with c found s).lines ++ more
    → (IsFront f (step_with (step_told found (text f ++ d)) found s).lines)
    ⊎ (step_with (step_told found (text f ++ d)) found s ≡ step_with c found s)
step_front zero None s f m more d k made may none e = inr refl
step_front (suc c) None s f m more d k made may none e = inr refl
step_front c (Some a) s [] m more d k made may none e = inl ((step_with (step_told (Some a) d) (Some a) s).lines, refl)
step_front c (Some a) s (l ∷ []) m more d k made may none e =
    let x = step_with (step_told (Some a) (text (l ∷ []) ++ d)) (Some a) s in
    let same = first_alike l (call_made s) [] m (step_with c (Some a) s).lines more (step_begins c s a k made) e in
    let b = step_begins (step_told (Some a) (text (l ∷ []) ++ d)) s a k made in
    inl (b.0, b.1 ∙ ap (λ h. h ∷ b.0) (sym same))
step_front c (Some a) s (l ∷ second ∷ f) m more d k made may none e =
    let u = after s in
    let same = first_alike l (call_made s) (second ∷ f) m (step_with c (Some a) s).lines more (step_begins c s a k made) e in
    let ours = l ∷ second ∷ f in
    let says : says_done (text ours ++ d) ≡ says_done (text ours ++ text m) =
    subst (λ (h : TranscriptLine). says_done (text (h ∷ second ∷ f) ++ d) ≡ says_done (text (h ∷ second ∷ f) ++ text m)) (sym same)
    (says_same u.tables.current (call_of (current_hart u)) second f d (text m)) in
    let whole : text ours ++ text m ≡ text ((step_with c (Some a) s).lines ++ more) = sym (text_append ours m) ∙ ap text e in
    let told_same : step_told (Some a) (text ours ++ d) ≡ step_told (Some a) (text ((step_with c (Some a) s).lines ++ more)) =
    ap (λ b. if b then 1 else 0) (says ∙ ap says_done whole) in
    inr (ap (λ n. step_with n (Some a) s) told_same ∙ right c a made may)
  where
    right : (c : ℕ) (a : FileRequest) → next_file_call s ≡ Some a → c ≤ 1
        → step_with (step_told (Some a) (text ((step_with c (Some a) s).lines ++ more))) (Some a) s ≡ step_with c (Some a) s
    right c a made may =
        let P : Option FileRequest → Type 0 = λ o. c ≤ (if is_some o then 1 else 0)
        → step_with (step_told o (text ((step_with c o s).lines ++ more))) o s ≡ step_with c o s in
        subst P made (λ fits. tells.right s Step c more k fits none) may

pub step_fronts : (c : ℕ) (s : Xinu) (f m more : List TranscriptLine) (d : List ℕ) → IsSound s
    → c ≤ (if is_some (next_file_call s) then 1 else 0) → begins_next more ≡ false → f ++ m ≡ (effect_of s Step c).lines ++ more
    → (IsFront f (effect_of s Step (told s Step (text f ++ d))).lines)
    ⊎ (effect_of s Step (told s Step (text f ++ d)) ≡ effect_of s Step c)
step_fronts c s f m more d k may none e = step_front c (next_file_call s) s f m more d k refl may none e
