-- The event in which the disk with files completes well, by what the code has of it.
use Rattle.std.proofs.Common.{◌≡◌, ◌∙◌, ◌+◌, ◌++◌, ℕ, true, List, [], map, Result, sym, ap, subst}
use Rattle.std.specs.Prelude.{IfOk}
use Rattle.reference_state.specs.Happened.{happened}
use Rattle.reference_state.specs.declared.ending.Happened.{Happened}
use Rattle.reference_check.proofs.Chosen.{completed_is}
use Rattle.xinu_base.specs.declared.lines.TranscriptLine.{TranscriptLine}
use Rattle.xinu_model.specs.Files.Rest.{are_calls}
use Rattle.xinu_model.specs.Files.Syscalls.{after_step, all_told, file_line, file_step, files_complete, files_of, with_step}
use Rattle.xinu_model.specs.Files.Work.{FileNote, FileStep, calls_completed, least_effects}
use Rattle.xinu_model.specs.Machine.{CallResult, CallState, Silent, Xinu, end_of_event, start}

-- what came of calls is answered to nobody
abbrev silent : CallState → CallResult
silent d = record { call = d; answer = Silent }

-- Some calls took effect, or the first had a turn: the lines of that, the callers are told, and the event ends.
pub completes : {E : Type 0} (choice effects was : ℕ) (notes : List FileNote) (none first : List TranscriptLine) (d d1 d2 : CallState)
    (r : Result Happened E) (u : Xinu) → d ≡ start d.state → are_calls (files_of d.state).calls ≡ true → was ≡ d.state.tables.current
    → effects ≡ least_effects (files_of d.state).calls (files_of d.state) + choice
    → d1 ≡ record d { state = with_step (calls_completed effects (file_step d.state)) d.state }
    → notes ≡ (calls_completed effects (file_step d.state)).notes → none ≡ [] → first ≡ none ++ map file_line notes → d2 ≡ all_told notes d1
    → IfOk r (λ h. happened h u ≡ end_of_event was first (silent d2)) → IfOk r (λ h. happened h u ≡ files_complete choice d.state)
completes choice effects was notes none first d d1 d2 r u begins some runs most step noted empty lines told ends =
    let s = d.state in
    let y : FileStep = calls_completed (least_effects (files_of s).calls (files_of s) + choice) (file_step s) in
    let same : calls_completed effects (file_step s) ≡ y = ap (λ n. calls_completed n (file_step s)) most in
    let notes_are : notes ≡ y.notes = noted ∙ ap (λ (z : FileStep). z.notes) same in
    let first_is : first ≡ map file_line y.notes =
    lines ∙ ap (λ (l : List TranscriptLine). l ++ map file_line notes) empty ∙ ap (λ l. map file_line l) notes_are in
    let step_is : d1 ≡ start (with_step y s) =
    step ∙ ap (λ (z : FileStep). record d { state = with_step z s }) same ∙ ap (λ (w : CallState). record w { state = with_step y s }) begins in
    let after : d2 ≡ after_step y s = told ∙ ap (λ l. all_told l d1) notes_are ∙ ap (λ (w : CallState). all_told y.notes w) step_is in
    let is : end_of_event was first (silent d2) ≡ files_complete choice s =
    ap (λ p. end_of_event p first (silent d2)) runs ∙ ap (λ l. end_of_event s.tables.current l (silent d2)) first_is
    ∙ ap (λ (w : CallState). end_of_event s.tables.current (map file_line y.notes) (silent w)) after
    ∙ sym (completed_is choice s (files_of s).calls some) in
    subst (λ x. IfOk r (λ h. happened h u ≡ x)) is ends
