-- A run with enough completions tells that a call on files took effect.
use Rattle.std.proofs.Common.{◌≡◌, ◌⊎◌, inl, inr, ⊎_elim, ℕ, ◌≤◌, true, List, [], ◌∷◌, ◌++◌, Option, Some, None, sym, ap, subst, ◌∙◌, arith}
use Rattle.std.specs.List.{list_any}
use Rattle.std.proofs.lemmas.Bool.{or_left, or_right}
use Rattle.std.proofs.lemmas.List.Folds.{list_any-append}
use Rattle.xinu_base.specs.declared.events.End.{End}
use Rattle.xinu_base.specs.declared.events.End.TheVariants.{Schedule}
use Rattle.xinu_base.specs.declared.events.Event.{Event}
use Rattle.xinu_base.specs.declared.lines.TranscriptLine.{TranscriptLine}
use Rattle.xinu_model.specs.Events.{panics_in}
use Rattle.xinu_model.specs.Files.Syscalls.{files_of}
use Rattle.xinu_model.specs.Machine.{Xinu}
use Rattle.xinu_model.specs.Runs.{is_over, end_with, Follows, RunsTo}
use Rattle.xinu_model.specs.Sound.State.{IsSound}
use Rattle.xinu_laws.proofs.Preserve.Events.{sound_happens}
use Rattle.bounded_waits.specs.Completions.{file_completions, in_all}
use Rattle.bounded_waits.specs.Ends.{tells_effect, kills, EndsFiles}
use Rattle.bounded_waits.specs.Places.{waits_for_files, completions_left}
use Rattle.bounded_waits.proofs.Comings.{not_by_schedule, some_completion_left}
use Rattle.bounded_waits.proofs.Costs.{Nearer}
use Rattle.bounded_waits.proofs.FileEvents.{files_event}

module _ (p : ℕ) where
  -- these lines tell that p's call took effect, or that p was killed
  abbrev Tell : List TranscriptLine → Type 0
  Tell lines = (list_any (tells_effect p) lines ≡ true) ⊎ (list_any (kills p) lines ≡ true)

  told_before : (first rest : List TranscriptLine) → Tell first → Tell (first ++ rest)
  told_before first rest t =
      ⊎_elim (λ (f : list_any (tells_effect p) first ≡ true). inl (list_any-append (tells_effect p) first rest ∙ or_left (list_any (tells_effect p) first) _ f))
      (λ (f : list_any (kills p) first ≡ true). inr (list_any-append (kills p) first rest ∙ or_left (list_any (kills p) first) _ f)) t

  told_after : (first rest : List TranscriptLine) → Tell rest → Tell (first ++ rest)
  told_after first rest t =
      ⊎_elim (λ (f : list_any (tells_effect p) rest ≡ true). inl (list_any-append (tells_effect p) first rest ∙ or_right (list_any (tells_effect p) first) _ f))
      (λ (f : list_any (kills p) rest ≡ true). inr (list_any-append (kills p) first rest ∙ or_right (list_any (kills p) first) _ f)) t

  told_by_end : (first : List TranscriptLine) (s : Xinu) → EndsFiles p first s → Tell first
  told_by_end first s e = ⊎_elim (λ f. inl f.0) (λ f. inr f) e

  -- the first event tells it
  told_first : (how : Option End) (Rest : List TranscriptLine → Type 0) (first lines : List TranscriptLine) (mid new : Xinu) (end : End) → Tell first
      → Follows how Rest first lines mid new end → Tell lines
  told_first (Some how) Rest first lines mid new end t f = subst Tell (sym f.0) t
  told_first None Rest first lines mid new end t f = subst Tell (sym f.2) (told_before first f.0 t)

  -- the rest of the run tells it, since there is one
  told_later : (how : Option End) (Rest : List TranscriptLine → Type 0) (first lines : List TranscriptLine) (mid new : Xinu) → (how ≡ Some Schedule → ⊥)
      → ((rest : List TranscriptLine) → Rest rest → Tell rest) → Follows how Rest first lines mid new Schedule → Tell lines
  told_later (Some how) Rest first lines mid new none go f = absurd (none (ap Some (sym f.2)))
  told_later None Rest first lines mid new none go f = subst Tell (sym f.2) (told_after first f.0 (go f.0 f.1))

  -- So a run tells it that has enough completions, and that its schedule ends.
  pub run_tells : (events : List Event) (old : Xinu) (lines : List TranscriptLine) (new : Xinu) → IsSound old → waits_for_files p (files_of old) ≡ true
      → RunsTo old events lines new Schedule → completions_left p (files_of old) ≤ in_all file_completions events → Tell lines
  run_tells [] old lines new k h r enough = let some = some_completion_left p old k in absurd (omega (arith, some, enough))
  run_tells (e ∷ events) old lines new k h r enough =
      let mid = r.0 in
      let first = r.1 in
      let how = end_with (panics_in old e) (is_over mid) in
      let Rest : List TranscriptLine → Type 0 = λ rest. RunsTo mid events rest new Schedule in
      ⊎_elim (λ (f : EndsFiles p first mid). told_first how Rest first lines mid new Schedule (told_by_end first mid f) r.3)
      (λ (f : Nearer p (file_completions e) (files_of old) (files_of mid)).
      let less = f.1 in
      told_later how Rest first lines mid new (not_by_schedule (panics_in old e) (is_over mid))
      (λ rest run. run_tells events mid rest new (sound_happens old e first mid k r.2) f.0 run (omega (arith, less, enough))) r.3)
      (files_event p old e first mid k h r.2)
