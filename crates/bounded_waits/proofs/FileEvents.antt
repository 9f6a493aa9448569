-- What each event does to a call on files: a good completion brings its effect nearer, and no event puts it off.
use Rattle.std.proofs.Common.{◌≡◌, ◌⊎◌, inl, inr, ⊎_elim, ℕ, ◌+◌, true, false, map, List, [], ◌∷◌, ◌++◌, Option, Some, None, ℤ, refl, sym, ap, subst, ◌∙◌}
use Rattle.std.specs.List.{list_any}
use Rattle.std.proofs.lemmas.Bool.{or_left, or_right, true≢false}
use Rattle.std.proofs.lemmas.List.Folds.{list_any-append}
use Rattle.xinu_base.specs.declared.events.Event.{Event}
use Rattle.xinu_base.specs.declared.events.Event.TheVariants.{Step, Tick, Key, Tx, Disk0, Disk1, Fail0, Fail1, Dump}
use Rattle.xinu_base.specs.declared.lines.TranscriptLine.{TranscriptLine}
use Rattle.xinu_base.specs.declared.lines.TranscriptLine.TheVariants as line
use Rattle.xinu_model.specs.Clock.{ticked}
use Rattle.xinu_model.specs.Console.Signals.{keyed}
use Rattle.xinu_model.specs.Console.Taking.{console_of}
use Rattle.xinu_model.specs.Console.Transmitting.{transmitted}
use Rattle.xinu_model.specs.Events.{next_file_call, effect_of, Happens}
use Rattle.xinu_model.specs.Files.Syscalls.{files_of, file_step, with_step, file_line, told, all_told, completing, completed_in}
use Rattle.xinu_model.specs.Files.Work.{FileRequest, FileNote, calls_completed, least_effects}
use Rattle.xinu_model.specs.Machine.{Xinu, CallState, CallResult, EventResult, start, replies_of, return_line, switched, closed, end_of_event}
use Rattle.xinu_model.specs.RawDisk.Calls.{disk_of, reply_kept, served_in}
use Rattle.xinu_model.specs.RawDisk.Completions.{Served, raw_completed}
use Rattle.xinu_model.specs.Sound.State.{IsSound}
use Rattle.xinu_model.proofs.FileOutcomes.{notes_append}
use Rattle.xinu_laws.proofs.FileSyscalls.Answered.{callers_are_told}
use Rattle.bounded_waits.specs.Completions.{file_completions}
use Rattle.bounded_waits.specs.Ends.{tells_effect, IsKilled, HasAnswer, EndsFiles}
use Rattle.bounded_waits.specs.Places.{has_one, waits_for_files}
use Rattle.bounded_waits.proofs.Costs.{Nearer}
use Rattle.bounded_waits.proofs.Goes.{Goes, goes_step_with, goes_sent, goes_keyed, goes_ticked}
use Rattle.bounded_waits.proofs.Kept.{caller_of, Keeps, files_same}
use Rattle.bounded_waits.proofs.Rests.{rests_closed}
use Rattle.bounded_waits.proofs.Served.{IsTold, completed_nearer}

module _ (p : ℕ) where
  -- the caller of a request is told, which is no call on files
  told_files : (caller : Option ℕ) (reply : ℤ) (d : CallState) → files_of (reply_kept caller reply d).state ≡ files_of d.state
  told_files None reply d = refl
  told_files (Some q) reply d = refl

  -- what is told of a call on files is among the lines of the event
  told_line : (notes : List FileNote) (was : ℕ) (h : CallResult) → IsTold p notes
      → list_any (tells_effect p) (end_of_event was (map file_line notes) h).lines ≡ true
  told_line notes was h t =
      let note : FileNote = record { caller = Some p; moment = t.moment; reply = Some t.reply } in
      let replies = map return_line (replies_of h) in
      let end = switched was (closed h).current in
      let first : list_any (tells_effect p) (map file_line notes) ≡ true =
      ap (λ n. list_any (tells_effect p) (map file_line n)) t.is
      ∙ ap (list_any (tells_effect p)) (notes_append t.earlier (note ∷ t.later))
      ∙ list_any-append (tells_effect p) (map file_line t.earlier) (map file_line (note ∷ t.later))
      ∙ or_right (list_any (tells_effect p) (map file_line t.earlier)) _ (or_left (tells_effect p (line.File p t.moment)) _ t.tells) in
      list_any-append (tells_effect p) (map file_line notes ++ replies) end
      ∙ or_left (list_any (tells_effect p) (map file_line notes ++ replies)) _
      (list_any-append (tells_effect p) (map file_line notes) replies ∙ or_left (list_any (tells_effect p) (map file_line notes)) _ first)

  -- a good completion of the files' disk
  completed : (calls_ : List FileRequest) (choice : ℕ) (s : Xinu) → (files_of s).calls ≡ calls_ → IsSound s → waits_for_files p (files_of s) ≡ true
      → EndsFiles p (completed_in calls_ choice s).lines (completed_in calls_ choice s).state
      ⊎ Nearer p 1 (files_of s) (files_of (completed_in calls_ choice s).state)
  completed [] choice s e k h = absurd (true≢false (sym h ∙ ap (has_one caller_of p) e))
  completed (a ∷ calls_) choice s e k h =
      let n = least_effects (a ∷ calls_) (files_of s) + choice in
      let x = calls_completed n (file_step s) in
      let result = completing x s in
      ⊎_elim
      (λ (t : IsTold p x.notes). let kept : HasAnswer p (completed_in (a ∷ calls_) choice s).state =
      (t.reply, rests_closed result p ∙ (callers_are_told n p t.moment t.reply t.earlier t.later s k t.is).1) in
      inl (inl (told_line x.notes s.tables.current result t, kept)))
      (λ (f : Nearer p 1 (files_of s) x.work). inr (all_told_files x.notes (start (with_step x s)) f))
      (completed_nearer p n (file_step s) k.devices.files.itself h)
    where
      all_told_files : (notes : List FileNote) (d : CallState) → Nearer p 1 (files_of s) (files_of d.state)
          → Nearer p 1 (files_of s) (files_of (all_told notes d).state)
      all_told_files [] d f = f
      all_told_files (n ∷ notes) d f = all_told_files notes (told n.reply n.caller d) (by_reply n.reply n.caller)
        where
          by_reply : (reply : Option ℤ) (caller : Option ℕ) → Nearer p 1 (files_of s) (files_of (told reply caller d).state)
          by_reply None caller = f
          by_reply (Some reply) None = f
          by_reply (Some reply) (Some q) = f

  -- so each event
  of_goes : (s : Xinu) (x : EventResult) → waits_for_files p (files_of s) ≡ true → Goes p s x
      → EndsFiles p x.lines x.state ⊎ Nearer p 0 (files_of s) (files_of x.state)
  of_goes s x h g = ⊎_elim (λ (f : IsKilled p x.lines). inl (inr f)) (λ (f : Keeps p s x.state). inr (f.files h)) g

  -- a completion of the raw disk changes no files
  served_files : (found : Option Served) (s : Xinu) → files_of (served_in found s).state ≡ files_of s
  served_files None s = refl
  served_files (Some x) s = told_files x.request.caller x.reply _

  files_effect : (s : Xinu) (e : Event) (choice : ℕ) → IsSound s → waits_for_files p (files_of s) ≡ true
      → (let x = effect_of s e choice in
      EndsFiles p x.lines x.state ⊎ Nearer p (file_completions e) (files_of s) (files_of x.state))
  files_effect s Step choice k h = of_goes s (effect_of s Step choice) h (goes_step_with p choice (next_file_call s) s refl k)
  files_effect s Tick choice k h = of_goes s (ticked s) h (goes_ticked p s k)
  files_effect s (Key b) choice k h = of_goes s (keyed b s) h (goes_keyed p b s k)
  files_effect s Tx choice k h = of_goes s (effect_of s Tx choice) h (goes_sent p (transmitted (console_of s)) s refl k)
  files_effect s Disk0 choice k h = inr (files_same p (files_of s) _ (served_files (raw_completed true (disk_of s)) s) h)
  files_effect s Fail0 choice k h = inr (files_same p (files_of s) _ (served_files (raw_completed false (disk_of s)) s) h)
  files_effect s Disk1 choice k h = completed (files_of s).calls choice s refl k h
  files_effect s Fail1 choice k h = inr (files_same p (files_of s) (files_of s) refl h)
  files_effect s Dump choice k h = inr (files_same p (files_of s) (files_of s) refl h)

  -- What an event does to a call on files.
  pub files_event : (old : Xinu) (e : Event) (lines : List TranscriptLine) (new : Xinu) → IsSound old → waits_for_files p (files_of old) ≡ true
      → Happens old e lines new → EndsFiles p lines new ⊎ Nearer p (file_completions e) (files_of old) (files_of new)
  files_event old e lines new k h one =
      let P : EventResult → Type 0 = λ x. EndsFiles p x.lines x.state ⊎ Nearer p (file_completions e) (files_of old) (files_of x.state) in
      subst P one.effect (files_effect old e one.choice k h)
