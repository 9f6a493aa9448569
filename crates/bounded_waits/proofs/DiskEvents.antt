-- What each event does to a request of the raw disk: a completion brings its service nearer, and no event puts it off.
use Rattle.std.proofs.Common.{◌≡◌, ◌⊎◌, inl, inr, ⊎_elim, ℕ, suc, ◌+◌, Bool, true, false, ◌||◌, cond, List, [], ◌∷◌, Option, Some, None, ℤ, refl, sym, ap, subst, ◌∙◌, arith}
use Rattle.std.proofs.lemmas.Bool.{true≢false}
use Rattle.xinu_base.specs.declared.events.Event.{Event}
use Rattle.xinu_base.specs.declared.events.Event.TheVariants.{Step, Tick, Key, Tx, Disk0, Disk1, Fail0, Fail1, Dump}
use Rattle.xinu_base.specs.declared.lines.TranscriptLine.{TranscriptLine}
use Rattle.xinu_model.specs.Clock.{ticked}
use Rattle.xinu_model.specs.Console.Signals.{keyed}
use Rattle.xinu_model.specs.Console.Taking.{console_of}
use Rattle.xinu_model.specs.Console.Transmitting.{transmitted}
use Rattle.xinu_model.specs.Events.{next_file_call, effect_of, Happens}
use Rattle.xinu_model.specs.Files.Syscalls.{files_of, file_step, with_step, told, all_told, completed_in}
use Rattle.xinu_model.specs.Files.Work.{FileRequest, FileNote, calls_completed, least_effects}
use Rattle.xinu_model.specs.Machine.{Xinu, CallState, CallResult, EventResult, start}
use Rattle.xinu_model.specs.RawDisk.Calls.{disk_of, reply_kept, serving, served_in}
use Rattle.xinu_model.specs.RawDisk.Callers.{is_caller}
use Rattle.xinu_model.specs.RawDisk.Completions.{Served, raw_completed, first_served}
use Rattle.xinu_model.specs.RawDisk.Requests.{Request}
use Rattle.xinu_model.specs.Sound.State.{IsSound}
use Rattle.part_laws.proofs.RawDisks.Answered.{caller_is_told}
use Rattle.part_laws.proofs.RawDisks.Served.{serves_first}
use Rattle.bounded_waits.specs.Completions.{disk_completions}
use Rattle.bounded_waits.specs.Ends.{IsKilled, EndsDisk}
use Rattle.bounded_waits.specs.Places.{has_one, before, waits_for_disk}
use Rattle.bounded_waits.proofs.Goes.{Goes, goes_step_with, goes_sent, goes_keyed, goes_ticked}
use Rattle.bounded_waits.proofs.Kept.{asker_of, NearerDisk, Keeps, disk_same}
use Rattle.bounded_waits.proofs.Rests.{rests_closed}
use Rattle.bounded_waits.proofs.Served.{caller_is}

module _ (p : ℕ) where
  -- who is told of a reply asks for nothing
  told_disk : (caller : Option ℕ) (reply : ℤ) (d : CallState) → disk_of (reply_kept caller reply d).state ≡ disk_of d.state
  told_disk None reply d = refl
  told_disk (Some q) reply d = refl

  -- a request of the raw disk is served
  served : (good : Bool) (found : Option Served) (s : Xinu) → raw_completed good (disk_of s) ≡ found → IsSound s → waits_for_disk p (disk_of s) ≡ true
      → EndsDisk p (served_in found s).lines (served_in found s).state
      ⊎ NearerDisk p 1 (disk_of s) (disk_of (served_in found s).state)
  served good None s e k h = none_left (disk_of s).requests refl e
    where
      none_left : (l : List Request) → (disk_of s).requests ≡ l → first_served good l (disk_of s) ≡ None
          → EndsDisk p [] s ⊎ NearerDisk p 1 (disk_of s) (disk_of s)
      none_left [] same f = absurd (true≢false (sym h ∙ ap (has_one asker_of p) same))
      none_left (r ∷ l) same f = absurd (cc)
  served good (Some x) s e k h =
      let first = (serves_first good (disk_of s) x e).first in
      by_caller (is_caller p x.request.caller) refl (ap (has_one asker_of p) (sym first) ∙ h)
    where
      result : CallResult
      result = serving x s

      mine : is_caller p x.request.caller ≡ true → EndsDisk p (served_in (Some x) s).lines (served_in (Some x) s).state
      mine f = inl (x.reply, rests_closed result p ∙ (caller_is_told good x p s k e (caller_is p x.request.caller f)).1)

      other : has_one asker_of p x.disk.requests ≡ true → before asker_of p (disk_of s).requests ≡ suc (before asker_of p x.disk.requests)
          → NearerDisk p 1 (disk_of s) (disk_of (served_in (Some x) s).state)
      other f less =
          subst (NearerDisk p 1 (disk_of s)) (sym (told_disk x.request.caller x.reply _)) (f, omega (arith, less))

      by_caller : (t : Bool) → is_caller p x.request.caller ≡ t → has_one asker_of p (x.request ∷ x.disk.requests) ≡ true
          → EndsDisk p (served_in (Some x) s).lines (served_in (Some x) s).state
          ⊎ NearerDisk p 1 (disk_of s) (disk_of (served_in (Some x) s).state)
      by_caller true f g = inl (mine f)
      by_caller false f g =
          let rest : has_one asker_of p x.disk.requests ≡ true = ap (λ b. b || has_one asker_of p x.disk.requests) (sym f) ∙ g in
          inr (other rest (ap (before asker_of p) (serves_first good (disk_of s) x e).first
          ∙ ap (λ b. cond b 0 (suc (before asker_of p x.disk.requests))) f))

  disk_of_goes : (s : Xinu) (x : EventResult) → waits_for_disk p (disk_of s) ≡ true → Goes p s x
      → EndsDisk p x.lines x.state ⊎ NearerDisk p 0 (disk_of s) (disk_of x.state)
  disk_of_goes s x h g = ⊎_elim (λ (f : IsKilled p x.lines). inl (inr f)) (λ (f : Keeps p s x.state). inr (f.disk h)) g

  -- a completion of the files' disk changes no raw disk
  completed_disk : (calls_ : List FileRequest) (choice : ℕ) (s : Xinu) → disk_of (completed_in calls_ choice s).state ≡ disk_of s
  completed_disk [] choice s = refl
  completed_disk (a ∷ calls_) choice s =
      let x = calls_completed (least_effects (a ∷ calls_) (files_of s) + choice) (file_step s) in all_told_disk x.notes (start (with_step x s))
    where
      all_told_disk : (notes : List FileNote) (d : CallState) → disk_of (all_told notes d).state ≡ disk_of d.state
      all_told_disk [] d = refl
      all_told_disk (n ∷ notes) d = all_told_disk notes (told n.reply n.caller d) ∙ by_reply n.reply n.caller
        where
          by_reply : (reply : Option ℤ) (caller : Option ℕ) → disk_of (told reply caller d).state ≡ disk_of d.state
          by_reply None caller = refl
          by_reply (Some reply) None = refl
          by_reply (Some reply) (Some q) = refl

  disk_effect : (s : Xinu) (e : Event) (choice : ℕ) → IsSound s → waits_for_disk p (disk_of s) ≡ true
      → (let x = effect_of s e choice in EndsDisk p x.lines x.state ⊎ NearerDisk p (disk_completions e) (disk_of s) (disk_of x.state))
  disk_effect s Step choice k h = disk_of_goes s (effect_of s Step choice) h (goes_step_with p choice (next_file_call s) s refl k)
  disk_effect s Tick choice k h = disk_of_goes s (ticked s) h (goes_ticked p s k)
  disk_effect s (Key b) choice k h = disk_of_goes s (keyed b s) h (goes_keyed p b s k)
  disk_effect s Tx choice k h = disk_of_goes s (effect_of s Tx choice) h (goes_sent p (transmitted (console_of s)) s refl k)
  disk_effect s Disk0 choice k h = served true (raw_completed true (disk_of s)) s refl k h
  disk_effect s Fail0 choice k h = served false (raw_completed false (disk_of s)) s refl k h
  disk_effect s Disk1 choice k h = inr (disk_same p (disk_of s) _ (completed_disk (files_of s).calls choice s) h)
  disk_effect s Fail1 choice k h = inr (disk_same p (disk_of s) (disk_of s) refl h)
  disk_effect s Dump choice k h = inr (disk_same p (disk_of s) (disk_of s) refl h)

  -- What an event does to a request of the raw disk.
  pub disk_event : (old : Xinu) (e : Event) (lines : List TranscriptLine) (new : Xinu) → IsSound old → waits_for_disk p (disk_of old) ≡ true
      → Happens old e lines new → EndsDisk p lines new ⊎ NearerDisk p (disk_completions e) (disk_of old) (disk_of new)
  disk_event old e lines new k h one =
      let P : EventResult → Type 0 = λ x. EndsDisk p x.lines x.state ⊎ NearerDisk p (disk_completions e) (disk_of old) (disk_of x.state) in
      subst P one.effect (disk_effect old e one.choice k h)
