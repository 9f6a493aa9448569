-- A good completion of the files' disk: what it comes to, and that the clock and the ports stay.
use Rattle.std.proofs.Common.{◌≡◌, ◌∙◌, ◌+◌, ◌-◌, ◌≤◌, ℕ, zero, suc, Bool, false, List, [], ◌∷◌, map, length, Option, Some, None, ℤ, refl, sym, ap, subst, arith}
use Rattle.host_port.specs.Outside.{Outside}
use Rattle.host_port.specs.Printing.{Printing}
use Rattle.io_calls.specs.Files.{CompletesFiles}
use Rattle.machine.specs.FileEffects.{ChosenPrints}
use Rattle.machine.specs.Printed.{EffectPrints}
use Rattle.xinu_base.specs.declared.events.Event.TheVariants.{Disk1}
use Rattle.xinu_base.specs.declared.lines.TranscriptLine.{TranscriptLine}
use Rattle.xinu_model.specs.Files.Syscalls.{all_told, completed_in, completing, file_line, files_of, file_step, told}
use Rattle.xinu_model.specs.Files.Work.{calls_completed, FileNote, FileRequest, FileStep, least_effects, most_effects, turned}
use Rattle.xinu_model.specs.Machine.{CallResult, CallState, end_of_event, EventResult, nothing_happens, Xinu}
use Rattle.machine.proofs.Completions.{kept_ports, kept_ticks, not_switched}

-- what the event comes to at which so many calls take effect
abbrev done_in : ℕ → Xinu → EventResult
done_in effects s =
    let x = calls_completed effects (file_step s) in end_of_event s.tables.current (map file_line x.notes) (completing x s)

-- without a call under way it is nothing
none_done : (effects : ℕ) (s : Xinu) → (files_of s).calls ≡ [] → effects ≤ most_effects (files_of s) → done_in effects s ≡ nothing_happens s
none_done zero s none few =
    let after : FileStep → EventResult = λ x. end_of_event s.tables.current (map file_line x.notes) (completing x s) in
    ap (λ calls. after (turned calls (file_step s))) none
    ∙ ap (λ (ls : List TranscriptLine). let e : EventResult = record { lines = ls; state = s; panics = false } in e) (not_switched s.tables.current)
none_done (suc k) s none few = (let e = ap (λ (l : List FileRequest). length l) none in absurd (omega (arith, few, e)))

-- The calls that take effect are those that have to, and as many more as are chosen.
done_is : (calls : List FileRequest) (effects : ℕ) (s : Xinu) → (files_of s).calls ≡ calls → least_effects calls (files_of s) ≤ effects
    → effects ≤ most_effects (files_of s) → done_in effects s ≡ completed_in calls (effects - least_effects calls (files_of s)) s
done_is [] effects s is least most = none_done effects s is most
done_is (a ∷ calls) effects s is least most =
    let n = least_effects (a ∷ calls) (files_of s) in let e : effects ≡ n + (effects - n) = omega (arith, least) in ap (λ k. done_in k s) e

-- the kernel doesn't panic in it, whatever is chosen
done_panics : (calls : List FileRequest) (choice : ℕ) (s : Xinu) → (completed_in calls choice s).panics ≡ false
done_panics [] choice s = refl
done_panics (a ∷ calls) choice s = refl

-- A completion that was printed is what the event did.
pub files_chosen : (s new : Xinu) (notes : List FileNote) (result : CallResult) (panics : Bool) (a b : Printing) (h i : Outside) → CompletesFiles s notes result
    → EffectPrints (end_of_event s.tables.current (map file_line notes) result) new panics a b h i → ChosenPrints s Disk1 new panics a b h i
files_chosen s new notes result panics a b h i c k =
    let p = s.tables.current in
    let calls = (files_of s).calls in
    let choice = c.effects - least_effects calls (files_of s) in
    let least = c.least in
    let most = c.most in
    let e : end_of_event p (map file_line notes) result ≡ completed_in calls choice s =
    ap (λ (r : CallResult). end_of_event p (map file_line notes) r) c.is
    ∙ ap (λ l. end_of_event p (map file_line l) (completing (calls_completed c.effects (file_step s)) s)) (sym c.told)
    ∙ done_is calls c.effects s refl least most in
    record {
      choice = choice;
      allowed = omega (arith, least, most);
      prints = subst (λ (x : EventResult). EffectPrints x new panics a b h i) e k;
      panics = done_panics calls 0 s ∙ sym (done_panics calls choice s) ∙ ap (λ (x : EventResult). x.panics) (sym e) ∙ k.panics;
    }

-- Replies that are kept leave the clock alone.
pub told_ticks : (notes : List FileNote) (d : CallState) → (all_told notes d).state.tables.ticks ≡ d.state.tables.ticks
told_ticks [] d = refl
told_ticks (n ∷ notes) d = told_ticks notes (told n.reply n.caller d) ∙ one n.reply
  where
    one : (reply : Option ℤ) → (told reply n.caller d).state.tables.ticks ≡ d.state.tables.ticks
    one None = refl
    one (Some reply) = kept_ticks n.caller reply d

-- They leave the ports alone too.
pub told_ports : (notes : List FileNote) (d : CallState) → (all_told notes d).state.parts.ports ≡ d.state.parts.ports
told_ports [] d = refl
told_ports (n ∷ notes) d = told_ports notes (told n.reply n.caller d) ∙ one n.reply
  where
    one : (reply : Option ℤ) → (told reply n.caller d).state.parts.ports ≡ d.state.parts.ports
    one None = refl
    one (Some reply) = kept_ports n.caller reply d
