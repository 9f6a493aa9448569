-- From what an event does to that it happened.
use Rattle.std.proofs.Common.{◌≡◌, ◌≢◌, ℕ, false, cond, List, [], refl, sym, ap, subst, ◌∙◌, arith, Bool}
use Rattle.std.proofs.lemmas.Bool.{eq-eqb, ne_eqb}
use Rattle.host_port.specs.Outside.{Outside}
use Rattle.host_port.specs.Printing.{Printing}
use Rattle.machine.proofs.ShownLines.{shown_nothing}
use Rattle.machine.specs.Disks.{ChangesDisk}
use Rattle.machine.specs.FileEffects.{ChosenPrints}
use Rattle.machine.specs.Printed.{EffectPrints, EventPrints}
use Rattle.xinu_base.specs.declared.events.Event.{Event}
use Rattle.xinu_base.specs.declared.events.Event.TheVariants.{Step, Tick, Key, Tx, Disk0, Disk1, Fail0, Fail1, Dump}
use Rattle.xinu_base.specs.declared.processes.Rest.{Rest}
use Rattle.xinu_base.specs.declared.processes.Rest.TheVariants.{Nothing}
use Rattle.xinu_model.specs.Calls.{continued}
use Rattle.xinu_model.specs.Events.{effect_of, instruction_step, is_done, stepped}
use Rattle.xinu_model.specs.Files.Work.{FileWork}
use Rattle.xinu_model.specs.Machine.{Xinu, end_of_event, EventResult, nothing_happens}
use Rattle.xinu_model.specs.Tables.{process_at}

-- An event that was printed happened, whatever was chosen in it.
pub happened : (old new : Xinu) (e : Event) (panics : Bool) (before after : Printing) (was is : Outside) → ChosenPrints old e new panics before after was is
    → EventPrints old e new before after was is
happened old new e panics before after was is k =
    let effect = effect_of old e k.choice in
    let with : Xinu → Bool → EventResult = λ s b. record { lines = effect.lines; state = s; panics = b } in
    record {
      lines = effect.lines;
      happens = record {
        choice = k.choice;
        allowed = k.allowed;
        effect = ap (λ s. with s effect.panics) k.prints.state ∙ ap (with new) (k.prints.panics ∙ sym k.panics);
      };
      prints = k.prints.prints;
    }

-- nothing was printed, and nothing changed
pub nothing_printed : (s : Xinu) (out : Printing) (host : Outside) → EffectPrints (nothing_happens s) s false out out host host
nothing_printed s out host = record { state = refl; panics = refl; prints = shown_nothing out host }

-- An event that comes to this was printed, and nothing was chosen in it.
pub none_chosen : (old new : Xinu) (e : Event) (effect : EventResult) (panics : Bool) (before after : Printing) (was is : Outside) → effect ≡ effect_of old e 0
    → EffectPrints effect new panics before after was is → ChosenPrints old e new panics before after was is
none_chosen old new e effect panics before after was is same k = record {
  choice = 0;
  allowed = omega arith;
  prints = subst (λ x. EffectPrints x new panics before after was is) same k;
  panics = ap (λ (x : EventResult). x.panics) (sym same) ∙ k.panics;
}

-- the same, if it is another event by its kind
pub chosen_as : (old new : Xinu) (e f : Event) (panics : Bool) (before after : Printing) (was is : Outside) → e ≡ f → ChosenPrints old f new panics before after was is
    → ChosenPrints old e new panics before after was is
chosen_as old new e f panics before after was is same k = subst (λ x. ChosenPrints old x new panics before after was is) (sym same) k

pub event_did : (old new : Xinu) (e f : Event) (panics : Bool) (before after : Printing) (was is : Outside) → e ≡ f → EffectPrints (effect_of old f 0) new panics before after was is
    → ChosenPrints old e new panics before after was is
event_did old new e f panics before after was is same k =
    chosen_as old new e f panics before after was is same (none_chosen old new f (effect_of old f 0) panics before after was is refl k)

-- a step of the null process does nothing
pub null_steps : (s : Xinu) → s.tables.current ≡ 0 → nothing_happens s ≡ stepped s
null_steps s null =
    let left = (process_at s.tables s.tables.current).rest in
    let goes_on = end_of_event s.tables.current [] (continued left s) in
    sym (ap (λ b. cond b (nothing_happens s) (cond (is_done left) (instruction_step s) goes_on)) (eq-eqb s.tables.current 0 null))

-- what is left of a call is done if the current process waits in one
pub goes_on_later : (s : Xinu) → s.tables.current ≢ 0 → (process_at s.tables s.tables.current).rest ≢ Nothing
    → end_of_event s.tables.current [] (continued (process_at s.tables s.tables.current).rest s) ≡ stepped s
goes_on_later s n w =
    let left = (process_at s.tables s.tables.current).rest in
    let goes_on = end_of_event s.tables.current [] (continued left s) in
    let later : cond (is_done left) (instruction_step s) goes_on ≡ goes_on = ap (λ b. cond b (instruction_step s) goes_on) (waits left w) in
    sym (ap (λ b. cond b (nothing_happens s) (cond (is_done left) (instruction_step s) goes_on)) (ne_eqb s.tables.current 0 n) ∙ later)
  where
    waits : (k : Rest) → k ≢ Nothing → is_done k ≡ false
    waits Nothing n = absurd (n refl)
    waits _ n = refl

-- a failed completion of the files' disk does nothing
pub other_does : (old : Xinu) (e : Event) → e ≢ Step → e ≢ Tick → ((b : ℕ) → e ≢ Key b) → e ≢ Tx → e ≢ Disk0 → e ≢ Fail0 → e ≢ Disk1 → e ≢ Dump → nothing_happens old ≡ effect_of old e 0
other_does old Step a b k t d f g c = absurd (a refl)
other_does old Tick a b k t d f g c = absurd (b refl)
other_does old (Key x) a b k t d f g c = absurd (k x refl)
other_does old Tx a b k t d f g c = absurd (t refl)
other_does old Dump a b k t d f g c = absurd (c refl)
other_does old Disk0 a b k t d f g c = absurd (d refl)
other_does old Fail0 a b k t d f g c = absurd (f refl)
other_does old Disk1 a b k t d f g c = absurd (g refl)
other_does old Fail1 a b k t d f g c = refl

-- what an event changes of the disk with files, if it is another event by its kind
pub changes_as : (e f : Event) (w : FileWork) (old new : List ℕ) → e ≡ f → ChangesDisk f w old new → ChangesDisk e w old new
changes_as e f w old new same k = subst (λ x. ChangesDisk x w old new) (sym same) k

-- any event but a good completion of that disk may leave it
pub unchanged : (e : Event) (w : FileWork) (bytes : List ℕ) → e ≢ Disk1 → ChangesDisk e w bytes bytes
unchanged Disk1 w bytes n = absurd (n refl)
unchanged _ w bytes n = refl
