-- An event that gives away what is held leaves an address claimed twice: so just those events have to be excepted.
use Rattle.std.proofs.Common.{◌≡◌, ℕ, ◌==◌, ◌&&◌, ◌||◌, Bool, false, true, not, cond, List, [], ◌∷◌, Option, Some, None, refl, sym, ap, subst, ◌∙◌, arith}
use Rattle.std.specs.List.{list_all}
use Rattle.std.proofs.lemmas.Bool.{cond-true, cond-false, ne_eqb}
use Rattle.xinu_base.specs.declared.events.Event.{Event}
use Rattle.xinu_base.specs.declared.events.Event.TheVariants.{Step}
use Rattle.xinu_base.specs.declared.lines.TranscriptLine.{TranscriptLine}
use Rattle.xinu_laws.proofs.FileSyscalls.AtOnce.{step_holds}
use Rattle.event_laws.specs.Ownership.Apart.{holders, IsApart}
use Rattle.xinu_model.specs.Calls.{calls, called, continued}
use Rattle.xinu_model.specs.Events.{call_of, call_line, with_executed, reacted, instruction_step, is_done, stepped, next_file_call, effect_of, Happens}
use Rattle.event_laws.specs.Ownership.GivingAway.{next, gives_back, GivesAway}
use Rattle.xinu_model.specs.Footprints.{Footprint}
use Rattle.xinu_model.specs.Machine.{Xinu, current_hart, EventResult, nothing_happens, end_of_event}
use Rattle.xinu_model.specs.Rows.{CallRow, found_in, done_by}
use Rattle.xinu_laws.specs.Touches.{reach, Touches}
use Rattle.xinu_model.specs.Sound.State.{IsSound}
use Rattle.xinu_model.specs.Tables.{process_at}
use Rattle.event_laws.proofs.Ownership.Claims.{holders_kept}
use Rattle.event_laws.proofs.Ownership.Events.{hart_after, kept_end_of_event}
use Rattle.table_laws.proofs.Lists.Maps.{one}
use Rattle.xinu_laws.proofs.Rows.CallRows.{of_row, number_of_row, all_rows}
use Rattle.xinu_laws.proofs.Preserve.Calls.{sound_where_called, called_keeps}
use Rattle.xinu_laws.proofs.Preserve.Events.{may_call, may_call_after}
use Rattle.xinu_laws.proofs.Touches.Table.{call_touches}

-- pools and stacks have the addresses that they had
abbrev KeepsHolders : Xinu → Xinu → Type 0
KeepsHolders s u = (a : ℕ) → holders u a ≡ holders s a

-- whether a footprint names stacks or ranges
abbrev names_holders : Footprint → Bool
names_holders f = f.stacks || f.ranges

-- No call that gives memory back may touch stacks or the pools' ranges.
giving_calls_spare : list_all (λ r. not (gives_back r.number && names_holders r.touches)) calls ≡ true
unfolding calls
giving_calls_spare = refl

-- so neither of a row with such a number
spared : (g st ra : Bool) → g ≡ true → not (g && (st || ra)) ≡ true → (st ≡ false) × (ra ≡ false)
spared true false false h e = (refl, refl)
spared true true ra h e = cc
spared true false true h e = cc
spared false st ra h e = cc

-- a call of such a number
holders_call : (number : ℕ) (args : List ℕ) (s : Xinu) → IsSound s → gives_back number ≡ true
    → KeepsHolders s (called number args s).call.state
holders_call number args s k g = by_row (found_in calls number) refl
  where
    by_row : (found : Option CallRow) → found_in calls number ≡ found → KeepsHolders s (done_by found args s).call.state
    by_row None e = λ a. refl
    by_row (Some r) e =
        let f = r.touches in
        let h = spared (gives_back r.number) f.stacks f.ranges (ap gives_back (number_of_row calls number r e) ∙ g)
        (of_row (λ x. not (gives_back x.number && names_holders x.touches) ≡ true) calls
        (all_rows (λ x. not (gives_back x.number && names_holders x.touches)) calls giving_calls_spare) number r e) in
        let t : Touches (reach f) s (done_by (Some r) args s).call.state = subst (λ x. Touches (reach f) s (done_by x args s).call.state) e
        (call_touches number args s r k e) in
        holders_kept s (done_by (Some r) args s).call.state (t.parts.ranges h.1) (t.stacks h.0)

-- the step that gives away is the call
stepped_calls : (old : Xinu) (e : Event) (new : Xinu) → GivesAway old e new
    → stepped old ≡ (let s = with_executed (next old) old in let call = call_of (current_hart s) in end_of_event old.tables.current (call_line s call ∷ []) (called call.number call.args s))
stepped_calls old e new g =
    let left = (process_at old.tables old.tables.current).rest in
    let other = end_of_event old.tables.current [] (continued left old) in
    cond-false (old.tables.current == 0) (nothing_happens old) (cond (is_done left) (instruction_step old) other)
    (ne_eqb old.tables.current 0 g.runs)
    ∙ cond-true (is_done left) (instruction_step old) other (ap is_done g.rest)
    ∙ ap (λ o. reacted o (with_executed (next old) old)) g.call

-- what gives away changes no pool and no stack
holders_given_away : (old : Xinu) (e : Event) (lines : List TranscriptLine) (new : Xinu) → IsSound old → Happens old e lines new
    → GivesAway old e new → KeepsHolders old new
holders_given_away old e lines new sound h g =
    let s = with_executed (next old) old in
    let call = call_of (current_hart s) in
    let result = called call.number call.args s in
    let gives : gives_back call.number ≡ true = ap (λ r. gives_back (call_of r).number) (hart_after old sound) ∙ g.number in
    let happened : (effect_of old Step h.choice).state ≡ new = sym (ap (λ f. (effect_of old f h.choice).state) g.step)
    ∙ ap (λ (x : EventResult). x.state) h.effect in
    let may = may_call_after old (may_call old sound g.runs) in
    let ended = kept_end_of_event old.tables.current (call_line s call ∷ []) result (called_keeps call.number call.args s may) in
    step_holds (λ (x : EventResult). x.state ≡ new → KeepsHolders old new) h.choice (next_file_call old) old
    (λ is. subst (KeepsHolders old)
    (sym (ap (λ (x : EventResult). x.state) (stepped_calls old e new g)) ∙ is)
    (λ a. holders_kept result.call.state (end_of_event old.tables.current (call_line s call ∷ []) result).state ended.ranges ended.stacks a
    ∙ holders_call call.number call.args s (sound_where_called s may) gives a))
    (λ b is. subst (KeepsHolders old) is (λ a. refl))
    happened

-- An event that gives away what is held leaves an address claimed twice.
pub given_away_is_shared : (old : Xinu) (e : Event) (lines : List TranscriptLine) (new : Xinu) → IsSound old → Happens old e lines new
    → GivesAway old e new → IsApart new → ⊥
given_away_is_shared old e lines new sound h g apart =
    let few = apart.claims g.address in
    let same = holders_given_away old e lines new sound h g g.address in
    let free = ap one g.free in
    let held = g.held in
    omega arith
