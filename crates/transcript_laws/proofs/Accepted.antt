-- A text is accepted from a sound state on if and only if a run prints it.
use Rattle.std.proofs.Common.{◌≡◌, ◌↔◌, ℕ, Bool, true, false, List, [], ◌∷◌, ◌++◌, length, drop, Option, Some, None, refl, sym, ap, ◌∙◌, subst, append_assoc}
use Rattle.std.specs.Prelude.{◌&&◌, bytes_eq}
use Rattle.std.proofs.lemmas.Bool.{and_parts}
use Rattle.xinu_base.specs.declared.events.End.{End}
use Rattle.xinu_base.specs.declared.events.End.TheVariants.{Schedule}
use Rattle.xinu_base.specs.declared.events.Event.{Event}
use Rattle.xinu_base.specs.declared.lines.TranscriptLine.{TranscriptLine}
use Rattle.xinu_model.specs.Agree.{begins_next}
use Rattle.xinu_model.specs.Events.{effect_of, panics_in}
use Rattle.xinu_model.specs.Machine.{Xinu, EventResult}
use Rattle.xinu_model.specs.Runs.{RunsTo, Follows, end_with, is_over}
use Rattle.xinu_model.specs.Sound.State.{IsSound}
use Rattle.xinu_model.specs.Text.{text}
use Rattle.xinu_laws.proofs.FileSyscalls.Chosen.{choice_happens, effect_panics}
use Rattle.xinu_laws.proofs.Preserve.Events.{sound_happens}
use Rattle.xinu_laws.proofs.RunOutcomes as outcomes
use Rattle.part_laws.proofs.FileSystems.Orders.{own_bytes, same_bytes}
use Rattle.transcript_laws.proofs.Texts.{begun, rest_of, starts, text_append}
use Rattle.transcript_laws.specs.Reading.{starts_with, last_lines, Prints, accepts_after, accepts, Tells}

-- what a run prints doesn't begin with a call that took effect as the next one
pub run_begins : (events : List Event) (s : Xinu) (lines : List TranscriptLine) (last : Xinu) (end : End) → RunsTo s events lines last end
    → begins_next (lines ++ last_lines last end) ≡ false
run_begins events s lines last end runs = outcomes.run_begins events s lines (last_lines last end) last end refl runs

-- an event that printed the first lines and left mid, and what is printed after it
record After (events : List Event) (first : List TranscriptLine) (mid : Xinu) (rest : List ℕ) (o : Option End) : Type 0 where
  lines : List TranscriptLine
  last : Xinu
  end : End
  follows : Follows o (λ l. RunsTo mid events l last end) first lines mid last end
  is : rest ≡ text (lines ++ last_lines last end)

-- What is accepted is what a run prints.
accepted_after : (told : Xinu → Event → List ℕ → ℕ) (events : List Event) (first : List TranscriptLine) (mid : Xinu) (rest : List ℕ)
    (o : Option End)
    → ((more : List ℕ) → accepts told mid events more ≡ true → Prints mid events more)
    → rest ≡ text first ++ drop (length (text first)) rest
    → accepts_after o (λ more. accepts told mid events more) mid (drop (length (text first)) rest) ≡ true
    → After events first mid rest o
accepted_after told events first mid rest (Some end) go split holds =
    record {
      lines = first;
      last = mid;
      end = end;
      follows = (refl, refl, refl);
      is = split ∙ ap (λ t. text first ++ t) (sym (same_bytes _ _ holds)) ∙ sym (text_append first (last_lines mid end));
    }
accepted_after told events first mid rest None go split holds =
    let p = go (drop (length (text first)) rest) holds in
    record {
      lines = first ++ p.lines;
      last = p.last;
      end = p.end;
      follows = (p.lines, p.runs, refl);
      is = split ∙ ap (λ t. text first ++ t) p.is ∙ sym (text_append first (p.lines ++ last_lines p.last p.end))
          ∙ ap text (sym (append_assoc first p.lines (last_lines p.last p.end)));
    }

pub accepted_prints : (told : Xinu → Event → List ℕ → ℕ) → Tells told → (events : List Event) (s : Xinu) (rest : List ℕ) → IsSound s
    → accepts told s events rest ≡ true → Prints s events rest
accepted_prints told t [] s rest k holds =
    record { lines = []; last = s; end = Schedule; runs = (refl, refl, refl); is = sym (same_bytes _ _ holds) }
accepted_prints told t (e ∷ events) s rest k holds =
    let c = told s e rest in
    let x = effect_of s e c in
    let h = choice_happens s e c k (t.allowed s e rest) in
    let both = and_parts (starts_with (text x.lines) rest) _ holds in
    let split = begun (text x.lines) rest both.0 in
    let same = effect_panics s e c k in
    let after = accepted_after told events x.lines x.state rest (end_with x.panics (is_over x.state))
    (λ more y. accepted_prints told t events x.state more (sound_happens s e x.lines x.state k h) y) split both.1 in
    record {
      lines = after.lines;
      last = after.last;
      end = after.end;
      runs = (
        x.state,
        x.lines,
        h,
        subst (λ b. Follows (end_with b (is_over x.state))
            (λ l. RunsTo x.state events l after.last after.end) x.lines after.lines x.state after.last after.end) same after.follows,
      );
      is = after.is;
    }

-- What a run prints is accepted.
-- the lines after the first ones, which don't begin with a call that took effect as the next one, and are accepted
record Goes (told : Xinu → Event → List ℕ → ℕ) (events : List Event) (first lines : List TranscriptLine) (mid last : Xinu) (end : End)
    (o : Option End) : Type 0 where
  more : List TranscriptLine
  is : lines ++ last_lines last end ≡ first ++ more
  begins : begins_next more ≡ false
  accepted : accepts_after o (λ t. accepts told mid events t) mid (text more) ≡ true

-- what follows an event in a run, as it is read
prints_after : (told : Xinu → Event → List ℕ → ℕ) (events : List Event) (first lines : List TranscriptLine) (mid last : Xinu) (end : End)
    (o : Option End)
    → ((rest : List TranscriptLine) → RunsTo mid events rest last end → accepts told mid events (text (rest ++ last_lines last end)) ≡ true)
    → Follows o (λ l. RunsTo mid events l last end) first lines mid last end
    → Goes told events first lines mid last end o
prints_after told events first lines mid last end (Some with_event) go (same, state, by) =
    record {
      more = last_lines last end;
      is = ap (λ l. l ++ last_lines last end) same;
      begins = refl;
      accepted = subst (λ (x : Xinu). bytes_eq (text (last_lines mid with_event)) (text (last_lines x end)) ≡ true) (sym state)
          (subst (λ (z : End). bytes_eq (text (last_lines mid with_event)) (text (last_lines mid z)) ≡ true) (sym by)
          (own_bytes (text (last_lines mid with_event))));
    }
prints_after told events first lines mid last end None go (rest, runs, same) =
    record {
      more = rest ++ last_lines last end;
      is = ap (λ l. l ++ last_lines last end) same ∙ append_assoc first rest (last_lines last end);
      begins = run_begins events mid rest last end runs;
      accepted = go rest runs;
    }

-- what is accepted of an event and what follows it, by the effect of the event
abbrev accepts_event : (Xinu → Event → List ℕ → ℕ) → List Event → List ℕ → EventResult → Bool
accepts_event told events rest x =
    starts_with (text x.lines) rest
    && accepts_after (end_with x.panics (is_over x.state)) (λ more. accepts told x.state events more) x.state
    (drop (length (text x.lines)) rest)

-- what an event prints, and what is accepted after it, are accepted together
event_accepted : (told : Xinu → Event → List ℕ → ℕ) (events : List Event) (first more : List TranscriptLine) (mid : Xinu) (panics : Bool)
    → accepts_after (end_with panics (is_over mid)) (λ t. accepts told mid events t) mid (text more) ≡ true
    → accepts_event told events (text (first ++ more)) (record { lines = first; state = mid; panics = panics }) ≡ true
event_accepted told events first more mid panics holds =
    subst (λ (t : List ℕ). accepts_event told events t (record { lines = first; state = mid; panics = panics }) ≡ true)
    (sym (text_append first more))
    (ap (λ b. b && accepts_after (end_with panics (is_over mid)) (λ t. accepts told mid events t) mid
    (drop (length (text first)) (text first ++ text more))) (starts (text first) (text more))
    ∙ ap (λ t. accepts_after (end_with panics (is_over mid)) (λ u. accepts told mid events u) mid t) (rest_of (text first) (text more))
    ∙ holds)

pub printed_accepted : (told : Xinu → Event → List ℕ → ℕ) → Tells told
    → (events : List Event) (s : Xinu) (lines : List TranscriptLine) (last : Xinu) (end : End)
    → IsSound s → RunsTo s events lines last end → accepts told s events (text (lines ++ last_lines last end)) ≡ true
printed_accepted told t [] s lines last end k (none, same, by_end) =
    subst (λ (l : List TranscriptLine). bytes_eq (text (last_lines s Schedule)) (text (l ++ last_lines last end)) ≡ true) (sym none)
    (subst (λ (x : Xinu). bytes_eq (text (last_lines s Schedule)) (text (last_lines x end)) ≡ true) (sym same)
    (subst (λ (z : End). bytes_eq (text (last_lines s Schedule)) (text (last_lines s z)) ≡ true) (sym by_end)
    (own_bytes (text (last_lines s Schedule)))))
printed_accepted told t (e ∷ events) s lines last end k (mid, first, h, follows) =
    let a = prints_after told events first lines mid last end (end_with (panics_in s e) (is_over mid))
    (λ rest runs. printed_accepted told t events mid rest last end (sound_happens s e first mid k h) runs) follows in
    let more = a.more in
    let x = effect_of s e h.choice in
    let lines_are : x.lines ≡ first = ap (λ (y : EventResult). y.lines) h.effect in
    let right = t.right s e h.choice more k h.allowed a.begins in
    let told_right : effect_of s e (told s e (text (first ++ more))) ≡ record { lines = first; state = mid; panics = panics_in s e } =
    subst (λ (l : List TranscriptLine). effect_of s e (told s e (text (l ++ more))) ≡ effect_of s e h.choice) lines_are right ∙ h.effect in
    subst (λ (l : List TranscriptLine). accepts told s (e ∷ events) (text l) ≡ true) (sym a.is)
    (ap (λ (y : EventResult). accepts_event told events (text (first ++ more)) y) told_right
    ∙ event_accepted told events first more mid (panics_in s e) a.accepted)

-- A text is accepted if and only if a run prints it.
pub accepts_exactly : (told : Xinu → Event → List ℕ → ℕ) → Tells told → (s : Xinu) (events : List Event) (rest : List ℕ) → IsSound s
    → accepts told s events rest ≡ true ↔ Prints s events rest
accepts_exactly told t s events rest k = (
  λ e. accepted_prints told t events s rest k e,
  λ p. subst (λ (r : List ℕ). accepts told s events r ≡ true) (sym p.is) (printed_accepted told t events s p.lines p.last p.end k p.runs),
)
