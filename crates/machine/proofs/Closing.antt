-- The end of an event is printed.
use Rattle.std.proofs.Common.{◌≡◌, ◌∙◌, ℕ, Bool, List, [], ◌∷◌, ◌++◌, map, Option, Some, ℤ, sym, ap, subst, append_assoc}
use Rattle.std.proofs.lemmas.List.{map-append}
use Rattle.kernel_state.specs.Results.{answer_so_far, idle}
use Rattle.host_port.specs.Outside.{Outside}
use Rattle.host_port.specs.Printing.{Printing, Prints}
use Rattle.machine.specs.Printed.{EffectPrints}
use Rattle.xinu_base.specs.declared.lines.TranscriptLine.{TranscriptLine}
use Rattle.xinu_base.specs.declared.syscalls.Next.{Next}
use Rattle.xinu_base.specs.declared.syscalls.Next.TheVariants as next
use Rattle.xinu_model.specs.Machine.{and_callers, CallResult, closed, end_of_event, EventResult, is_panic, replies_of, return_line, switched, Xinu}
use Rattle.xinu_model.specs.Text.{shown}
use Rattle.machine.proofs.ShownLines.{shown_both}

-- The replies to released processes were printed, and after them the caller's reply.
pub answers_printed : (result : CallResult) (o : Option Next) (value : ℤ) (caller : ℕ) (replies : List (ℕ × ℤ)) (a b c : Printing) (h i j : Outside)
    → result.answer ≡ answer_so_far o → o ≡ Some (next.Returns value) → replies ≡ result.call.released → caller ≡ result.call.state.tables.current
    → Prints a b h i (shown a.plain (map return_line replies)) → Prints b c i j (shown b.plain (return_line (caller, value) ∷ []))
    → Prints a c h j (shown a.plain (map return_line (replies_of result)))
answers_printed result o value caller replies a b c h i j answer is are who prints last =
    let lines : List (ℕ × ℤ) → ℕ → List TranscriptLine = λ l p. map return_line l ++ return_line (p, value) ∷ [] in
    let all : (map return_line replies) ++ (return_line (caller, value) ∷ []) ≡ map return_line (replies_of result) =
    ap (λ l. lines l caller) are ∙ ap (lines result.call.released) who
    ∙ sym (map-append return_line result.call.released ((result.call.state.tables.current, value) ∷ []))
    ∙ ap (map return_line) (sym (ap (λ x. and_callers x result.call.state.tables.current result.call.released) (answer ∙ ap answer_so_far is))) in
    subst (λ l. Prints a c h j (shown a.plain l)) all (shown_both a b c h i j (map return_line replies) (return_line (caller, value) ∷ []) prints last)

-- An event was closed and its switch printed after its replies.
pub event_ended : (was : ℕ) (result closed_result : CallResult) (is : ℕ) (panics : Bool) (a b c : Printing) (h i j : Outside)
    → closed_result ≡ idle (end_of_event 0 [] result).state → is ≡ closed_result.call.state.tables.current → panics ≡ is_panic result.answer
    → Prints a b h i (shown a.plain (map return_line (replies_of result))) → Prints b c i j (shown b.plain (switched was is))
    → EffectPrints (end_of_event was [] result) closed_result.call.state panics a c h j
event_ended was result closed_result is panics a b c h i j closes who panic replies switch =
    let now = ap (λ (r : CallResult). r.call.state) closes in
    let run : is ≡ (closed result).current = who ∙ ap (λ (s : Xinu). s.tables.current) now in
    record {
      state = sym now;
      panics = sym panic;
      prints = subst (λ p. Prints a c h j (shown a.plain (map return_line (replies_of result) ++ switched was p))) run
          (shown_both a b c h i j (map return_line (replies_of result)) (switched was is) replies switch);
    }

-- What is printed first in an event stands before the rest.
pub first_printed : (was : ℕ) (line : TranscriptLine) (result : CallResult) (new : Xinu) (panics : Bool) (a b c : Printing) (h i j : Outside)
    → Prints a b h i (shown a.plain (line ∷ [])) → EffectPrints (end_of_event was [] result) new panics b c i j → EffectPrints (end_of_event was (line ∷ []) result) new panics a c h j
first_printed was line result new panics a b c h i j first rest = record {
  state = rest.state;
  panics = rest.panics;
  prints = shown_both a b c h i j (line ∷ []) (end_of_event was [] result).lines first rest.prints;
}

-- Any lines that are printed first do.
pub lines_printed : (was : ℕ) (first : List TranscriptLine) (result : CallResult) (new : Xinu) (panics : Bool) (a b c : Printing) (h i j : Outside)
    → Prints a b h i (shown a.plain first) → EffectPrints (end_of_event was [] result) new panics b c i j → EffectPrints (end_of_event was first result) new panics a c h j
lines_printed was first result new panics a b c h i j prints rest =
    let replies = map return_line (replies_of result) in
    let switch = switched was (closed result).current in
    record {
      state = rest.state;
      panics = rest.panics;
      prints = subst (λ l. Prints a c h j (shown a.plain l)) (sym (append_assoc first replies switch))
          (shown_both a b c h i j first (replies ++ switch) prints rest.prints);
    }

-- the same of an event by another name
pub effect_as : (effect other : EventResult) (new : Xinu) (panics : Bool) (a b : Printing) (h i : Outside) → effect ≡ other → EffectPrints effect new panics a b h i → EffectPrints other new panics a b h i
effect_as effect other new panics a b h i e k = subst (λ x. EffectPrints x new panics a b h i) e k
