-- Who has the answer of a disk gives it in its next step.
use Rattle.std.proofs.Common.{◌≡◌, ◌≢◌, ℕ, ◌==◌, cond, List, [], ◌∷◌, refl, Some, ℤ, sym, ap, ◌∙◌}
use Rattle.std.proofs.lemmas.Bool.{cond-false, cond-true, eq-eqb, ne_eqb}
use Rattle.xinu_base.specs.declared.events.Event.TheVariants.{Step}
use Rattle.xinu_base.specs.declared.lines.TranscriptLine.{TranscriptLine}
use Rattle.xinu_base.specs.declared.lines.TranscriptLine.TheVariants.{Return, Switch}
use Rattle.xinu_base.specs.declared.processes.Rest.TheVariants.{Disk, Nothing}
use Rattle.xinu_model.specs.Calls.{continued}
use Rattle.xinu_model.specs.Events.{instruction_step, is_done, stepped, next_file_call, step_with, Happens}
use Rattle.xinu_model.specs.Files.Syscalls.{files_of}
use Rattle.xinu_model.specs.Machine.{Xinu, EventResult, nothing_happens, switched, end_of_event}
use Rattle.xinu_model.specs.Sound.State.{IsSound}
use Rattle.xinu_model.specs.Tables.{process_at}
use Rattle.xinu_laws.proofs.FileSyscalls.AtOnce.{only_step}

-- a step in which p goes on
goes_on : (p : ℕ) (reply : ℤ) (s : Xinu) → IsSound s → s.tables.current ≡ p → (process_at s.tables p).rest ≡ Disk (Some reply)
    → stepped s ≡ end_of_event s.tables.current [] (continued (Disk (Some reply)) s)
goes_on p reply s k here left =
    let rest = (process_at s.tables s.tables.current).rest in
    let is : rest ≡ Disk (Some reply) = ap (λ q. (process_at s.tables q).rest) here ∙ left in
    let living : s.tables.current ≢ 0 =
    λ e. (let f : Nothing ≡ Disk (Some reply) = sym k.tables.inside.null_rest ∙ ap (λ q. (process_at s.tables q).rest) (sym e) ∙ is in absurd (cc)) in
    cond-false (s.tables.current == 0) (nothing_happens s) (cond (is_done rest) (instruction_step s) (end_of_event s.tables.current [] (continued rest s)))
    (ne_eqb s.tables.current 0 living)
    ∙ ap (λ r. cond (is_done r) (instruction_step s) (end_of_event s.tables.current [] (continued r s))) is

-- Who has its answer returns it as it runs next.
pub returns_next : (p : ℕ) (reply : ℤ) (old : Xinu) (lines : List TranscriptLine) (new : Xinu) → IsSound old → old.tables.current ≡ p
    → (process_at old.tables p).rest ≡ Disk (Some reply) → Happens old Step lines new → lines ≡ Return p reply ∷ []
returns_next p reply old lines new k here answer h =
    let c = old.tables.current in
    let end = end_of_event c [] (continued (Disk (Some reply)) old) in
    let one : stepped old ≡ end = goes_on p reply old k here answer in
    let only : step_with h.choice (next_file_call old) old ≡ end = only_step h.choice old (ap (λ (x : EventResult). files_of x.state) one) ∙ one in
    let stays : switched c c ≡ [] = cond-true (c == c) [] (Switch c ∷ []) (eq-eqb c c refl) in
    let told : end.lines ≡ Return c reply ∷ [] = ap (λ l. Return c reply ∷ l) stays in
    ap (λ (x : EventResult). x.lines) (sym h.effect ∙ only) ∙ told ∙ ap (λ q. Return q reply ∷ []) here
