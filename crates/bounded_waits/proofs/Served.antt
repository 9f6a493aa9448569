-- What a good completion does to the calls on files under way.
use Rattle.std.proofs.Common.{◌≡◌, ◌⊎◌, inl, inr, ⊎_elim, ℕ, zero, suc, ◌+◌, ◌<◌, Bool, true, false, ◌||◌, cond, List, [], ◌∷◌, ◌++◌, drop, Option, Some, None, ℤ, refl, sym, ap, subst, ◌∙◌, arith, append_assoc}
use Rattle.std.specs.List.{AllByRecursion}
use Rattle.std.proofs.lemmas.Bool.{eqb-true, eq-eqb, true≢false}
use Rattle.xinu_base.specs.declared.lines.FileMoment.{FileMoment}
use Rattle.xinu_base.specs.declared.lines.FileMoment.TheVariants.{Finished, Next}
use Rattle.xinu_base.specs.declared.lines.TranscriptLine.TheVariants as line
use Rattle.xinu_model.specs.Files.Calls.{file_effect}
use Rattle.xinu_model.specs.Files.Sound.{IsFileRequest, IsFirst, IsSoundWork}
use Rattle.xinu_model.specs.Files.Systems.{FileSystem}
use Rattle.xinu_model.specs.Files.Work.{FileRequest, FileWork, FileNote, FileStep, took_effect, with_first, first_effect, next_effects, turned, calls_completed, copied}
use Rattle.xinu_model.specs.RawDisk.Callers.{is_caller}
use Rattle.part_laws.proofs.FileSystems.Refusals.{effect_spares}
use Rattle.part_laws.proofs.FileWork.Order.{system_of, calls_left}
use Rattle.xinu_model.proofs.FileOutcomes.{first_calls}
use Rattle.bounded_waits.specs.Ends.{tells_effect}
use Rattle.bounded_waits.specs.Places.{has_one, before, waits_for_files, most_completions}
use Rattle.bounded_waits.proofs.Bound.{turns_bounded}
use Rattle.bounded_waits.proofs.Costs.{Nearer, nearer_turned, nearer_served}
use Rattle.bounded_waits.proofs.Places.{served_or_nearer}

-- the caller of a call
abbrev caller_of : FileRequest → Option ℕ
caller_of a = a.caller

-- One of these notes tells that p's call took effect, and with what reply.
pub record IsTold (p : ℕ) (notes : List FileNote) : Type 0 where
  pub earlier : List FileNote
  pub moment : FileMoment
  pub reply : ℤ
  pub later : List FileNote
  pub is : notes ≡ earlier ++ (record { caller = Some p; moment = moment; reply = Some reply }) ∷ later
  pub tells : tells_effect p (line.File p moment) ≡ true

told_more : (p : ℕ) (notes more : List FileNote) → IsTold p notes → IsTold p (notes ++ more)
told_more p notes more h =
    let note : FileNote = record { caller = Some p; moment = h.moment; reply = Some h.reply } in
    record {
      earlier = h.earlier;
      moment = h.moment;
      reply = h.reply;
      later = h.later ++ more;
      is = ap (λ l. l ++ more) h.is ∙ append_assoc h.earlier (note ∷ h.later) more;
      tells = h.tells;
    }

first_keeps : (p : ℕ) (calls : List FileRequest) (moment : FileMoment) (x : FileStep) → IsTold p x.notes
    → IsTold p (first_effect calls moment x).notes
first_keeps p [] moment x h = h
first_keeps p (a ∷ calls) moment x h =
    told_more p x.notes (took_effect a moment (file_effect a.call x.work.bytes x.work.system).reply ∷ []) h

next_keeps : (p k : ℕ) (x : FileStep) → IsTold p x.notes → IsTold p (next_effects k x).notes
next_keeps p zero x h = h
next_keeps p (suc k) x h = next_keeps p k (first_effect x.work.calls Next x) (first_keeps p x.work.calls Next x h)

-- the caller of a request that is p's
pub caller_is : (p : ℕ) (o : Option ℕ) → is_caller p o ≡ true → o ≡ Some p
caller_is p None e = absurd (true≢false (sym e))
caller_is p (Some q) e = ap Some (eqb-true q p e)

-- p's call is the first
told_first : (p : ℕ) (a : FileRequest) (calls : List FileRequest) (moment : FileMoment) (x : FileStep)
    → tells_effect p (line.File p moment) ≡ true → is_caller p a.caller ≡ true → IsTold p (first_effect (a ∷ calls) moment x).notes
told_first p a calls moment x tells mine =
    let reply = (file_effect a.call x.work.bytes x.work.system).reply in
    record {
      earlier = x.notes;
      moment = moment;
      reply = reply;
      later = [];
      is = ap (λ o. x.notes ++ (record { caller = o; moment = moment; reply = Some reply }) ∷ []) (caller_is p a.caller mine);
      tells = tells;
    }

-- a request is the first, or one after it
first_or_after : (P : Type 0) (t x : Bool) (b k : ℕ) → (t ≡ true → P) → (x ≡ true → suc b < suc k → P) → t || x ≡ true
    → cond t 0 (suc b) < suc k → P
first_or_after P true x b k first after h few = first refl
first_or_after P false x b k first after h few = after h few

-- p's call is among the first
effects_tell : (p k : ℕ) (calls : List FileRequest) (moment : FileMoment) (x : FileStep) → tells_effect p (line.File p moment) ≡ true
    → tells_effect p (line.File p Next) ≡ true → has_one caller_of p calls ≡ true → before caller_of p calls < suc k
    → IsTold p (next_effects k (first_effect calls moment x)).notes
effects_tell p k [] moment x tells next h few = absurd (true≢false (sym h))
effects_tell p zero (a ∷ calls) moment x tells next h few =
    first_or_after (IsTold p (first_effect (a ∷ calls) moment x).notes) (is_caller p a.caller) (has_one caller_of p calls)
    (before caller_of p calls) 0 (λ e. told_first p a calls moment x tells e) (λ g less. absurd (omega (arith, less))) h few
effects_tell p (suc k) (a ∷ calls) moment x tells next h few =
    let y = first_effect (a ∷ calls) moment x in
    let same = first_calls calls y.memory (file_effect a.call x.work.bytes x.work.system).system in
    first_or_after (IsTold p (next_effects (suc k) y).notes) (is_caller p a.caller) (has_one caller_of p calls) (before caller_of p calls) (suc k)
    (λ e. next_keeps p (suc k) y (told_first p a calls moment x tells e))
    (λ g less. effects_tell p k y.work.calls Next y next next (ap (has_one caller_of p) same ∙ g)
    (subst (λ n. n < suc k) (sym (ap (before caller_of p) same)) (omega (arith, less)))) h few

-- an effect changes no number of blocks
first_blocks : (calls : List FileRequest) (moment : FileMoment) (x : FileStep)
    → (first_effect calls moment x).work.system.blocks ≡ x.work.system.blocks
first_blocks [] moment x = refl
first_blocks (a ∷ calls) moment x =
    let e = file_effect a.call x.work.bytes x.work.system in
    ap (λ (s : FileSystem). s.blocks) (system_of calls (copied a.caller a.at e.bytes x.memory) e.system)
    ∙ (effect_spares a.call x.work.bytes x.work.system).blocks

next_blocks : (k : ℕ) (x : FileStep) → (next_effects k x).work.system.blocks ≡ x.work.system.blocks
next_blocks zero x = refl
next_blocks (suc k) x = next_blocks k (first_effect x.work.calls Next x) ∙ first_blocks x.work.calls Next x

-- who becomes the first has had no turn
no_turns : (calls : List FileRequest) (memory : List ℕ) (s : FileSystem) → (with_first calls memory s).turns ≡ 0
no_turns [] memory s = refl
no_turns (a ∷ calls) memory s = refl

first_turns : (calls : List FileRequest) (moment : FileMoment) (x : FileStep) → x.work.turns ≡ 0 → (first_effect calls moment x).work.turns ≡ 0
first_turns [] moment x h = h
first_turns (a ∷ calls) moment x h = no_turns calls _ _

next_turns : (k : ℕ) (x : FileStep) → x.work.turns ≡ 0 → (next_effects k x).work.turns ≡ 0
next_turns zero x h = h
next_turns (suc k) x h = next_turns k (first_effect x.work.calls Next x) (first_turns x.work.calls Next x h)

-- a first call that is sound has had fewer turns than the bound of its disk
pub few_turns : (w : FileWork) → IsSoundWork w → w.turns < most_completions w.system.blocks
few_turns w k = by_calls w.calls refl
  where
    by_calls : (calls : List FileRequest) → w.calls ≡ calls → w.turns < most_completions w.system.blocks
    by_calls [] e = let f = (subst (λ l. IsFirst l w) e k.first).0 in omega (arith, f)
    by_calls (a ∷ calls) e =
        let f = (subst (λ l. IsFirst l w) e k.first).0 in
        let b = turns_bounded a w.system k.system (subst (λ l. AllByRecursion IsFileRequest l) e k.calls).0 in
        omega (arith, f, b)

-- the first call has a turn
turn_nearer : (p : ℕ) (calls : List FileRequest) (x : FileStep) → x.work.calls ≡ calls → IsSoundWork x.work → waits_for_files p x.work ≡ true
    → Nearer p 1 x.work (turned calls x).work
turn_nearer p [] x e k h = absurd (true≢false (sym h ∙ ap (has_one caller_of p) e))
turn_nearer p (a ∷ calls) x e k h =
    nearer_turned p x.work (record x.work { turns = x.work.turns + 1 }) h refl refl refl (few_turns x.work k)

-- the first ones take effect
effects_nearer : (p k : ℕ) (calls : List FileRequest) (x : FileStep) → x.work.calls ≡ calls → IsSoundWork x.work → waits_for_files p x.work ≡ true
    → IsTold p (next_effects k (first_effect calls Finished x)).notes ⊎ Nearer p 1 x.work (next_effects k (first_effect calls Finished x)).work
effects_nearer p k [] x e k2 h = absurd (true≢false (sym h ∙ ap (has_one caller_of p) e))
effects_nearer p k (a ∷ calls) x e sound h =
    let y = next_effects k (first_effect (a ∷ calls) Finished x) in
    let v = y.work in
    let left : v.calls ≡ drop (suc k) x.work.calls =
    ap (λ l. (next_effects k (first_effect l Finished x)).work.calls) (sym e) ∙ calls_left (suc k) x in
    let here : has_one caller_of p (a ∷ calls) ≡ true = ap (has_one caller_of p) (sym e) ∙ h in
    let itself : tells_effect p (line.File p Next) ≡ true = eq-eqb p p refl in
    ⊎_elim
    (λ (f : before caller_of p x.work.calls < suc k). inl (effects_tell p k (a ∷ calls) Finished x (eq-eqb p p refl) itself here
    (subst (λ l. before caller_of p l < suc k) e f)))
    (λ (f : (has_one caller_of p (drop (suc k) x.work.calls) ≡ true) × (before caller_of p (drop (suc k) x.work.calls) + suc k ≡ before caller_of p x.work.calls)).
    inr (nearer_served p k x.work v (ap (has_one caller_of p) left ∙ f.0) (ap (λ l. before caller_of p l + suc k) left ∙ f.1)
    (next_turns k (first_effect (a ∷ calls) Finished x) (no_turns calls _ _))
    (next_blocks k (first_effect (a ∷ calls) Finished x) ∙ first_blocks (a ∷ calls) Finished x) (few_turns x.work sound)))
    (served_or_nearer caller_of p (suc k) x.work.calls h)

-- A good completion tells that p's call took effect, or brings this nearer.
pub completed_nearer : (p n : ℕ) (x : FileStep) → IsSoundWork x.work → waits_for_files p x.work ≡ true
    → IsTold p (calls_completed n x).notes ⊎ Nearer p 1 x.work (calls_completed n x).work
completed_nearer p zero x k h = inr (turn_nearer p x.work.calls x refl k h)
completed_nearer p (suc n) x k h = effects_nearer p n x.work.calls x refl k h
