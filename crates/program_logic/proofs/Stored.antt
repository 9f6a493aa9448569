-- At each moment the guarded word is what the rule says of the count, and of the processes that have stored the next value.
use Rattle.std.proofs.Common.{◌≡◌, ◌≢◌, ◌∙◌, ◌⊎◌, ℕ, zero, suc, ◌+◌, ◌-◌, ◌*◌, ◌/◌, ◌<◌, ◌≤◌, true, false, cond, List, [], ◌∷◌, length, set, inl, inr, refl, sym, ap, subst, arith, Option, Some, None, ⊎_elim}
use Rattle.std.specs.Prelude.{get_or, slice_index_or}
use Rattle.std.proofs.lemmas.Bool.{and_parts, cases_Bool, cases_eq, eq-eqb, ne_eqb, or_cases, true≢false}
use Rattle.part_laws.specs.GivenDisks.{AreSoundDisks}
use Rattle.scheduling_laws.specs.Moments.{LeadTo, Moment}
use Rattle.xinu_base.specs.declared.events.Event.{Event}
use Rattle.xinu_base.specs.declared.lines.TranscriptLine.{TranscriptLine}
use Rattle.xinu_base.specs.declared.processes.State.{State}
use Rattle.xinu_model.specs.Boot.{Disks, Loaded}
use Rattle.xinu_model.specs.Machine.{Xinu, no_hart}
use Rattle.xinu_model.specs.Memory.{number_at}
use Rattle.xinu_model.specs.Runs.{IsTranscript}
use Rattle.xinu_model.specs.Searches.{numbers_from}
use Rattle.xinu_model.specs.Sound.Tables.{total}
use Rattle.xinu_model.specs.Tables.{state_at}
use Rattle.program_logic.specs.Claims.{Program, no_place, no_program, outlines_of, program_in, rows_at, side_claim}
use Rattle.program_logic.specs.Kept.{HasStarted, has_stored, is_ahead, places_tell, programs_tell, side_tells, stored_by, times_given_back, told}
use Rattle.program_logic.specs.Outlines.{Says, has, no_row, says}
use Rattle.program_logic.specs.Running.{IsMade, IsUnmade, Runs, Stands}
use Rattle.program_logic.specs.SystemCheck.{are_there, system_checks}
use Rattle.program_logic.specs.Terms.{once_more, slot_entails, value}
use Rattle.program_logic.specs.declared.knowledge.Facts.{Facts}
use Rattle.program_logic.specs.declared.outline.Lock.{Lock}
use Rattle.program_logic.specs.declared.outline.Place.{Place}
use Rattle.program_logic.specs.declared.values.Slot.TheVariants.{Known}
use Rattle.program_logic.proofs.CheckedRows.{row_get}
use Rattle.program_logic.proofs.Known.{Means, means_entailed, said}
use Rattle.program_logic.proofs.Kept.{ran, transcribed}
use Rattle.program_logic.proofs.TermValues.{next_rule}

-- ---- what a place tells

place_tells : (l : Lock) (places : List Place) (k : ℕ) → places_tell l places ≡ true
    → side_tells l (get_or places k no_place).free (get_or places k no_place).held ≡ true
place_tells l [] k is = refl
place_tells l (q ∷ places) zero is = (and_parts (side_tells l q.free q.held) (places_tell l places) is).0
place_tells l (q ∷ places) (suc k) is = place_tells l places k (and_parts (side_tells l q.free q.held) (places_tell l places) is).1

program_tells : (l : Lock) (programs : List Program) (i : ℕ) → programs_tell l programs ≡ true → places_tell l (get_or programs i no_program).places ≡ true
program_tells l [] i is = refl
program_tells l (g ∷ programs) zero is = (and_parts (places_tell l g.places) (programs_tell l programs) is).0
program_tells l (g ∷ programs) (suc i) is = program_tells l programs i (and_parts (places_tell l g.places) (programs_tell l programs) is).1

stays : (l : Lock) (n v : ℕ) → v ≡ value l.rule n → v ≡ value l.rule (n + 0)
stays l n v is = let e : n ≡ n + 0 = omega arith in is ∙ ap (value l.rule) e

-- with the token: the word is what the rule says, or one time ahead
held_word : (l : Lock) (free held : Option Facts) (n v : ℕ) (regs : List ℕ) → side_tells l free held ≡ true → Says (side_claim held) n v regs
    → v ≡ value l.rule (n + cond (is_ahead l free held) 1 0)
held_word l free None n v regs is says = absurd says
held_word l (Some g) (Some f) n v regs is says = stays l n v (means_entailed f.word (Known l.rule) n v is (said f n v regs says).word)
held_word l None (Some f) n v regs is says = by (cases_Bool (slot_entails f.word (Known (once_more l.rule))))
  where
    w : Means f.word n v
    w = (said f n v regs says).word

    by : (slot_entails f.word (Known (once_more l.rule)) ≡ true) ⊎ (slot_entails f.word (Known (once_more l.rule)) ≡ false)
        → v ≡ value l.rule (n + cond (slot_entails f.word (Known (once_more l.rule))) 1 0)
    by (inl e) =
        subst (λ b. v ≡ value l.rule (n + cond b 1 0)) (sym e)
        (next_rule l.rule.times l.rule.plus n v (means_entailed f.word (Known (once_more l.rule)) n v e w))
    by (inr e) =
        subst (λ b. v ≡ value l.rule (n + cond b 1 0)) (sym e)
        (stays l n v (rest (or_cases (slot_entails f.word (Known (once_more l.rule))) (slot_entails f.word (Known l.rule)) is)))
      where
        rest : (slot_entails f.word (Known (once_more l.rule)) ≡ true) ⊎ (slot_entails f.word (Known l.rule) ≡ true) → v ≡ value l.rule n
        rest (inl z) = absurd (true≢false (sym z ∙ e))
        rest (inr z) = means_entailed f.word (Known l.rule) n v z w

-- without it nothing was stored
free_behind : (l : Lock) (free held : Option Facts) (n v : ℕ) (regs : List ℕ) → Says (side_claim free) n v regs → is_ahead l free held ≡ false
free_behind l None held n v regs says = absurd says
free_behind l (Some f) held n v regs says = refl

-- ---- what a process tells

-- the place at which a process is
stored_is : (l : Lock) (programs : List Program) (s : Xinu) (p k : ℕ) → (slice_index_or s.harts p no_hart).pc ≡ (program_in programs p).first + 4 * k
    → has_stored l programs s p
    ≡ is_ahead l (get_or (program_in programs p).places k no_place).free (get_or (program_in programs p).places k no_place).held
stored_is l programs s p k pc =
    let e : ((slice_index_or s.harts p no_hart).pc - (program_in programs p).first) / 4 ≡ k = omega (arith, pc) in
    ap (λ j. is_ahead l (get_or (program_in programs p).places j no_place).free (get_or (program_in programs p).places j no_place).held) e

module _ (l : Lock) (programs : List Program) (holder : Option ℕ) (n : ℕ) (s : Xinu) (tell : programs_tell l programs ≡ true)
    (k : Runs (outlines_of l programs) holder n s) (p : ℕ) (some : 1 ≤ p) (few : p ≤ length programs) where
  abbrev at : ℕ → Place
  at j = get_or (program_in programs p).places j no_place

  free_at : (j m w : ℕ) (regs : List ℕ) → says false (get_or (rows_at (program_in programs p).places) j no_row) m w regs
      → is_ahead l (at j).free (at j).held ≡ false
  free_at j m w regs says_so =
      free_behind l (at j).free (at j).held 0 0 regs (subst (λ r. says false r m w regs) (row_get (program_in programs p).places j) says_so)

  held_at : (j m w : ℕ) (regs : List ℕ) → says true (get_or (rows_at (program_in programs p).places) j no_row) m w regs
      → w ≡ value l.rule (m + cond (is_ahead l (at j).free (at j).held) 1 0)
  held_at j m w regs says_so =
      held_word l (at j).free (at j).held m w regs (place_tells l (program_in programs p).places j (program_tells l programs (p - 1) tell))
      (subst (λ r. says true r m w regs) (row_get (program_in programs p).places j) says_so)

  -- who hasn't the token has stored nothing
  pub not_stored : has holder p ≡ false → has_stored l programs s p ≡ false
  not_stored is =
      let th = k.running.threads p some few in
      stored_is l programs s p th.place th.pc
      ∙ by th.place n (number_at s.memory l.word 4) (slice_index_or s.harts p no_hart).regs (state_at s.tables p)
      (subst (λ b. Stands (outlines_of l programs) p b th.place n (number_at s.memory l.word 4) (slice_index_or s.harts p no_hart).regs (state_at s.tables p)) is th.stands)
    where
      by : (j m w : ℕ) (regs : List ℕ) (state : State) → Stands (outlines_of l programs) p false j m w regs state → is_ahead l (at j).free (at j).held ≡ false
      by j m w regs state (inl z) = free_at j m w regs z.1
      by j m w regs state (inr (inl z)) = free_at j 0 0 (set regs 10 4294967295) z.1.1.1
      by j m w regs state (inr (inr z)) = free_at j m w (set regs 10 0) z.1

  -- who has it tells the word
  pub word_told : has holder p ≡ true → number_at s.memory l.word 4 ≡ value l.rule (n + cond (has_stored l programs s p) 1 0)
  word_told is =
      let th = k.running.threads p some few in
      subst (λ b. number_at s.memory l.word 4 ≡ value l.rule (n + cond b 1 0)) (sym (stored_is l programs s p th.place th.pc))
      (by th.place n (number_at s.memory l.word 4) (slice_index_or s.harts p no_hart).regs (state_at s.tables p)
      (subst (λ b. Stands (outlines_of l programs) p b th.place n (number_at s.memory l.word 4) (slice_index_or s.harts p no_hart).regs (state_at s.tables p)) is th.stands))
    where
      by : (j m w : ℕ) (regs : List ℕ) (state : State) → Stands (outlines_of l programs) p true j m w regs state
          → w ≡ value l.rule (m + cond (is_ahead l (at j).free (at j).held) 1 0)
      by j m w regs state (inl z) = held_at j m w regs z.1
      by j m w regs state (inr (inl z)) = absurd (true≢false z.1.0)
      by j m w regs state (inr (inr z)) = held_at j m w (set regs 10 0) z.1

-- ---- how many have

total_none : (f : ℕ → ℕ) (a k : ℕ) → ((q : ℕ) → a ≤ q → q < a + k → f q ≡ 0) → total f (numbers_from a k) ≡ 0
total_none f a zero none = refl
total_none f a (suc k) none =
    let e = none a (omega arith) (omega arith) in
    let r = total_none f (a + 1) k (λ q low high. none q (omega arith) (omega arith)) in
    omega arith

total_one : (f : ℕ → ℕ) (z a k : ℕ) → a ≤ z → z < a + k → ((q : ℕ) → a ≤ q → q < a + k → q ≢ z → f q ≡ 0) → total f (numbers_from a k) ≡ f z
total_one f z a zero low high others = absurd (omega arith)
total_one f z a (suc k) low high others = ⊎_elim
    (λ (e : a ≡ z).
    let r = total_none f (a + 1) k (λ q l h. others q (omega arith) (omega arith) (λ d. absurd (omega arith))) in let d = ap f e in omega (arith, r, d))
    (λ (other : a ≢ z).
    let e = others a (omega arith) (omega arith) other in
    let r = total_one f z (a + 1) k (omega arith) (omega arith) (λ q l h d. others q (omega arith) (omega arith) d) in omega (arith, e, r))
    (cases_eq a z)

pub counted : (l : Lock) (programs : List Program) (holder : Option ℕ) (n : ℕ) (s : Xinu) → programs_tell l programs ≡ true
    → Runs (outlines_of l programs) holder n s → number_at s.memory l.word 4 ≡ value l.rule (n + stored_by l programs s)
counted l programs None n s tell k =
    let none = total_none (λ p. cond (has_stored l programs s p) 1 0) 1 (length programs)
    (λ q low high. ap {B = ℕ} (λ b. cond b 1 0) (not_stored l programs None n s tell k q low (omega arith) refl)) in
    stays l n (number_at s.memory l.word 4) (rule k.running.lock) ∙ ap (λ i. value l.rule (n + i)) (sym none)
  where
    rule : IsMade (outlines_of l programs) None n (number_at s.memory l.word 4) s.tables ⊎ IsUnmade (outlines_of l programs) None n (number_at s.memory l.word 4) s.tables
        → number_at s.memory l.word 4 ≡ value l.rule n
    rule (inl made) = made.rule refl
    rule (inr unmade) = unmade.rule
counted l programs (Some z) n s tell k = by k.running.lock
  where
    by : IsMade (outlines_of l programs) (Some z) n (number_at s.memory l.word 4) s.tables ⊎ IsUnmade (outlines_of l programs) (Some z) n (number_at s.memory l.word 4) s.tables
        → number_at s.memory l.word 4 ≡ value l.rule (n + stored_by l programs s)
    by (inr unmade) = let f = unmade.nobody in absurd (cc)
    by (inl made) =
        let few = made.one z refl in
        let one = total_one (λ p. cond (has_stored l programs s p) 1 0) z 1 (length programs) few.0 (omega (arith, few.1))
        (λ q low high other. ap {B = ℕ} (λ b. cond b 1 0) (not_stored l programs (Some z) n s tell k q low (omega arith) (ne_eqb z q (λ e. other (sym e))))) in
        word_told l programs (Some z) n s tell k z few.0 few.1 (eq-eqb z z refl) ∙ ap (λ i. value l.rule (n + i)) (sym one)

pub always_counted : (l : Lock) (programs : List Program) (disks : Disks) (images : List Loaded) (start now : Xinu) (ms : List Moment)
    → system_checks l programs ≡ true → programs_tell l programs ≡ true → HasStarted l programs disks images start → LeadTo start ms now
    → number_at now.memory l.word 4 ≡ value l.rule (times_given_back l.sem ms + stored_by l programs now)
always_counted l programs disks images start now ms is tell has_started lead =
    let r = ran l programs disks images start now ms is has_started lead in
    let e : r.count ≡ times_given_back l.sem ms = omega (arith, r.is) in
    counted l programs r.holder r.count now tell r.runs ∙ ap (λ i. value l.rule (i + stored_by l programs now)) e

pub transcripts_counted : (l : Lock) (programs : List Program) (disks : Disks) (images : List Loaded) (events : List Event) (last : Xinu) (all : List TranscriptLine)
    → system_checks l programs ≡ true → programs_tell l programs ≡ true → are_there l programs images ≡ true → AreSoundDisks disks
    → IsTranscript disks images events last all → number_at last.memory l.word 4 ≡ value l.rule (told l.sem all + stored_by l programs last)
transcripts_counted l programs disks images events last all is tell there sound t =
    let z = transcribed l disks images events last all t in
    always_counted l programs disks images z.0 last z.1.1.moments is tell (record { loaded = there; sound = sound; boots = z.1.0 }) z.1.1.lead
    ∙ ap (λ i. value l.rule (i + stored_by l programs last)) z.1.1.told
