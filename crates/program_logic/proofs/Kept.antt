-- Programs that check keep the rule of their lock, from boot on, on every schedule.
use Rattle.std.proofs.Common.{List, None, Option, Some, [], ap, arith, false, inl, inr, length, refl, subst, suc, sym, true, zero, ℕ, ◌&&◌, ◌+◌, ◌-◌, ◌<◌, ◌==◌, ◌∙◌, ◌∷◌, ◌≡◌, ◌⊎◌}
use Rattle.std.proofs.lemmas.Bool.{and_parts, eqb-true, leb-true, true≢false}
use Rattle.std.specs.Prelude.{get_or, nat_le, replicate, slice_index}
use Rattle.part_laws.specs.GivenDisks.{AreSoundDisks}
use Rattle.scheduling_laws.proofs.Stretches.{runs_lead}
use Rattle.scheduling_laws.specs.Moments.{LeadTo, Moment}
use Rattle.xinu_base.specs.declared.events.Event.{Event}
use Rattle.xinu_base.specs.declared.lines.TranscriptLine.{TranscriptLine}
use Rattle.xinu_model.specs.Boot.{Boots, Disks, Loaded, boot_on, with_images}
use Rattle.xinu_model.specs.Machine.{Xinu}
use Rattle.xinu_model.specs.Memory.{number_at, zeros}
use Rattle.xinu_model.specs.Process.Creation.{new_hart}
use Rattle.xinu_model.specs.Runs.{IsTranscript}
use Rattle.xinu_model.specs.Tables.{Tables, semaphore_at}
use Rattle.program_logic.proofs.CheckedPrograms.{each_placed, system_obeys}
use Rattle.program_logic.proofs.CheckedRows.{row_get}
use Rattle.program_logic.proofs.Known.{Means, arrived}
use Rattle.program_logic.proofs.Starting.{BeginAt, boots_running}
use Rattle.program_logic.proofs.Stretches.{RanOn, lives, stretch_runs}
use Rattle.program_logic.proofs.Told.{stretch_right, whole_told}
use Rattle.program_logic.specs.Claims.{Program, no_place, no_program, outlines_of, program_in, rows_at}
use Rattle.program_logic.specs.Images.{Lie}
use Rattle.program_logic.specs.Kept.{AlwaysKeeps, HasStarted, IsKept, times_given_back, told}
use Rattle.program_logic.specs.Outlines.{Rule, System, no_row, says, words_of}
use Rattle.program_logic.specs.PlaceCheck.{follows}
use Rattle.program_logic.specs.Running.{IsMade, IsUnmade, Runs}
use Rattle.program_logic.specs.SystemCheck.{all_there, are_there, begin_there, lie_there, lock_checks, programs_check, ram_checks, system_checks, words_in}
use Rattle.program_logic.specs.Terms.{nothing, value}
use Rattle.program_logic.specs.declared.outline.Lock.{Lock}
use Rattle.program_logic.specs.declared.outline.Place.{Place}
use Rattle.program_logic.specs.declared.values.Slot.TheVariants.{Unknown}

lies : (memory : List ℕ) (a : ℕ) (places : List Place) → lie_there memory a (words_in places) ≡ true → Lie memory a (words_of (rows_at places))
lies memory a [] is = tt
lies memory a (q ∷ places) is =
    let b = and_parts (nat_le (a + 4) (length memory)) ((number_at memory a 4 == q.word) && lie_there memory (a + 4) (words_in places)) is in
    let c = and_parts (number_at memory a 4 == q.word) (lie_there memory (a + 4) (words_in places)) b.1 in
    (leb-true (a + 4) (length memory) b.0, (eqb-true (number_at memory a 4) q.word c.0, lies memory (a + 4) places c.1))

one_lies : (memory : List ℕ) (programs : List Program) (i : ℕ) → all_there memory programs ≡ true → i < length programs
    → Lie memory ((get_or programs i no_program).first) (words_of (rows_at ((get_or programs i no_program).places)))
one_lies memory [] i is few = absurd (omega arith)
one_lies memory (g ∷ programs) zero is few = lies memory g.first g.places (and_parts (lie_there memory g.first (words_in g.places)) (all_there memory programs) is).0
one_lies memory (g ∷ programs) (suc i) is few =
    one_lies memory programs i (and_parts (lie_there memory g.first (words_in g.places)) (all_there memory programs) is).1 (omega arith)

pub begins : (programs : List Program) (images : List Loaded) (first : ℕ → ℕ) (i : ℕ) → ((j : ℕ) → first (i + j) ≡ (get_or programs j no_program).first)
    → begin_there programs images ≡ true → BeginAt first i images × (length images ≡ length programs)
begins [] [] first i all is = (tt, refl)
begins (g ∷ programs) (image ∷ images) first i all is =
    let a = and_parts (image.entry == g.first) (begin_there programs images) is in
    let z : i ≡ i + 0 = omega arith in
    let rest = begins programs images first (i + 1)
    (λ j. let e : i + 1 + j ≡ i + suc j = omega arith in ap first e ∙ all (suc j)) a.1 in
    ((eqb-true image.entry g.first a.0 ∙ sym (ap first z ∙ all 0), rest.0), ap suc rest.1)
begins [] (image ∷ images) first i all is = absurd (true≢false (sym is))
begins (g ∷ programs) [] first i all is = absurd (true≢false (sym is))

-- the rule from a lock that is made or not yet
rule_of : (y : System) (holder : Option ℕ) (n v : ℕ) (t : Tables) → IsMade y holder n v t ⊎ IsUnmade y holder n v t → (semaphore_at t y.sem).tokens ≡ 1 → Rule y n v
rule_of y None n v t (inl made) free = made.rule refl
rule_of y (Some z) n v t (inl made) free = absurd (let e : (semaphore_at t y.sem).tokens ≡ 0 = made.tokens in omega (arith, e, free))
rule_of y holder n v t (inr unmade) free = unmade.rule

all_unknown : (n j : ℕ) → get_or (replicate n Unknown) j Unknown ≡ Unknown
all_unknown zero j = refl
all_unknown (suc n) zero = refl
all_unknown (suc n) (suc j) = all_unknown n j

starts_at : (places : List Place) (regs : List ℕ) → follows places false 0 nothing ≡ true → says false (get_or (rows_at places) 0 no_row) 0 0 regs
starts_at places regs is =
    subst (λ r. says false r 0 0 regs) (sym (row_get places 0))
    (arrived ((get_or places 0 no_place).free) nothing 0 0 regs is (record { registers = λ j. subst (λ z. Means z 0 (slice_index regs j)) (sym (all_unknown 32 j)) tt; word = tt }))

-- Programs that check run from the start on.
pub starts_running : (l : Lock) (programs : List Program) (disks : Disks) (images : List Loaded) (start : Xinu) → system_checks l programs ≡ true
    → HasStarted l programs disks images start → Runs (outlines_of l programs) None 0 start
starts_running l programs disks images start is has_started =
    let ok = system_obeys l programs is in
    let there = and_parts (begin_there programs images) (ram_checks (with_images images zeros) l programs) has_started.loaded in
    let begin = there.0 in
    let ram = there.1 in
    let a = and_parts (l.sem == 4) ((number_at (with_images images zeros) l.word 4 == value l.rule 0) && all_there (with_images images zeros) programs) ram in
    let b = and_parts (number_at (with_images images zeros) l.word 4 == value l.rule 0) (all_there (with_images images zeros) programs) a.1 in
    let c = and_parts (lock_checks l (length programs)) (programs_check l programs) is in
    let begun = begins programs images (λ p. (program_in programs p).first) 1 (λ j. let e : 1 + j - 1 ≡ j = omega arith in ap (λ k. (get_or programs k no_program).first) e) begin in
    boots_running (outlines_of l programs) disks images start ok has_started.sound begun.1 (eqb-true l.sem 4 a.0) begun.0
    (λ p some few. one_lies (with_images images zeros) programs (p - 1) b.1 (omega arith))
    (eqb-true (number_at (with_images images zeros) l.word 4) (value l.rule 0) b.0)
    (λ p some few top. starts_at ((program_in programs p).places) ((new_hart ((program_in programs p).first) top 0 0).regs) ((each_placed l programs c.1 p some few).begins)) has_started.boots

pub ran : (l : Lock) (programs : List Program) (disks : Disks) (images : List Loaded) (start now : Xinu) (ms : List Moment) → system_checks l programs ≡ true
    → HasStarted l programs disks images start → LeadTo start ms now → RanOn (outlines_of l programs) 0 ms now
ran l programs disks images start now ms is has_started lead =
    stretch_runs (outlines_of l programs) None 0 ms start now (system_obeys l programs is) (starts_running l programs disks images start is has_started) lead

-- while they run, whenever nobody has the token the rule holds
kept_running : (l : Lock) (programs : List Program) (holder : Option ℕ) (n m : ℕ) (now : Xinu) → n ≡ m → Runs (outlines_of l programs) holder n now
    → IsKept l (length programs) m now
kept_running l programs holder n m now is runs = record {
  rule = λ free. subst (λ i. number_at now.memory l.word 4 ≡ value l.rule i) is
      (rule_of (outlines_of l programs) holder n (number_at now.memory l.word 4) now.tables runs.running.lock free);
  alive = λ p some few. lives (outlines_of l programs) holder n now p runs some few;
}

pub always_keeps : (l : Lock) (programs : List Program) → system_checks l programs ≡ true → AlwaysKeeps l programs
always_keeps l programs is disks images start now ms has_started lead =
    let r = ran l programs disks images start now ms is has_started lead in
    kept_running l programs r.holder r.count (times_given_back l.sem ms) now (omega (arith, r.is)) r.runs

-- The moments of a transcript: they lead to its last state, and its lines tell of each call.
pub record Transcribed (l : Lock) (start last : Xinu) (all : List TranscriptLine) : Type 0 where
  pub moments : List Moment
  pub lead : LeadTo start moments last
  pub told : times_given_back l.sem moments ≡ told l.sem all

pub transcribed : (l : Lock) (disks : Disks) (images : List Loaded) (events : List Event) (last : Xinu) (all : List TranscriptLine)
    → IsTranscript disks images events last all → (start : Xinu) × ((boot_on disks images ≡ Boots start) × Transcribed l start last all)
transcribed l disks images events last all t =
    let r = runs_lead events t.start t.lines last t.end t.runs in (
      t.start,
      (
        t.boots,
        record {
          moments = r.0;
          lead = r.1.0;
          told = sym (ap (told l.sem) t.whole ∙ whole_told l.sem t.start last t.lines t.end ∙ ap (told l.sem) r.1.1 ∙ stretch_right l.sem r.0 t.start last r.1.0);
        },
      ),
    )

pub transcripts_keep : (l : Lock) (programs : List Program) (disks : Disks) (images : List Loaded) (events : List Event) (last : Xinu) (all : List TranscriptLine)
    → system_checks l programs ≡ true → are_there l programs images ≡ true → AreSoundDisks disks → IsTranscript disks images events last all
    → IsKept l (length programs) (told l.sem all) last
transcripts_keep l programs disks images events last all is there sound t =
    let z = transcribed l disks images events last all t in
    subst (λ n. IsKept l (length programs) n last) z.1.1.told
    (always_keeps l programs is disks images z.0 last z.1.1.moments (record { loaded = there; sound = sound; boots = z.1.0 }) z.1.1.lead)
