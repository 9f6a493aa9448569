-- Of the two programs that count: which process has stored its sum, by its pc.
use Rattle.std.proofs.Common.{◌≡◌, ◌≢◌, ◌∙◌, ◌⊎◌, ℕ, zero, suc, ◌+◌, ◌-◌, ◌*◌, ◌/◌, ◌%◌, ◌^◌, ◌≤◌, ◌<◌, ◌&&◌, Bool, true, false, cond, List, inl, inr, refl, sym, ap, arith, None}
use Rattle.std.specs.Prelude.{get_or, nat_le, nat_lt, slice_index_or}
use Rattle.std.proofs.lemmas.Bool.{cases_Bool, ltb-false, ltb-true}
use Rattle.std.proofs.lemmas.Bool.Decides.{leb_tells}
use Rattle.part_laws.specs.GivenDisks.{AreSoundDisks}
use Rattle.program_logic.proofs.CheckedPrograms.{system_obeys}
use Rattle.program_logic.proofs.Kept.{always_keeps, starts_running}
use Rattle.program_logic.proofs.Stored.{always_counted, transcripts_counted}
use Rattle.program_logic.proofs.Stretches.{run_ends}
use Rattle.program_logic.specs.Claims.{no_place, outlines_of}
use Rattle.program_logic.specs.Kept.{has_stored, is_ahead, stored_by}
use Rattle.scheduling_laws.specs.Moments.{LeadTo, Moment}
use Rattle.xinu_base.specs.declared.events.End.{End}
use Rattle.xinu_base.specs.declared.events.End.TheVariants.{Schedule}
use Rattle.xinu_base.specs.declared.processes.State.TheVariants.{Free}
use Rattle.xinu_base.specs.declared.events.Event.{Event}
use Rattle.xinu_base.specs.declared.lines.TranscriptLine.{TranscriptLine}
use Rattle.xinu_model.specs.Boot.{Boots, Disks, boot_on}
use Rattle.xinu_model.specs.Machine.{Xinu, no_hart}
use Rattle.xinu_model.specs.Runs.{IsTranscript, RunsTo}
use Rattle.xinu_model.specs.Tables.{state_at}
use Rattle.proved_programs.proofs.Loaded.{counting_checks, counting_started, counting_there}
use Rattle.proved_programs.specs.Counting.{counting_first, counting_images, counting_lock, counting_loop, counting_programs}
use Rattle.proved_programs.specs.Statement.{IsCounted, IsToldRight, has_added, one_if, rounds}

-- whether the word is ahead at place k of the loop: from behind the store up to `signal`
abbrev Behind : Bool → ℕ → Type 0
Behind ahead k = ((ahead ≡ true) × ((7 ≤ k) × (k ≤ 9))) ⊎ ((ahead ≡ false) × ((k < 7) ⊎ (9 < k)))

abbrev ahead_at : ℕ → Bool
ahead_at k = is_ahead counting_lock (get_or counting_loop k no_place).free (get_or counting_loop k no_place).held

in_loop : (k : ℕ) → Behind (ahead_at k) k
in_loop zero = inr (refl, inl (omega arith))
in_loop (suc zero) = inr (refl, inl (omega arith))
in_loop (suc (suc zero)) = inr (refl, inl (omega arith))
in_loop (suc (suc (suc zero))) = inr (refl, inl (omega arith))
in_loop (suc (suc (suc (suc zero)))) = inr (refl, inl (omega arith))
in_loop (suc (suc (suc (suc (suc zero))))) = inr (refl, inl (omega arith))
in_loop (suc (suc (suc (suc (suc (suc zero)))))) = inr (refl, inl (omega arith))
in_loop (suc (suc (suc (suc (suc (suc (suc zero))))))) = inl (refl, (omega arith, omega arith))
in_loop (suc (suc (suc (suc (suc (suc (suc (suc zero)))))))) = inl (refl, (omega arith, omega arith))
in_loop (suc (suc (suc (suc (suc (suc (suc (suc (suc zero))))))))) = inl (refl, (omega arith, omega arith))
in_loop (suc (suc (suc (suc (suc (suc (suc (suc (suc (suc zero)))))))))) = inr (refl, inr (omega arith))
in_loop (suc (suc (suc (suc (suc (suc (suc (suc (suc (suc (suc k))))))))))) = inr (refl, inr (omega arith))

lt_tells : (a b : ℕ) → ((nat_lt a b ≡ true) × (a < b)) ⊎ ((nat_lt a b ≡ false) × (b ≤ a))
lt_tells a b = by (cases_Bool (nat_lt a b))
  where
    by : (nat_lt a b ≡ true) ⊎ (nat_lt a b ≡ false) → ((nat_lt a b ≡ true) × (a < b)) ⊎ ((nat_lt a b ≡ false) × (b ≤ a))
    by (inl e) = inl (e, ltb-true a b e)
    by (inr e) = inr (e, ltb-false a b e)

-- the same by addresses
between : (low high pc : ℕ) (ahead : Bool) → ((ahead ≡ true) × ((low ≤ pc) × (pc < high))) ⊎ ((ahead ≡ false) × ((pc < low) ⊎ (high ≤ pc)))
    → nat_le low pc && nat_lt pc high ≡ ahead
between low high pc ahead is = by_both is (leb_tells low pc) (lt_tells pc high)
  where
    by_both : ((ahead ≡ true) × ((low ≤ pc) × (pc < high))) ⊎ ((ahead ≡ false) × ((pc < low) ⊎ (high ≤ pc)))
        → ((nat_le low pc ≡ true) × (low ≤ pc)) ⊎ ((nat_le low pc ≡ false) × (pc < low))
        → ((nat_lt pc high ≡ true) × (pc < high)) ⊎ ((nat_lt pc high ≡ false) × (high ≤ pc)) → nat_le low pc && nat_lt pc high ≡ ahead
    by_both (inl x) (inl a) (inl b) = ap (λ c. c && nat_lt pc high) a.0 ∙ b.0 ∙ sym x.0
    by_both (inl x) (inl a) (inr b) = absurd (omega (arith, x.1.1, b.1))
    by_both (inl x) (inr a) b = absurd (omega (arith, x.1.0, a.1))
    by_both (inr x) (inr a) b = ap (λ c. c && nat_lt pc high) a.0 ∙ sym x.0
    by_both (inr x) (inl a) (inr b) = ap (λ c. c && nat_lt pc high) a.0 ∙ b.0 ∙ sym x.0
    by_both (inr (e, inl z)) (inl a) (inl b) = absurd (omega (arith, a.1))
    by_both (inr (e, inr z)) (inl a) (inl b) = absurd (omega (arith, b.1))

second_added : (s : Xinu) → has_added s 2 ≡ has_stored counting_lock counting_programs s 2
second_added s = between 92 104 pc (ahead_at ((pc - 64) / 4)) (by (in_loop ((pc - 64) / 4)))
  where
    pc : ℕ
    pc = (slice_index_or s.harts 2 no_hart).pc

    by : Behind (ahead_at ((pc - 64) / 4)) ((pc - 64) / 4)
        → ((ahead_at ((pc - 64) / 4) ≡ true) × ((92 ≤ pc) × (pc < 104))) ⊎ ((ahead_at ((pc - 64) / 4) ≡ false) × ((pc < 92) ⊎ (104 ≤ pc)))
    by (inl (e, (low, high))) = inl (e, (omega arith, omega arith))
    by (inr (e, inl low)) = inr (e, inl (omega arith))
    by (inr (e, inr high)) = inr (e, inr (omega arith))

abbrev first_at : ℕ → Bool
first_at k = is_ahead counting_lock (get_or counting_first.places k no_place).free (get_or counting_first.places k no_place).held

first_added : (s : Xinu) → has_added s 1 ≡ has_stored counting_lock counting_programs s 1
first_added s = by_place ((pc - 0) / 4) refl
  where
    pc : ℕ
    pc = (slice_index_or s.harts 1 no_hart).pc

    by : (k : ℕ) → (pc - 0) / 4 ≡ suc (suc (suc k)) → Behind (ahead_at k) k
        → ((ahead_at k ≡ true) × ((40 ≤ pc) × (pc < 52))) ⊎ ((ahead_at k ≡ false) × ((pc < 40) ⊎ (52 ≤ pc)))
    by k is (inl (e, (low, high))) = inl (e, (omega arith, omega arith))
    by k is (inr (e, inl low)) = inr (e, inl (omega arith))
    by k is (inr (e, inr high)) = inr (e, inr (omega arith))

    by_place : (k : ℕ) → (pc - 0) / 4 ≡ k → nat_le 40 pc && nat_lt pc 52 ≡ first_at ((pc - 0) / 4)
    by_place zero is = between 40 52 pc false (inr (refl, inl (omega arith))) ∙ sym (ap first_at is)
    by_place (suc zero) is = between 40 52 pc false (inr (refl, inl (omega arith))) ∙ sym (ap first_at is)
    by_place (suc (suc zero)) is = between 40 52 pc false (inr (refl, inl (omega arith))) ∙ sym (ap first_at is)
    by_place (suc (suc (suc k))) is = between 40 52 pc (ahead_at k) (by k is (in_loop k)) ∙ sym (ap first_at is)

-- The word by rounds and by pcs.
by_pcs : (n : ℕ) (s : Xinu) → (1 * (n + stored_by counting_lock counting_programs s) + 0) % 2 ^ 32 ≡ (n + (one_if (has_added s 1) + one_if (has_added s 2))) % 2 ^ 32
by_pcs n s =
    let a = ap {B = ℕ} (λ b. cond b 1 0) (first_added s) in
    let b = ap {B = ℕ} (λ b. cond b 1 0) (second_added s) in
    let e : 1 * (n + stored_by counting_lock counting_programs s) + 0 ≡ n + (one_if (has_added s 1) + one_if (has_added s 2)) = omega arith in
    ap (λ i. i % 2 ^ 32) e

-- At each moment the word is what was counted,
pub moments_counted : (disks : Disks) (start now : Xinu) (ms : List Moment) → AreSoundDisks disks → boot_on disks counting_images ≡ Boots start → LeadTo start ms now
    → IsCounted ms now
moments_counted disks start now ms sound boots lead =
    always_counted counting_lock counting_programs disks counting_images start now ms counting_checks refl (counting_started disks start sound boots) lead
    ∙ by_pcs (rounds ms) now

-- and at the end of each transcript.
pub transcripts_tell : (disks : Disks) (events : List Event) (last : Xinu) (all : List TranscriptLine) → AreSoundDisks disks
    → IsTranscript disks counting_images events last all → IsToldRight all last
transcripts_tell disks events last all sound t =
    transcripts_counted counting_lock counting_programs disks counting_images events last all counting_checks refl counting_there sound t
    ∙ by_pcs _ last

-- Both processes are alive at each moment,
pub always_alive : (disks : Disks) (start now : Xinu) (ms : List Moment) (p : ℕ) → AreSoundDisks disks → boot_on disks counting_images ≡ Boots start → LeadTo start ms now
    → 1 ≤ p → p ≤ 2 → state_at now.tables p ≢ Free
always_alive disks start now ms p sound boots lead some few =
    (always_keeps counting_lock counting_programs counting_checks disks counting_images start now ms (counting_started disks start sound boots) lead).alive p some few

-- and a run takes all its events.
pub always_goes_on : (disks : Disks) (start last : Xinu) (events : List Event) (lines : List TranscriptLine) (end : End) → AreSoundDisks disks
    → boot_on disks counting_images ≡ Boots start → RunsTo start events lines last end → end ≡ Schedule
always_goes_on disks start last events lines end sound boots run =
    run_ends (outlines_of counting_lock counting_programs) None 0 events start lines last end (system_obeys counting_lock counting_programs counting_checks) (omega arith)
    (starts_running counting_lock counting_programs disks counting_images start counting_checks (counting_started disks start sound boots)) run
