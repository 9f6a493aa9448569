-- The statement, of each state in which the programs run, and so of each moment.
use Rattle.std.proofs.Common.{◌≡◌, ◌≢◌, ◌∙◌, ◌⊎◌, ⊎_elim, inl, inr, refl, sym, ap, subst, arith, ℕ, ◌+◌, ◌*◌, ◌≤◌, ◌<◌, ◌%◌, ◌^◌, ◌++◌, ◌&&◌, ◌||◌, List, [], ◌∷◌, get_or, true}
use Rattle.std.proofs.lemmas.Bool.{and_parts, leb-true, ltb-true, or_cases}
use Rattle.std.specs.Prelude.{nat_le, nat_lt, slice_index}
use Rattle.part_laws.specs.GivenDisks.{AreSoundDisks}
use Rattle.scheduling_laws.specs.Moments.{LeadTo, Moment}
use Rattle.table_laws.proofs.Tables.MoveTo.{by_number}
use Rattle.xinu_base.specs.declared.processes.State.{State}
use Rattle.xinu_base.specs.declared.processes.State.TheVariants.{Current, Free, Ready}
use Rattle.xinu_model.specs.Boot.{Boots, Disks, boot_on, with_images}
use Rattle.xinu_model.specs.Machine.{Xinu, no_hart}
use Rattle.xinu_model.specs.Memory.{zeros}
use Rattle.xinu_model.specs.Tables.{state_at}
use Rattle.program_logic.proofs.Told.{stretch_right, whole_told}
use Rattle.scheduling_laws.proofs.Stretches.{runs_lead}
use Rattle.program_logic.specs.Kept.{times_given_back, told}
use Rattle.xinu_base.specs.declared.events.Event.{Event}
use Rattle.xinu_base.specs.declared.lines.TranscriptLine.{TranscriptLine}
use Rattle.xinu_model.specs.Runs.{IsTranscript}
use Rattle.program_logic.proofs.Placed.{Piece, pieces_lie}
use Rattle.program_logic.specs.Images.{Lie, image_of}
use Rattle.bounded_buffer.proofs.Idle.{each_of}
use Rattle.bounded_buffer.proofs.Running.{Runs, Stands}
use Rattle.bounded_buffer.proofs.Starting.{boots_running}
use Rattle.bounded_buffer.proofs.Stepping.{RunsOn, event_runs, signalled_in}
use Rattle.bounded_buffer.specs.Buffer.{At, buffer_images, consumer, producer}
use Rattle.bounded_buffer.specs.Places.{All, Bare, Done, Holding, Known, Outside, Phase, Single, done, says, words_in}
use Rattle.bounded_buffer.specs.Statement.{IsInOrder, consumer_of, put_in, puts_told, taken_in, takes_told}

-- ---- what the consumer has loaded

-- who is at a place to which a process comes in its last phase only is in that phase
in_done : (g : Phase) (word slot c : ℕ) (xs : List Known) (regs : List ℕ) → says g (done word slot xs) c regs → All c regs xs
in_done Bare word slot c xs regs may = absurd may.1
in_done Single word slot c xs regs may = absurd may.1
in_done Outside word slot c xs regs may = absurd may.1
in_done Holding word slot c xs regs may = absurd may.1
in_done Done word slot c xs regs may = may.1

-- one of three numbers
in_three : (P : ℕ → Type 0) (n k : ℕ) → P n → P (n + 1) → P (n + 2) → n ≤ k → k < n + 3 → P k
in_three P n k a b c low high =
    by_number k n P a (λ first. by_number k (n + 1) P b (λ second. let e : n + 2 ≡ k = omega (arith, first, second) in subst P e c))

module _ (g : Phase) (j : ℕ) (regs : List ℕ) (state : State) where
  abbrev HasItem : ℕ → Type 0
  HasItem k = Stands 2 g k j regs state → slice_index regs 5 ≡ j % 2 ^ 32

  -- at a place after the load
  at_done : (k word slot : ℕ) (xs : List Known) → ((f : Phase) (regs : List ℕ) → At 2 f k j regs → says f (done word slot xs) j regs)
      → (All j regs xs → slice_index regs 5 ≡ (j + 0) % 2 ^ 32) → HasItem k
  at_done k word slot xs is gives (inl (can, at)) =
      let e : slice_index regs 5 ≡ (j + 0) % 2 ^ 32 = gives (in_done g word slot j xs regs (is g regs at)) in omega (arith, e)
  at_done k word slot xs is gives (inr (waits, (out, at))) = absurd (is Holding _ at).1

  item_loaded : (k : ℕ) → ((5 ≤ k) × (k < 8)) ⊎ ((13 ≤ k) × (k < 16)) → HasItem k
  item_loaded k (inl (low, high)) =
      in_three HasItem 5 k (at_done 5 _ 0 _ (λ f r at. at) (λ all. all.0)) (at_done 6 _ 0 _ (λ f r at. at) (λ all. all.1.0)) (at_done 7 _ 0 _ (λ f r at. at) (λ all. all.1.1.0)) low high
  item_loaded k (inr (low, high)) =
      in_three HasItem 13 k (at_done 13 _ 1 _ (λ f r at. at) (λ all. all.0)) (at_done 14 _ 1 _ (λ f r at. at) (λ all. all.1.0)) (at_done 15 _ 1 _ (λ f r at. at) (λ all. all.1.1.0)) low high

-- the places by the pc
after_load : (pc k : ℕ) → pc ≡ 96 + 4 * k → ((nat_le 116 pc && nat_lt pc 128) || (nat_le 148 pc && nat_lt pc 160)) ≡ true → ((5 ≤ k) × (k < 8)) ⊎ ((13 ≤ k) × (k < 16))
after_load pc k is loaded = by (or_cases (nat_le 116 pc && nat_lt pc 128) (nat_le 148 pc && nat_lt pc 160) loaded)
  where
    by : ((nat_le 116 pc && nat_lt pc 128) ≡ true) ⊎ ((nat_le 148 pc && nat_lt pc 160) ≡ true) → ((5 ≤ k) × (k < 8)) ⊎ ((13 ≤ k) × (k < 16))
    by (inl e) = let a = and_parts (nat_le 116 pc) (nat_lt pc 128) e in let b = leb-true 116 pc a.0 in let c = ltb-true pc 128 a.1 in inl (omega arith, omega arith)
    by (inr e) = let a = and_parts (nat_le 148 pc) (nat_lt pc 160) e in let b = leb-true 148 pc a.0 in let c = ltb-true pc 160 a.1 in inr (omega arith, omega arith)

-- ---- a state

pub lives : (p : ℕ) (f : Phase) (k c : ℕ) (regs : List ℕ) (state : State) → Stands p f k c regs state → state ≢ Free
lives p f k c regs state (inl (can, at)) free = ⊎_elim (λ (e : state ≡ Current). absurd (cc)) (λ (e : state ≡ Ready). absurd (cc)) can
lives p f k c regs state (inr (waits, rest)) free = absurd (cc)

in_order : (f g : Phase) (i j : ℕ) (now : Xinu) → Runs f g i j now → IsInOrder i j now
in_order f g i j now r =
    let k = r.running.pair in
    let sum = k.own_sum in
    let their_sum = k.their_sum in
    record {
      none_doubled = omega arith;
      few = omega arith;
      buffer = λ n low high. r.running.items n low (omega arith);
      loads = λ loaded. item_loaded g j (consumer_of now).regs (state_at now.tables 2) k.other.place
          (after_load (consumer_of now).pc k.other.place k.other.pc loaded) k.other.stands;
      alive = each_of (λ p. state_at now.tables p ≢ Free)
          (lives 1 f k.mine.place i (get_or now.harts 1 no_hart).regs (state_at now.tables 1) k.mine.stands)
          (lives 2 g k.other.place j (get_or now.harts 2 no_hart).regs (state_at now.tables 2) k.other.stands);
    }

-- ---- a run

run_on : (f g : Phase) (i j : ℕ) (ms : List Moment) (old now : Xinu) → Runs f g i j old → LeadTo old ms now → RunsOn (i + put_in ms) (j + taken_in ms) now
run_on f g i j [] old now r lead =
    let a : i ≡ i + 0 = omega arith in
    let b : j ≡ j + 0 = omega arith in
    record {
      own = f;
      their = g;
      runs = subst (λ n. Runs f g n (j + 0) now) a (subst (λ n. Runs f g i n now) b (subst (Runs f g i j) (sym lead) r));
    }
run_on f g i j (m ∷ ms) old now r lead =
    let one = event_runs f g i j m.before m.event m.lines m.after (subst (Runs f g i j) (sym lead.0) r) lead.1 in
    let rest = run_on one.own one.their (i + signalled_in 5 m.event m.lines) (j + signalled_in 4 m.event m.lines) ms m.after now one.runs lead.2 in
    let a : i + signalled_in 5 m.event m.lines + put_in ms ≡ i + (signalled_in 5 m.event m.lines + put_in ms) = omega arith in
    let b : j + signalled_in 4 m.event m.lines + taken_in ms ≡ j + (signalled_in 4 m.event m.lines + taken_in ms) = omega arith in
    record {
      own = rest.own;
      their = rest.their;
      runs = subst (λ n. Runs rest.own rest.their n (j + (signalled_in 4 m.event m.lines + taken_in ms)) now) a
          (subst (λ n. Runs rest.own rest.their (i + signalled_in 5 m.event m.lines + put_in ms) n now) b rest.runs);
    }

-- ---- from boot

-- the first of some words that lie there
lie_first : (memory : List ℕ) (a : ℕ) (words more : List ℕ) → Lie memory a (words ++ more) → Lie memory a words
lie_first memory a [] more lie = tt
lie_first memory a (w ∷ words) more lie = (lie.0, (lie.1.0, lie_first memory (a + 4) words more lie.1.1))

abbrev pieces : List Piece
pieces = record { place = 0; words = words_in producer } ∷ record { place = 96; words = words_in consumer ++ 0 ∷ 0 ∷ [] } ∷ []

-- The two run from boot on.
pub begins : (disks : Disks) (start : Xinu) → AreSoundDisks disks → boot_on disks buffer_images ≡ Boots start → Runs Bare Outside 0 0 start
begins disks start sound boots =
    let lie = pieces_lie pieces refl in
    boots_running (image_of 0 (words_in producer)) (image_of 96 (words_in consumer ++ 0 ∷ 0 ∷ [])) disks start refl refl lie.0
    (lie_first (with_images buffer_images zeros) 96 (words_in consumer) (0 ∷ 0 ∷ []) lie.1.0) sound boots

-- At each moment the items are in order,
pub always_in_order : (disks : Disks) (start now : Xinu) (ms : List Moment) → AreSoundDisks disks → boot_on disks buffer_images ≡ Boots start → LeadTo start ms now
    → IsInOrder (put_in ms) (taken_in ms) now
always_in_order disks start now ms sound boots lead =
    let on = run_on Bare Outside 0 0 ms start now (begins disks start sound boots) lead in
    let a : 0 + put_in ms ≡ put_in ms = omega arith in
    let b : 0 + taken_in ms ≡ taken_in ms = omega arith in
    in_order on.own on.their (put_in ms) (taken_in ms) now
    (subst (λ n. Runs on.own on.their n (taken_in ms) now) a (subst (λ n. Runs on.own on.their (0 + put_in ms) n now) b on.runs))

-- and at the end of each transcript.
pub transcripts_in_order : (disks : Disks) (events : List Event) (last : Xinu) (all : List TranscriptLine) → AreSoundDisks disks
    → IsTranscript disks buffer_images events last all → IsInOrder (puts_told all) (takes_told all) last
transcripts_in_order disks events last all sound t =
    let r = runs_lead events t.start t.lines last t.end t.runs in
    let lines : (sem : ℕ) → times_given_back sem r.0 ≡ told sem all =
    λ sem. sym (ap (told sem) t.whole ∙ whole_told sem t.start last t.lines t.end ∙ ap (told sem) r.1.1 ∙ stretch_right sem r.0 t.start last r.1.0) in
    subst (λ n. IsInOrder n (takes_told all) last) (lines 5)
    (subst (λ n. IsInOrder (put_in r.0) n last) (lines 4) (always_in_order disks t.start last r.0 sound t.boots r.1.0))
