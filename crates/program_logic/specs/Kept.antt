-- What is proved of programs that check.
use Rattle.std.specs.Prelude.{◌≡◌, ◌≢◌, ◌≤◌, ◌+◌, ◌-◌, ◌*◌, ◌/◌, ◌&&◌, ◌||◌, ℕ, Bool, true, false, if◌then◌else◌, List, [], ◌∷◌, length, get_or, slice_index_or, slice_range, Option, None, Some}
use Rattle.part_laws.specs.GivenDisks.{AreSoundDisks}
use Rattle.scheduling_laws.specs.Moments.{LeadTo, Moment, call_in}
use Rattle.scheduling_laws.specs.Tokens.{is_made}
use Rattle.xinu_base.specs.declared.lines.TranscriptLine.{TranscriptLine}
use Rattle.xinu_base.specs.declared.lines.TranscriptLine.TheVariants as line
use Rattle.xinu_base.specs.declared.processes.State.TheVariants.{Free}
use Rattle.xinu_model.specs.Boot.{Boots, Disks, Loaded, boot_on}
use Rattle.xinu_model.specs.Machine.{Xinu, no_hart}
use Rattle.xinu_model.specs.Memory.{number_at}
use Rattle.xinu_model.specs.Searches.{numbers_from}
use Rattle.xinu_model.specs.Sound.Tables.{total}
use Rattle.xinu_model.specs.Tables.{semaphore_at, state_at}
use Rattle.program_logic.specs.Claims.{Program, no_place, program_in}
use Rattle.program_logic.specs.SystemCheck.{are_there}
use Rattle.program_logic.specs.Terms.{once_more, slot_entails, value}
use Rattle.program_logic.specs.declared.knowledge.Facts.{Facts}
use Rattle.program_logic.specs.declared.outline.Lock.{Lock}
use Rattle.program_logic.specs.declared.outline.Place.{Place}
use Rattle.program_logic.specs.declared.outline.Range.{Range}
use Rattle.program_logic.specs.declared.values.Slot.TheVariants.{Known}

-- The machine started with images that are these programs, on some disks.
pub record HasStarted (l : Lock) (programs : List Program) (disks : Disks) (images : List Loaded) (start : Xinu) : Type 0 where
  pub loaded : are_there l programs images ≡ true
  pub sound : AreSoundDisks disks
  pub boots : boot_on disks images ≡ Boots start

-- how often the token of a semaphore was given back in these moments: the calls of `signal` on it
abbrev pub times_given_back : ℕ → List Moment → ℕ
times_given_back sem ms = total (λ (m : Moment). if is_made 19 sem (call_in m.event m.lines) then 1 else 0) ms

-- the same in lines of a transcript: how many tell of such a call
abbrev pub tells : ℕ → TranscriptLine → ℕ
tells sem (line.Call p call) = if is_made 19 sem (Some call) then 1 else 0
tells sem _ = 0

abbrev pub told : ℕ → List TranscriptLine → ℕ
told sem lines = total (tells sem) lines

-- Whenever nobody has the token the word is what the rule says of how often it was given back, and each process is alive.
pub record IsKept (l : Lock) (many n : ℕ) (now : Xinu) : Type 0 where
  pub rule : (semaphore_at now.tables l.sem).tokens ≡ 1 → number_at now.memory l.word 4 ≡ value l.rule n
  pub alive : (p : ℕ) → 1 ≤ p → p ≤ many → state_at now.tables p ≢ Free

-- On any disks and every schedule, from the start of any images that are these programs, the rule is kept at each moment.
abbrev pub AlwaysKeeps : Lock → List Program → Type 0
AlwaysKeeps l programs =
    (disks : Disks) (images : List Loaded) (start now : Xinu) (ms : List Moment) → HasStarted l programs disks images start → LeadTo start ms now
    → IsKept l (length programs) (times_given_back l.sem ms) now

-- Process p is at a place to which a process comes with the token only.
pub record IsInside (programs : List Program) (p : ℕ) (s : Xinu) : Type 0 where
  pub place : ℕ
  pub pc : (slice_index_or s.harts p no_hart).pc ≡ (program_in programs p).first + 4 * place
  pub inside : (get_or (program_in programs p).places place no_place).free ≡ None

-- whether at such a place the word is what the rule says of one time more: the process has stored it, and is still to give the token back
abbrev pub is_ahead : Lock → Option Facts → Option Facts → Bool
is_ahead l None None = false
is_ahead l None (Some f) = slot_entails f.word (Known (once_more l.rule))
is_ahead l (Some f) held = false

-- whether what is known at each place tells whether the word is what the rule says or is ahead
abbrev pub side_tells : Lock → Option Facts → Option Facts → Bool
side_tells l free None = true
side_tells l free (Some f) = is_ahead l free (Some f) || slot_entails f.word (Known l.rule)

abbrev pub places_tell : Lock → List Place → Bool
places_tell l [] = true
places_tell l (q ∷ places) = side_tells l q.free q.held && places_tell l places

abbrev pub programs_tell : Lock → List Program → Bool
programs_tell l [] = true
programs_tell l (g ∷ programs) = places_tell l g.places && programs_tell l programs

-- whether process p has stored the next value, and how many processes have
abbrev pub has_stored : Lock → List Program → Xinu → ℕ → Bool
has_stored l programs s p =
    let g = program_in programs p in
    let q = get_or g.places (((slice_index_or s.harts p no_hart).pc - g.first) / 4) no_place in is_ahead l q.free q.held

abbrev pub stored_by : Lock → List Program → Xinu → ℕ
stored_by l programs s = total (λ p. if has_stored l programs s p then 1 else 0) (numbers_from 1 (length programs))

-- the programs of a table of places: of a range in it, and of some
abbrev pub program_at : List Place → Range → Program
program_at places r = record { first = r.first; places = slice_range places r.start r.after }

abbrev pub programs_in : List Place → List Range → List Program
programs_in places [] = []
programs_in places (r ∷ ranges) = program_at places r ∷ programs_in places ranges
