-- Calls under way stay sound.
use Rattle.std.proofs.Common.{◌≡◌, ℕ, zero, suc, ◌+◌, ◌<◌, ◌≤◌, ◌==◌, not, List, [], ◌∷◌, length, filter, Option, refl, sym, ap, ◌∙◌, subst, arith}
use Rattle.std.specs.Prelude.{nat_lt, IsSome}
use Rattle.std.specs.List.{AllByRecursion}
use Rattle.std.proofs.lemmas.Bool.{cond_both, ltb-true}
use Rattle.xinu_base.specs.declared.lines.FileMoment.{FileMoment}
use Rattle.xinu_base.specs.declared.lines.FileMoment.TheVariants.{Finished, Next}
use Rattle.part_laws.proofs.FileWork.Sizes.{brings, effect_brings, copied_size, nothing_copied}
use Rattle.part_laws.proofs.FileSystems.Effects.{effect_keeps}
use Rattle.table_laws.proofs.Lists.Orders.{all_append, all_filter}
use Rattle.part_laws.proofs.RawDisks.Callers.{callers_given_up, have_callers_given_up}
use Rattle.part_laws.specs.FileWork.{IsSoundStep}
use Rattle.xinu_model.specs.Files.Calls.{FileCall, Open, Delete, Close, Read, Write, Getc, Putc, Seek, Truncate, Size, file_effect}
use Rattle.xinu_model.specs.Files.Sound.{IsSoundFiles, InRam, IsFileRequest, HasBytes, IsFirst, IsSoundWork}
use Rattle.xinu_model.specs.Files.Systems.{FileSystem}
use Rattle.xinu_model.specs.Files.Work.{FileRequest, FileWork, FileStep, most_turns, bytes_written, with_first, copied, first_effect, next_effects, turned, calls_completed, least_effects, queued_after, enqueued, issued, most_at_issue, orphaned_call, callers_waiting, calls_given_up}
use Rattle.xinu_model.specs.Memory.{ram_size, bytes_from}
use Rattle.xinu_model.specs.RawDisk.Callers.{is_caller, HaveCallers}
use Rattle.xinu_model.specs.RawDisk.Callers as callers

-- the caller of a request
abbrev caller_of : FileRequest → Option ℕ
caller_of a = a.caller

-- bytes from an address on are as many
pub bytes_from_size : (memory : List ℕ) (address n : ℕ) → length (bytes_from memory address n) ≡ n
unfolding bytes_from
bytes_from_size memory address zero = refl
bytes_from_size memory address (suc n) = ap suc (bytes_from_size memory (address + 1) n)

-- there are as many bytes as the first call writes
has_bytes : (call : FileCall) (at : ℕ) (memory : List ℕ) → HasBytes call (bytes_written call at memory)
has_bytes (Write d n) at memory = bytes_from_size memory at n
has_bytes (Open name mode) at memory = refl
has_bytes (Delete name) at memory = refl
has_bytes (Close d) at memory = refl
has_bytes (Read d n) at memory = refl
has_bytes (Getc d) at memory = refl
has_bytes (Putc d b) at memory = refl
has_bytes (Seek d n) at memory = refl
has_bytes (Truncate d) at memory = refl
has_bytes (Size d) at memory = refl

-- a call that becomes the first has a turn left
turn_left : (call : FileCall) (s : FileSystem) → 0 < most_turns call s
turn_left call s = omega arith

-- the first of the calls becomes the first
pub works_first : (calls : List FileRequest) (memory : List ℕ) (s : FileSystem) → IsSoundFiles s → AllByRecursion IsFileRequest calls
    → HaveCallers caller_of calls → IsSoundWork (with_first calls memory s)
works_first [] memory s system right have = record { system = system; calls = tt; callers = tt; first = (refl, refl) }
works_first (a ∷ calls) memory s system right have =
    record { system = system; calls = right; callers = have; first = (turn_left a.call s, has_bytes a.call a.at memory) }

-- the calls after the first have callers
callers_after : (a : FileRequest) (calls : List FileRequest) → HaveCallers caller_of (a ∷ calls) → HaveCallers caller_of calls
callers_after a [] have = tt
callers_after a (b ∷ calls) have = have.1

-- bytes that are brought keep RAM's size
memory_size : (a : FileRequest) (bytes memory : List ℕ) (s : FileSystem) → IsFileRequest a → length memory ≡ ram_size
    → length (copied a.caller a.at (file_effect a.call bytes s).bytes memory) ≡ ram_size
memory_size a bytes memory s right size = by_call a.call right.range (effect_brings a.call bytes s) ∙ size
  where
    by_call : (call : FileCall) → InRam call a.at → length (file_effect call bytes s).bytes ≤ brings call
        → length (copied a.caller a.at (file_effect call bytes s).bytes memory) ≡ length memory
    by_call (Read d n) within few =
        copied_size a.caller a.at n (file_effect (Read d n) bytes s).bytes memory few
        (let z : a.at + n ≤ length memory = omega (arith, within, size) in z)
    by_call (Open name mode) within few = nothing_copied a.caller a.at (file_effect (Open name mode) bytes s).bytes memory few
    by_call (Delete name) within few = nothing_copied a.caller a.at (file_effect (Delete name) bytes s).bytes memory few
    by_call (Close d) within few = nothing_copied a.caller a.at (file_effect (Close d) bytes s).bytes memory few
    by_call (Write d n) within few = nothing_copied a.caller a.at (file_effect (Write d n) bytes s).bytes memory few
    by_call (Getc d) within few = nothing_copied a.caller a.at (file_effect (Getc d) bytes s).bytes memory few
    by_call (Putc d b) within few = nothing_copied a.caller a.at (file_effect (Putc d b) bytes s).bytes memory few
    by_call (Seek d n) within few = nothing_copied a.caller a.at (file_effect (Seek d n) bytes s).bytes memory few
    by_call (Truncate d) within few = nothing_copied a.caller a.at (file_effect (Truncate d) bytes s).bytes memory few
    by_call (Size d) within few = nothing_copied a.caller a.at (file_effect (Size d) bytes s).bytes memory few

-- The first call takes effect, and the calls under way stay sound,
works_effect : (calls : List FileRequest) (moment : FileMoment) (x : FileStep) → x.work.calls ≡ calls → IsSoundWork x.work
    → IsSoundWork (first_effect calls moment x).work
works_effect [] moment x e sound = sound
works_effect (a ∷ calls) moment x e sound =
    let right : AllByRecursion IsFileRequest (a ∷ calls) = subst (AllByRecursion IsFileRequest) e sound.calls in
    let have : HaveCallers caller_of (a ∷ calls) = subst (HaveCallers caller_of) e sound.callers in
    let effect = file_effect a.call x.work.bytes x.work.system in
    works_first calls (copied a.caller a.at effect.bytes x.memory) effect.system
    (effect_keeps a.call x.work.bytes x.work.system right.0.call sound.system) right.1 (callers_after a calls have)

works_next : (k : ℕ) (x : FileStep) → IsSoundWork x.work → IsSoundWork (next_effects k x).work
works_next zero x sound = sound
works_next (suc k) x sound = works_next k (first_effect x.work.calls Next x) (works_effect x.work.calls Next x refl sound)

-- has a turn that is allowed,
works_turn : (x : FileStep) → least_effects x.work.calls x.work ≤ 0 → IsSoundWork x.work → IsSoundWork (turned x.work.calls x).work
works_turn x may sound = by_calls x.work.calls refl may
  where
    by_calls : (calls : List FileRequest) → x.work.calls ≡ calls → least_effects calls x.work ≤ 0 → IsSoundWork (turned calls x).work
    by_calls [] e may = sound
    by_calls (a ∷ calls) e may =
        let left : x.work.turns + 1 < most_turns a.call x.work.system =
        cond_both (nat_lt (x.work.turns + 1) (most_turns a.call x.work.system)) 0 1
        (λ n. n ≤ 0 → x.work.turns + 1 < most_turns a.call x.work.system)
        (λ b _. ltb-true (x.work.turns + 1) (most_turns a.call x.work.system) b) (λ _ h. absurd (omega (arith, h))) may in
        let first : IsFirst (a ∷ calls) x.work = subst (λ l. IsFirst l x.work) e sound.first in
        record {
          system = sound.system;
          calls = sound.calls;
          callers = sound.callers;
          first = subst (λ l. IsFirst l (record x.work { turns = x.work.turns + 1 })) (sym e) (left, first.1);
        }

pub works_completed : (k : ℕ) (x : FileStep) → least_effects x.work.calls x.work ≤ k → IsSoundWork x.work
    → IsSoundWork (calls_completed k x).work
works_completed zero x may sound = works_turn x may sound
works_completed (suc k) x may sound = works_next k (first_effect x.work.calls Finished x) (works_effect x.work.calls Finished x refl sound)

-- goes after the others,
pub works_queued : (calls : List FileRequest) (a : FileRequest) (memory : List ℕ) (w : FileWork) → w.calls ≡ calls → IsSome a.caller
    → IsFileRequest a → IsSoundWork w → IsSoundWork (queued_after calls a memory w)
works_queued [] a memory w e caller right sound = works_first (a ∷ []) memory w.system sound.system (right, tt) tt
works_queued (b ∷ calls) a memory w e caller right sound =
    let have : HaveCallers caller_of (b ∷ calls) = subst (HaveCallers caller_of) e sound.callers in
    record {
      system = sound.system;
      calls = all_append IsFileRequest (b ∷ calls) (a ∷ []) (subst (AllByRecursion IsFileRequest) e sound.calls) (right, tt);
      callers = all_append (λ (c : FileRequest). IsSome c.caller) calls (a ∷ []) have (caller, tt);
      first = subst (λ l. IsFirst l w) e sound.first;
    }

-- or takes effect as it is made.
pub works_issued : (choice : ℕ) (a : FileRequest) (memory : List ℕ) (w : FileWork) → choice ≤ most_at_issue w.calls → IsSome a.caller
    → IsFileRequest a → IsSoundWork w → IsSoundWork (issued choice a memory w).work
works_issued zero a memory w may caller right sound = works_queued w.calls a memory w refl caller right sound
works_issued (suc choice) a memory w may caller right sound = by_calls w.calls refl may
  where
    by_calls : (calls : List FileRequest) → w.calls ≡ calls → suc choice ≤ most_at_issue calls
        → IsSoundWork (first_effect (a ∷ []) Finished (record { work = queued_after calls a memory w; memory = memory; notes = [] })).work
    by_calls [] e may =
        works_effect (a ∷ []) Finished (record { work = queued_after [] a memory w; memory = memory; notes = [] }) refl
        (works_queued [] a memory w e caller right sound)
    by_calls (b ∷ calls) e may = absurd (omega (arith, may))

-- RAM keeps its size meanwhile.
sized_effect : (calls : List FileRequest) (moment : FileMoment) (x : FileStep) → AllByRecursion IsFileRequest calls
    → length x.memory ≡ ram_size → length (first_effect calls moment x).memory ≡ ram_size
sized_effect [] moment x right size = size
sized_effect (a ∷ calls) moment x right size = memory_size a x.work.bytes x.memory x.work.system right.0 size

sound_effect : (moment : FileMoment) (x : FileStep) → IsSoundStep x → IsSoundStep (first_effect x.work.calls moment x)
sound_effect moment x sound = record {
  work = works_effect x.work.calls moment x refl sound.work;
  memory = sized_effect x.work.calls moment x sound.work.calls sound.memory;
}

sound_next : (k : ℕ) (x : FileStep) → IsSoundStep x → IsSoundStep (next_effects k x)
sound_next zero x sound = sound
sound_next (suc k) x sound = sound_next k (first_effect x.work.calls Next x) (sound_effect Next x sound)

pub sound_completed : (k : ℕ) (x : FileStep) → least_effects x.work.calls x.work ≤ k → IsSoundStep x → IsSoundStep (calls_completed k x)
sound_completed zero x may sound = record { work = works_turn x may sound.work; memory = by_calls x.work.calls }
  where
    by_calls : (calls : List FileRequest) → length (turned calls x).memory ≡ ram_size
    by_calls [] = sound.memory
    by_calls (a ∷ calls) = sound.memory
sound_completed (suc k) x may sound = sound_next k (first_effect x.work.calls Finished x) (sound_effect Finished x sound)

pub sound_issued : (choice : ℕ) (a : FileRequest) (memory : List ℕ) (w : FileWork) → choice ≤ most_at_issue w.calls → IsSome a.caller
    → IsFileRequest a → length memory ≡ ram_size → IsSoundWork w → IsSoundStep (issued choice a memory w)
sound_issued zero a memory w may caller right size sound = record { work = works_issued zero a memory w may caller right sound; memory = size }
sound_issued (suc choice) a memory w may caller right size sound = record {
  work = works_issued (suc choice) a memory w may caller right sound;
  memory = sized_effect (a ∷ []) Finished (record { work = enqueued a memory w; memory = memory; notes = [] }) (right, tt) size;
}

-- A process was killed.
sound_calls : (p : ℕ) (l : List FileRequest) → AllByRecursion IsFileRequest l
    → AllByRecursion IsFileRequest (callers.given_up caller_of orphaned_call p l)
sound_calls p [] right = tt
sound_calls p (a ∷ rest) right = (
  cond_both (is_caller p a.caller) (orphaned_call a) a IsFileRequest (λ _. record { call = right.0.call; range = right.0.range })
      (λ _. right.0),
  all_filter IsFileRequest (λ (b : FileRequest). not (is_caller p b.caller)) rest right.1,
)

first_stays : (p : ℕ) (l left : List FileRequest) (w : FileWork) → IsFirst l w
    → IsFirst (callers.given_up caller_of orphaned_call p l) (record w { calls = left })
first_stays p [] left w first = first
first_stays p (a ∷ rest) left w first =
    cond_both (is_caller p a.caller) (orphaned_call a) a
    (λ (b : FileRequest). (w.turns < most_turns b.call w.system) × HasBytes b.call w.bytes) (λ _. first) (λ _. first)

pub sound_given_up : (p : ℕ) (w : FileWork) → IsSoundWork w → IsSoundWork (calls_given_up p w)
sound_given_up p w sound = record {
  system = sound.system;
  calls = sound_calls p w.calls sound.calls;
  callers = have_callers_given_up caller_of orphaned_call p w.calls sound.callers;
  first = first_stays p w.calls (callers.given_up caller_of orphaned_call p w.calls) w sound.first;
}

pub callers_stay : (p : ℕ) (w : FileWork)
    → callers_waiting (calls_given_up p w).calls ≡ filter (λ q. not (q == p)) (callers_waiting w.calls)
callers_stay p w = callers_given_up caller_of orphaned_call (λ a. refl) p w.calls
