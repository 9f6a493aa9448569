-- A completion of the first call, and what is so of the disk.
use Rattle.std.proofs.Common.{◌≡◌, ℕ, suc, ◌+◌, ◌-◌, ◌<◌, ◌≤◌, if◌then◌else◌, true, List, [], ◌∷◌, length, map, refl, ap, sym, subst, ◌∙◌, arith, Option, Some, None, ℤ}
use Rattle.std.specs.Prelude.{nat_lt}
use Rattle.std.proofs.lemmas.Bool.{false≢true}
use Rattle.std.proofs.lemmas.Bool.Decides.{nat_tests}
use Rattle.file_server.specs.DiskStates.{HeldCall, DiskState, Waits, IsDone, IsFirstHeld, bytes_held}
use Rattle.file_server.specs.Requests.{IsRequest, call_with, note_of, request_of}
use Rattle.file_server.specs.ServerStates.{IsCompleted}
use Rattle.file_server.specs.Servers.{FirstIsHeld, IsUnderWay, work_of}
use Rattle.file_server.specs.Starts.{WentOn, about_to}
use Rattle.file_server.specs.declared.requests.FileNote as declared_note
use Rattle.file_server.specs.declared.requests.FileRequest as declared_request
use Rattle.file_server.proofs.Calls.{handed_over}
use Rattle.file_server.proofs.Starts.{about_calls}
use Rattle.xinu_base.specs.declared.lines.FileMoment.TheVariants.{Finished}
use Rattle.part_laws.proofs.FileWork.Sizes.{brings, effect_brings}
use Rattle.xinu_model.specs.Files.Calls.{file_effect}
use Rattle.xinu_model.specs.Files.Rest.{are_calls}
use Rattle.xinu_model.specs.Files.Systems.{FileSystem, FileEffect}
use Rattle.xinu_model.specs.Files.Work.{FileRequest, FileWork, FileNote, FileStep, copied, first_effect, had_turn, least_effects, most_turns, next_effects, took_effect, with_first}
use Rattle.xinu_model.specs.Memory.{in_ram}
use Rattle.local_files.specs.Resting.{ChangesOneBlock, OnlyReads, ServesDisk}
use Rattle.xinu_base.specs.Constants.{SYSERR}
use Rattle.xinu_model.proofs.FileOutcomes.{one_at_most}

-- the call that waits is the first
pub first_is_held : (hand : Option HeldCall) (calls : List FileRequest) (turns : ℕ) (s : FileSystem) → FirstIsHeld hand calls turns s
    → IsFirstHeld hand calls
first_is_held None [] turns s f = tt
first_is_held None (a ∷ calls) turns s f = absurd f
first_is_held (Some h) [] turns s f = absurd f
first_is_held (Some h) (a ∷ calls) turns s f = f.call

-- A completion after which the call is still in hand may be a turn, and the bound is kept.
turn_allowed : (a : FileRequest) (calls : List FileRequest) (w : FileWork) (left left' : ℕ) → w.turns + left ≤ most_turns a.call w.system
    → 1 ≤ left' → left' < left → (least_effects (a ∷ calls) w ≡ 0) × (w.turns + 1 + left' ≤ most_turns a.call w.system)
turn_allowed a calls w left left' h one less =
    let t : nat_lt (w.turns + 1) (most_turns a.call w.system) ≡ true =
    (let q : w.turns + 1 < most_turns a.call w.system = omega (arith, h, one, less) in grind (arith, nat_tests)) in
    (ap (λ v. if v then 0 else 1) t, omega (arith, h, less))

-- The first has a turn.
pub record HadTurn (d d' : DiskState) (calls : List FileRequest) (turns : ℕ) : Type 0 where
  pub least : (w : FileWork) → w ≡ record { system = d.system; calls = calls; turns = turns; bytes = bytes_held d.hand } → least_effects calls w ≡ 0
  pub first : FirstIsHeld d'.hand calls (turns + 1) d'.system

pub had_a_turn : (h : HeldCall) (d d' : DiskState) (a : FileRequest) (calls : List FileRequest) (turns : ℕ) → IsUnderWay a h turns d.system
    → Waits h.call h.bytes (h.left - 1) d d' → HadTurn d d' (a ∷ calls) turns
had_a_turn h d d' a calls turns u w =
    let v : FileWork = record { system = d.system; calls = a ∷ calls; turns = turns; bytes = bytes_held d.hand } in
    let some = u.some in let less = w.bound in
    let t = turn_allowed a calls v h.left w.left u.bound w.some (omega (arith, some, less)) in
    let P : Option HeldCall → Type 0 = λ x. FirstIsHeld x (a ∷ calls) (turns + 1) d'.system in
    let Q : FileSystem → Type 0 = λ s. turns + 1 + w.left ≤ most_turns a.call s in
    record {
      least = λ x e. ap (least_effects (a ∷ calls)) e ∙ t.0;
      first = subst P (sym w.hand) (record { call = u.call; some = w.some; bound = subst Q (sym w.system) t.1 });
    }

pub turn_completes : (h : HeldCall) (d d' : DiskState) (r : declared_request.FileRequest) (rest : List declared_request.FileRequest) (turns : ℕ)
    (memory : List ℕ) → d.hand ≡ Some h → IsUnderWay (request_of r) h turns d.system → Waits h.call h.bytes (h.left - 1) d d'
    → (let after : FileStep = record { work = work_of d' (r ∷ rest) (turns + 1); memory = memory; notes = had_turn (request_of r) ∷ [] } in
    IsCompleted (work_of d (r ∷ rest) turns) memory after)
turn_completes h d d' r rest turns memory is u w =
    let a = request_of r in
    let calls = a ∷ map request_of rest in
    let t = had_a_turn h d d' a (map request_of rest) turns u w in
    let bytes : bytes_held d.hand ≡ bytes_held d'.hand = ap bytes_held is ∙ sym (ap bytes_held w.hand) in
    let none : least_effects calls (work_of d (r ∷ rest) turns) ≡ 0 = t.least (work_of d (r ∷ rest) turns) refl in
    record {
      effects = 0;
      least = omega (arith, none);
      most = omega arith;
      happens = ap (λ (s : FileSystem). let x : FileStep = record { work = record { system = s; calls = calls; turns = turns + 1; bytes = bytes_held d.hand }; memory = memory; notes = had_turn a ∷ [] } in x) (sym w.system)
          ∙ ap (λ (l : List ℕ). let x : FileStep = record { work = record { system = d'.system; calls = calls; turns = turns + 1; bytes = l }; memory = memory; notes = had_turn a ∷ [] } in x) bytes;
    }

-- The first takes effect, with the bytes that were kept of it.
finished : (h : HeldCall) (d d' : DiskState) (r : declared_request.FileRequest) (rest : List declared_request.FileRequest) (turns : ℕ)
    (memory memory' : List ℕ) (notes : List declared_note.FileNote) (reply : ℤ) → IsRequest r → d.hand ≡ Some h
    → call_with r.call r.count ≡ h.call → IsDone h.call h.bytes reply d d'
    → memory' ≡ (if in_ram r.at (length d'.given) then copied r.caller r.at d'.given memory else memory)
    → map note_of notes ≡ took_effect (request_of r) Finished reply ∷ []
    → (let x : FileStep = record { work = work_of d (r ∷ rest) turns; memory = memory; notes = [] } in
    first_effect x.work.calls Finished x ≡ about_to d' rest memory' notes)
finished h d d' r rest turns memory memory' notes reply right is call done m n =
    let a = request_of r in
    let calls = map request_of rest in
    let e : ◌≡◌ {A = FileEffect} (file_effect a.call (bytes_held d.hand) d.system) (record { system = d'.system; reply = reply; bytes = d'.given })
    = ap (λ c. file_effect c (bytes_held d.hand) d.system) call ∙ ap (λ (o : Option HeldCall). file_effect h.call (bytes_held o) d.system) is ∙ done.effect in
    let P : FileEffect → Type 0 = λ x. length x.bytes ≤ brings a.call in
    let few : length d'.given ≤ brings a.call = subst P e (effect_brings a.call (bytes_held d.hand) d.system) in
    let here : memory' ≡ copied a.caller a.at d'.given memory = m ∙ handed_over a.call r.caller r.at d'.given memory right.range few in
    ap (λ (x : FileEffect). let s : FileStep = record { work = with_first calls (copied a.caller a.at x.bytes memory) x.system; memory = copied a.caller a.at x.bytes memory; notes = took_effect a Finished x.reply ∷ [] } in s) e
    ∙ ap (λ (k : List ℕ). let s : FileStep = record { work = with_first calls k d'.system; memory = k; notes = took_effect a Finished reply ∷ [] } in s) (sym here)
    ∙ ap (λ (l : List FileNote). let s : FileStep = record { work = with_first calls memory' d'.system; memory = memory'; notes = l } in s) (sym n)

-- It takes effect, and the next ones go on.
pub effect_completes : (h : HeldCall) (d d' : DiskState) (r : declared_request.FileRequest) (rest : List declared_request.FileRequest) (turns : ℕ)
    (memory memory' : List ℕ) (notes : List declared_note.FileNote) (reply : ℤ) (after : FileStep) → IsRequest r → d.hand ≡ Some h
    → call_with r.call r.count ≡ h.call → IsDone h.call h.bytes reply d d'
    → memory' ≡ (if in_ram r.at (length d'.given) then copied r.caller r.at d'.given memory else memory)
    → map note_of notes ≡ took_effect (request_of r) Finished reply ∷ []
    → WentOn (about_to d' rest memory' notes) after → IsCompleted (work_of d (r ∷ rest) turns) memory after
effect_completes h d d' r rest turns memory memory' notes reply after right is call done m n went =
    let w = work_of d (r ∷ rest) turns in
    let one = one_at_most w.calls w in
    let left = went.left in
    let about = ap length (about_calls d' rest memory' notes) in
    record {
      effects = suc went.effects;
      least = omega (arith, one);
      most = omega (arith, left, about);
      happens = ap (next_effects went.effects) (finished h d d' r rest turns memory memory' notes reply right is call done m n) ∙ went.happens;
    }

-- the first of the calls under way, which the disk has in hand
pub record IsFirstOf (d : DiskState) (a : FileRequest) (turns : ℕ) : Type 0 where
  pub held : HeldCall
  pub is : d.hand ≡ Some held
  pub under : IsUnderWay a held turns d.system

pub first_of : (d : DiskState) (a : FileRequest) (calls : List FileRequest) (turns : ℕ) → FirstIsHeld d.hand (a ∷ calls) turns d.system
    → IsFirstOf d a turns
first_of d a calls turns f = by_hand d.hand refl f
  where
    by_hand : (hand : Option HeldCall) → d.hand ≡ hand → FirstIsHeld hand (a ∷ calls) turns d.system → IsFirstOf d a turns
    by_hand None is g = absurd g
    by_hand (Some h) is g = record { held = h; is = is; under = g }

-- there is one if calls are under way
pub some_listed : (items : List declared_request.FileRequest) → are_calls (map request_of items) ≡ true → 0 < length items
some_listed [] busy = absurd (false≢true busy)
some_listed (x ∷ items) busy = omega arith

-- what the disk does at a completion of the first call is what it does for the calls under way
pub serves : (d : DiskState) (r : declared_request.FileRequest) (rest : List declared_request.FileRequest) (turns : ℕ) (new : List ℕ)
    → IsFirstOf d (request_of r) turns → ChangesOneBlock d.image new
    → ((h : HeldCall) → d.hand ≡ Some h → (file_effect h.call h.bytes d.system).reply ≡ SYSERR → new ≡ d.image)
    → ((h : HeldCall) → d.hand ≡ Some h → OnlyReads h.call d.system → new ≡ d.image)
    → ServesDisk (work_of d (r ∷ rest) turns) d.image new
serves d r rest turns new first one still reads = record {
  one = one;
  still = λ refused. (let h = first.held in still h first.is
      (ap (λ k. (file_effect k h.bytes d.system).reply) (sym first.under.call)
      ∙ ap (λ o. (file_effect (request_of r).call (bytes_held o) d.system).reply) (sym first.is) ∙ refused));
  reads = λ only. reads first.held first.is (subst (λ k. OnlyReads k d.system) first.under.call only);
}
