-- A call becomes the first: the abstract machine's step.
use Rattle.std.proofs.Common.{◌≡◌, ℕ, zero, suc, ◌+◌, ◌<◌, ◌≤◌, drop, get_or, if◌then◌else◌, List, [], ◌∷◌, ◌++◌, length, map, ap, sym, subst, ◌∙◌, arith, Option, ℤ}
use Rattle.std.proofs.lemmas.List.{length-map}
use Rattle.file_server.specs.DiskStates.{HeldCall, DiskState, Waits, IsDone, bytes_held}
use Rattle.file_server.specs.Requests.{IsRequest, call_with, note_of, request_of}
use Rattle.file_server.specs.Servers.{FirstIsHeld}
use Rattle.file_server.specs.Starts.{HasBegun, TookEffect, WentOn, about_to}
use Rattle.file_server.specs.declared.requests.FileNote as declared_note
use Rattle.file_server.specs.declared.requests.FileRequest as declared_request
use Rattle.file_server.proofs.Calls.{begun_bytes, begun_call, handed_over}
use Rattle.local_files.specs.Standing.{call_of, given_bytes}
use Rattle.xinu_base.specs.declared.lines.FileMoment.{FileMoment}
use Rattle.xinu_base.specs.declared.lines.FileMoment.TheVariants.{Next}
use Rattle.part_laws.proofs.FileWork.Sizes.{brings, effect_brings}
use Rattle.xinu_model.specs.Files.Calls.{file_effect}
use Rattle.xinu_model.specs.Files.Systems.{FileSystem, FileEffect}
use Rattle.xinu_model.specs.Files.Work.{FileWork, FileNote, FileStep, bytes_written, copied, first_effect, most_turns, next_effects, took_effect, with_first}
use Rattle.xinu_model.specs.Memory.{in_ram}
use Rattle.xinu_model.proofs.FileOutcomes.{first_calls}

-- the effect as the engine has it is that of the call which was made
pub effect_made : (r : declared_request.FileRequest) (memory b : List ℕ) (reply : ℤ) (d d' : DiskState)
    → b ≡ bytes_written (call_with r.call r.count) r.at memory
    → IsDone (call_of r.call (given_bytes r.call b)) (given_bytes r.call b) reply d d'
    → ◌≡◌ {A = FileEffect} (file_effect (call_with r.call r.count) (bytes_written (call_with r.call r.count) r.at memory) d.system)
    (record { system = d'.system; reply = reply; bytes = d'.given })
effect_made r memory b reply d d' is done =
    let made = bytes_written (call_with r.call r.count) r.at memory in
    let bytes : given_bytes r.call b ≡ made = ap (given_bytes r.call) is ∙ begun_bytes r.call r.count r.at memory in
    let call : call_of r.call (given_bytes r.call b) ≡ call_with r.call r.count = ap (call_of r.call) bytes ∙ begun_call r.call r.count r.at memory in
    sym (ap (λ c. file_effect c (given_bytes r.call b) d.system) call ∙ ap (λ l. file_effect (call_with r.call r.count) l d.system) bytes)
    ∙ done.effect

-- its bytes are in RAM after it
pub memory_made : (r : declared_request.FileRequest) (memory b : List ℕ) (reply : ℤ) (d d' : DiskState) → IsRequest r
    → b ≡ bytes_written (call_with r.call r.count) r.at memory
    → IsDone (call_of r.call (given_bytes r.call b)) (given_bytes r.call b) reply d d'
    → (if in_ram r.at (length d'.given) then copied r.caller r.at d'.given memory else memory) ≡ copied r.caller r.at d'.given memory
memory_made r memory b reply d d' right is done =
    let call = call_with r.call r.count in
    let few : length d'.given ≤ brings call =
    (let P : FileEffect → Type 0 = λ e. length e.bytes ≤ brings call in
    subst P (effect_made r memory b reply d d' is done) (effect_brings call (bytes_written call r.at memory) d.system)) in
    handed_over call r.caller r.at d'.given memory right.range few

-- The first of the calls takes effect.
pub took : (moment : FileMoment) (d d' : DiskState) (r : declared_request.FileRequest) (rest : List declared_request.FileRequest)
    (memory memory' b : List ℕ) (notes notes' : List declared_note.FileNote) (reply : ℤ) → IsRequest r
    → b ≡ bytes_written (call_with r.call r.count) r.at memory
    → IsDone (call_of r.call (given_bytes r.call b)) (given_bytes r.call b) reply d d'
    → memory' ≡ (if in_ram r.at (length d'.given) then copied r.caller r.at d'.given memory else memory)
    → map note_of notes' ≡ map note_of notes ++ took_effect (request_of r) moment reply ∷ []
    → TookEffect moment (about_to d (r ∷ rest) memory notes) (about_to d' rest memory' notes')
took moment d d' r rest memory memory' b notes notes' reply right is done m n =
    let a = request_of r in
    let calls = map request_of rest in
    let e = effect_made r memory b reply d d' is done in
    let here : memory' ≡ copied a.caller a.at d'.given memory = m ∙ memory_made r memory b reply d d' right is done in
    record {
      effect = ap (λ (x : FileEffect). let s : FileStep = record { work = with_first calls (copied a.caller a.at x.bytes memory) x.system; memory = copied a.caller a.at x.bytes memory; notes = map note_of notes ++ took_effect a moment x.reply ∷ [] } in s) e
          ∙ ap (λ (k : List ℕ). let s : FileStep = record { work = with_first calls k d'.system; memory = k; notes = map note_of notes ++ took_effect a moment reply ∷ [] } in s) (sym here)
          ∙ ap (λ (l : List FileNote). let s : FileStep = record { work = with_first calls memory' d'.system; memory = memory'; notes = l } in s) (sym n);
    }

-- The first of the calls waits.
pub first_begun : (d d' : DiskState) (r : declared_request.FileRequest) (rest : List declared_request.FileRequest) (memory b : List ℕ)
    → b ≡ bytes_written (call_with r.call r.count) r.at memory
    → Waits (call_of r.call (given_bytes r.call b)) (given_bytes r.call b) (most_turns (call_of r.call (given_bytes r.call b)) d.system) d d'
    → HasBegun d d' (r ∷ rest) memory
first_begun d d' r rest memory b is w =
    let a = request_of r in
    let bytes : given_bytes r.call b ≡ bytes_written a.call a.at memory = ap (given_bytes r.call) is ∙ begun_bytes r.call r.count r.at memory in
    let call : call_of r.call (given_bytes r.call b) ≡ a.call = ap (call_of r.call) bytes ∙ begun_call r.call r.count r.at memory in
    let held : HeldCall = record { call = call_of r.call (given_bytes r.call b); bytes = given_bytes r.call b; left = w.left } in
    let P : Option HeldCall → Type 0 = λ h. FirstIsHeld h (a ∷ map request_of rest) 0 d'.system in
    let most : most_turns (call_of r.call (given_bytes r.call b)) d.system ≡ most_turns a.call d'.system
    = ap (λ c. most_turns c d.system) call ∙ ap (most_turns a.call) (sym w.system) in
    let bound : 0 + w.left ≤ most_turns a.call d'.system = (let B : ℕ → Type 0 = λ m. w.left ≤ m in let b = subst B most w.bound in omega (arith, b)) in
    record {
      work = ap (λ (h : Option HeldCall). let x : FileWork = record { system = d'.system; calls = a ∷ map request_of rest; turns = 0; bytes = bytes_held h } in x) w.hand
          ∙ ap (λ (l : List ℕ). let x : FileWork = record { system = d'.system; calls = a ∷ map request_of rest; turns = 0; bytes = l } in x) bytes
          ∙ ap (λ (s : FileSystem). let x : FileWork = record { system = s; calls = a ∷ map request_of rest; turns = 0; bytes = bytes_written a.call a.at memory } in x) w.system;
      first = subst P (sym w.hand) (record { call = sym call; some = w.some; bound = bound });
    }

-- the first of the calls, as it was read
pub listed : (items seen : List declared_request.FileRequest) (r : declared_request.FileRequest) → seen ≡ items → 0 < length items
    → r ≡ get_or seen 0 r → items ≡ r ∷ drop 1 items
listed [] seen r e some is = absurd (omega (arith, some))
listed (x ∷ xs) seen r e some is = ap (λ y. y ∷ xs) (sym (is ∙ ap (λ l. get_or l 0 r) e))

-- One more takes effect after so many.
next_more : (k : ℕ) (x y : FileStep) → next_effects k x ≡ y → next_effects (suc k) x ≡ first_effect y.work.calls Next y
next_more zero x y e = ap (λ (z : FileStep). first_effect z.work.calls Next z) e
next_more (suc k) x y e = next_more k (first_effect x.work.calls Next x) y e

pub one_more : (x y z : FileStep) → WentOn x y → TookEffect Next y z → length z.work.calls + 1 ≡ length y.work.calls → WentOn x z
one_more x y z went took shorter =
    let l = went.left in record {
      effects = suc went.effects;
      left = omega (arith, l, shorter);
      happens = next_more went.effects x y went.happens ∙ took.effect;
    }

-- the calls that are about to begin are those of the step
pub about_calls : (d : DiskState) (requests : List declared_request.FileRequest) (memory : List ℕ) (notes : List declared_note.FileNote)
    → (about_to d requests memory notes).work.calls ≡ map request_of requests
about_calls d requests memory notes = first_calls (map request_of requests) memory d.system

-- there are fewer of them once one took effect
pub fewer_calls : (d d' : DiskState) (requests requests' : List declared_request.FileRequest) (memory memory' : List ℕ)
    (notes notes' : List declared_note.FileNote) → length requests' + 1 ≡ length requests
    → length (about_to d' requests' memory' notes').work.calls + 1 ≡ length (about_to d requests memory notes).work.calls
fewer_calls d d' requests requests' memory memory' notes notes' less =
    let a = ap length (about_calls d requests memory notes) in
    let b = ap length (about_calls d' requests' memory' notes') in
    let m = length-map requests request_of in
    let n = length-map requests' request_of in
    omega (arith, a, b, m, n, less)
