-- Calls that can be carried out, with their bytes; and which stay after a death.
use Rattle.std.proofs.Common.{◌≡◌, ℕ, ◌+◌, ◌≤◌, true, false, if◌then◌else◌, List, [], ◌∷◌, length, map, drop, refl, ap, sym, subst, ◌∙◌, arith, Option, Some, None}
use Rattle.std.proofs.lemmas.Bool.Decides.{nat_tests}
use Rattle.std.proofs.lemmas.List.{append-nil, drop_all}
use Rattle.file_server.specs.DiskStates.{HeldCall}
use Rattle.file_server.specs.Requests.{call_with, kept_after, request_of}
use Rattle.file_server.specs.Servers.{FirstIsHeld, IsUnderWay}
use Rattle.file_server.specs.declared.requests.FileRequest as declared_request
use Rattle.local_files.specs.Standing.{call_of, given_bytes}
use Rattle.local_files.specs.declared.FileCall.{FileCall}
use Rattle.local_files.specs.declared.FileCall.TheVariants.{Open, Delete, Close, Read, Write, Getc, Putc, Seek, Truncate, Size}
use Rattle.part_laws.proofs.FileWork.Sizes.{brings}
use Rattle.part_laws.proofs.FileWork.Sound.{bytes_from_size}
use Rattle.xinu_model.specs.Files.Calls as model
use Rattle.xinu_model.specs.Files.Sound.{InRam}
use Rattle.xinu_model.specs.Files.Systems.{FileSystem}
use Rattle.xinu_model.specs.Files.Work.{FileRequest, bytes_written, copied, orphaned_call}
use Rattle.xinu_model.specs.Memory.{in_ram}
use Rattle.xinu_model.specs.RawDisk.Callers.{given_up, is_caller}
use Rattle.xinu_model.proofs.FileOutcomes.{nothing_brought}

-- the engine is given the bytes of the call,
pub begun_bytes : (call : FileCall) (count at : ℕ) (memory : List ℕ)
    → given_bytes call (bytes_written (call_with call count) at memory) ≡ bytes_written (call_with call count) at memory
begun_bytes (Open name mode) count at memory = refl
begun_bytes (Delete name) count at memory = refl
begun_bytes (Close d) count at memory = refl
begun_bytes (Read d n) count at memory = refl
begun_bytes (Write d) count at memory = refl
begun_bytes (Getc d) count at memory = refl
begun_bytes (Putc d b) count at memory = refl
begun_bytes (Seek d n) count at memory = refl
begun_bytes (Truncate d) count at memory = refl
begun_bytes (Size d) count at memory = refl

-- so its call is the one that was made
pub begun_call : (call : FileCall) (count at : ℕ) (memory : List ℕ)
    → call_of call (bytes_written (call_with call count) at memory) ≡ call_with call count
begun_call (Open name mode) count at memory = refl
begun_call (Delete name) count at memory = refl
begun_call (Close d) count at memory = refl
begun_call (Read d n) count at memory = refl
begun_call (Write d) count at memory = ap (model.Write d) (bytes_from_size memory at count)
begun_call (Getc d) count at memory = refl
begun_call (Putc d b) count at memory = refl
begun_call (Seek d n) count at memory = refl
begun_call (Truncate d) count at memory = refl
begun_call (Size d) count at memory = refl

no_bytes_handed : (caller : Option ℕ) (at : ℕ) (bytes memory : List ℕ) → length bytes ≤ 0
    → (if in_ram at (length bytes) then copied caller at bytes memory else memory) ≡ copied caller at bytes memory
no_bytes_handed caller at [] memory few =
    elim (in_ram at 0) as (λ b. (if b then copied caller at [] memory else memory) ≡ copied caller at [] memory) [
      | true ↦ refl
      | false ↦ sym (nothing_brought caller at memory)
    ]
no_bytes_handed caller at (b ∷ bytes) memory few = absurd (omega (arith, few))

-- The bytes that a call has given have room in RAM.
pub handed_over : (call : model.FileCall) (caller : Option ℕ) (at : ℕ) (bytes memory : List ℕ) → InRam call at → length bytes ≤ brings call
    → (if in_ram at (length bytes) then copied caller at bytes memory else memory) ≡ copied caller at bytes memory
handed_over (model.Open name mode) caller at bytes memory within few = no_bytes_handed caller at bytes memory few
handed_over (model.Delete name) caller at bytes memory within few = no_bytes_handed caller at bytes memory few
handed_over (model.Close d) caller at bytes memory within few = no_bytes_handed caller at bytes memory few
handed_over (model.Read d n) caller at bytes memory within few =
    let t : in_ram at (length bytes) ≡ true = (let q : at + length bytes ≤ 1048576 = omega (arith, within, few) in grind (arith, nat_tests)) in
    ap (λ b. if b then copied caller at bytes memory else memory) t
handed_over (model.Write d n) caller at bytes memory within few = no_bytes_handed caller at bytes memory few
handed_over (model.Getc d) caller at bytes memory within few = no_bytes_handed caller at bytes memory few
handed_over (model.Putc d b) caller at bytes memory within few = no_bytes_handed caller at bytes memory few
handed_over (model.Seek d n) caller at bytes memory within few = no_bytes_handed caller at bytes memory few
handed_over (model.Truncate d) caller at bytes memory within few = no_bytes_handed caller at bytes memory few
handed_over (model.Size d) caller at bytes memory within few = no_bytes_handed caller at bytes memory few

-- After a death the first call is still under way,
pub first_given_up : (p : ℕ) (hand : Option HeldCall) (calls : List FileRequest) (turns : ℕ) (s : FileSystem) → FirstIsHeld hand calls turns s
    → FirstIsHeld hand (given_up (λ (a : FileRequest). a.caller) orphaned_call p calls) turns s
first_given_up p None [] turns s f = f
first_given_up p None (a ∷ calls) turns s f = absurd f
first_given_up p (Some h) [] turns s f = absurd f
first_given_up p (Some h) (a ∷ calls) turns s f =
    elim (is_caller p a.caller) as (λ b. IsUnderWay (if b then orphaned_call a else a) h turns s) [
      | true ↦ record { call = f.call; some = f.some; bound = f.bound }
      | false ↦ f
    ]

-- as what was kept is what stays
kept_all : (p : ℕ) (kept : List FileRequest) → kept_after p kept [] ≡ kept
kept_all p [] = refl
kept_all p (k ∷ kept) = append-nil (k ∷ kept)

pub kept_is : (p i : ℕ) (all seen kept : List declared_request.FileRequest) → seen ≡ all → length seen ≤ i
    → kept_after p (map request_of kept) (map request_of (drop i seen))
    ≡ given_up (λ (a : FileRequest). a.caller) orphaned_call p (map request_of seen)
    → map request_of kept ≡ given_up (λ (a : FileRequest). a.caller) orphaned_call p (map request_of all)
kept_is p i all seen kept same end left =
    let none : map request_of (drop i seen) ≡ [] = ap (map request_of) (drop_all i seen end) in
    sym (kept_all p (map request_of kept)) ∙ ap (kept_after p (map request_of kept)) (sym none) ∙ left
    ∙ ap (λ rs. given_up (λ (a : FileRequest). a.caller) orphaned_call p (map request_of rs)) same

pub first_kept : (p i turns : ℕ) (all seen kept : List declared_request.FileRequest) (hand : Option HeldCall) (s : FileSystem) → seen ≡ all
    → length seen ≤ i
    → kept_after p (map request_of kept) (map request_of (drop i seen))
    ≡ given_up (λ (a : FileRequest). a.caller) orphaned_call p (map request_of seen)
    → FirstIsHeld hand (map request_of all) turns s → FirstIsHeld hand (map request_of kept) turns s
first_kept p i turns all seen kept hand s same end left f =
    let P : List FileRequest → Type 0 = λ calls. FirstIsHeld hand calls turns s in
    subst P (sym (kept_is p i all seen kept same end left)) (first_given_up p hand (map request_of all) turns s f)
