-- The disk holds the files at rest, and is clean for its files if no call is under way.
use Rattle.std.proofs.Common.{◌≡◌, ℕ, ◌/◌, false, List, [], ◌∷◌, length, refl, ap, sym, subst, ◌∙◌, arith, Option, Some, None}
use Rattle.std.proofs.lemmas.Bool.{false≢true}
use Rattle.file_laws.specs.Holds.{Holds}
use Rattle.file_laws.specs.StoredFiles.{stored_files}
use Rattle.file_server.specs.DiskStates.{IsFirstHeld}
use Rattle.file_server.specs.FileDisks.{held_for}
use Rattle.file_server.proofs.Engines.{quiet}
use Rattle.given_disks.specs.HeldFiles.{HoldsFiles, IsCleanFor}
use Rattle.lfs_layout.specs.Images.{IsCleanImage}
use Rattle.local_files.specs.Hands.{system}
use Rattle.local_files.specs.Resting.{IsFirstCall}
use Rattle.local_files.specs.Standing.{Stands, wanted, call_of, call_bytes, reply_in}
use Rattle.local_files.specs.declared.BlockWork.{BlockWork}
use Rattle.local_files.specs.declared.Files.{Files}
use Rattle.xinu_model.specs.Files.Rest.{are_calls, is_at_rest}
use Rattle.xinu_model.specs.Files.Work.{FileRequest, FileWork}

first_call : (o : Option BlockWork) (e : Files) (base : List ℕ) (calls : List FileRequest) → IsFirstHeld (held_for o e base) calls
    → IsFirstCall o (call_of e.call (call_bytes e)) calls
first_call None e base calls f = tt
first_call (Some w) e base [] f = absurd f
first_call (Some w) e base (a ∷ calls) f = f

none_held : (o : Option BlockWork) (e : Files) (base : List ℕ) (calls : List FileRequest) → are_calls calls ≡ false
    → IsFirstHeld (held_for o e base) calls → held_for o e base ≡ None
none_held None e base calls none f = refl
none_held (Some w) e base [] none f = absurd f
none_held (Some w) e base (a ∷ calls) none f = absurd (false≢true (sym none))

pub held_files : (e : Files) (base disk : List ℕ) → Stands e base disk → reply_in e.phase ≡ None
    → ((base disk : List ℕ) (w : FileWork) → Stands e base disk → w.system ≡ system e base
    → IsFirstCall (wanted e) (call_of e.call (call_bytes e)) w.calls → Holds disk w.system.files (λ name. is_at_rest name w))
    → (w : FileWork) → w.system ≡ system e base → IsFirstHeld (held_for (wanted e) e base) w.calls → HoldsFiles disk w
held_files e base disk s taken law w is first = record {
  blocks = (let long = s.whole in let blocks = s.blocks in let z : length disk / 512 ≡ e.blocks = omega (arith, long, blocks) in z) ∙ sym (ap (λ x. x.blocks) is);
  at_rest = law base disk w s is (first_call (wanted e) e base w.calls first);
  clean = λ none. (
      let q = quiet e base disk s taken (none_held (wanted e) e base w.calls none first) in
      let P : List ℕ → Type 0 = λ d. IsCleanImage d in
      let c : IsCleanFor disk w.system.files = record { clean = subst P (sym q.same) s.clean; read = ap stored_files q.same ∙ sym (ap (λ x. x.files) is) } in c);
}
