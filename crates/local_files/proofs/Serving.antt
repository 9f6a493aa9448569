-- The work of the engine, as the disk does it.
use Rattle.std.proofs.Common.{◌≡◌, ℕ, List, [], refl, sym, ◌∙◌, subst, Option, Some, false}
use Rattle.std.proofs.lemmas.Bool.{false≢true}
use Rattle.lfs_check.specs.Rules.{block_in}
use Rattle.lfs_check.specs.Disks.{block_put}
use Rattle.local_files.specs.declared.Files.{Files}
use Rattle.local_files.specs.declared.FileCall.{FileCall}
use Rattle.local_files.specs.declared.FileCall.TheVariants.{Open, Delete, Close, Read, Write, Getc, Putc, Seek, Truncate, Size}
use Rattle.local_files.specs.declared.BlockWork.{BlockWork}
use Rattle.local_files.specs.declared.BlockWork.TheVariants as work
use Rattle.local_files.specs.Steps.{is_write}
use Rattle.local_files.specs.Standing.{GoesTo, IsHonest, IsHonestFor, wanted, served, served_by, call_bytes, given_bytes}

-- only a write has bytes of its own
given_same : (call : FileCall) (a b : List ℕ) → is_write call ≡ false → given_bytes call a ≡ given_bytes call b
given_same (Open x y) a b h = refl
given_same (Delete x) a b h = refl
given_same (Close x) a b h = refl
given_same (Read x y) a b h = refl
given_same (Write x) a b h = absurd (false≢true (sym h))
given_same (Getc x) a b h = refl
given_same (Putc x y) a b h = refl
given_same (Seek x y) a b h = refl
given_same (Truncate x) a b h = refl
given_same (Size x) a b h = refl

-- another call has none
none_given : (call : FileCall) → is_write call ≡ false → given_bytes call [] ≡ []
none_given (Open x y) h = refl
none_given (Delete x) h = refl
none_given (Close x) h = refl
none_given (Read x y) h = refl
none_given (Write x) h = refl
none_given (Getc x) h = refl
none_given (Putc x y) h = refl
none_given (Seek x y) h = refl
none_given (Truncate x) h = refl
none_given (Size x) h = refl

-- a call without bytes of its own, whatever bytes it is given
pub given_goes : (e e' : Files) (call : FileCall) (bytes base disk : List ℕ) → is_write call ≡ false
    → GoesTo e'.phase call [] e e' base disk → GoesTo e'.phase call (given_bytes call bytes) e e' base disk
given_goes e e' call bytes base disk h g =
    let P : List ℕ → Type 0 = λ b. GoesTo e'.phase call b e e' base disk in subst P (sym (none_given call h) ∙ given_same call [] bytes h) g

-- the same, where it is said with none
pub other_goes : (e e' : Files) (call : FileCall) (bytes base disk : List ℕ) → is_write call ≡ false
    → GoesTo e'.phase call (given_bytes call []) e e' base disk → GoesTo e'.phase call (given_bytes call bytes) e e' base disk
other_goes e e' call bytes base disk h g =
    let P : List ℕ → Type 0 = λ b. GoesTo e'.phase call b e e' base disk in subst P (given_same call [] bytes h) g

-- what is read is the block that is wanted
pub read_is : (e : Files) (n : ℕ) (disk read : List ℕ) → wanted e ≡ Some (work.Read n) → IsHonest e read disk → read ≡ block_in disk n
read_is e n disk read is honest = let H : Option BlockWork → Type 0 = λ w. IsHonestFor w read disk in subst H is honest

-- A block is read.
pub read_completes : (e e' : Files) (n : ℕ) (base disk read : List ℕ) → wanted e ≡ Some (work.Read n) → IsHonest e read disk
    → (read ≡ block_in disk n → GoesTo e'.phase e.call (call_bytes e) e e' base disk)
    → GoesTo e'.phase e.call (call_bytes e) e e' base (served e disk)
read_completes e e' n base disk read is honest goes =
    let P : Option BlockWork → Type 0 = λ w. GoesTo e'.phase e.call (call_bytes e) e e' base (served_by w e.block disk) in
    subst P (sym is) (goes (read_is e n disk read is honest))

-- A block is written.
pub write_completes : (e e' : Files) (n : ℕ) (base disk : List ℕ) → wanted e ≡ Some (work.Write n)
    → GoesTo e'.phase e.call (call_bytes e) e e' base (block_put disk n e.block)
    → GoesTo e'.phase e.call (call_bytes e) e e' base (served e disk)
write_completes e e' n base disk is goes =
    let P : Option BlockWork → Type 0 = λ w. GoesTo e'.phase e.call (call_bytes e) e e' base (served_by w e.block disk) in
    subst P (sym is) goes
