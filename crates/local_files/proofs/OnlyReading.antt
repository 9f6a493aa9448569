-- A call that writes no file leaves the disk as it is.
use Rattle.std.proofs.Common.{◌≡◌, ℕ, List, None, refl, subst}
use Rattle.std.specs.Prelude.{IsSome}
use Rattle.std.proofs.lemmas.Bool.{false≢true}
use Rattle.lfs_layout.specs.Files.{bare_name}
use Rattle.xinu_model.specs.Files.Stored.{file_named}
use Rattle.file_laws.specs.StoredFiles.{stored_files}
use Rattle.local_files.specs.declared.Files.{Files}
use Rattle.local_files.specs.declared.FileCall.{FileCall}
use Rattle.local_files.specs.declared.FileCall.TheVariants.{Open, Delete, Close, Read, Write, Getc, Putc, Seek, Truncate, Size}
use Rattle.local_files.specs.declared.Phase.{Phase}
use Rattle.local_files.specs.declared.Phase.TheVariants.{Idle, Done, Wants}
use Rattle.local_files.specs.declared.Purpose.TheVariants.{Search, Walk, Fetch, Counts, Reach, PatchRead, PatchWrite, TakeRead, TakeWrite, AddRead, AddWrite, NewRead, NewWrite, LinkRead, LinkWrite, CutRead, CutWrite, FreeWrite, EntryRead, EntryWrite, HeaderRead, HeaderWrite}
use Rattle.local_files.specs.Hands.{system, IsCutFor, IsEnding, but_blocks, put_bytes}
use Rattle.local_files.specs.Putting.{IsPut}
use Rattle.local_files.specs.Resting.{OnlyReads}
use Rattle.local_files.specs.Standing.{Stands, InHand, call_of, call_bytes, given_bytes, served, served_by, wanted_in}
use Rattle.local_files.proofs.Closings.{absent_named}

module _ (e : Files) (base disk : List ℕ) (s : Stands e base disk) where
  -- such a call
  abbrev Reads : FileCall → Type 0
  Reads c = OnlyReads (call_of c (given_bytes c (put_bytes e))) (system e base)

  -- puts no bytes,
  no_put : {P : Type 0} → (c : FileCall) → Reads c → IsPut c (put_bytes e) → P
  no_put (Write d) r h = absurd r
  no_put (Putc d b) r h = absurd r
  no_put (Open a b) r h = absurd h
  no_put (Delete a) r h = absurd h
  no_put (Close a) r h = absurd h
  no_put (Read a b) r h = absurd h
  no_put (Getc a) r h = absurd h
  no_put (Seek a b) r h = absurd h
  no_put (Truncate a) r h = absurd h
  no_put (Size a) r h = absurd h

  -- cuts no file,
  no_cut : {P : Type 0} → (c : FileCall) → Reads c → IsCutFor c (but_blocks e) base → P
  no_cut (Delete name) r h = absurd r
  no_cut (Truncate d) r h = absurd r
  no_cut (Open a b) r h = absurd h
  no_cut (Close a) r h = absurd h
  no_cut (Read a b) r h = absurd h
  no_cut (Write a) r h = absurd h
  no_cut (Getc a) r h = absurd h
  no_cut (Putc a b) r h = absurd h
  no_cut (Seek a b) r h = absurd h
  no_cut (Size a) r h = absurd h

  -- makes none that is there,
  no_file : {P : Type 0} → (name : List ℕ) → IsSome (file_named name (stored_files base)) → file_named name (stored_files base) ≡ None → P
  no_file name some none = absurd (false≢true (subst IsSome none some))

  -- and so writes no directory.
  no_end : {P : Type 0} → (c : FileCall) → e.call ≡ c → Reads c → IsEnding c (but_blocks e) base → P
  no_end (Open name mode) is r h = no_file (bare_name name) r (absent_named e name mode base disk is s h)
  no_end (Delete name) is r h = absurd r
  no_end (Write d) is r h = absurd r
  no_end (Putc d b) is r h = absurd r
  no_end (Truncate d) is r h = absurd r
  no_end (Close a) is r h = absurd h
  no_end (Read a b) is r h = absurd h
  no_end (Getc a) is r h = absurd h
  no_end (Seek a b) is r h = absurd h
  no_end (Size a) is r h = absurd h

  -- In each phase it wants to read a block.
  in_phase : Reads e.call → (p : Phase) → InHand p e base disk → served_by (wanted_in p e) e.block disk ≡ disk
  in_phase r Idle h = refl
  in_phase r (Done reply) h = refl
  in_phase r (Wants (Search d)) h = refl
  in_phase r (Wants (Walk rest at)) h = refl
  in_phase r (Wants (Fetch b)) h = refl
  in_phase r (Wants Counts) h = refl
  in_phase r (Wants (Reach rest at)) h = refl
  in_phase r (Wants (PatchRead b)) h = refl
  in_phase r (Wants (TakeRead b)) h = refl
  in_phase r (Wants (AddRead b)) h = refl
  in_phase r (Wants (NewRead b i)) h = refl
  in_phase r (Wants (LinkRead b i)) h = refl
  in_phase r (Wants CutRead) h = refl
  in_phase r (Wants EntryRead) h = refl
  in_phase r (Wants HeaderRead) h = refl
  in_phase r (Wants (PatchWrite b)) h = no_put e.call r h.patch.ready.putting.call
  in_phase r (Wants (TakeWrite b)) h = no_put e.call r h.taken.putting.call
  in_phase r (Wants (AddWrite b)) h = no_put e.call r h.filled.taken.putting.call
  in_phase r (Wants (NewWrite b i)) h = no_put e.call r h.new.putting.call
  in_phase r (Wants (LinkWrite b i)) h = no_put e.call r h.link.new.putting.call
  in_phase r (Wants CutWrite) h = no_cut e.call r h.read.cutting.for
  in_phase r (Wants (FreeWrite b)) h = no_cut e.call r h.cutting.for
  in_phase r (Wants EntryWrite) h = no_end e.call refl r h.ending
  in_phase r (Wants HeaderWrite) h = no_end e.call refl r h.ending

  -- So its completions change no block.
  pub reads_leave : OnlyReads (call_of e.call (call_bytes e)) (system e base) → served e disk ≡ disk
  reads_leave r = in_phase r e.phase s.hand
