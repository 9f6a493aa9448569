-- The calls on devices, 36 to 44, keep a predicate that is closed under their moves.
use Rattle.std.proofs.Common.{ℕ, zero, suc, ◌+◌, ◌<◌, ◌==◌, arith, Bool, true, false, cond, ◌&&◌, List, [], ◌∷◌, Option, Some, None, ℤ, pos, negsuc}
use Rattle.std.specs.Prelude.{slice_index}
use Rattle.xinu_base.specs.Constants.{OK}
use Rattle.xinu_base.specs.declared.console.Item.{Item}
use Rattle.xinu_base.specs.declared.processes.Rest.{Rest}
use Rattle.xinu_base.specs.declared.processes.Rest.TheVariants as rest
use Rattle.xinu_base.specs.declared.processes.State.TheVariants.{Waiting}
use Rattle.xinu_model.specs.Console.Constants.{TY_NEWLINE, TY_RETURN}
use Rattle.xinu_model.specs.Console.Controls.{controlled}
use Rattle.xinu_model.specs.Console.Putting.{TY_OSEM, put, needs_return, put_byte, console_putc, writes, console_write}
use Rattle.xinu_model.specs.Console.Rows.{Committed}
use Rattle.xinu_model.specs.Console.Signals.{TC_ICHARS, control_with, console_control}
use Rattle.xinu_model.specs.Console.Taking.{TY_ISEM, console_of, with_console, is_cooked, is_end, with_committed, take_char, take_next, console_getc, span, stored, ends_line, count_at_end, read_item, read_next, reads, read_range, console_read}
use Rattle.xinu_model.specs.Machine.{Xinu, CallResult, start, refused}
use Rattle.xinu_model.specs.Memory.{in_ram}
use Rattle.xinu_model.specs.Names.Calls.{mount, mount_rows}
use Rattle.xinu_model.specs.Names.Mounting.{NameRow}
use Rattle.xinu_model.specs.RawDisk.Calls.{may_request, disk_read, disk_write, disk_control}
use Rattle.xinu_model.specs.RawDisk.Constants.{RD_CTL_SIZE}
use Rattle.xinu_model.specs.Semaphores.Calls.{answers}
use Rattle.xinu_model.specs.Semaphores.Waiting.{await}
use Rattle.xinu_model.specs.Tables.{Tables, semaphore_at, InSemaphore}
use Rattle.xinu_laws.proofs.Devices.Kept.{OfFiles}
use Rattle.xinu_laws.proofs.NameSpaces.Calls.{mount_holds}
use Rattle.scheduling_laws.proofs.Moves.{Goes, Settled, IsClosed}
use Rattle.scheduling_laws.proofs.Passes.Steps.{refused_settles, either_settles, await_settles, inside_signalled_times}

module _ {May Touch : ℕ → Type 0} {Begins : Tables → Type 0} {Holds : Tables → Bool → Type 0} (k : IsClosed May Touch Begins Holds)
    (devices : (sem : ℕ) → sem < 4 → Touch sem) where
  -- `getc` of the console
  pub take_char_settles : (items : List Item) (s : Xinu) → Goes Holds s → Settled Holds (take_char items s)
  take_char_settles [] s h = h
  take_char_settles (x ∷ items) s h = h

  pub getc_settles : (s : Xinu) → Goes Holds s → Settled Holds (console_getc s)
  getc_settles s h = await_settles k TY_ISEM rest.TtyGet take_next s (devices 0 (omega arith)) h (λ u. take_char_settles (console_of u).committed u)

  -- `read` of the console
  pub read_item_settles : (items : List Item) (at done : ℕ) (then_ : Xinu → CallResult) (s : Xinu) → Goes Holds s
      → ((u : Xinu) → Goes Holds u → Settled Holds (then_ u)) → Settled Holds (read_item items at done then_ s)
  read_item_settles [] at done then_ s h go = h
  read_item_settles (x ∷ items) at done then_ s h go =
      let mode = (console_of s).mode in
      let u = with_committed items s in
      either_settles k (is_cooked mode && is_end x) (answers (count_at_end done) u)
      (cond (ends_line mode x) (answers (pos (suc done)) (stored x at done u)) (then_ (stored x at done u))) (λ _. h)
      (λ _. either_settles k (ends_line mode x) (answers (pos (suc done)) (stored x at done u)) (then_ (stored x at done u)) (λ _. h)
      (λ _. go (stored x at done u) h))

  pub reads_settles : (left at done : ℕ) (s : Xinu) → Goes Holds s → Settled Holds (reads left at done s)
  reads_settles zero at done s h = h
  reads_settles (suc left) at done s h =
      await_settles k TY_ISEM (rest.TtyRead (span at done (done + suc left))) (read_next at done (reads left at (suc done))) s
      (devices 0 (omega arith)) h
      (λ u g. read_item_settles (console_of u).committed at done (reads left at (suc done)) u g (reads_settles left at (suc done)))

  read_range_settles : (at n : ℕ) (s : Xinu) → Goes Holds s → Settled Holds (read_range at n s)
  read_range_settles at n s h =
      either_settles k (in_ram at n) (reads n at 0 s) (refused s) (λ _. reads_settles n at 0 s h) (λ _. refused_settles k s h)

  pub read_settles : (at : ℕ) (n : ℤ) (s : Xinu) → Goes Holds s → Settled Holds (console_read at n s)
  read_settles at (negsuc n) s h = refused_settles k s h
  read_settles at (pos zero) s h =
      either_settles k (is_cooked (console_of s).mode) (answers OK s) _ (λ _. h)
      (λ _. read_range_settles at (semaphore_at s.tables TY_ISEM).tokens s h)
  read_settles at (pos (suc n)) s h = read_range_settles at (suc n) s h

  -- `putc` and `write` of the console
  pub put_byte_settles : (b : ℕ) (left : Rest) (then_ : Xinu → CallResult) (s : Xinu) → Goes Holds s
      → ((u : Xinu) → Goes Holds u → Settled Holds (then_ u)) → Settled Holds (put_byte b left then_ s)
  put_byte_settles b left then_ s h go =
      either_settles k (needs_return b (console_of s).mode) (await TY_OSEM left (λ x. then_ (put TY_NEWLINE x)) (put TY_RETURN s))
      (then_ (put b s))
      (λ _. await_settles k TY_OSEM left (λ x. then_ (put TY_NEWLINE x)) (put TY_RETURN s) (devices 1 (omega arith)) h (λ u g. go (put TY_NEWLINE u) g))
      (λ _. go (put b s) h)

  pub putc_settles : (b : ℕ) (s : Xinu) → Goes Holds s → Settled Holds (console_putc b s)
  putc_settles b s h =
      await_settles k TY_OSEM (rest.TtyPut b false) (put_byte b (rest.TtyPut b true) (answers OK)) s (devices 1 (omega arith)) h
      (λ u g. put_byte_settles b (rest.TtyPut b true) (answers OK) u g (λ v f. f))

  pub writes_settles : (left at done : ℕ) (s : Xinu) → Goes Holds s → Settled Holds (writes left at done s)
  writes_settles zero at done s h = h
  writes_settles (suc left) at done s h =
      let part = span at done (done + suc left) in
      await_settles k TY_OSEM (rest.TtyWrite part false)
      (λ x. put_byte (slice_index x.memory (at + done)) (rest.TtyWrite part true) (writes left at (suc done)) x) s
      (devices 1 (omega arith)) h
      (λ u g. put_byte_settles (slice_index u.memory (at + done)) (rest.TtyWrite part true) (writes left at (suc done)) u g
      (writes_settles left at (suc done)))

  pub write_settles : (at : ℕ) (n : ℤ) (s : Xinu) → Goes Holds s → Settled Holds (console_write at n s)
  write_settles at (negsuc n) s h = refused_settles k s h
  write_settles at (pos n) s h =
      either_settles k (in_ram at n) (writes n at 0 s) (refused s) (λ _. writes_settles n at 0 s h) (λ _. refused_settles k s h)

  -- `control` of the console
  control_settles : (found : Option Committed) (s : Xinu) → Goes Holds s → Settled Holds (control_with found s)
  control_settles None s h = refused_settles k s h
  control_settles (Some m) s h = inside_signalled_times k TY_ISEM m.count (record (start s) { state = with_console m.console s })
      (devices 0 (omega arith)) h

  pub console_control_settles : (f : ℕ) (s : Xinu) → Goes Holds s → Settled Holds (console_control f s)
  console_control_settles f s h =
      either_settles k (f == TC_ICHARS) (answers (pos (semaphore_at s.tables TY_ISEM).tokens) s)
      (control_with (controlled f (console_of s)) s) (λ _. h) (λ _. control_settles (controlled f (console_of s)) s h)

  -- the raw disk
  pub disk_read_settles : (at block : ℕ) (s : Xinu) → Goes Holds s → Settled Holds (disk_read at block s)
  disk_read_settles at block s h =
      either_settles k (may_request at block s) _ (refused s) (λ _. k.stops s.tables Waiting (rest.Disk None) (InSemaphore 2) (devices 2 (omega arith)) h)
      (λ _. refused_settles k s h)

  pub disk_write_settles : (at block : ℕ) (s : Xinu) → Goes Holds s → Settled Holds (disk_write at block s)
  disk_write_settles at block s h =
      either_settles k (may_request at block s) _ (refused s) (λ _. k.stops s.tables Waiting (rest.Disk None) (InSemaphore 2) (devices 2 (omega arith)) h)
      (λ _. refused_settles k s h)

  pub disk_control_settles : (f : ℕ) (s : Xinu) → Goes Holds s → Settled Holds (disk_control f s)
  disk_control_settles f s h = either_settles k (f == RD_CTL_SIZE) _ (refused s) (λ _. h) (λ _. refused_settles k s h)

  -- a call on files
  pub files_settle : (s : Xinu) → Goes Holds s → OfFiles (Settled Holds) s
  files_settle s h None at asked = refused_settles k s h
  files_settle s h (Some call) at asked = k.stops s.tables Waiting (rest.Disk None) (InSemaphore 3) (devices 3 (omega arith)) h

  -- call 44
  pub mount_settles : (prefix replacement dev : ℕ) (s : Xinu) → Goes Holds s → Settled Holds (mount prefix replacement dev s)
  mount_settles prefix replacement dev s h =
      mount_holds (Settled Holds) prefix replacement dev s (refused_settles k s h) (λ row found w e. by_found found)
    where
      by_found : (found : Option (List NameRow)) → Settled Holds (mount_rows found s)
      by_found None = refused_settles k s h
      by_found (Some rows) = h
