-- No call brings those who wait for a disk further back.
use Rattle.std.proofs.Common.{◌≡◌, ◌≢◌, ℕ, ◌+◌, ◌<◌, ◌≤◌, ◌==◌, ◌%◌, true, false, ◌||◌, ◌&&◌, cond, List, [], ◌∷◌, ◌++◌, Option, Some, None, refl, sym, ap, subst, ◌∙◌, arith}
use Rattle.std.specs.Prelude.{slice_index}
use Rattle.std.proofs.lemmas.Bool.{cond_both, eqb-false, eqb-true, or_parts, true≢false}
use Rattle.xinu_base.specs.declared.processes.State.TheVariants.{Current, Waiting}
use Rattle.xinu_model.specs.Calls.{calls, called}
use Rattle.xinu_model.specs.Files.Syscalls.{files_of}
use Rattle.xinu_model.specs.Files.Work.{FileRequest, FileWork, orphaned_call, queued_after, calls_given_up}
use Rattle.xinu_model.specs.Footprints.{Footprint, on_console, on_tables}
use Rattle.xinu_model.specs.Machine.{Xinu, CallResult, start, refused}
use Rattle.xinu_model.specs.Messages.{sent}
use Rattle.xinu_model.specs.Process.Calls.{kill}
use Rattle.xinu_model.specs.Process.Death.{killed, exit}
use Rattle.xinu_model.specs.RawDisk.Calls.{disk_of, awaits_disk, may_request, disk_control, request_of}
use Rattle.xinu_model.specs.RawDisk.Constants.{RD_BLKSIZ, RD_CTL_SIZE}
use Rattle.xinu_model.specs.RawDisk.Requests.{Request, RawDisk, orphaned_request, requests_given_up}
use Rattle.xinu_model.specs.Memory.{bytes_from}
use Rattle.xinu_model.specs.Semaphores.Calls.{answers}
use Rattle.xinu_model.specs.Sound.State.{IsSound}
use Rattle.xinu_model.specs.Sound.Tables.{count_in}
use Rattle.xinu_model.specs.Tables.{process_at, state_at, is_free}
use Rattle.xinu_model.specs.Words.{signed}
use Rattle.table_laws.proofs.Tables.Unblock.{waiter_waits}
use Rattle.xinu_laws.specs.Touches.{reach, Touches}
use Rattle.xinu_laws.proofs.Consoles.Kept.{sound_holds}
use Rattle.xinu_laws.proofs.Consoles.Put.{putc_keeps, write_keeps}
use Rattle.xinu_laws.proofs.Consoles.Signalled.{console_control_keeps}
use Rattle.xinu_laws.proofs.Consoles.Taken.{getc_keeps, read_keeps}
use Rattle.xinu_laws.proofs.Devices.Kept.{OfFiles, device_open_holds, device_close_holds, device_read_holds, device_write_holds, device_getc_holds, device_putc_holds, device_seek_holds, device_control_holds}
use Rattle.xinu_laws.proofs.Rows.RowByRow.{◌⨾◌}
use Rattle.xinu_laws.proofs.Touches.Few.{IsLawOfFew, law_of_few}
use Rattle.xinu_laws.proofs.Touches.Moves.{touches_sent}
use Rattle.bounded_waits.specs.Places.{has_one, before, waits_for_files, waits_for_disk, services_left}
use Rattle.bounded_waits.proofs.Costs.{Nearer, nearer_kept}
use Rattle.bounded_waits.proofs.Places.{stays_last, stays_given_up, has_one_counted}

-- From a raw disk to another p still waits, and this many requests fewer are left.
abbrev pub NearerDisk : ℕ → ℕ → RawDisk → RawDisk → Type 0
NearerDisk p n d e = (waits_for_disk p e ≡ true) × (services_left p e + n ≤ services_left p d)

-- a request's caller, of either disk
abbrev pub caller_of : FileRequest → Option ℕ
caller_of a = a.caller

abbrev pub asker_of : Request → Option ℕ
asker_of r = r.caller

-- From s to u p waits as before, and no longer.
pub record Keeps (p : ℕ) (s u : Xinu) : Type 0 where
  pub files : waits_for_files p (files_of s) ≡ true → Nearer p 0 (files_of s) (files_of u)
  pub disk : waits_for_disk p (disk_of s) ≡ true → NearerDisk p 0 (disk_of s) (disk_of u)

-- Who waits for a disk isn't the current process.
pub waits_for_files_apart : (p : ℕ) (s : Xinu) → IsSound s → waits_for_files p (files_of s) ≡ true → s.tables.current ≢ p
waits_for_files_apart p s k h e =
    let there = has_one_counted caller_of p (files_of s).calls h in
    let waits = waiter_waits s.tables 3 p k.tables.inside (subst (λ l. 0 < count_in p l) (sym k.devices.files.waiters) there) in
    let f : Current ≡ Waiting = sym k.tables.runs ∙ ap (state_at s.tables) e ∙ waits in
    absurd (cc)

pub waits_for_disk_apart : (p : ℕ) (s : Xinu) → IsSound s → waits_for_disk p (disk_of s) ≡ true → s.tables.current ≢ p
waits_for_disk_apart p s k h e =
    let there = has_one_counted asker_of p (disk_of s).requests h in
    let waits = waiter_waits s.tables 2 p k.tables.inside (subst (λ l. 0 < count_in p l) (sym k.devices.disk.waiters) there) in
    let f : Current ≡ Waiting = sym k.tables.runs ∙ ap (state_at s.tables) e ∙ waits in
    absurd (cc)

module _ (p : ℕ) where
  -- the files stay, and the raw disk does
  pub files_same : (w v : FileWork) → v ≡ w → waits_for_files p w ≡ true → Nearer p 0 w v
  files_same w v e h = subst (Nearer p 0 w) (sym e) (nearer_kept p w w h (omega arith) refl refl)

  pub disk_same : (d e : RawDisk) → e ≡ d → waits_for_disk p d ≡ true → NearerDisk p 0 d e
  disk_same d e f h = subst (NearerDisk p 0 d) (sym f) (h, omega arith)

  pub keeps_if_same : (s u : Xinu) → files_of u ≡ files_of s → disk_of u ≡ disk_of s → Keeps p s u
  keeps_if_same s u f d = record { files = files_same (files_of s) (files_of u) f; disk = disk_same (disk_of s) (disk_of u) d }

  pub unchanged : (s : Xinu) → Keeps p s s
  unchanged s = keeps_if_same s s refl refl

  -- p waits no longer after a call
  abbrev After : Xinu → CallResult → Type 0
  After s h = Keeps p s h.call.state

  pub keeps_touched : (f : Footprint) {s u : Xinu} → f.files ≡ false → f.disk ≡ false → Touches (reach f) s u → Keeps p s u
  keeps_touched f {s} {u} a b t = keeps_if_same s u (t.parts.devices.files a) (t.parts.devices.disk b)

  -- another process's call comes after the others
  files_queued : (calls_ : List FileRequest) (a : FileRequest) (memory : List ℕ) (w : FileWork) → w.calls ≡ calls_ → waits_for_files p w ≡ true
      → Nearer p 0 w (queued_after calls_ a memory w)
  files_queued [] a memory w e h = absurd (true≢false (sym h ∙ ap (has_one caller_of p) e))
  files_queued (b ∷ calls_) a memory w e h =
      let f : has_one caller_of p (b ∷ calls_) ≡ true = ap (has_one caller_of p) (sym e) ∙ h in
      let g = stays_last caller_of p (b ∷ calls_) a f in
      nearer_kept p w (queued_after (b ∷ calls_) a memory w) g.0
      (subst (λ l. before caller_of p ((b ∷ calls_) ++ a ∷ []) ≤ before caller_of p l) (sym e) g.1) refl refl

  -- another process is killed
  files_given_up : (q : ℕ) (w : FileWork) → q ≢ p → waits_for_files p w ≡ true → Nearer p 0 w (calls_given_up q w)
  files_given_up q w n h =
      let g = stays_given_up caller_of p orphaned_call (λ a. refl) q w.calls n h in
      nearer_kept p w (calls_given_up q w) g.0 g.1 refl refl

  disk_given_up : (q : ℕ) (d : RawDisk) → q ≢ p → waits_for_disk p d ≡ true → NearerDisk p 0 d (requests_given_up q d)
  disk_given_up q d n h =
      let g = stays_given_up asker_of p orphaned_request (λ a. refl) q d.requests n h in
      let less = g.1 in
      (g.0, omega (arith, less))

  killed_keeps : (q : ℕ) (s : Xinu) → (waits_for_files p (files_of s) ≡ true → q ≢ p) → (waits_for_disk p (disk_of s) ≡ true → q ≢ p)
      → Keeps p s (killed q (start s)).state
  killed_keeps q s f d =
      let parent = (process_at s.tables q).parent in
      let t : Touches (reach on_tables) s (sent parent q (start s)).state = touches_sent parent q (start s) in
      record {
        files = λ h. subst (λ w. Nearer p 0 (files_of s) (calls_given_up q w)) (sym (t.parts.devices.files refl)) (files_given_up q (files_of s) (f h) h);
        disk = λ h. subst (λ e. NearerDisk p 0 (disk_of s) (requests_given_up q e)) (sym (t.parts.devices.disk refl)) (disk_given_up q (disk_of s) (d h) h);
      }

  pub exit_keeps : (s : Xinu) → IsSound s → Keeps p s (exit s).call.state
  exit_keeps s k = killed_keeps s.tables.current s (waits_for_files_apart p s k) (waits_for_disk_apart p s k)

  pub kill_keeps : (q : ℕ) (s : Xinu) → q ≢ p → Keeps p s (kill q s).call.state
  kill_keeps q s n =
      let dies : Keeps p s (killed q (start s)).state = killed_keeps q s (λ _. n) (λ _. n) in
      cond_both ((q == 0) || is_free (state_at s.tables q)) (refused s) _ (After s) (λ _. unchanged s)
      (λ _. cond_both (q == s.tables.current) (exit s) _ (After s)
      (λ e. subst (λ r. Keeps p s (killed r (start s)).state) (eqb-true q s.tables.current e) dies) (λ _. dies))

  -- a call on files
  asks_keep : (s : Xinu) → OfFiles (After s) s
  asks_keep s None at asked = unchanged s
  asks_keep s (Some call) at asked = record {
    files = files_queued (files_of s).calls _ s.memory (files_of s) refl;
    disk = disk_same (disk_of s) (disk_of s) refl;
  }

  -- a request of the raw disk
  awaits_keep : (written : Option (List ℕ)) (at block : ℕ) (s : Xinu)
      → Keeps p s (cond (may_request at block s) (awaits_disk written at block s) (refused s)).call.state
  awaits_keep written at block s =
      cond_both (may_request at block s) (awaits_disk written at block s) (refused s) (After s)
      (λ _. record {
        files = files_same (files_of s) (files_of s) refl;
        disk = λ h. let g = stays_last asker_of p (disk_of s).requests (request_of written at block s) h in
            (let less = g.1 in (g.0, omega (arith, less)));
      }) (λ _. unchanged s)

  control_keeps : (f : ℕ) (s : Xinu) → Keeps p s (disk_control f s).call.state
  control_keeps f s =
      cond_both (f == RD_CTL_SIZE) (answers _ s) (refused s) (After s) (λ _. unchanged s)
      (λ _. unchanged s)

  -- Each call but `kill` keeps them.
  keeps_law : IsLawOfFew (λ f. f.files || f.disk) (λ number s u. number ≢ 5 → Keeps p s u)
  unfolding calls
  keeps_law = record {
    same = λ number s _. unchanged s;
    others = λ number f s u e t _. (let both = or_parts f.files f.disk e in keeps_touched f both.0 both.1 t);
    few =
        (λ a s k n. absurd (n refl)) ⨾
        (λ a s k n. exit_keeps s k) ⨾
        (λ a s k n. device_open_holds (After s) (a 0) (a 1) (a 2) s (unchanged s) (unchanged s) (unchanged s) (asks_keep s)) ⨾
        (λ a s k n. device_close_holds (After s) (a 0) s (unchanged s) (unchanged s) (asks_keep s)) ⨾
        (λ a s k n. device_read_holds (After s) (a 0) (a 1) (a 2) s (unchanged s)
        (keeps_touched on_console refl refl (read_keeps (a 1) (signed (a 2)) s (sound_holds s k)).touches)
        (awaits_keep None (a 1) (a 2) s) (asks_keep s)) ⨾
        (λ a s k n. device_write_holds (After s) (a 0) (a 1) (a 2) s (unchanged s)
        (keeps_touched on_console refl refl (write_keeps (a 1) (signed (a 2)) s (sound_holds s k)).touches)
        (awaits_keep (Some (bytes_from s.memory (a 1) RD_BLKSIZ)) (a 1) (a 2) s) (asks_keep s)) ⨾
        (λ a s k n. device_getc_holds (After s) (a 0) s (unchanged s)
        (keeps_touched on_console refl refl (getc_keeps s (sound_holds s k)).touches) (asks_keep s)) ⨾
        (λ a s k n. device_putc_holds (After s) (a 0) (a 1 % 256) s (unchanged s)
        (keeps_touched on_console refl refl (putc_keeps (a 1 % 256) s (sound_holds s k)).touches) (asks_keep s)) ⨾
        (λ a s k n. device_seek_holds (After s) (a 0) (signed (a 1)) s (unchanged s) (asks_keep s)) ⨾
        (λ a s k n. device_control_holds (After s) (a 0) (a 1) (a 2) s (unchanged s)
        (keeps_touched on_console refl refl (console_control_keeps (a 1) s (sound_holds s k)).touches)
        (control_keeps (a 1) s) (asks_keep s)) ⨾
        tt;
  }

  -- The call that `kill` is.
  called_kill : (args : List ℕ) (s : Xinu) → called 5 args s ≡ kill (slice_index args 0) s
  unfolding calls
  called_kill args s = refl

  -- So any call does, unless it is a `kill` of p.
  pub called_keeps : (number : ℕ) (args : List ℕ) (s : Xinu) → IsSound s → (number == 5) && (slice_index args 0 == p) ≡ false
      → Keeps p s (called number args s).call.state
  called_keeps number args s k e =
      cond_both (number == 5) true false (λ _. Keeps p s (called number args s).call.state)
      (λ five. let f : slice_index args 0 == p ≡ false = ap (λ b. b && (slice_index args 0 == p)) (sym five) ∙ e in
      subst (λ n. Keeps p s (called n args s).call.state) (sym (eqb-true number 5 five))
      (subst (λ (h : CallResult). Keeps p s h.call.state) (sym (called_kill args s))
      (kill_keeps (slice_index args 0) s (eqb-false (slice_index args 0) p f))))
      (λ other. law_of_few keeps_law number args s k (eqb-false number 5 other))
