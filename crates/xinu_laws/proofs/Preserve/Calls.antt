-- Each call of the table, and what is left of each that waited, keeps what holds of tables, pools and ports.
use Rattle.std.proofs.Common.{◌≡◌, ℕ, ◌%◌, Bool, true, false, not, ◌&&◌, ◌||◌, List, Option, Some, None, refl}
use Rattle.std.specs.Prelude.{slice_index}
use Rattle.std.specs.List.{AllByRecursion}
use Rattle.std.proofs.lemmas.Bool.{and_parts}
use Rattle.xinu_model.specs.Calls.{calls, called, continued}
use Rattle.xinu_model.specs.Console.Putting.{go_on_putc, go_on_write}
use Rattle.xinu_model.specs.Console.Taking.{go_on_getc, go_on_read}
use Rattle.xinu_model.specs.Footprints.{Footprint, on_tables, on_deaths, on_buffers, on_ports, on_console}
use Rattle.xinu_model.specs.Machine.{Xinu, CallResult, refused}
use Rattle.xinu_model.specs.Messages.{go_on_receive}
use Rattle.xinu_model.specs.Names.Calls.{names_of}
use Rattle.xinu_model.specs.Names.Sound.{AreSoundNames}
use Rattle.xinu_model.specs.Pools.Calls.{go_on_getbuf}
use Rattle.xinu_model.specs.Ports.Calls.{go_on_ptsend, go_on_ptrecv}
use Rattle.part_laws.specs.Preserve.{KeepsAll, MayCallAny}
use Rattle.table_laws.specs.Preserve.{IsPreserved, MayCall}
use Rattle.xinu_model.specs.Process.Death.{exit}
use Rattle.xinu_model.specs.RawDisk.Calls.{go_on_disk}
use Rattle.xinu_model.specs.Process.Calls.{go_on_suspend}
use Rattle.xinu_model.specs.Rows.{CallRow, found_in, done_by}
use Rattle.xinu_model.specs.Sound.Pools.{ArePools}
use Rattle.xinu_model.specs.Sound.Ports.{ArePorts}
use Rattle.xinu_model.specs.Tables.{process_at}
use Rattle.xinu_model.specs.Words.{signed, half}
use Rattle.xinu_laws.proofs.Consoles.Kept.{Holds, HasConsole, HasSize, KeepsConsole}
use Rattle.xinu_laws.proofs.Consoles.Put.{go_on_putc_keeps, go_on_write_keeps}
use Rattle.xinu_laws.proofs.Consoles.Taken.{go_on_getc_keeps, go_on_read_keeps}
use Rattle.xinu_laws.proofs.Devices.Kept.{Keeps, device_open_keeps, device_close_keeps, device_read_keeps, device_write_keeps, device_getc_keeps, device_putc_keeps, device_seek_keeps, device_control_keeps}
use Rattle.xinu_laws.proofs.NameSpaces.Calls.{mount_preserves, mount_keeps_names}
use Rattle.xinu_laws.proofs.Preserve.Continued.{continued_holds}
use Rattle.xinu_laws.proofs.Preserve.Memory.{getmem_preserves, freemem_preserves, getstk_preserves, freestk_preserves}
use Rattle.xinu_laws.proofs.Preserve.Messages.{send_preserves, receive_preserves, recvclr_preserves, recvtime_preserves, go_on_receive_preserves, yield_preserves, sleep_preserves, sleepms_preserves, clktime_preserves}
use Rattle.xinu_laws.proofs.Preserve.Processes.{getpid_preserves, create_preserves, resume_preserves, suspend_preserves, go_on_suspend_preserves, kill_preserves, chprio_preserves, getprio_preserves, exit_preserves}
use Rattle.xinu_laws.proofs.Preserve.Semaphores.{semcreate_preserves, semdelete_preserves, semreset_preserves, semcount_preserves, wait_preserves, signal_preserves, signaln_preserves}
use Rattle.xinu_laws.proofs.Pools.Calls.{pools_getbuf, pools_go_on_getbuf, pools_freebuf}
use Rattle.xinu_laws.proofs.Pools.Preserve.{mkbufpool_preserves, getbuf_preserves, go_on_getbuf_preserves, freebuf_preserves}
use Rattle.xinu_laws.proofs.Pools.Made.{pools_mkbufpool}
use Rattle.xinu_laws.proofs.Pools.Written.{getbuf_size, go_on_getbuf_size}
use Rattle.xinu_laws.proofs.Ports.Deletions.{PreservesAll, ptdelete_keeps, ptreset_keeps}
use Rattle.xinu_laws.proofs.Ports.Made.{PreservesPorts, ptcreate_on_ports}
use Rattle.xinu_laws.proofs.Ports.Sends.{ptsend_on_ports, ptrecv_on_ports, go_on_ptsend_on_ports, go_on_ptrecv_on_ports}
use Rattle.xinu_laws.proofs.Rows.RowByRow.{◌⨾◌}
use Rattle.xinu_laws.proofs.Rows.CallRows.{of_row}
use Rattle.xinu_laws.proofs.RawDisks.Framed.{disks_in}
use Rattle.xinu_laws.proofs.RawDisks.Moves.{HasDisks}
use Rattle.xinu_laws.proofs.RawDisks.Deaths.{kill_keeps_disk, exit_keeps_disk}
use Rattle.xinu_laws.proofs.Touches.Disks.{go_on_disk_touches, go_on_disk_preserves}
pub use Rattle.xinu_laws.proofs.Preserve.Within.{sound_where_called, inside_preserved, replies_alive}
use Rattle.xinu_laws.proofs.Preserve.Within.{keeps_within}
use Rattle.xinu_laws.proofs.Preserve.Unused.{AreUnusedAfter, exit_unused, kill_unused, create_unused}
use Rattle.xinu_laws.proofs.Touches.Messages.{go_on_receive_touches}
use Rattle.xinu_laws.proofs.Touches.Pools.{go_on_getbuf_touches}
use Rattle.xinu_laws.proofs.Touches.Ports.{go_on_ptsend_touches, go_on_ptrecv_touches}
use Rattle.xinu_laws.proofs.Touches.Processes.{exit_touches, go_on_suspend_touches}
use Rattle.xinu_laws.proofs.Touches.Table.{Stays, calls_touch}

-- what holds when a process calls
may_hold : (s : Xinu) → MayCallAny s → Holds s
may_hold s c = record { tables = c.may.tables; harts = c.may.harts }

-- What is shown of a call: it keeps what holds of tables and registers, and of the parts that its footprint names.
pub record PreservesRow (r : CallRow) : Type 0 where
  pub preserved : (a : ℕ → ℕ) (s : Xinu) → MayCallAny s → IsPreserved (r.effect a s)
  pub pools : r.touches.pools ≡ true → (a : ℕ → ℕ) (s : Xinu) → MayCallAny s
      → ArePools (r.effect a s).call.state.tables (r.effect a s).call.state.parts.pools
  pub ports : r.touches.ports ≡ true → (a : ℕ → ℕ) (s : Xinu) → MayCallAny s
      → ArePorts (r.effect a s).call.state.tables (r.effect a s).call.state.parts.ports
  pub unused : r.touches.stacks ≡ true → (a : ℕ → ℕ) (s : Xinu) → MayCallAny s → AreUnusedAfter (r.effect a s)
  pub console : r.touches.console ≡ true → (a : ℕ → ℕ) (s : Xinu) → MayCallAny s → HasConsole (r.effect a s).call.state
  pub names : r.touches.names ≡ true → (a : ℕ → ℕ) (s : Xinu) → MayCallAny s → AreSoundNames (names_of (r.effect a s).call.state)
  pub disk : r.touches.disk || r.touches.files ≡ true → (a : ℕ → ℕ) (s : Xinu) → MayCallAny s → HasDisks (r.effect a s).call.state
  pub ram : r.touches.ram ≡ true → (a : ℕ → ℕ) (s : Xinu) → MayCallAny s → HasSize (r.effect a s).call.state

-- whether a footprint names no disk, and no device
abbrev names_no_disk : Footprint → Bool
names_no_disk f = not (f.disk || f.files)

abbrev names_no_device : Footprint → Bool
names_no_device f = not f.console && (not f.names && names_no_disk f)

-- nor RAM
abbrev names_no_byte : Footprint → Bool
names_no_byte f = not f.ram && names_no_device f

-- and neither pools nor ports
abbrev names_no_part : Footprint → Bool
names_no_part f = not f.pools && (not f.ports && names_no_byte f)

-- what a footprint doesn't name it doesn't name
unnamed : (b : Bool) {P : Type 0} → not b ≡ true → b ≡ true → P
unnamed true h e = absurd (cc)
unnamed false h e = absurd (cc)

-- no device is named
no_console : (f : Footprint) {P : Type 0} → names_no_device f ≡ true → f.console ≡ true → P
no_console f e = unnamed f.console (and_parts (not f.console) (not f.names && names_no_disk f) e).0

no_names : (f : Footprint) {P : Type 0} → names_no_device f ≡ true → f.names ≡ true → P
no_names f e =
    unnamed f.names (and_parts (not f.names) (names_no_disk f) (and_parts (not f.console) (not f.names && names_no_disk f) e).1).0

no_disk : (f : Footprint) {P : Type 0} → names_no_device f ≡ true → f.disk || f.files ≡ true → P
no_disk f e =
    unnamed (f.disk || f.files)
    (and_parts (not f.names) (names_no_disk f) (and_parts (not f.console) (not f.names && names_no_disk f) e).1).1

module _ {r : CallRow} where
  -- A call that touches no pool, no port and no device, and may make processes and end them.
  of_processes : names_no_part r.touches ≡ true → ((a : ℕ → ℕ) (s : Xinu) → MayCall s → IsPreserved (r.effect a s))
      → ((a : ℕ → ℕ) (s : Xinu) → MayCallAny s → r.touches.stacks ≡ true → AreUnusedAfter (r.effect a s)) → PreservesRow r
  of_processes e preserved unused =
      let h = and_parts (not r.touches.pools) (not r.touches.ports && names_no_byte r.touches) e in
      let k = and_parts (not r.touches.ports) (names_no_byte r.touches) h.1 in
      let m = and_parts (not r.touches.ram) (names_no_device r.touches) k.1 in
      record {
        preserved = λ a s c. preserved a s c.may;
        pools = unnamed r.touches.pools h.0;
        ports = unnamed r.touches.ports k.0;
        unused = λ g a s c. unused a s c g;
        console = no_console r.touches m.1;
        names = no_names r.touches m.1;
        disk = no_disk r.touches m.1;
        ram = unnamed r.touches.ram m.0;
      }

  -- A call that touches no pool, no port, no device and no stack.
  of_tables : names_no_part r.touches && not r.touches.stacks ≡ true → ((a : ℕ → ℕ) (s : Xinu) → MayCall s → IsPreserved (r.effect a s))
      → PreservesRow r
  of_tables e preserved =
      let h = and_parts (names_no_part r.touches) (not r.touches.stacks) e in
      of_processes h.0 preserved (λ a s c g. unnamed r.touches.stacks h.1 g)

  -- A call that touches pools alone, and may write to RAM.
  of_pools : not r.touches.ports && (not r.touches.stacks && names_no_device r.touches) ≡ true
      → ((a : ℕ → ℕ) (s : Xinu) → MayCallAny s → IsPreserved (r.effect a s))
      → ((a : ℕ → ℕ) (s : Xinu) → MayCallAny s → ArePools (r.effect a s).call.state.tables (r.effect a s).call.state.parts.pools)
      → ((a : ℕ → ℕ) (s : Xinu) → MayCallAny s → r.touches.ram ≡ true → HasSize (r.effect a s).call.state)
      → PreservesRow r
  of_pools e preserved pools ram =
      let h = and_parts (not r.touches.ports) (not r.touches.stacks && names_no_device r.touches) e in
      let k = and_parts (not r.touches.stacks) (names_no_device r.touches) h.1 in
      record {
        preserved = preserved;
        pools = λ _. pools;
        ports = unnamed r.touches.ports h.0;
        unused = unnamed r.touches.stacks k.0;
        console = no_console r.touches k.1;
        names = no_names r.touches k.1;
        disk = no_disk r.touches k.1;
        ram = λ g a s c. ram a s c g;
      }

  -- A call that touches ports alone.
  of_ports : not r.touches.pools && (not r.touches.stacks && names_no_byte r.touches) ≡ true
      → ((a : ℕ → ℕ) (s : Xinu) → MayCallAny s → PreservesPorts (r.effect a s)) → PreservesRow r
  of_ports e k =
      let h = and_parts (not r.touches.pools) (not r.touches.stacks && names_no_byte r.touches) e in
      let l = and_parts (not r.touches.stacks) (names_no_byte r.touches) h.1 in
      let m = and_parts (not r.touches.ram) (names_no_device r.touches) l.1 in
      record {
        preserved = λ a s c. (k a s c).preserved;
        pools = unnamed r.touches.pools h.0;
        ports = λ _ a s c. (k a s c).ports;
        unused = unnamed r.touches.stacks l.0;
        console = no_console r.touches m.1;
        names = no_names r.touches m.1;
        disk = no_disk r.touches m.1;
        ram = unnamed r.touches.ram m.0;
      }

  -- A call that touches both.
  of_all : not r.touches.stacks && names_no_byte r.touches ≡ true → ((a : ℕ → ℕ) (s : Xinu) → MayCallAny s → PreservesAll (r.effect a s))
      → PreservesRow r
  of_all e k =
      let h = and_parts (not r.touches.stacks) (names_no_byte r.touches) e in
      let m = and_parts (not r.touches.ram) (names_no_device r.touches) h.1 in
      record {
        preserved = λ a s c. (k a s c).preserved;
        pools = λ e a s c. (k a s c).pools;
        ports = λ e a s c. (k a s c).ports;
        unused = unnamed r.touches.stacks h.0;
        console = no_console r.touches m.1;
        names = no_names r.touches m.1;
        disk = no_disk r.touches m.1;
        ram = unnamed r.touches.ram m.0;
      }

  -- A death.
  of_deaths : not r.touches.pools && (not r.touches.ports && (not r.touches.console && (not r.touches.names && not r.touches.ram))) ≡ true
      → ((a : ℕ → ℕ) (s : Xinu) → MayCall s → IsPreserved (r.effect a s))
      → ((a : ℕ → ℕ) (s : Xinu) → MayCallAny s → AreUnusedAfter (r.effect a s))
      → ((a : ℕ → ℕ) (s : Xinu) → MayCall s → HasDisks s → HasDisks (r.effect a s).call.state) → PreservesRow r
  of_deaths e preserved unused disk =
      let h = and_parts (not r.touches.pools) (not r.touches.ports && (not r.touches.console && (not r.touches.names && not r.touches.ram))) e in
      let l = and_parts (not r.touches.ports) (not r.touches.console && (not r.touches.names && not r.touches.ram)) h.1 in
      let m = and_parts (not r.touches.console) (not r.touches.names && not r.touches.ram) l.1 in
      let n = and_parts (not r.touches.names) (not r.touches.ram) m.1 in
      record {
        preserved = λ a s c. preserved a s c.may;
        pools = unnamed r.touches.pools h.0;
        ports = unnamed r.touches.ports l.0;
        unused = λ _ a s c. unused a s c;
        console = unnamed r.touches.console m.0;
        names = unnamed r.touches.names n.0;
        disk = λ _ a s c. disk a s c.may (disks_in c.devices);
        ram = unnamed r.touches.ram n.1;
      }

  -- A call on a device, which touches the console, the raw disk, files and RAM at most.
  of_device : not r.touches.pools && (not r.touches.ports && (not r.touches.stacks && not r.touches.names)) ≡ true
      → ((a : ℕ → ℕ) → Keeps (r.effect a)) → PreservesRow r
  of_device e k =
      let h = and_parts (not r.touches.pools) (not r.touches.ports && (not r.touches.stacks && not r.touches.names)) e in
      let l = and_parts (not r.touches.ports) (not r.touches.stacks && not r.touches.names) h.1 in
      let m = and_parts (not r.touches.stacks) (not r.touches.names) l.1 in
      record {
        preserved = λ a s c. (k a s (may_hold s c)).preserved (disks_in c.devices) c.may.not_null;
        pools = unnamed r.touches.pools h.0;
        ports = unnamed r.touches.ports l.0;
        unused = unnamed r.touches.stacks m.0;
        console = λ _ a s c. let b = k a s (may_hold s c) in b.console (inside_preserved (r.effect a s) (b.preserved (disks_in c.devices) c.may.not_null)) c.devices.console;
        names = unnamed r.touches.names m.1;
        disk = λ _ a s c. let b = k a s (may_hold s c) in
            b.disks c.may.tables.inside (inside_preserved (r.effect a s) (b.preserved (disks_in c.devices) c.may.not_null)) (disks_in c.devices);
        ram = λ _ a s c. (k a s (may_hold s c)).ram c.devices.console c.ram.bytes;
      }

  -- A call that touches the mounted prefixes alone.
  of_names : not r.touches.pools && (not r.touches.ports && (not r.touches.stacks && (not r.touches.console && (not r.touches.ram && names_no_disk r.touches)))) ≡ true
      → ((a : ℕ → ℕ) (s : Xinu) → MayCall s → IsPreserved (r.effect a s))
      → ((a : ℕ → ℕ) (s : Xinu) → AreSoundNames (names_of s) → AreSoundNames (names_of (r.effect a s).call.state)) → PreservesRow r
  of_names e preserved names =
      let h = and_parts (not r.touches.pools) (not r.touches.ports && (not r.touches.stacks && (not r.touches.console && (not r.touches.ram && names_no_disk r.touches)))) e in
      let l = and_parts (not r.touches.ports) (not r.touches.stacks && (not r.touches.console && (not r.touches.ram && names_no_disk r.touches))) h.1 in
      let m = and_parts (not r.touches.stacks) (not r.touches.console && (not r.touches.ram && names_no_disk r.touches)) l.1 in
      let n = and_parts (not r.touches.console) (not r.touches.ram && names_no_disk r.touches) m.1 in
      let o = and_parts (not r.touches.ram) (names_no_disk r.touches) n.1 in
      record {
        preserved = λ a s c. preserved a s c.may;
        pools = unnamed r.touches.pools h.0;
        ports = unnamed r.touches.ports l.0;
        unused = unnamed r.touches.stacks m.0;
        console = unnamed r.touches.console n.0;
        names = λ _ a s c. names a s c.devices.names;
        disk = unnamed (r.touches.disk || r.touches.files) o.1;
        ram = unnamed r.touches.ram o.0;
      }

-- Each call of the table.
pub calls_preserve : AllByRecursion PreservesRow calls
unfolding calls
calls_preserve =
    of_tables refl (λ a. getpid_preserves) ⨾
    of_processes refl (λ a. create_preserves (a 0) (a 1) (half (a 2)) (a 3) (a 4) (a 5)) (λ a s c _. create_unused (a 0) (a 1) (half (a 2)) (a 3) (a 4) (a 5) s c) ⨾
    of_tables refl (λ a. resume_preserves (a 0)) ⨾
    of_tables refl (λ a. suspend_preserves (a 0)) ⨾
    of_deaths refl (λ a. kill_preserves (a 0)) (λ a s c. kill_unused (a 0) s c) (λ a. kill_keeps_disk (a 0)) ⨾
    of_tables refl (λ a. yield_preserves) ⨾
    of_tables refl (λ a. chprio_preserves (a 0) (half (a 1))) ⨾
    of_tables refl (λ a. getprio_preserves (a 0)) ⨾
    of_deaths refl (λ a. exit_preserves) (λ a s c. exit_unused s c) (λ a. exit_keeps_disk) ⨾
    of_tables refl (λ a. getmem_preserves (a 0)) ⨾
    of_tables refl (λ a. freemem_preserves (a 0) (a 1)) ⨾
    of_tables refl (λ a. getstk_preserves (a 0)) ⨾
    of_tables refl (λ a. freestk_preserves (a 0) (a 1)) ⨾
    of_tables refl (λ a. semcreate_preserves (signed (a 0))) ⨾
    of_tables refl (λ a. semdelete_preserves (a 0)) ⨾
    of_tables refl (λ a. semreset_preserves (a 0) (signed (a 1))) ⨾
    of_tables refl (λ a. semcount_preserves (a 0)) ⨾
    of_tables refl (λ a. wait_preserves (a 0)) ⨾
    of_tables refl (λ a. signal_preserves (a 0)) ⨾
    of_tables refl (λ a. signaln_preserves (a 0) (signed (a 1))) ⨾
    of_tables refl (λ a. send_preserves (a 0) (a 1)) ⨾
    of_tables refl (λ a. receive_preserves) ⨾
    of_tables refl (λ a. recvclr_preserves) ⨾
    of_tables refl (λ a. recvtime_preserves (signed (a 0))) ⨾
    of_tables refl (λ a. sleep_preserves (signed (a 0))) ⨾
    of_tables refl (λ a. sleepms_preserves (signed (a 0))) ⨾
    of_tables refl (λ a. clktime_preserves) ⨾
    of_pools refl (λ a s c. mkbufpool_preserves (a 0) (a 1) s c.may) (λ a s c. pools_mkbufpool (a 0) (a 1) s c.ram c.may.tables.inside c.pools) (λ a s c g. absurd (cc)) ⨾
    of_pools refl (λ a s c. getbuf_preserves (a 0) s c.may c.pools) (λ a s c. pools_getbuf (a 0) s c.may.tables c.pools) (λ a s c _. getbuf_size (a 0) s c.pools c.ram.bytes) ⨾
    of_pools refl (λ a s c. freebuf_preserves (a 0) s c.may c.pools) (λ a s c. pools_freebuf (a 0) s c.may.tables.inside c.pools) (λ a s c g. absurd (cc)) ⨾
    of_ports refl (λ a s c. ptcreate_on_ports (signed (a 0)) s c.may c.ports) ⨾
    of_all refl (λ a s c. ptdelete_keeps (a 0) (a 1) s c.may c.pools c.ports) ⨾
    of_all refl (λ a s c. ptreset_keeps (a 0) (a 1) s c.may c.pools c.ports) ⨾
    of_ports refl (λ a s c. ptsend_on_ports (a 0) (a 1) s c.may c.ports) ⨾
    of_ports refl (λ a s c. ptrecv_on_ports (a 0) s c.may c.ports) ⨾
    of_device refl (λ a. device_open_keeps (a 0) (a 1) (a 2)) ⨾
    of_device refl (λ a. device_close_keeps (a 0)) ⨾
    of_device refl (λ a. device_read_keeps (a 0) (a 1) (a 2)) ⨾
    of_device refl (λ a. device_write_keeps (a 0) (a 1) (a 2)) ⨾
    of_device refl (λ a. device_getc_keeps (a 0)) ⨾
    of_device refl (λ a. device_putc_keeps (a 0) (a 1 % 256)) ⨾
    of_device refl (λ a. device_seek_keeps (a 0) (signed (a 1))) ⨾
    of_device refl (λ a. device_control_keeps (a 0) (a 1) (a 2)) ⨾
    of_names refl (λ a. mount_preserves (a 0) (a 1) (a 2)) (λ a. mount_keeps_names (a 0) (a 1) (a 2)) ⨾
    tt

-- So each call keeps what holds of tables, pools and ports: the row of a number,
pub row_keeps : (number : ℕ) (r : CallRow) → found_in calls number ≡ Some r → (a : ℕ → ℕ) (s : Xinu) → MayCallAny s
    → KeepsAll (r.effect a s)
row_keeps number r e a s c =
    let t = of_row Stays calls calls_touch number r e in
    let k = of_row PreservesRow calls calls_preserve number r e in
    keeps_within r.touches s (r.effect a s) c (t a s (sound_where_called s c)) (k.preserved a s c) (λ h. k.pools h a s c) (λ h. k.ports h a s c) (λ h. k.unused h a s c) (λ h. k.console h a s c) (λ h. k.names h a s c) (λ h. k.disk h a s c) (λ h. k.ram h a s c)

-- a refusal,
pub refused_keeps_all : (s : Xinu) → MayCallAny s → KeepsAll (refused s)
refused_keeps_all s c = record { preserved = record { tables = c.may.tables; harts = c.may.harts; released = tt }; unused = c.unused; pools = c.pools; ports = c.ports; devices = c.devices; ram = c.ram }

-- the call of any number,
pub called_keeps : (number : ℕ) (args : List ℕ) (s : Xinu) → MayCallAny s → KeepsAll (called number args s)
called_keeps number args s c = by_row (found_in calls number) refl
  where
    by_row : (found : Option CallRow) → found_in calls number ≡ found → KeepsAll (done_by found args s)
    by_row None e = refused_keeps_all s c
    by_row (Some r) e = row_keeps number r e (slice_index args) s c

-- the death of the caller,
pub exit_keeps : (s : Xinu) → MayCallAny s → KeepsAll (exit s)
exit_keeps s c =
    keeps_within on_deaths s (exit s) c (exit_touches s (sound_where_called s c)) (exit_preserves s c.may) (λ e. absurd (cc))
    (λ e. absurd (cc)) (λ _. exit_unused s c) (λ e. absurd (cc)) (λ e. absurd (cc)) (λ _. exit_keeps_disk s c.may (disks_in c.devices)) (λ e. absurd (cc))

-- what is left of a call on the console,
console_continues : (s : Xinu) (h : CallResult) {Left : Type 0} → MayCallAny s → Left → KeepsConsole (Left × HasConsole s) s h → KeepsAll h
console_continues s h c left k =
    keeps_within on_console s h c k.touches (k.preserved c.may.not_null) (λ e. absurd (cc)) (λ e. absurd (cc)) (λ e. absurd (cc)) (λ _. k.console (left, c.devices.console)) (λ e. absurd (cc)) (λ e. absurd (cc))
    (λ _. k.ram (left, c.devices.console) c.ram.bytes)

-- and what is left of any call that waited.
pub continued_keeps : (s : Xinu) → MayCallAny s → KeepsAll (continued (process_at s.tables s.tables.current).rest s)
continued_keeps s c =
    let k = sound_where_called s c in
    let m = may_hold s c in
    continued_holds KeepsAll (process_at s.tables s.tables.current).rest s
    (keeps_within on_tables s (go_on_receive s) c (go_on_receive_touches s k) (go_on_receive_preserves s c.may) (λ e. absurd (cc)) (λ e. absurd (cc)) (λ e. absurd (cc)) (λ e. absurd (cc)) (λ e. absurd (cc)) (λ e. absurd (cc)) (λ e. absurd (cc)))
    (keeps_within on_tables s (go_on_suspend s) c (go_on_suspend_touches s k) (go_on_suspend_preserves s c.may) (λ e. absurd (cc)) (λ e. absurd (cc)) (λ e. absurd (cc)) (λ e. absurd (cc)) (λ e. absurd (cc)) (λ e. absurd (cc)) (λ e. absurd (cc)))
    (λ i e. keeps_within on_buffers s (go_on_getbuf i s) c (go_on_getbuf_touches i s k) (go_on_getbuf_preserves i s c.may) (λ _. pools_go_on_getbuf i s c.may.tables c.pools e) (λ g. absurd (cc)) (λ g. absurd (cc)) (λ g. absurd (cc)) (λ g. absurd (cc)) (λ g. absurd (cc)) (λ _. go_on_getbuf_size i s c.pools e c.ram.bytes))
    (λ ticket message e. let p = go_on_ptsend_on_ports ticket message s c.may c.ports e in
    keeps_within on_ports s (go_on_ptsend ticket message s) c (go_on_ptsend_touches ticket message s k) p.preserved (λ g. absurd (cc)) (λ _. p.ports) (λ g. absurd (cc)) (λ g. absurd (cc)) (λ g. absurd (cc)) (λ g. absurd (cc)) (λ g. absurd (cc)))
    (λ ticket e. let p = go_on_ptrecv_on_ports ticket s c.may c.ports e in
    keeps_within on_ports s (go_on_ptrecv ticket s) c (go_on_ptrecv_touches ticket s k) p.preserved (λ g. absurd (cc)) (λ _. p.ports) (λ g. absurd (cc)) (λ g. absurd (cc)) (λ g. absurd (cc)) (λ g. absurd (cc)) (λ g. absurd (cc)))
    (λ e. console_continues s (go_on_getc s) c e (go_on_getc_keeps s m))
    (λ part e. console_continues s (go_on_read part s) c e (go_on_read_keeps part s m))
    (λ b returned e. console_continues s (go_on_putc b returned s) c e (go_on_putc_keeps b returned s m))
    (λ part returned e. console_continues s (go_on_write part returned s) c e (go_on_write_keeps part returned s m))
    (λ reply e. keeps_within on_tables s (go_on_disk reply s) c (go_on_disk_touches reply s k) (go_on_disk_preserves reply s c.may)
    (λ g. absurd (cc)) (λ g. absurd (cc)) (λ g. absurd (cc)) (λ g. absurd (cc)) (λ g. absurd (cc)) (λ g. absurd (cc)) (λ g. absurd (cc)))
    (record { preserved = record { tables = c.may.tables; harts = c.may.harts; released = tt }; unused = c.unused; pools = c.pools; ports = c.ports; devices = c.devices; ram = c.ram })
