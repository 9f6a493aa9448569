-- What a step keeps of the parts that its footprint doesn't name.
use Rattle.std.proofs.Common.{◌≡◌, ◌+◌, ◌*◌, ◌≤◌, Bool, ℕ, zero, suc, List, length, arith, true, false, not, ◌&&◌, Option, Some, None, refl, sym, ap, subst, ◌∙◌}
use Rattle.std.proofs.lemmas.Bool.{false≢true, and_from, and_parts}
use Rattle.xinu_base.specs.declared.processes.Rest.{Rest}
use Rattle.xinu_base.specs.declared.processes.Rest.TheVariants.{Nothing, Receive, Timed, SelfSuspend, GetBuf, PtSend, PtRecv, TtyGet, TtyPut, TtyRead, TtyWrite, Disk}
use Rattle.xinu_base.specs.declared.semaphores.Owner.{Owner}
use Rattle.xinu_base.specs.declared.semaphores.Owner.TheVariants as owner
use Rattle.xinu_model.specs.Footprints.{Footprint}
use Rattle.part_laws.specs.FreeCells.{HasSameExtent}
use Rattle.xinu_model.specs.Heap.Cells.{Heap}
use Rattle.xinu_model.specs.Machine.{Xinu}
use Rattle.xinu_model.specs.Memory.{ram_size}
use Rattle.xinu_model.specs.Sound.Tables.{IsInside}
use Rattle.xinu_model.specs.Sound.Pools.{ArePools}
use Rattle.xinu_model.specs.Names.Sound.{AreSoundNames}
use Rattle.xinu_model.specs.Sound.Ports.{ArePorts}
use Rattle.xinu_model.specs.Sound.Console.{IsConsole}
use Rattle.xinu_model.specs.Sound.Disks.{IsRawDisk, IsFileDisk}
use Rattle.xinu_model.specs.Sound.State.{AreUnused, IsWhole}
use Rattle.xinu_laws.specs.Touches.{Reach, reach, spares, spares_device, spares_rest, KeepsFree, KeepsPlaces, Touches}
use Rattle.table_laws.proofs.Frame.{frame_weaker, still_weaker}
use Rattle.xinu_laws.proofs.Consoles.Framed.{is_consoles, asks_console, console_framed}
use Rattle.xinu_laws.proofs.RawDisks.Framed.{AreDisks, is_disks, asks_disk, disks_framed}
use Rattle.xinu_laws.proofs.Pools.Frame.{is_pools, asks_buffer, are_pools_framed}
use Rattle.xinu_laws.proofs.Ports.Kept.{is_ports, asks_port, ports_framed}

module _ (f : Footprint) where
  -- pools are left alone
  pools_spared : f.pools ≡ false → (sem : ℕ) (o : Option Owner) → is_pools sem o ≡ true → spares f sem o ≡ true
  pools_spared e sem (Some (owner.Pool i)) h = ap not e
  pools_spared e sem _ h = absurd (false≢true h)

  buffers_spared : f.pools ≡ false → (left : Rest) → asks_buffer left ≡ true → spares_rest f left ≡ true
  buffers_spared e (GetBuf i) h = ap not e
  buffers_spared e _ h = absurd (false≢true h)

  -- and ports
  ports_spared : f.ports ≡ false → (sem : ℕ) (o : Option Owner) → is_ports sem o ≡ true → spares f sem o ≡ true
  ports_spared e sem (Some (owner.Port q)) h = ap not e
  ports_spared e sem _ h = absurd (false≢true h)

  messages_spared : f.ports ≡ false → (left : Rest) → asks_port left ≡ true → spares_rest f left ≡ true
  messages_spared e (PtSend ticket message) h = ap not e
  messages_spared e (PtRecv ticket) h = ap not e
  messages_spared e _ h = absurd (false≢true h)

  -- and the console
  console_spared : f.console ≡ false → (sem : ℕ) (o : Option Owner) → is_consoles sem o ≡ true → spares f sem o ≡ true
  console_spared e zero (Some owner.Device) h = ap not e
  console_spared e (suc zero) (Some owner.Device) h = ap not e
  console_spared e (suc (suc sem)) (Some owner.Device) h = absurd (false≢true h)
  console_spared e sem _ h = absurd (false≢true h)

  console_calls_spared : f.console ≡ false → (left : Rest) → asks_console left ≡ true → spares_rest f left ≡ true
  console_calls_spared e TtyGet h = ap not e
  console_calls_spared e (TtyRead part) h = ap not e
  console_calls_spared e (TtyPut b returned) h = ap not e
  console_calls_spared e (TtyWrite part returned) h = ap not e
  console_calls_spared e _ h = absurd (false≢true h)

  -- and the disks
  disks_spared : f.disk ≡ false → f.files ≡ false → (sem : ℕ) (o : Option Owner) → is_disks sem o ≡ true → spares f sem o ≡ true
  disks_spared e files zero (Some owner.Device) h = absurd (false≢true h)
  disks_spared e files (suc zero) (Some owner.Device) h = absurd (false≢true h)
  disks_spared e files (suc (suc zero)) (Some owner.Device) h = ap not e
  disks_spared e files (suc (suc (suc sem))) (Some owner.Device) h = ap not files
  disks_spared e files sem _ h = absurd (false≢true h)

  disk_calls_spared : f.disk ≡ false → f.files ≡ false → (left : Rest) → asks_disk left ≡ true → spares_rest f left ≡ true
  disk_calls_spared e files (Disk reply) h = ap (λ b. not b && not f.files) e ∙ ap not files
  disk_calls_spared e files _ h = absurd (false≢true h)

module _ {f : Footprint} {s u : Xinu} where
  -- A step that may not change pools keeps what holds of them.
  pub keeps_pools : {clock : Bool} → f.pools ≡ false → Touches (record (reach f) { clock = clock }) s u → ArePools s.tables s.parts.pools
      → ArePools u.tables u.parts.pools
  keeps_pools e t k = subst (ArePools u.tables) (sym (t.parts.pools e))
      (are_pools_framed s.tables u.tables s.parts.pools (frame_weaker s.tables u.tables (pools_spared f e) (buffers_spared f e) t.frame) k)

  -- A step that may not change ports keeps what holds of them, if it keeps what holds of the tables.
  pub keeps_ports : {clock : Bool} → f.ports ≡ false → Touches (record (reach f) { clock = clock }) s u → IsInside u.tables
      → ArePorts s.tables s.parts.ports → ArePorts u.tables u.parts.ports
  keeps_ports e t o k = subst (ArePorts u.tables) (sym (t.parts.ports e).0)
      (ports_framed s.tables u.tables s.parts.ports o (frame_weaker s.tables u.tables (ports_spared f e) (messages_spared f e) t.frame) k)

  -- A step that may not change the console keeps what holds of it, if it keeps what holds of the tables.
  pub keeps_console : {clock : Bool} → f.console ≡ false → Touches (record (reach f) { clock = clock }) s u → IsInside u.tables
      → IsConsole s.tables s.parts.devices.console → IsConsole u.tables u.parts.devices.console
  keeps_console e t o k = subst (IsConsole u.tables) (sym (t.parts.devices.console e))
      (console_framed s.tables u.tables s.parts.devices.console o
      (frame_weaker s.tables u.tables (console_spared f e) (console_calls_spared f e) t.frame) k)

  -- A step that may not change the disks keeps what holds of them, if it keeps what holds of the tables.
  pub keeps_disks : {clock : Bool} → f.disk ≡ false → f.files ≡ false → Touches (record (reach f) { clock = clock }) s u → IsInside s.tables
      → IsInside u.tables → AreDisks s.tables s.parts.devices → AreDisks u.tables u.parts.devices
  keeps_disks e files t was o k =
      let same = disks_framed s.tables u.tables s.parts.devices was o
      (frame_weaker s.tables u.tables (disks_spared f e files) (disk_calls_spared f e files) t.frame)
      (still_weaker s.tables u.tables (disk_calls_spared f e files) t.frame (t.stay e)) k in
      record {
        raw = subst (IsRawDisk u.tables) (sym (t.parts.devices.disk e)) same.raw;
        files = subst (IsFileDisk u.tables) (sym (t.parts.devices.files files)) same.files;
      }

  -- A step that may not change the mounted prefixes keeps what holds of them.
  pub keeps_names : {clock : Bool} → f.names ≡ false → Touches (record (reach f) { clock = clock }) s u
      → AreSoundNames s.parts.devices.names → AreSoundNames u.parts.devices.names
  keeps_names e t k = subst AreSoundNames (sym (t.parts.devices.names e)) k

-- If nobody dies free numbers keep their registers.
pub keeps_unused : {s u : Xinu} → KeepsFree s u → AreUnused s.tables s.harts → AreUnused u.tables u.harts
keeps_unused k a p h = k.harts p h ∙ a p (k.was p h)

-- A step that may change neither the heap nor stacks nor where pools lie keeps the places of all.
pub keeps_places : {f : Reach} {s u : Xinu} → Touches f s u → f.parts.heap ≡ false → f.parts.stacks ≡ false → f.parts.ranges ≡ false
    → KeepsPlaces s u
keeps_places t h k r = record { heap = t.parts.heap h; ranges = t.parts.ranges r; stacks = t.stacks k }

-- A heap that lies in RAM still does if it keeps its extent,
pub keeps_heap : {h u : Heap} → HasSameExtent h u → h.low + 8 * length h.cells ≤ ram_size → u.low + 8 * length u.cells ≤ ram_size
keeps_heap e within = let low = e.low in let many = e.many in omega (arith, low, many, within)

-- and RAM stays whole in a step that may not change it.
pub keeps_whole : {f : Reach} {s u : Xinu} → Touches f s u → f.parts.ram ≡ false → IsWhole s.memory s.parts.heap
    → IsWhole u.memory u.parts.heap
keeps_whole t e k =
    record { bytes = ap (λ (l : List ℕ). length l) (t.ram e) ∙ k.bytes; heap = keeps_heap t.parts.extent k.heap }

-- What a footprint names a wider one names.
pub record Below (f g : Footprint) : Type 0 where
  pub heap : g.heap ≡ false → f.heap ≡ false
  pub stacks : g.stacks ≡ false → f.stacks ≡ false
  pub ranges : g.ranges ≡ false → f.ranges ≡ false
  pub pools : g.pools ≡ false → f.pools ≡ false
  pub ports : g.ports ≡ false → f.ports ≡ false
  pub console : g.console ≡ false → f.console ≡ false
  pub names : g.names ≡ false → f.names ≡ false
  pub disk : g.disk ≡ false → f.disk ≡ false
  pub files : g.files ≡ false → f.files ≡ false
  pub ram : g.ram ≡ false → f.ram ≡ false

-- what isn't named isn't named
spared_below : (b c : Bool) → (b ≡ false → c ≡ false) → not b ≡ true → not c ≡ true
spared_below true c f h = cc
spared_below false c f h = ap not (f refl)

module _ {f g : Footprint} (w : Below f g) where
  below_device : (sem : ℕ) → spares_device g sem ≡ true → spares_device f sem ≡ true
  below_device zero h = spared_below g.console f.console w.console h
  below_device (suc zero) h = spared_below g.console f.console w.console h
  below_device (suc (suc zero)) h = spared_below g.disk f.disk w.disk h
  below_device (suc (suc (suc sem))) h = spared_below g.files f.files w.files h

  below_owner : (sem : ℕ) (o : Option Owner) → spares g sem o ≡ true → spares f sem o ≡ true
  below_owner sem (Some (owner.Pool i)) h = spared_below g.pools f.pools w.pools h
  below_owner sem (Some (owner.Port q)) h = spared_below g.ports f.ports w.ports h
  below_owner sem (Some owner.Device) h = below_device sem h
  below_owner sem (Some owner.Image) h = h
  below_owner sem None h = h

  below_rest : (left : Rest) → spares_rest g left ≡ true → spares_rest f left ≡ true
  below_rest (GetBuf i) h = spared_below g.pools f.pools w.pools h
  below_rest (PtSend ticket message) h = spared_below g.ports f.ports w.ports h
  below_rest (PtRecv ticket) h = spared_below g.ports f.ports w.ports h
  below_rest TtyGet h = spared_below g.console f.console w.console h
  below_rest (TtyRead part) h = spared_below g.console f.console w.console h
  below_rest (TtyPut b returned) h = spared_below g.console f.console w.console h
  below_rest (TtyWrite part returned) h = spared_below g.console f.console w.console h
  below_rest (Disk reply) h =
      let parts = and_parts (not g.disk) (not g.files) h in
      and_from (not f.disk) (not f.files) (spared_below g.disk f.disk w.disk parts.0) (spared_below g.files f.files w.files parts.1)
  below_rest Nothing h = h
  below_rest Receive h = h
  below_rest Timed h = h
  below_rest SelfSuspend h = h

  -- What stays within a footprint stays within a wider one.
  pub touches_below : {s u : Xinu} → Touches (reach f) s u → Touches (reach g) s u
  touches_below {s} {u} t = record {
    frame = frame_weaker s.tables u.tables below_owner below_rest t.frame;
    stacks = λ e. t.stacks (w.stacks e);
    parts = record {
      extent = t.parts.extent;
      heap = λ e. t.parts.heap (w.heap e);
      pools = λ e. t.parts.pools (w.pools e);
      ranges = λ e. t.parts.ranges (w.ranges e);
      ports = λ e. t.parts.ports (w.ports e);
      devices = record {
        console = λ e. t.parts.devices.console (w.console e);
        names = λ e. t.parts.devices.names (w.names e);
        disk = λ e. t.parts.devices.disk (w.disk e);
        files = λ e. t.parts.devices.files (w.files e);
      };
    };
    free = λ e. t.free (w.stacks e);
    clock = t.clock;
    stay = λ e. still_weaker s.tables u.tables below_rest t.frame (t.stay (w.disk e));
    ram = λ e. t.ram (w.ram e);
  }
