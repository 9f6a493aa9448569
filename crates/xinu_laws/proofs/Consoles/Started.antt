-- When the machine starts, what holds of the devices holds: the console is empty, nobody is in a call on it, and nothing is mounted.
use Rattle.std.proofs.Common.{◌≡◌, ℕ, zero, suc, List, false, refl, sym, subst, inl, arith}
use Rattle.xinu_base.specs.declared.processes.Process.{Process}
use Rattle.xinu_model.specs.Boot.{Loaded, first_semaphores, null_tables, Boots, boot}
use Rattle.xinu_model.specs.Console.State.{first_console}
use Rattle.xinu_model.specs.Footprints.{on_deaths}
use Rattle.xinu_model.specs.Machine.{Xinu}
use Rattle.xinu_model.specs.Names.Sound.{AreSoundNames}
use Rattle.xinu_model.specs.Sound.Console.{promised, HasSpan, IsConsole}
use Rattle.xinu_model.specs.Sound.Devices.{AreDevices}
use Rattle.xinu_model.specs.Sound.Tables.{asks_input, asks_output, IsInside}
use Rattle.xinu_model.specs.Tables.{no_process, process_at}
use Rattle.xinu_laws.specs.Touches.{Reach}
use Rattle.xinu_laws.proofs.Consoles.Framed.{asks_console, is_consoles, console_framed}
use Rattle.xinu_laws.proofs.RawDisks.Started.{disks_start}
use Rattle.table_laws.proofs.Tables.Starts.{same_everywhere}
use Rattle.xinu_laws.proofs.Touches.Boot.{HasStart, touches_start}

-- nothing is promised at first but the tokens of the output
first_console_holds : IsConsole null_tables first_console
unfolding first_semaphores
first_console_holds = record {
  itself = record { input = omega arith; output = omega arith; echo = omega arith; line = inl refl };
  items = (let e : promised asks_input 0 null_tables ≡ 0 = refl in omega arith);
  room = (let e : promised asks_output 1 null_tables ≡ 64 = refl in omega arith);
  spans = first_spans;
}
  where
    first_spans : (p : ℕ) → HasSpan (process_at null_tables p).rest
    first_spans zero = tt
    first_spans (suc p) = subst (λ (x : Process). HasSpan x.rest) (sym (same_everywhere 63 p no_process)) tt

-- the start leaves the console alone
abbrev beside_console : Reach
beside_console = record { mine = is_consoles; asks = asks_console; parts = on_deaths; clock = false }

start_reached : HasStart beside_console
start_reached = record { nothing = refl; heap = refl; stacks = refl; disk = refl }

-- When the machine starts.
pub devices_start : (images : List Loaded) (start : Xinu) → boot images ≡ Boots start → IsInside start.tables
    → AreDevices start.tables start.parts.devices
devices_start images start e inside =
    let t = touches_start start_reached images start e in
    record {
      console = subst (IsConsole start.tables) (sym (t.parts.devices.console refl)) (console_framed null_tables start.tables first_console inside t.frame first_console_holds);
      disk = (disks_start images start e).raw;
      files = (disks_start images start e).files;
      names = subst AreSoundNames (sym (t.parts.devices.names refl)) (record { few = omega arith; row = tt });
    }
