-- What holds of the devices, inside an event and between two.
use Rattle.xinu_model.specs.Devices.State.{Devices}
use Rattle.xinu_model.specs.Names.Sound.{AreSoundNames}
use Rattle.xinu_model.specs.Sound.Console.{IsConsole}
use Rattle.xinu_model.specs.Sound.Disks.{IsRawDisk, IsFileDisk}
use Rattle.xinu_model.specs.Tables.{Tables}

-- The console, the raw disk and files fit those who wait for them, and the mounted prefixes are sound.
pub record AreDevices (t : Tables) (d : Devices) : Type 0 where
  pub console : IsConsole t d.console
  pub names : AreSoundNames d.names
  pub disk : IsRawDisk t d.disk
  pub files : IsFileDisk t d.files
