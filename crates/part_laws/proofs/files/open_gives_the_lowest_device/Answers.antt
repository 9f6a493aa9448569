use Rattle.part_laws.proofs.FileSystems.Devices.{free_is_free, lower_are_open}
use Rattle.part_laws.proofs.FileSystems.Opened.{open_leaves, device_opened}
use Rattle.part_laws.proofs.files.open_gives_the_lowest_device.Goals as goal

pub returns-clause-reply : goal.returns-clause-reply
returns-clause-reply c = λ s name bytes mode k e. (open_leaves s name mode k e).reply

pub returns-clause-opened : goal.returns-clause-opened
returns-clause-opened c = λ s name bytes mode k sound e. device_opened s name mode k sound e

pub returns-clause-free : goal.returns-clause-free
returns-clause-free c = λ s. free_is_free s.devices

pub returns-clause-lowest : goal.returns-clause-lowest
returns-clause-lowest c = λ s d h. lower_are_open s.devices d h
