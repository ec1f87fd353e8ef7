-- A device over a file, as contracts see it.
use Rattle.worm_device.specs.State.{DeviceState}
use Rattle.host_files.specs.Device.{device_over}
use Rattle.host_files.specs.File.{FileState}
use Rattle.host_files.specs.declared.file_device.FileDevice.{FileDevice}
use Rattle.host_files.specs.declared.host_file.HostFile as host

module _ {F : Type 0} {g : host.Ghosts F} where
  -- the file below
  abbrev pub file_below : FileDevice F g → FileState
  file_below device = g.state device.file

  -- what it is as a device
  abbrev pub state_over : FileDevice F g → DeviceState
  state_over device = device_over device.cells device.reads (file_below device)
