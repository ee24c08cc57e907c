-- The stops that failed calls make.
use Rattle.mx_outside.specs.declared.files.ReadFailure.{ReadFailure}
use Rattle.mx_outside.specs.declared.files.ReadFailure.TheVariants as read
use Rattle.mx_outside.specs.declared.sink.WriteFailure.{WriteFailure}
use Rattle.mx_outside.specs.declared.sink.WriteFailure.TheVariants as write
use Rattle.mx_run.specs.declared.stop.Stop.{Stop}
use Rattle.mx_run.specs.declared.stop.Stop.TheVariants.{FileFault, WriteFault, NoMemory}

-- a failed read of a file
abbrev pub stop_for_file : ReadFailure → Stop
stop_for_file read.Failed = FileFault
stop_for_file read.NoMemory = NoMemory

-- a failed write
abbrev pub stop_for : WriteFailure → Stop
stop_for write.Failed = WriteFault
stop_for write.NoMemory = NoMemory
