-- The numbers and names of the faults that end a run, and which fault a failed read is.
use Rattle.std.specs.Prelude.{ℕ, List, codes}
use Rattle.scene_streams.specs.declared.app_fault.AppFault.{AppFault}
use Rattle.scene_streams.specs.declared.app_fault.AppFault.TheVariants as app
use Rattle.scene_streams.specs.declared.source.ReadError.{ReadError}
use Rattle.scene_streams.specs.declared.source.ReadError.TheVariants as read

-- the number of each fault that ends a run
abbrev pub app_number : AppFault → ℕ
app_number app.NoMemory = 20
app_number app.ReadFault = 54
app_number app.WriteFault = 55
app_number app.TooLong = 56

-- and its name
abbrev pub app_name : AppFault → List ℕ
app_name app.NoMemory = codes "NoMemory"
app_name app.ReadFault = codes "ReadFault"
app_name app.WriteFault = codes "WriteFault"
app_name app.TooLong = codes "TooLong"

-- the fault of a run whose script couldn't be read
abbrev pub of_read_error : ReadError → AppFault
of_read_error read.Fault = app.ReadFault
of_read_error read.TooLong = app.TooLong
of_read_error read.NoMemory = app.NoMemory
