-- The numbers and names of file faults (docs/SCENE_FILES.md, "File faults").
use Rattle.std.specs.Prelude.{ℕ, List, codes}
use Rattle.scene_streams.specs.declared.source.ReadError.{ReadError}
use Rattle.scene_streams.specs.declared.source.ReadError.TheVariants as read
use Rattle.scene_json_forms.specs.declared.fault.FileFault.{FileFault}
use Rattle.scene_json_forms.specs.declared.fault.FileFault.TheVariants as file

-- the number of a fault, one for the whole product
abbrev pub file_number : FileFault → ℕ
file_number file.NoMemory = 20
file_number (file.BadWorld rule) = 40
file_number (file.BadRecord frame delta) = 41
file_number file.NotJson = 50
file_number (file.UnknownKey path) = 51
file_number (file.BadField path) = 52
file_number (file.BadVersion version) = 53
file_number file.ReadFault = 54
file_number file.WriteFault = 55
file_number file.TooLong = 56

-- its name, which is that of the variant
abbrev pub file_name : FileFault → List ℕ
file_name file.NoMemory = codes "NoMemory"
file_name (file.BadWorld rule) = codes "BadWorld"
file_name (file.BadRecord frame delta) = codes "BadRecord"
file_name file.NotJson = codes "NotJson"
file_name (file.UnknownKey path) = codes "UnknownKey"
file_name (file.BadField path) = codes "BadField"
file_name (file.BadVersion version) = codes "BadVersion"
file_name file.ReadFault = codes "ReadFault"
file_name file.WriteFault = codes "WriteFault"
file_name file.TooLong = codes "TooLong"

-- the fault of a reader that wasn't read to its end
abbrev pub of_read_error : ReadError → FileFault
of_read_error read.Fault = file.ReadFault
of_read_error read.TooLong = file.TooLong
of_read_error read.NoMemory = file.NoMemory
