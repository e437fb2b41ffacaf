-- The table of names has the name of each fault at its number.
use Rattle.std.proofs.Common.{◌≡◌, refl}
use Rattle.scene_json_forms.specs.Fault.{file_name, file_number}
use Rattle.scene_json_forms.specs.declared.fault.FileFault.{FileFault}
use Rattle.scene_json_forms.specs.declared.fault.FileFault.TheVariants as file
use Rattle.scene_kinds.specs.Fault.{fault_name, fault_number}
use Rattle.scene_kinds.specs.declared.fault.Fault.{Fault}
use Rattle.scene_kinds.specs.declared.fault.Fault.TheVariants as call
use Rattle.scene_c.specs.Names.{name_of}

pub named : (fault : Fault) → name_of (fault_number fault) ≡ fault_name fault
named call.NoSuchEntity = refl
named call.HasChildren = refl
named call.NotPresent = refl
named call.WrongShape = refl
named call.NoSuchKind = refl
named call.DuplicateKind = refl
named call.SelfParent = refl
named call.Cycle = refl
named call.NoParent = refl
named call.NoSuchResource = refl
named call.EntitiesFull = refl
named call.BadLocal = refl
named call.TickFull = refl
named (call.Overflow entity) = refl
named call.NothingToUndo = refl
named call.NothingToRedo = refl
named (call.HistoryFull length) = refl
named (call.Rewound count) = refl
named call.Busy = refl
named call.NoMemory = refl
named (call.Conflict phase first second) = refl
named (call.BadRule phase system) = refl
named call.OtherSchema = refl
named call.QueueFull = refl
named call.BadName = refl
named call.KindTaken = refl
named call.KindsFull = refl
named (call.BadWorld rule) = refl
named (call.BadRecord frame delta) = refl

pub file_named : (fault : FileFault) → name_of (file_number fault) ≡ file_name fault
file_named file.NoMemory = refl
file_named (file.BadWorld rule) = refl
file_named (file.BadRecord frame delta) = refl
file_named file.NotJson = refl
file_named (file.UnknownKey path) = refl
file_named (file.BadField path) = refl
file_named (file.BadVersion version) = refl
file_named file.ReadFault = refl
file_named file.WriteFault = refl
file_named file.TooLong = refl
