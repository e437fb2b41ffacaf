-- How the fault of a scene text prints.
use Rattle.std.specs.Prelude.{ℕ, List, [], ◌∷◌, ◌++◌, codes, decimal}
use Rattle.scene_json.specs.Texts.{json_text}
use Rattle.scene_json_forms.specs.declared.fault.FileFault.{FileFault}
use Rattle.scene_json_forms.specs.declared.fault.FileFault.TheVariants.{BadWorld, BadRecord, UnknownKey, BadField, BadVersion}
use Rattle.scene_json_forms.specs.Fault.{file_number, file_name}

-- the fields of a fault, each after a space (32): a path as a JSON string, a version, a rule, or a frame and a delta
abbrev pub file_fault_fields : FileFault → List ℕ
file_fault_fields (UnknownKey path) = 32 ∷ json_text path
file_fault_fields (BadField path) = 32 ∷ json_text path
file_fault_fields (BadVersion version) = 32 ∷ decimal version
file_fault_fields (BadWorld rule) = 32 ∷ decimal rule
file_fault_fields (BadRecord frame delta) = 32 ∷ (decimal frame ++ (32 ∷ decimal delta))
file_fault_fields fault = []

-- the line of a fault: its number and name, and then its fields
abbrev pub file_fault_text : FileFault → List ℕ
file_fault_text fault = codes "fault " ++ (decimal (file_number fault) ++ (codes " " ++ (file_name fault ++ (file_fault_fields fault ++ codes "\n"))))
