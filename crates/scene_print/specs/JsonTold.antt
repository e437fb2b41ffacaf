-- The JSON of refusals and of the faults of scene texts (docs/SHELL.md, "JSON").
use Rattle.std.specs.Prelude.{ℕ, List, [], ◌∷◌, ◌++◌, Option, Some, None, codes}
use Rattle.serde_json.specs.Data.{Data, string}
use Rattle.scene_kinds.specs.declared.fault.Fault.{Fault}
use Rattle.scene_kinds.specs.declared.fault.Fault.TheVariants.{Overflow, HistoryFull, Rewound, Conflict, BadRule, BadWorld, BadRecord}
use Rattle.scene_kinds.specs.declared.refusal.Place.{Place}
use Rattle.scene_kinds.specs.declared.refusal.Refusal.{Refusal}
use Rattle.scene_kinds.specs.Fault.{fault_number, fault_name}
use Rattle.scene_json_forms.specs.declared.fault.FileFault.{FileFault}
use Rattle.scene_json_forms.specs.declared.fault.FileFault.TheVariants as file
use Rattle.scene_json_forms.specs.Fault.{file_number, file_name}
use Rattle.scene_json_forms.specs.Text.{object_of, count_text, entity_json}
use Rattle.scene_print.specs.JsonObjects.{answer_of}

-- the number and the name of a fault
abbrev pub named_members : ℕ → List ℕ → List (List ℕ × Data)
named_members number name = (codes "number", count_text number) ∷ (codes "name", string name) ∷ []

-- the fields of a fault
abbrev pub fault_members : Fault → List (List ℕ × Data)
fault_members (Overflow e) = (codes "entity", entity_json e) ∷ []
fault_members (HistoryFull n) = (codes "length", count_text n) ∷ []
fault_members (Rewound n) = (codes "rewinds", count_text n) ∷ []
fault_members (Conflict phase first second) =
    (codes "phase", count_text phase) ∷ (codes "first", count_text first) ∷ (codes "second", count_text second) ∷ []
fault_members (BadRule phase system) = (codes "phase", count_text phase) ∷ (codes "system", count_text system) ∷ []
fault_members (BadWorld rule) = (codes "rule", count_text rule) ∷ []
fault_members (BadRecord frame delta) = (codes "frame", count_text frame) ∷ (codes "delta", count_text delta) ∷ []
fault_members f = []

-- the place of a command
abbrev pub place_json : Place → Data
place_json p = object_of (
    (codes "phase", count_text p.phase) ∷ (codes "queue", count_text p.queue) ∷ (codes "command", count_text p.command) ∷ [])

-- where there is one
abbrev pub place_members : Option Place → List (List ℕ × Data)
place_members None = []
place_members (Some p) = (codes "place", place_json p) ∷ []

-- a refusal: its fault by number and name with its fields, and its place where it has one
abbrev pub refused_json : Refusal → Data
refused_json r = answer_of (codes "refused") (
    named_members (fault_number r.fault) (fault_name r.fault) ++ (fault_members r.fault ++ place_members r.place))

-- the fields of the fault of a scene text
abbrev pub file_members : FileFault → List (List ℕ × Data)
file_members (file.UnknownKey path) = (codes "path", string path) ∷ []
file_members (file.BadField path) = (codes "path", string path) ∷ []
file_members (file.BadVersion version) = (codes "version", count_text version) ∷ []
file_members (file.BadWorld rule) = (codes "rule", count_text rule) ∷ []
file_members (file.BadRecord frame delta) = (codes "frame", count_text frame) ∷ (codes "delta", count_text delta) ∷ []
file_members f = []

-- the fault of a scene text, by number and name with its fields
abbrev pub file_fault_json : FileFault → Data
file_fault_json f = answer_of (codes "fault") (named_members (file_number f) (file_name f) ++ file_members f)
