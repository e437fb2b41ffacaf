-- What the printers write one by one. What is written as a whole doesn't rest on these words.
use Rattle.std.specs.Prelude.{ℕ, List, [], ◌∷◌, ◌++◌, Bool, Option, Some, None, codes, decimal, map as each}
use Rattle.serde_json.specs.Data.{Data, string}
use Rattle.serde_json.specs.Written.{compact_text, members_text}
use Rattle.json.specs.Print.{quoted}
use Rattle.scene_kinds.specs.declared.cells.Row.{Row}
use Rattle.scene_kinds.specs.declared.fault.Fault.{Fault}
use Rattle.scene_kinds.specs.declared.fault.Fault.TheVariants.{Overflow, HistoryFull, Rewound, Conflict, BadRule, BadWorld, BadRecord}
use Rattle.scene_kinds.specs.declared.refusal.Place.{Place}
use Rattle.scene_kinds.specs.Schema.{Kinds}
use Rattle.scene_model.specs.World.{World, kind_sets}
use Rattle.scene_links.specs.Forest.{parents}
use Rattle.scene_json_forms.specs.declared.fault.FileFault.{FileFault}
use Rattle.scene_json_forms.specs.declared.fault.FileFault.TheVariants as file
use Rattle.scene_json_forms.specs.Text.{count_text, entity_json, list_text, members_of}
use Rattle.scene_print.specs.JsonObjects.{object_by}
use Rattle.scene_print.specs.JsonShown.{cell_member, children_member, resource_member, table_of}

-- ---- objects

-- a member
abbrev pub member_text : List ℕ × Data → List ℕ
member_text m = quoted m.0 ++ (58 ∷ compact_text m.1)

-- the members of an object that are still to come, with its closing brace; a comma stands before one that isn't the
-- first
abbrev pub left_text : {A : Type 0} → Bool → (A → List ℕ × Data) → List A → List ℕ
left_text later member xs = members_text later (members_of (each member xs))

-- ---- refusals and faults

-- the beginning of a refusal or of a fault: its number and its name
abbrev pub head_text : (what : List ℕ) → ℕ → (name : List ℕ) → List ℕ
head_text what number name =
    codes "{\"answer\":\"" ++ (what ++ (codes "\",\"number\":" ++ (decimal number ++ (codes ",\"name\":\"" ++ (name ++ codes "\"")))))

-- the fields of a fault
abbrev pub fields_text : Fault → List ℕ
fields_text (Overflow e) = codes ",\"entity\":" ++ compact_text (entity_json e)
fields_text (HistoryFull n) = codes ",\"length\":" ++ decimal n
fields_text (Rewound n) = codes ",\"rewinds\":" ++ decimal n
fields_text (Conflict phase first second) =
    codes ",\"phase\":" ++ (decimal phase ++ (codes ",\"first\":" ++ (decimal first ++ (codes ",\"second\":" ++ decimal second))))
fields_text (BadRule phase system) = codes ",\"phase\":" ++ (decimal phase ++ (codes ",\"system\":" ++ decimal system))
fields_text (BadWorld rule) = codes ",\"rule\":" ++ decimal rule
fields_text (BadRecord frame delta) = codes ",\"frame\":" ++ (decimal frame ++ (codes ",\"delta\":" ++ decimal delta))
fields_text f = []

-- a place, where there is one
abbrev pub place_text : Option Place → List ℕ
place_text None = []
place_text (Some p) =
    codes ",\"place\":{\"phase\":" ++ (decimal p.phase ++ (codes ",\"queue\":" ++ (decimal p.queue
    ++ (codes ",\"command\":" ++ (decimal p.command ++ codes "}")))))

-- the fields of the fault of a scene text
abbrev pub file_fields : FileFault → List ℕ
file_fields (file.UnknownKey path) = codes ",\"path\":" ++ compact_text (string path)
file_fields (file.BadField path) = codes ",\"path\":" ++ compact_text (string path)
file_fields (file.BadVersion version) = codes ",\"version\":" ++ decimal version
file_fields (file.BadWorld rule) = codes ",\"rule\":" ++ decimal rule
file_fields (file.BadRecord frame delta) = codes ",\"frame\":" ++ (decimal frame ++ (codes ",\"delta\":" ++ decimal delta))
file_fields f = []

-- ---- worlds

-- the members of a row
abbrev pub row_text : Kinds → Row → List ℕ
row_text kinds row =
    codes "\"entity\":" ++ (compact_text (entity_json row.entity)
    ++ (codes ",\"cells\":" ++ compact_text (object_by (cell_member kinds) row.cells)))

-- the members of a world up to its free list
abbrev pub first_members : World → List ℕ
first_members w =
    codes "{\"answer\":\"world\",\"tick\":" ++ (decimal w.tick
    ++ (codes ",\"generations\":" ++ (compact_text (list_text count_text w.slots.generations)
    ++ (codes ",\"free\":" ++ compact_text (list_text count_text w.slots.free)))))

-- its members from its tables on
abbrev pub last_members : World → List ℕ
last_members w =
    codes ",\"tables\":" ++ (compact_text (list_text (table_of w) (kind_sets w))
    ++ (codes ",\"children\":" ++ (compact_text (object_by (children_member w.children) (parents w.children))
    ++ (codes ",\"resources\":" ++ compact_text (object_by resource_member w.resources.entries)))))
