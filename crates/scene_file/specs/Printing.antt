-- What the printers of a scene text write one by one. What a save writes doesn't rest on these words.
use Rattle.std.specs.Prelude.{ℕ, List, ◌++◌, codes, decimal}
use Rattle.serde_json.specs.Data.{Data}
use Rattle.serde_json.specs.Written.{compact_text}
use Rattle.scene_kinds.specs.declared.cells.Row.{Row}
use Rattle.scene_kinds.specs.KindSet.{KindSet}
use Rattle.scene_model.specs.World.{World}
use Rattle.scene_validate.specs.Parts.{lists_of}
use Rattle.scene_json_forms.specs.Text.{list_text, count_text}
use Rattle.scene_file.specs.Text.{kinds_of, kind_text, children_text, resource_text, table_text}

-- the kinds of a set. This word stays folded, since it computes long
unfoldable pub kinds_json : KindSet → Data
kinds_json mask = list_text count_text (kinds_of mask)

-- a table, kept folded too
unfoldable pub table_json : KindSet × List Row → Data
table_json t = table_text t

-- the members of a world up to its limit
abbrev pub first_members : World → List ℕ
first_members w =
    codes "{\"children\":" ++ (compact_text (list_text children_text (lists_of w.children))
    ++ (codes ",\"free\":" ++ (compact_text (list_text count_text w.slots.free)
    ++ (codes ",\"generations\":" ++ (compact_text (list_text count_text w.slots.generations)
    ++ (codes ",\"kinds\":" ++ (compact_text (list_text kind_text w.schema)
    ++ (codes ",\"limit\":" ++ decimal w.slots.limit))))))))

-- its members from its resources on, with a version
abbrev pub last_members : ℕ → World → List ℕ
last_members version w =
    codes ",\"resources\":" ++ (compact_text (list_text resource_text w.resources.entries)
    ++ (codes ",\"scene\":" ++ (decimal version ++ (codes ",\"tables\":" ++ (compact_text (list_text table_text (lists_of w.tables))
    ++ (codes ",\"tick\":" ++ decimal w.tick))))))
