-- The texts of objects, member by member.
use Rattle.std.proofs.Common.{◌≡◌, ℕ, List, ◌++◌, append_assoc, refl, ap, sym, ◌∙◌}
use Rattle.std.specs.Prelude.{codes, decimal}
use Rattle.std.specs.Fmt.{digits}
use Rattle.serde_json.proofs.OnLiterals.{serde_json_on_literals}
use Rattle.serde_json.specs.Data.{string}
use Rattle.serde_json.specs.Written.{compact_text}
use Rattle.scene_kinds.specs.declared.cell.Cell.{Cell}
use Rattle.scene_kinds.specs.declared.cells.Row.{Row}
use Rattle.scene_kinds.specs.declared.entity.Entity.{Entity}
use Rattle.scene_model.specs.World.{World}
use Rattle.scene_validate.specs.Parts.{lists_of}
use Rattle.scene_journal.specs.Records.{Record}
use Rattle.scene_json_forms.specs.Text.{list_text, count_text, entity_json, cell_text, resource_cell_text}
use Rattle.scene_file_records.specs.Text.{records_text}
use Rattle.scene_file.specs.Text.{row_text, kind_text, children_text, resource_text, table_text, world_text}
use Rattle.scene_file.specs.EditorText.{editor_text}
use Rattle.scene_file.specs.Printing.{kinds_json, table_json, first_members, last_members}

pub row_is : (r : Row) → compact_text (row_text r)
    ≡ codes "{\"cells\":" ++ (compact_text (list_text (λ c. cell_text c.1) r.cells) ++
    (codes ",\"entity\":" ++ (compact_text (entity_json r.entity) ++ codes "}")))
unfolding serde_json_on_literals
row_is r = refl

pub table_is : (mask : ℕ) (rows : List Row) → compact_text (table_json (mask, rows))
    ≡ codes "{\"kinds\":" ++ (compact_text (kinds_json mask) ++ (codes ",\"rows\":" ++ (compact_text (list_text row_text rows) ++ codes "}")))
unfolding serde_json_on_literals kinds_json table_json
table_is mask rows = refl

pub children_is : (parent : Entity) (list : List Entity) → compact_text (children_text (parent, list))
    ≡ codes "{\"list\":" ++ (compact_text (list_text entity_json list) ++ (codes ",\"parent\":" ++ (compact_text (entity_json parent) ++ codes "}")))
unfolding serde_json_on_literals
children_is parent list = refl

pub resource_is : (name : List ℕ) (cell : Cell) → compact_text (resource_text (name, cell))
    ≡ codes "{\"cell\":" ++ (compact_text (resource_cell_text cell) ++ (codes ",\"name\":" ++ (compact_text (string name) ++ codes "}")))
unfolding serde_json_on_literals
resource_is name cell = refl

-- ---- the whole: its members, one after another

-- the members up to the limit, and then a text
abbrev up_to_limit : World → List ℕ → List ℕ
up_to_limit w rest =
    codes "{\"children\":" ++ (compact_text (list_text children_text (lists_of w.children))
    ++ (codes ",\"free\":" ++ (compact_text (list_text count_text w.slots.free)
    ++ (codes ",\"generations\":" ++ (compact_text (list_text count_text w.slots.generations)
    ++ (codes ",\"kinds\":" ++ (compact_text (list_text kind_text w.schema)
    ++ (codes ",\"limit\":" ++ (decimal w.slots.limit ++ rest)))))))))

-- those from the resources on, and then a text
abbrev from_resources : ℕ → World → List ℕ → List ℕ
from_resources version w rest =
    codes ",\"resources\":" ++ (compact_text (list_text resource_text w.resources.entries)
    ++ (codes ",\"scene\":" ++ (decimal version ++ (codes ",\"tables\":" ++ (compact_text (list_text table_text (lists_of w.tables))
    ++ (codes ",\"tick\":" ++ (decimal w.tick ++ rest)))))))

nine : (a b c d e f g h i j k : List ℕ) → (a ++ (b ++ (c ++ (d ++ (e ++ (f ++ (g ++ (h ++ (i ++ j))))))))) ++ k
    ≡ a ++ (b ++ (c ++ (d ++ (e ++ (f ++ (g ++ (h ++ (i ++ (j ++ k)))))))))
nine a b c d e f g h i j k = simp append_assoc refl

seven : (a b c d e f g h k : List ℕ) → (a ++ (b ++ (c ++ (d ++ (e ++ (f ++ (g ++ h))))))) ++ k
    ≡ a ++ (b ++ (c ++ (d ++ (e ++ (f ++ (g ++ (h ++ k)))))))
seven a b c d e f g h k = simp append_assoc refl

first_is : (w : World) (rest : List ℕ) → first_members w ++ rest ≡ up_to_limit w rest
first_is w rest = nine (codes "{\"children\":") (compact_text (list_text children_text (lists_of w.children)))
    (codes ",\"free\":") (compact_text (list_text count_text w.slots.free))
    (codes ",\"generations\":") (compact_text (list_text count_text w.slots.generations))
    (codes ",\"kinds\":") (compact_text (list_text kind_text w.schema))
    (codes ",\"limit\":") (decimal w.slots.limit) rest

last_is : (version : ℕ) (w : World) (rest : List ℕ) → last_members version w ++ rest ≡ from_resources version w rest
last_is version w rest = seven (codes ",\"resources\":") (compact_text (list_text resource_text w.resources.entries))
    (codes ",\"scene\":") (decimal version) (codes ",\"tables\":") (compact_text (list_text table_text (lists_of w.tables)))
    (codes ",\"tick\":") (decimal w.tick) rest

world_members_are : (w : World) → compact_text (world_text w) ≡ up_to_limit w (from_resources 1 w (codes "}"))
unfolding serde_json_on_literals digits
world_members_are w = refl

pub world_is : (w : World) → compact_text (world_text w) ≡ first_members w ++ (last_members 1 w ++ codes "}")
world_is w = world_members_are w ∙ ap (up_to_limit w) (sym (last_is 1 w (codes "}"))) ∙ sym (first_is w (last_members 1 w ++ codes "}"))

editor_members_are : (w : World) (past future : List Record) → compact_text (editor_text w past future)
    ≡ up_to_limit w (codes ",\"redo\":" ++ (compact_text (records_text future)
    ++ from_resources 2 w (codes ",\"undo\":" ++ (compact_text (records_text past) ++ codes "}"))))
unfolding serde_json_on_literals digits
editor_members_are w past future = refl

pub editor_is : (w : World) (past future : List Record) → compact_text (editor_text w past future)
    ≡ first_members w ++ (codes ",\"redo\":" ++ (compact_text (records_text future)
    ++ (last_members 2 w ++ (codes ",\"undo\":" ++ (compact_text (records_text past) ++ codes "}")))))
editor_is w past future =
    let redo = compact_text (records_text future) in
    let end = codes ",\"undo\":" ++ (compact_text (records_text past) ++ codes "}") in
    editor_members_are w past future ∙ ap (λ t. up_to_limit w (codes ",\"redo\":" ++ (redo ++ t))) (sym (last_is 2 w end))
    ∙ sym (first_is w (codes ",\"redo\":" ++ (redo ++ (last_members 2 w ++ end))))

-- three texts that are written at once, and then the rest
pub three : (old a b c rest s1 s2 : List ℕ) → s1 ≡ old ++ (a ++ (b ++ c)) → s2 ≡ s1 ++ rest → s2 ≡ old ++ (a ++ (b ++ (c ++ rest)))
three old a b c rest s1 s2 h k = k ∙ ap (λ s. s ++ rest) h ∙ (simp append_assoc refl)
