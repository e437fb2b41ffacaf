-- What is asked of parts of a world, as JSON (docs/SHELL.md, "Questions").
use Rattle.std.specs.Prelude.{ℕ, List, [], ◌∷◌, Option, Some, None, codes, drop, length, take, if◌then◌else◌}
use Rattle.std.specs.List.{filter}
use Rattle.serde_json.specs.Data.{Data, null}
use Rattle.scene_kinds.specs.Answers.{refusal_of}
use Rattle.scene_kinds.specs.declared.entity.Entity.{Entity}
use Rattle.scene_kinds.specs.declared.fault.Fault.TheVariants.{NoSuchEntity}
use Rattle.scene_kinds.specs.KindSet.{KindSet}
use Rattle.scene_links.specs.Forest.{children_of, parent_of}
use Rattle.scene_model.specs.World.{World, is_live, kind_sets}
use Rattle.scene_pass.specs.Pass.{matching_rows}
use Rattle.scene_resources.specs.Resources.{NamedCells}
use Rattle.scene_systems.specs.declared.filter.Filter.{Filter}
use Rattle.scene_systems.specs.Filter.{is_match}
use Rattle.scene_table.specs.Tables.{rows_at}
use Rattle.scene_json_forms.specs.Text.{object_of, list_text, count_text, entity_json}
use Rattle.scene_print.specs.JsonObjects.{answer_of, object_by}
use Rattle.scene_print.specs.JsonShown.{kinds_json, resource_member, row_json}
use Rattle.scene_print.specs.JsonTold.{refused_json}

-- so many items of a list from a place on
abbrev pub page : {A : Type 0} → (from count : ℕ) → List A → List A
page from count xs = take count (drop from xs)

-- a kind set, and how many rows it has
abbrev pub table_head : World → KindSet → Data
table_head w mask = object_of ((codes "kinds", kinds_json w.schema mask) ∷ (codes "rows", count_text (length (rows_at w.tables mask))) ∷ [])

-- the kind sets with rows that a filter matches, ascending
abbrev pub tables_answer : World → Filter → Data
tables_answer w f = answer_of (codes "tables") ((codes "tables", list_text (table_head w) (filter (is_match f) (kind_sets w))) ∷ [])

-- a part of the rows that a filter matches: by ascending kind set, then by place
abbrev pub rows_answer : World → Filter → (from count : ℕ) → Data
rows_answer w f from count = answer_of (codes "rows") ((codes "rows", list_text (row_json w.schema) (page from count (matching_rows w f))) ∷ [])

-- of a live entity; else that there is none
abbrev pub if_live : World → Entity → Data → Data
if_live w e d = if is_live w e then d else refused_json (refusal_of NoSuchEntity)

-- the children of an entity, in their order
abbrev pub child_list : List Entity → Data
child_list es = answer_of (codes "children") ((codes "entities", list_text entity_json es) ∷ [])

-- the answer, where the entity is alive
abbrev pub children_answer : World → Entity → Data
children_answer w e = if_live w e (child_list (children_of w.children e))

-- an entity, or null
abbrev pub maybe_entity : Option Entity → Data
maybe_entity None = null
maybe_entity (Some e) = entity_json e

-- the parent of an entity, where it has one
abbrev pub parent_json : Option Entity → Data
parent_json parent = answer_of (codes "parent") ((codes "entity", maybe_entity parent) ∷ [])

-- the answer, where the entity is alive
abbrev pub parent_answer : World → Entity → Data
parent_answer w e = if_live w e (parent_json (parent_of w.children e))

-- the resources, by the bytes of their names
abbrev pub resources_answer : NamedCells → Data
resources_answer r = answer_of (codes "resources") ((codes "resources", object_by resource_member r.entries) ∷ [])
