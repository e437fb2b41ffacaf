-- The texts of what is asked of parts of a world.
use Rattle.std.proofs.Common.{◌≡◌, ℕ, List, ◌++◌, Option, refl}
use Rattle.std.specs.Prelude.{codes, decimal, length}
use Rattle.std.specs.List.{filter}
use Rattle.serde_json.proofs.OnLiterals.{serde_json_on_literals}
use Rattle.serde_json.specs.Written.{compact_text}
use Rattle.scene_kinds.specs.declared.entity.Entity.{Entity}
use Rattle.scene_kinds.specs.KindSet.{KindSet}
use Rattle.scene_model.specs.World.{World, kind_sets}
use Rattle.scene_pass.specs.Pass.{matching_rows}
use Rattle.scene_resources.specs.Resources.{NamedCells}
use Rattle.scene_systems.specs.declared.filter.Filter.{Filter}
use Rattle.scene_systems.specs.Filter.{is_match}
use Rattle.scene_table.specs.Tables.{rows_at}
use Rattle.scene_json_forms.specs.Text.{entity_json, list_text}
use Rattle.scene_print.specs.JsonAsked.{child_list, maybe_entity, page, parent_json, resources_answer, rows_answer, table_head, tables_answer}
use Rattle.scene_print.specs.JsonObjects.{object_by}
use Rattle.scene_print.specs.JsonShown.{kinds_json, resource_member, row_json}

pub table_head_is : (w : World) (mask : KindSet) → compact_text (table_head w mask)
    ≡ codes "{\"kinds\":" ++ (compact_text (kinds_json w.schema mask) ++ (codes ",\"rows\":" ++ (decimal (length (rows_at w.tables mask)) ++ codes "}")))
unfolding serde_json_on_literals
table_head_is w mask = refl

pub tables_is : (w : World) (f : Filter) → compact_text (tables_answer w f)
    ≡ codes "{\"answer\":\"tables\",\"tables\":" ++ (compact_text (list_text (table_head w) (filter (is_match f) (kind_sets w))) ++ codes "}")
unfolding serde_json_on_literals
tables_is w f = refl

pub rows_is : (w : World) (f : Filter) (from count : ℕ) → compact_text (rows_answer w f from count)
    ≡ codes "{\"answer\":\"rows\",\"rows\":" ++ (compact_text (list_text (row_json w.schema) (page from count (matching_rows w f))) ++ codes "}")
unfolding serde_json_on_literals
rows_is w f from count = refl

pub child_list_is : (es : List Entity) → compact_text (child_list es)
    ≡ codes "{\"answer\":\"children\",\"entities\":" ++ (compact_text (list_text entity_json es) ++ codes "}")
unfolding serde_json_on_literals
child_list_is es = refl

pub parent_is : (parent : Option Entity) → compact_text (parent_json parent)
    ≡ codes "{\"answer\":\"parent\",\"entity\":" ++ (compact_text (maybe_entity parent) ++ codes "}")
unfolding serde_json_on_literals
parent_is parent = refl

pub resources_is : (r : NamedCells) → compact_text (resources_answer r)
    ≡ codes "{\"answer\":\"resources\",\"resources\":" ++ (compact_text (object_by resource_member r.entries) ++ codes "}")
unfolding serde_json_on_literals
resources_is r = refl
