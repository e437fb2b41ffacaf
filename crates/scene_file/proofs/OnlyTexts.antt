-- Nothing but the texts of worlds is read.
use Rattle.std.proofs.Common.{◌≡◌, ℕ, Bool, true, false, cond, T, List, Option, Some, None, Result, Ok, Err, refl, ap, sym, subst, ◌∙◌}
use Rattle.std.specs.Ordering.{nat_cmp, ordering_then}
use Rattle.std.specs.Cmp.{nat_cmp_total}
use Rattle.std.specs.Str.{is_utf8}
use Rattle.serde_json.specs.Data.{Data}
use Rattle.serde_json.specs.Read.{read}
use Rattle.scene_kinds.specs.Entity.{entity_cmp, entity_cmp_total}
use Rattle.scene_kinds.proofs.Choices.{less}
use Rattle.scene_resources.specs.Resources.{name_cmp}
use Rattle.scene_model.specs.World.{World}
use Rattle.scene_validate.specs.Parts.{Parts, lists_of, tables_of, forest_of, resources_of, parts_of, world_of}
use Rattle.scene_validate.specs.Rules.{first_broken}
use Rattle.scene_validate.proofs.WorldRules.{parts_are}
use Rattle.scene_json_forms.specs.declared.fault.FileFault.{FileFault}
use Rattle.scene_json_forms.specs.declared.fault.FileFault.TheVariants.{NotJson, BadWorld}
use Rattle.scene_file.specs.Scene.{if_json, if_unbroken, json_in, loaded, world_in}
use Rattle.scene_file.specs.Text.{parts_text, world_text}
use Rattle.scene_file.specs.Walk.{parent_follows, name_follows, table_follows, parts_in}
use Rattle.scene_json_forms.proofs.ReadValues.{value_read}
use Rattle.scene_file.proofs.RisingMaps.{lists_kept, resources_kept, ascend_from}
use Rattle.scene_file.proofs.RowsExact.{lower_is}
use Rattle.scene_file.proofs.SceneExact.{Rise, parts_said_by}
use Rattle.scene_json_forms.proofs.GoodSteps.{ok_after, ok_is}

-- ---- parts that were read are those of their world

pub parts_kept : (p : Parts) → Rise p → first_broken p ≡ None → parts_of (world_of p) ≡ p
parts_kept p said h =
    let own = parts_are p h in
    let tables : lists_of (tables_of p.tables) ≡ p.tables =
    lists_kept nat_cmp_total p.tables (ascend_from nat_cmp table_follows (λ a b k. lower_is a.0 b.0 k) p.tables said.sets) own.tables.some in
    let children : lists_of (forest_of p.children) ≡ p.children =
    lists_kept entity_cmp_total p.children
    (ascend_from entity_cmp parent_follows (λ a b k. ap (λ o. ordering_then o (nat_cmp a.0.generation b.0.generation))
    (lower_is a.0.index b.0.index k)) p.children said.parents)
    own.children.some in
    let resources : (resources_of p.resources).entries ≡ p.resources =
    resources_kept p.resources (ascend_from name_cmp name_follows (λ a b k. less (name_cmp a.0 b.0) (subst T (sym k) tt)) p.resources said.names) in
    λ i. record {
      schema = p.schema;
      limit = p.limit;
      tick = p.tick;
      generations = p.generations;
      free = p.free;
      tables = tables i;
      children = children i;
      resources = resources i;
    }

-- ---- the steps of a load

json_was : (b : Bool) (o : Option Data) (d : Data) → cond b (if_json o) (Err NotJson) ≡ Ok d → o ≡ Some d
json_was true None d h = absurd (let k : ◌≡◌ {A = Result Data FileFault} (Err NotJson) (Ok d) = h in cc)
json_was true (Some x) d h = ap (λ y. Some y) (ok_is x d h)
json_was false o d h = absurd (let k : ◌≡◌ {A = Result Data FileFault} (Err NotJson) (Ok d) = h in cc)

-- the value of a text that was read
pub value_was : (bytes : List ℕ) (d : Data) → json_in bytes ≡ Ok d → read bytes ≡ Some d
value_was bytes d h = json_was (is_utf8 bytes) (read bytes) d h

pub unbroken_was : (o : Option ℕ) (p : Parts) (w : World) → if_unbroken o p ≡ Ok w → (o ≡ None) × (world_of p ≡ w)
unbroken_was None p w h = (refl, ok_is (world_of p) w h)
unbroken_was (Some rule) p w h = absurd (let k : ◌≡◌ {A = Result World FileFault} (Err (BadWorld rule)) (Ok w) = h in cc)

-- the value of bytes that are read as a world is the world's own
pub only_text : (bytes : List ℕ) (w : World) → loaded bytes ≡ Ok w → read bytes ≡ Some (world_text w)
only_text bytes w h =
    let j = ok_after (json_in bytes) world_in w h in
    let was : read bytes ≡ Some j.0 = value_was bytes j.0 j.1 in
    let p = ok_after (parts_in j.0) (λ p. if_unbroken (first_broken p) p) w j.2 in
    let u = unbroken_was (first_broken p.0) p.0 w p.2 in
    let said = parts_said_by j.0 p.0 (value_read bytes j.0 was) p.1 in
    let text : j.0 ≡ world_text w = said.text ∙ ap parts_text (sym (parts_kept p.0 said.rising u.0)) ∙ ap world_text u.1 in
    was ∙ ap (λ d. Some d) text

pub ruleset texts = (only_text)
