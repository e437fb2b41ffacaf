-- The value of records that can be written is plain, and nests seven levels deep.
use Rattle.std.proofs.Common.{◌≡◌, ℕ, ◌≤◌, true, List, [], ◌∷◌, ◌++◌, length, refl, arith, Option, Some, None}
use Rattle.std.specs.Prelude.{IfSome, codes}
use Rattle.std.specs.List.{list_all, AllByRecursion}
use Rattle.json.proofs.Printed.Utf8.{are_ascii, IsUtf8-are_ascii}
use Rattle.serde_json.specs.Data.{boolean, string}
use Rattle.scene_kinds.specs.declared.entity.Entity.{Entity}
use Rattle.scene_kinds.specs.declared.cell.Cell.{Cell}
use Rattle.scene_kinds.specs.Schema.{Kinds, fits_kind}
use Rattle.scene_deltas.specs.declared.delta.Delta.{Delta}
use Rattle.scene_deltas.specs.declared.delta.Delta.TheVariants.{Spawned, Despawned, Shifted, CellSet, Linked, ResourceSet}
use Rattle.scene_journal.specs.Records.{Record}
use Rattle.scene_validate.specs.Parts.{Parts}
use Rattle.scene_validate.proofs.Tests.{and_is, all_with}
use Rattle.scene_json_forms.specs.Text.{list_text, count_text, entity_json, value_text}
use Rattle.scene_json_forms.proofs.FitKinds.{fits_is}
use Rattle.scene_file_records.specs.Text.{kcell_text, kcells_text, link_text, maybe_resource_cell_text, delta_text, record_text, records_text}
use Rattle.scene_file_records.specs.Writable.{AreCells, IsLink, IsResourceCell}
use Rattle.scene_file.specs.Text.{first_text, last_text}
use Rattle.scene_file.specs.EditorText.{editor_parts_text}
use Rattle.scene_file.proofs.FitDeltas.{HasTicks, IsTold}
use Rattle.scene_file.proofs.FitRecords.{IsRecordTold}
use Rattle.scene_file.proofs.PlainValues.{IsFine, deeper, array_fine, list_fine, object_fine, count_fine, string_fine, flag_fine, entity_fine, value_fine, resource_cell_fine, name_is_utf8}
use Rattle.scene_file.proofs.PlainWorlds.{MembersAreFine}

-- a name of letters
ascii_fine : (m : ℕ) (name : List ℕ) → are_ascii name ≡ true → IsFine m (string name)
ascii_fine m name h = string_fine m name (IsUtf8-are_ascii name h)

-- a link, or null
link_fine : (link : Option (Entity × ℕ)) → IfSome link IsLink → IsFine 3 (link_text link)
link_fine None h = (tt, omega arith)
link_fine (Some link) h =
    let low = h.1 in
    array_fine 2 (entity_json link.0 ∷ count_text link.1 ∷ []) (entity_fine 2 link.0 h.0, (count_fine 2 link.1 (omega (arith, low)), tt))

-- a resource's cell, or null
resource_fine : (cell : Option Cell) → IfSome cell IsResourceCell → IfSome cell HasTicks → IsFine 3 (maybe_resource_cell_text cell)
resource_fine None h t = (tt, omega arith)
resource_fine (Some c) h t = resource_cell_fine 1 c (h, t)

module _ (schema : Kinds) (few : length schema ≤ 64) where
  kcell_fine : (kind : ℕ) (c : Cell) → fits_kind schema c.value kind ≡ true → HasTicks c → IsFine 2 (kcell_text (kind, c))
  kcell_fine kind c h t =
      let fits = fits_is schema c.value kind h in
      let low = fits.low in
      array_fine 1 (count_text kind ∷ value_text c.value ∷ count_text c.added ∷ count_text c.changed ∷ []) (
        count_fine 1 kind (omega (arith, low, few)),
        (value_fine 0 c.value fits.range, (count_fine 1 c.added t.0, (count_fine 1 c.changed t.1, tt))),
      )

  each_kcell : (cells : List (ℕ × Cell)) → list_all (λ c. fits_kind schema c.1.value c.0) cells ≡ true → AllByRecursion (λ c. HasTicks c.1) cells
      → AllByRecursion (λ c. IsFine 2 (kcell_text c)) cells
  each_kcell [] h t = tt
  each_kcell (c ∷ cs) h t =
      let p = and_is (fits_kind schema c.1.value c.0) (list_all (λ c. fits_kind schema c.1.value c.0) cs) h in
      (kcell_fine c.0 c.1 p.0 t.0, each_kcell cs p.1 t.1)

  kcells_fine : (cells : List (ℕ × Cell)) → AreCells schema cells → AllByRecursion (λ c. HasTicks c.1) cells → IsFine 3 (kcells_text cells)
  kcells_fine cells h t = list_fine 2 kcell_text cells (each_kcell cells h.fit t)

  -- one cell, a level deeper than it need be
  one_kcell : (kind : ℕ) (c : Cell) → fits_kind schema c.value kind ≡ true → HasTicks c → IsFine 3 (kcell_text (kind, c))
  one_kcell kind c h t = deeper 2 3 (kcell_text (kind, c)) (omega arith) (kcell_fine kind c h t)

  delta_fine : (d : Delta) → IsTold schema d → IsFine 4 (delta_text d)
  delta_fine (Spawned e cells fresh) h =
      object_fine 3 ((codes "cells", kcells_text cells) ∷ (codes "entity", entity_json e) ∷ (codes "fresh", boolean fresh)
      ∷ (codes "op", string (codes "spawned")) ∷ []) refl refl
      (kcells_fine cells h.writable.0 h.ticks, (entity_fine 3 e h.writable.1, (flag_fine 3 fresh, (ascii_fine 3 (codes "spawned") refl, tt))))
  delta_fine (Despawned e place cells link retired) h =
      let low = h.writable.3 in
      object_fine 3 ((codes "cells", kcells_text cells) ∷ (codes "entity", entity_json e) ∷ (codes "link", link_text link)
      ∷ (codes "op", string (codes "despawned")) ∷ (codes "place", count_text place) ∷ (codes "retired", boolean retired) ∷ []) refl refl (
        kcells_fine cells h.writable.0 h.ticks,
        (
          entity_fine 3 e h.writable.1,
          (
            link_fine link h.writable.2,
            (ascii_fine 3 (codes "despawned") refl, (count_fine 3 place (omega (arith, low)), (flag_fine 3 retired, tt))),
          ),
        ),
      )
  delta_fine (Shifted e place kind cell inward) h =
      let low = h.writable.2 in
      object_fine 3 ((codes "cell", kcell_text (kind, cell)) ∷ (codes "entity", entity_json e) ∷ (codes "inward", boolean inward)
      ∷ (codes "op", string (codes "shifted")) ∷ (codes "place", count_text place) ∷ []) refl refl (
        one_kcell kind cell h.writable.0 h.ticks,
        (
          entity_fine 3 e h.writable.1,
          (
            flag_fine 3 inward,
            (ascii_fine 3 (codes "shifted") refl, (count_fine 3 place (omega (arith, low)), tt)),
          ),
        ),
      )
  delta_fine (CellSet e kind before after) h =
      object_fine 3 ((codes "after", kcell_text (kind, after)) ∷ (codes "before", kcell_text (kind, before)) ∷ (codes "entity", entity_json e)
      ∷ (codes "op", string (codes "cellset")) ∷ []) refl refl (
        one_kcell kind after h.writable.0 h.ticks.1,
        (
          one_kcell kind before h.writable.1 h.ticks.0,
          (
            entity_fine 3 e h.writable.2,
            (ascii_fine 3 (codes "cellset") refl, tt),
          ),
        ),
      )
  delta_fine (Linked e before after) h =
      object_fine 3 ((codes "after", link_text after) ∷ (codes "before", link_text before) ∷ (codes "entity", entity_json e)
      ∷ (codes "op", string (codes "linked")) ∷ []) refl refl
      (link_fine after h.writable.0, (link_fine before h.writable.1, (entity_fine 3 e h.writable.2, (ascii_fine 3 (codes "linked") refl, tt))))
  delta_fine (ResourceSet name before after) h =
      object_fine 3 ((codes "after", maybe_resource_cell_text after) ∷ (codes "before", maybe_resource_cell_text before) ∷ (codes "name", string name)
      ∷ (codes "op", string (codes "resourceset")) ∷ []) refl refl (
        resource_fine after h.writable.0 h.ticks.1,
        (
          resource_fine before h.writable.1 h.ticks.0,
          (string_fine 3 name (name_is_utf8 name h.writable.2), (ascii_fine 3 (codes "resourceset") refl, tt)),
        ),
      )

  record_fine : (r : Record) → IsRecordTold schema r → IsFine 6 (record_text r)
  record_fine r h =
      object_fine 5 ((codes "deltas", list_text delta_text r.deltas) ∷ (codes "tick", count_text r.tick_before) ∷ []) refl refl (
        list_fine 4 delta_text r.deltas (all_with (IsTold schema) (λ d. IsFine 4 (delta_text d)) (λ d t. delta_fine d t) r.deltas h.deltas),
        (count_fine 5 r.tick_before h.tick, tt),
      )

  records_fine : (rs : List Record) → AllByRecursion (IsRecordTold schema) rs → IsFine 7 (records_text rs)
  records_fine rs h = list_fine 6 record_text rs (all_with (IsRecordTold schema) (λ r. IsFine 6 (record_text r)) (λ r k. record_fine r k) rs h)

-- the value of parts with records
pub editor_fine : (p : Parts) (past future : List Record) → length p.schema ≤ 64 → MembersAreFine p → AllByRecursion (IsRecordTold p.schema) past
    → AllByRecursion (IsRecordTold p.schema) future → IsFine 8 (editor_parts_text p past future)
editor_fine p past future few h old new =
    object_fine 7 (first_text p ++ ((codes "redo", records_text future) ∷ (last_text 2 p ++ ((codes "undo", records_text past) ∷ [])))) refl refl (
      h.children,
      (
        h.free,
        (
          h.generations,
          (
            h.kinds,
            (
              h.limit,
              (
                records_fine p.schema few future new,
                (
                  h.resources,
                  (
                    count_fine 7 2 (omega arith),
                    (h.tables, (h.tick, (records_fine p.schema few past old, tt))),
                  ),
                ),
              ),
            ),
          ),
        ),
      ),
    )
