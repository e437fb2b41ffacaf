-- Records that were written are read again.
use Rattle.std.proofs.Common.{◌≡◌, ℕ, ◌^◌, ◌<◌, true, false, cond, List, [], ◌∷◌, length, refl, ap, ◌∙◌, Option, Some, None, Result, Ok, is_some, nat_eq, codes}
use Rattle.std.specs.Prelude.{IfSome}
use Rattle.std.specs.List.{list_all, AllByRecursion}
use Rattle.std.specs.Ordering.{nat_cmp}
use Rattle.std.specs.FinMap.Entries.{below_all, is_sorted}
use Rattle.std.proofs.lemmas.Bool.{eq-eqb, lt-ltb}
use Rattle.serde_json.specs.Data.{Data, string}
use Rattle.serde_json.specs.Find.{as_null}
use Rattle.scene_kinds.specs.declared.cell.Cell.{Cell}
use Rattle.scene_kinds.specs.declared.entity.Entity.{Entity}
use Rattle.scene_kinds.specs.declared.shape.Shape.{Shape}
use Rattle.scene_kinds.specs.declared.value.Value.{Value}
use Rattle.scene_kinds.specs.Cells.{IsAscending}
use Rattle.scene_kinds.specs.Schema.{Kinds, fits_kind, is_good_name, shape_of}
use Rattle.scene_kinds.specs.Shape.{shape_of_value}
use Rattle.scene_kinds.proofs.Choices.{test_parts}
use Rattle.scene_deltas.specs.declared.delta.Delta.{Delta}
use Rattle.scene_deltas.specs.declared.delta.Delta.TheVariants.{Spawned, Despawned, Shifted, CellSet, Linked, ResourceSet}
use Rattle.scene_journal.specs.Records.{Record, record_of}
use Rattle.scene_json_forms.specs.declared.fault.FileFault.{FileFault}
use Rattle.scene_json_forms.specs.Reading.{◌>>=◌, field, if_good, below, list_of, under, place_in}
use Rattle.scene_json_forms.specs.Text.{count_text, list_text, entity_json, value_text, resource_cell_text}
use Rattle.scene_json_forms.specs.Walk.{u32_at, tick_at, entity_at, name_at, cell_from, resource_cell_at}
use Rattle.scene_json_forms.proofs.FitKinds.{Fits, fits_is, all_above}
use Rattle.scene_json_forms.proofs.GoodSteps.{both_pass}
use Rattle.scene_json_forms.proofs.ListsBack.{ReadsBack, Follow, after, good, below_back, list_back, rising_back}
use Rattle.scene_json_forms.proofs.ValuesBack.{entity_back, cell_from_back, resource_cell_back}
use Rattle.scene_file_records.specs.Text.{maybe_text, kcell_text, kcells_text, parent_text, link_text, maybe_resource_cell_text, delta_text, record_text, records_text}
use Rattle.scene_file_records.specs.Walk.{maybe_of, kind_at, kcell_at, kcells_at, kind_follows, parent_at, link_at, maybe_resource_cell_at, delta_at, record_at, records_at}
use Rattle.scene_file_records.specs.Writable.{IsPlace, IsCellOf, AreCells, IsLink, IsResourceCell, IsWritableDelta, IsWritable}

-- ---- cells

kind_back : (schema : Kinds) (v : Value) (kind : ℕ) → Fits schema v kind → (path : List ℕ) → kind_at schema path (count_text kind)
    ≡ Ok (kind, shape_of_value v)
kind_back schema v kind f path =
    after (below (length schema) path (count_text kind)) kind (λ k. field path (shape_of schema k) >>= λ shape. Ok (k, shape))
    (Ok (kind, shape_of_value v)) (below_back (length schema) kind f.low path) (ap (λ o. field path o >>= λ shape. Ok (kind, shape)) f.shape)

kcell_back : (schema : Kinds) (c : ℕ × Cell) → IsCellOf schema c.0 c.1 → ReadsBack (kcell_at schema) kcell_text c
kcell_back schema c h path =
    let f = fits_is schema c.1.value c.0 h in
    let s : Shape = shape_of_value c.1.value in
    after (kind_at schema (place_in path 0) (count_text c.0)) (c.0, s)
    (λ kind. cell_from kind.1 path 1 (value_text c.1.value) (count_text c.1.added) (count_text c.1.changed) >>= λ cell. Ok (kind.0, cell)) (Ok c)
    (kind_back schema c.1.value c.0 f (place_in path 0))
    (after (cell_from s path 1 (value_text c.1.value) (count_text c.1.added) (count_text c.1.changed)) c.1 (λ cell. Ok (c.0, cell)) (Ok c)
    (cell_from_back c.1 f.range path 1) refl)

each_kcell_back : (schema : Kinds) (cells : List (ℕ × Cell)) → list_all (λ c. fits_kind schema c.1.value c.0) cells ≡ true
    → AllByRecursion (ReadsBack (kcell_at schema) kcell_text) cells
each_kcell_back schema [] h = tt
each_kcell_back schema (c ∷ cs) h =
    let k = both_pass (fits_kind schema c.1.value c.0) (list_all (λ c. fits_kind schema c.1.value c.0) cs) h in
    (kcell_back schema c k.0, each_kcell_back schema cs k.1)

-- cells whose kinds ascend follow one another
follow_after : (before : ℕ × Cell) (cells : List (ℕ × Cell)) → IsAscending cells → AllByRecursion (λ c. before.0 < c.0) cells
    → Follow kind_follows (Some before) cells
follow_after before [] s h = tt
follow_after before (c ∷ cs) s h =
    let p = test_parts (below_all nat_cmp c.0 cs) (is_sorted nat_cmp cs) s in
    (lt-ltb before.0 c.0 h.0, follow_after c cs p.1 (all_above c.0 cs p.0))

follow : (cells : List (ℕ × Cell)) → IsAscending cells → Follow kind_follows None cells
follow [] s = tt
follow (c ∷ cs) s = let p = test_parts (below_all nat_cmp c.0 cs) (is_sorted nat_cmp cs) s in (refl, follow_after c cs p.1 (all_above c.0 cs p.0))

kcells_back : (schema : Kinds) (cells : List (ℕ × Cell)) → AreCells schema cells → ReadsBack (kcells_at schema) kcells_text cells
kcells_back schema cells h = rising_back (kcell_at schema) kcell_text kind_follows cells (each_kcell_back schema cells h.fit) (follow cells h.ascending)

-- ---- what may be missing

maybe_back : {A : Type 0} (read : List ℕ → Data → Result A FileFault) (text : A → Data) → ((a : A) → is_some (as_null (text a)) ≡ false)
    → (o : Option A) → IfSome o (ReadsBack read text)
    → ReadsBack (maybe_of read) (maybe_text text) o
maybe_back read text some None h path = refl
maybe_back read text some (Some a) h path =
    ap (λ b. cond b (Ok None) (read path (text a) >>= λ x. Ok (Some x))) (some a)
    ∙ after (read path (text a)) a (λ x. Ok (Some x)) (Ok (Some a)) (h path) refl

place_back : (place : ℕ) → IsPlace place → ReadsBack u32_at count_text place
place_back place h = below_back (2 ^ 32) place h

parent_back : (link : Entity × ℕ) → IsLink link → ReadsBack parent_at parent_text link
parent_back link h path =
    after (entity_at (place_in path 0) (entity_json link.0)) link.0
    (λ parent. u32_at (place_in path 1) (count_text link.1) >>= λ place. Ok (parent, place)) (Ok link) (entity_back link.0 h.0 (place_in path 0))
    (after (u32_at (place_in path 1) (count_text link.1)) link.1 (λ place. Ok (link.0, place)) (Ok link) (place_back link.1 h.1 (place_in path 1)) refl)

link_back : (link : Option (Entity × ℕ)) → IfSome link IsLink → ReadsBack link_at link_text link
link_back None h = maybe_back parent_at parent_text (λ l. refl) None tt
link_back (Some l) h = maybe_back parent_at parent_text (λ l. refl) (Some l) (parent_back l h)

maybe_cell_back : (cell : Option Cell) → IfSome cell IsResourceCell → ReadsBack maybe_resource_cell_at maybe_resource_cell_text cell
maybe_cell_back None h = maybe_back resource_cell_at resource_cell_text (λ c. refl) None tt
maybe_cell_back (Some c) h = maybe_back resource_cell_at resource_cell_text (λ c. refl) (Some c) (resource_cell_back c h)

name_back : (name : List ℕ) → is_good_name name ≡ true → ReadsBack name_at string name
name_back name h path = good path (is_good_name name) name h

-- ---- deltas

-- each key is read again, one after another
delta_back : (schema : Kinds) (d : Delta) → IsWritableDelta schema d → ReadsBack (delta_at schema) delta_text d
delta_back schema (Spawned e cells fresh) h path = λ i.
    kcells_back schema cells h.0 (under path (codes "cells")) i >>= λ cs. entity_back e h.1 (under path (codes "entity")) i
    >>= λ x. Ok (Spawned x cs fresh)
delta_back schema (Despawned e place cells link retired) h path = λ i.
    kcells_back schema cells h.0 (under path (codes "cells")) i >>= λ cs. entity_back e h.1 (under path (codes "entity")) i
    >>= λ x. link_back link h.2 (under path (codes "link")) i >>= λ l. place_back place h.3 (under path (codes "place")) i
    >>= λ p. Ok (Despawned x p cs l retired)
delta_back schema (Shifted e place kind cell inward) h path = λ i.
    kcell_back schema (kind, cell) h.0 (under path (codes "cell")) i >>= λ c. entity_back e h.1 (under path (codes "entity")) i
    >>= λ x. place_back place h.2 (under path (codes "place")) i >>= λ p. Ok (Shifted x p c.0 c.1 inward)
delta_back schema (CellSet e kind old new) h path =
    let set : Entity → ℕ × Cell → ℕ × Cell → Result Delta FileFault =
    λ x b a. if_good (under path (codes "after")) (nat_eq a.0 b.0) (CellSet x a.0 b.1 a.1) in
    let read : delta_at schema path (delta_text (CellSet e kind old new)) ≡ set e (kind, old) (kind, new) = λ i.
    kcell_back schema (kind, new) h.0 (under path (codes "after")) i >>= λ a. kcell_back schema (kind, old) h.1 (under path (codes "before")) i
    >>= λ b. entity_back e h.2 (under path (codes "entity")) i >>= λ x. set x b a in
    read ∙ good (under path (codes "after")) (nat_eq kind kind) (CellSet e kind old new) (eq-eqb kind kind refl)
delta_back schema (Linked e old new) h path = λ i.
    link_back new h.0 (under path (codes "after")) i >>= λ a. link_back old h.1 (under path (codes "before")) i
    >>= λ b. entity_back e h.2 (under path (codes "entity")) i >>= λ x. Ok (Linked x b a)
delta_back schema (ResourceSet name old new) h path = λ i.
    maybe_cell_back new h.0 (under path (codes "after")) i >>= λ a. maybe_cell_back old h.1 (under path (codes "before")) i
    >>= λ b. name_back name h.2 (under path (codes "name")) i >>= λ n. Ok (ResourceSet n b a)

each_delta_back : (schema : Kinds) (ds : List Delta) → AllByRecursion (IsWritableDelta schema) ds
    → AllByRecursion (ReadsBack (delta_at schema) delta_text) ds
each_delta_back schema [] h = tt
each_delta_back schema (d ∷ ds) h = (delta_back schema d h.0, each_delta_back schema ds h.1)

-- ---- records

record_back : (schema : Kinds) (r : Record) → IsWritable schema r → ReadsBack (record_at schema) record_text r
record_back schema r h path =
    after (list_of (delta_at schema) (under path (codes "deltas")) (list_text delta_text r.deltas)) r.deltas
    (λ ds. tick_at (under path (codes "tick")) (count_text r.tick_before) >>= λ tick. Ok (record_of tick ds)) (Ok r)
    (list_back (delta_at schema) delta_text r.deltas (each_delta_back schema r.deltas h) (under path (codes "deltas"))) refl

each_record_back : (schema : Kinds) (rs : List Record) → AllByRecursion (IsWritable schema) rs
    → AllByRecursion (ReadsBack (record_at schema) record_text) rs
each_record_back schema [] h = tt
each_record_back schema (r ∷ rs) h = (record_back schema r h.0, each_record_back schema rs h.1)

-- records that can be written are read again
pub records_back : (schema : Kinds) (rs : List Record) → AllByRecursion (IsWritable schema) rs → ReadsBack (records_at schema) records_text rs
records_back schema rs h = list_back (record_at schema) record_text rs (each_record_back schema rs h)
