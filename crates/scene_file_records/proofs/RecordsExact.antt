-- What is read of records is just what stands there: the value is their text.
use Rattle.std.proofs.Common.{◌≡◌, ℕ, List, [], ◌∷◌, Option, Some, None, Result, Ok, option_and_then, length, nat_eq, refl, ap, sym, subst, ◌∙◌, codes}
use Rattle.std.specs.List.{AllByRecursion}
use Rattle.std.proofs.lemmas.Bool.{eqb-true}
use Rattle.std.proofs.lemmas.Option.{same_Some}
use Rattle.serde_json.specs.Data.{Data, null, boolean, number, string, array, object, Members}
use Rattle.serde_json.specs.Find.{as_bool, as_object, as_str, get_member}
use Rattle.serde_json.specs.Read.{read}
use Rattle.scene_kinds.specs.declared.cell.Cell.{Cell}
use Rattle.scene_kinds.specs.declared.entity.Entity.{Entity}
use Rattle.scene_kinds.specs.declared.shape.Shape.{Shape}
use Rattle.scene_kinds.specs.Schema.{Kinds, shape_of}
use Rattle.scene_deltas.specs.declared.delta.Delta.{Delta}
use Rattle.scene_deltas.specs.declared.delta.Delta.TheVariants.{Spawned, Despawned, Shifted, CellSet, Linked, ResourceSet}
use Rattle.scene_journal.specs.Records.{Record, record_of}
use Rattle.scene_json_forms.specs.declared.fault.FileFault.{FileFault}
use Rattle.scene_json_forms.specs.Reading.{◌>>=◌, field, if_good, below, list_at, list_of, place_in, under, object_at, key_of}
use Rattle.scene_json_forms.specs.Text.{array_of, list_text, count_text, entity_json, resource_cell_text}
use Rattle.scene_json_forms.specs.Walk.{u32_at, tick_at, entity_at, name_at, cell_from, resource_cell_at}
use Rattle.scene_json_forms.proofs.GoodSteps.{ok_after, good_was, ok_is, no_field, field_was, then_was}
use Rattle.scene_json_forms.proofs.ListsExact.{IsExact, IsObject, list_was, list_exact, rising_exact, key_exact, object_was, object_is}
use Rattle.scene_json_forms.proofs.ReadValues.{IsRead, value_read}
use Rattle.scene_json_forms.proofs.ValuesExact.{not_there, string_was, bool_was, chosen, below_exact, tick_exact, entity_exact, name_exact, resource_cell_exact, cell_was}
use Rattle.scene_file_records.specs.declared.op.Op.{Op}
use Rattle.scene_file_records.specs.declared.op.Op.TheVariants as op
use Rattle.scene_file_records.specs.Op.{op_name, op_named, op_keys}
use Rattle.scene_file_records.specs.Text.{maybe_text, kcell_text, kcells_text, parent_text, link_text, maybe_resource_cell_text, op_text, delta_text, record_text, records_text}
use Rattle.scene_file_records.specs.Walk.{flag_at, maybe_of, kind_at, kcell_parts, kcell_at, kcells_at, kind_follows, parent_parts, parent_at, link_at, maybe_resource_cell_at, spawned_of, despawned_of, shifted_of, cell_set_of, linked_of, resource_set_of, delta_of, op_at, op_of, delta_at, record_at, records_at}

-- ---- parts of deltas

flag_exact : IsExact flag_at boolean
flag_exact path d b r h = bool_was d b (field_was path (as_bool d) b h)

kind_exact : (schema : Kinds) (path : List ℕ) (d : Data) (kind : ℕ × Shape) → IsRead d → kind_at schema path d ≡ Ok kind → d ≡ count_text kind.0
kind_exact schema path d kind r h =
    let p = ok_after (below (length schema) path d) (λ n. field path (shape_of schema n) >>= λ shape. Ok (n, shape)) kind h in
    let q = ok_after (field path (shape_of schema p.0)) (λ shape. Ok (p.0, shape)) kind p.2 in
    below_exact (length schema) path d p.0 r p.1 ∙ ap (λ (k : ℕ × Shape). count_text k.0) (ok_is (p.0, q.0) kind q.2)

kcell_list : (schema : Kinds) (path : List ℕ) (ds : List Data) (cell : ℕ × Cell) → AllByRecursion IsRead ds → kcell_parts schema path ds ≡ Ok cell
    → array_of ds ≡ kcell_text cell
kcell_list schema path [] cell r h = no_field path cell h
kcell_list schema path (k ∷ []) cell r h = no_field path cell h
kcell_list schema path (k ∷ v ∷ []) cell r h = no_field path cell h
kcell_list schema path (k ∷ v ∷ a ∷ []) cell r h = no_field path cell h
kcell_list schema path (k ∷ v ∷ a ∷ c ∷ []) cell r h =
    let p = ok_after (kind_at schema (place_in path 0) k) (λ kind. cell_from kind.1 path 1 v a c >>= λ made. Ok (kind.0, made)) cell h in
    let q = ok_after (cell_from p.0.1 path 1 v a c) (λ made. Ok (p.0.0, made)) cell p.2 in
    let number = kind_exact schema (place_in path 0) k p.0 r.0 p.1 in
    let w = cell_was p.0.1 path 1 v a c q.0 r.1.0 r.1.1.0 r.1.1.1.0 q.1 in
    (λ i. array_of (number i ∷ w.value i ∷ w.added i ∷ w.changed i ∷ [])) ∙ ap kcell_text (ok_is (p.0.0, q.0) cell q.2)
kcell_list schema path (k ∷ v ∷ a ∷ c ∷ d ∷ ds) cell r h = no_field path cell h

kcell_exact : (schema : Kinds) → IsExact (kcell_at schema) kcell_text
kcell_exact schema path d cell r h =
    let p = ok_after (list_at path d) (kcell_parts schema path) cell h in
    let w = list_was path d p.0 p.1 r in
    w.0 ∙ kcell_list schema path p.0 cell w.1 p.2

kcells_exact : (schema : Kinds) → IsExact (kcells_at schema) kcells_text
kcells_exact schema path d cells r h = (rising_exact (kcell_at schema) kcell_text (kcell_exact schema) kind_follows path d cells r h).0

parent_list : (path : List ℕ) (ds : List Data) (link : Entity × ℕ) → AllByRecursion IsRead ds → parent_parts path ds ≡ Ok link
    → array_of ds ≡ parent_text link
parent_list path [] link r h = no_field path link h
parent_list path (p ∷ []) link r h = no_field path link h
parent_list path (p ∷ i ∷ []) link r h =
    let a = ok_after (entity_at (place_in path 0) p) (λ parent. u32_at (place_in path 1) i >>= λ place. Ok (parent, place)) link h in
    let b = ok_after (u32_at (place_in path 1) i) (λ place. Ok (a.0, place)) link a.2 in
    let parent = entity_exact (place_in path 0) p a.0 r.0 a.1 in
    let place = below_exact 4294967296 (place_in path 1) i b.0 r.1.0 b.1 in
    (λ t. array_of (parent t ∷ place t ∷ [])) ∙ ap parent_text (ok_is (a.0, b.0) link b.2)
parent_list path (p ∷ i ∷ d ∷ ds) link r h = no_field path link h

parent_exact : IsExact parent_at parent_text
parent_exact path d link r h =
    let p = ok_after (list_at path d) (parent_parts path) link h in
    let w = list_was path d p.0 p.1 r in
    w.0 ∙ parent_list path p.0 link w.1 p.2

module _ {A : Type 0} (reads : List ℕ → Data → Result A FileFault) (text : A → Data) (exact : IsExact reads text) where
  there : (path : List ℕ) (d : Data) (o : Option A) → IsRead d → (reads path d >>= λ a. Ok (Some a)) ≡ Ok o → d ≡ maybe_text text o
  there path d o r h =
      let p = ok_after (reads path d) (λ a. Ok (Some a)) o h in
      exact path d p.0 r p.1 ∙ ap (maybe_text text) (ok_is (Some p.0) o p.2)

  maybe_exact : IsExact (maybe_of reads) (maybe_text text)
  maybe_exact path null o r h = ap (maybe_text text) (ok_is None o h)
  maybe_exact path (boolean b) o r h = there path (boolean b) o r h
  maybe_exact path (number n) o r h = there path (number n) o r h
  maybe_exact path (string s) o r h = there path (string s) o r h
  maybe_exact path (array ds) o r h = there path (array ds) o r h
  maybe_exact path (object ms) o r h = there path (object ms) o r h

link_exact : IsExact link_at link_text
link_exact = maybe_exact parent_at parent_text parent_exact

maybe_cell_exact : IsExact maybe_resource_cell_at maybe_resource_cell_text
maybe_cell_exact = maybe_exact resource_cell_at resource_cell_text resource_cell_exact

place_exact : IsExact u32_at count_text
place_exact = below_exact 4294967296

-- ---- what a delta does

op_was : (name : List ℕ) (o : Op) → op_named name ≡ Some o → name ≡ op_name o
op_was name o h =
    chosen op_name name op.Spawned o _ h (λ h. chosen op_name name op.Despawned o _ h (λ h. chosen op_name name op.Shifted o _ h
    (λ h. chosen op_name name op.CellSet o _ h (λ h. chosen op_name name op.Linked o _ h (λ h. chosen op_name name op.ResourceSet o None h
    (λ h. not_there o h))))))

op_exact : IsExact op_at op_text
op_exact path d o r h =
    let p = then_was op_named (as_str d) o (field_was path (option_and_then op_named (as_str d)) o h) in
    string_was d p.0 p.1 ∙ ap string (op_was p.0 o p.2)

-- ---- deltas, of which the keys are known

-- an object of the keys of an `op`, which it has
record IsDelta (o : Op) (d : Data) (ms : Members) : Type 0 where
  keys : IsObject (op_keys o) d ms
  own : get_member (codes "op") ms ≡ Some (op_text o)

module _ (schema : Kinds) (path : List ℕ) (d : Data) (ms : Members) (x : Delta) where
  spawned_exact : IsDelta op.Spawned d ms → spawned_of schema path ms ≡ Ok x → d ≡ delta_text x
  spawned_exact w h =
      let a = ok_after (key_of (kcells_at schema) path (codes "cells") ms)
      (λ cells. key_of entity_at path (codes "entity") ms
      >>= λ entity. key_of flag_at path (codes "fresh") ms >>= λ fresh. Ok (Spawned entity cells fresh)) x h in
      let b = ok_after (key_of entity_at path (codes "entity") ms)
      (λ entity. key_of flag_at path (codes "fresh") ms >>= λ fresh. Ok (Spawned entity a.0 fresh)) x a.2 in
      let c = ok_after (key_of flag_at path (codes "fresh") ms) (λ fresh. Ok (Spawned b.0 a.0 fresh)) x b.2 in
      object_is ((codes "cells", kcells_text a.0) ∷ (codes "entity", entity_json b.0) ∷ (codes "fresh", boolean c.0)
      ∷ (codes "op", op_text op.Spawned) ∷ []) d ms w.keys (tt, (refl, (refl, (refl, tt)))) (
        key_exact (kcells_at schema) kcells_text (kcells_exact schema) path (codes "cells") ms a.0 w.keys.read a.1,
        (
          key_exact entity_at entity_json entity_exact path (codes "entity") ms b.0 w.keys.read b.1,
          (key_exact flag_at boolean flag_exact path (codes "fresh") ms c.0 w.keys.read c.1, (w.own, tt)),
        ),
      )
      ∙ ap delta_text (ok_is (Spawned b.0 a.0 c.0) x c.2)

  despawned_exact : IsDelta op.Despawned d ms → despawned_of schema path ms ≡ Ok x → d ≡ delta_text x
  despawned_exact w h =
      let a = ok_after (key_of (kcells_at schema) path (codes "cells") ms)
      (λ cells. key_of entity_at path (codes "entity") ms
      >>= λ entity. key_of link_at path (codes "link") ms
      >>= λ link. key_of u32_at path (codes "place") ms
      >>= λ place. key_of flag_at path (codes "retired") ms >>= λ retired. Ok (Despawned entity place cells link retired)) x h in
      let b = ok_after (key_of entity_at path (codes "entity") ms)
      (λ entity. key_of link_at path (codes "link") ms
      >>= λ link. key_of u32_at path (codes "place") ms
      >>= λ place. key_of flag_at path (codes "retired") ms >>= λ retired. Ok (Despawned entity place a.0 link retired)) x a.2 in
      let l = ok_after (key_of link_at path (codes "link") ms)
      (λ link. key_of u32_at path (codes "place") ms
      >>= λ place. key_of flag_at path (codes "retired") ms >>= λ retired. Ok (Despawned b.0 place a.0 link retired)) x b.2 in
      let p = ok_after (key_of u32_at path (codes "place") ms)
      (λ place. key_of flag_at path (codes "retired") ms >>= λ retired. Ok (Despawned b.0 place a.0 l.0 retired)) x l.2 in
      let c = ok_after (key_of flag_at path (codes "retired") ms) (λ retired. Ok (Despawned b.0 p.0 a.0 l.0 retired)) x p.2 in
      object_is ((codes "cells", kcells_text a.0) ∷ (codes "entity", entity_json b.0) ∷ (codes "link", link_text l.0)
      ∷ (codes "op", op_text op.Despawned) ∷ (codes "place", count_text p.0) ∷ (codes "retired", boolean c.0) ∷ []) d ms w.keys
      (tt, (refl, (refl, (refl, (refl, (refl, tt)))))) (
        key_exact (kcells_at schema) kcells_text (kcells_exact schema) path (codes "cells") ms a.0 w.keys.read a.1,
        (
          key_exact entity_at entity_json entity_exact path (codes "entity") ms b.0 w.keys.read b.1,
          (
            key_exact link_at link_text link_exact path (codes "link") ms l.0 w.keys.read l.1,
            (
              w.own,
              (
                key_exact u32_at count_text place_exact path (codes "place") ms p.0 w.keys.read p.1,
                (key_exact flag_at boolean flag_exact path (codes "retired") ms c.0 w.keys.read c.1, tt),
              ),
            ),
          ),
        ),
      )
      ∙ ap delta_text (ok_is (Despawned b.0 p.0 a.0 l.0 c.0) x c.2)

  shifted_exact : IsDelta op.Shifted d ms → shifted_of schema path ms ≡ Ok x → d ≡ delta_text x
  shifted_exact w h =
      let a = ok_after (key_of (kcell_at schema) path (codes "cell") ms)
      (λ cell. key_of entity_at path (codes "entity") ms
      >>= λ entity. key_of flag_at path (codes "inward") ms
      >>= λ inward. key_of u32_at path (codes "place") ms >>= λ place. Ok (Shifted entity place cell.0 cell.1 inward)) x h in
      let b = ok_after (key_of entity_at path (codes "entity") ms)
      (λ entity. key_of flag_at path (codes "inward") ms
      >>= λ inward. key_of u32_at path (codes "place") ms >>= λ place. Ok (Shifted entity place a.0.0 a.0.1 inward)) x a.2 in
      let c = ok_after (key_of flag_at path (codes "inward") ms)
      (λ inward. key_of u32_at path (codes "place") ms >>= λ place. Ok (Shifted b.0 place a.0.0 a.0.1 inward)) x b.2 in
      let p = ok_after (key_of u32_at path (codes "place") ms) (λ place. Ok (Shifted b.0 place a.0.0 a.0.1 c.0)) x c.2 in
      object_is ((codes "cell", kcell_text a.0) ∷ (codes "entity", entity_json b.0) ∷ (codes "inward", boolean c.0)
      ∷ (codes "op", op_text op.Shifted) ∷ (codes "place", count_text p.0) ∷ []) d ms w.keys (tt, (refl, (refl, (refl, (refl, tt))))) (
        key_exact (kcell_at schema) kcell_text (kcell_exact schema) path (codes "cell") ms a.0 w.keys.read a.1,
        (
          key_exact entity_at entity_json entity_exact path (codes "entity") ms b.0 w.keys.read b.1,
          (
            key_exact flag_at boolean flag_exact path (codes "inward") ms c.0 w.keys.read c.1,
            (w.own, (key_exact u32_at count_text place_exact path (codes "place") ms p.0 w.keys.read p.1, tt)),
          ),
        ),
      )
      ∙ ap delta_text (ok_is (Shifted b.0 p.0 a.0.0 a.0.1 c.0) x p.2)

  cell_set_exact : IsDelta op.CellSet d ms → cell_set_of schema path ms ≡ Ok x → d ≡ delta_text x
  cell_set_exact w h =
      let a = ok_after (key_of (kcell_at schema) path (codes "after") ms)
      (λ after. key_of (kcell_at schema) path (codes "before") ms
      >>= λ before. key_of entity_at path (codes "entity") ms
      >>= λ entity. if_good (under path (codes "after")) (nat_eq after.0 before.0) (CellSet entity after.0 before.1 after.1)) x h in
      let b = ok_after (key_of (kcell_at schema) path (codes "before") ms)
      (λ before. key_of entity_at path (codes "entity") ms
      >>= λ entity. if_good (under path (codes "after")) (nat_eq a.0.0 before.0) (CellSet entity a.0.0 before.1 a.0.1)) x a.2 in
      let e = ok_after (key_of entity_at path (codes "entity") ms)
      (λ entity. if_good (under path (codes "after")) (nat_eq a.0.0 b.0.0) (CellSet entity a.0.0 b.0.1 a.0.1)) x b.2 in
      let g = good_was (under path (codes "after")) (nat_eq a.0.0 b.0.0) (CellSet e.0 a.0.0 b.0.1 a.0.1) x e.2 in
      let same : b.0.0 ≡ a.0.0 = sym (eqb-true a.0.0 b.0.0 g.0) in
      let before : get_member (codes "before") ms ≡ Some (kcell_text (a.0.0, b.0.1)) =
      key_exact (kcell_at schema) kcell_text (kcell_exact schema) path (codes "before") ms b.0 w.keys.read b.1
      ∙ ap (λ k. Some (kcell_text (k, b.0.1))) same in
      object_is ((codes "after", kcell_text a.0) ∷ (codes "before", kcell_text (a.0.0, b.0.1)) ∷ (codes "entity", entity_json e.0)
      ∷ (codes "op", op_text op.CellSet) ∷ []) d ms w.keys (tt, (refl, (refl, (refl, tt)))) (
        key_exact (kcell_at schema) kcell_text (kcell_exact schema) path (codes "after") ms a.0 w.keys.read a.1,
        (before, (key_exact entity_at entity_json entity_exact path (codes "entity") ms e.0 w.keys.read e.1, (w.own, tt))),
      )
      ∙ ap delta_text g.1

  linked_exact : IsDelta op.Linked d ms → linked_of path ms ≡ Ok x → d ≡ delta_text x
  linked_exact w h =
      let a = ok_after (key_of link_at path (codes "after") ms)
      (λ after. key_of link_at path (codes "before") ms
      >>= λ before. key_of entity_at path (codes "entity") ms >>= λ entity. Ok (Linked entity before after)) x h in
      let b = ok_after (key_of link_at path (codes "before") ms)
      (λ before. key_of entity_at path (codes "entity") ms >>= λ entity. Ok (Linked entity before a.0)) x a.2 in
      let e = ok_after (key_of entity_at path (codes "entity") ms) (λ entity. Ok (Linked entity b.0 a.0)) x b.2 in
      object_is ((codes "after", link_text a.0) ∷ (codes "before", link_text b.0) ∷ (codes "entity", entity_json e.0)
      ∷ (codes "op", op_text op.Linked) ∷ []) d ms w.keys (tt, (refl, (refl, (refl, tt)))) (
        key_exact link_at link_text link_exact path (codes "after") ms a.0 w.keys.read a.1,
        (
          key_exact link_at link_text link_exact path (codes "before") ms b.0 w.keys.read b.1,
          (key_exact entity_at entity_json entity_exact path (codes "entity") ms e.0 w.keys.read e.1, (w.own, tt)),
        ),
      )
      ∙ ap delta_text (ok_is (Linked e.0 b.0 a.0) x e.2)

  resource_set_exact : IsDelta op.ResourceSet d ms → resource_set_of path ms ≡ Ok x → d ≡ delta_text x
  resource_set_exact w h =
      let a = ok_after (key_of maybe_resource_cell_at path (codes "after") ms)
      (λ after. key_of maybe_resource_cell_at path (codes "before") ms
      >>= λ before. key_of name_at path (codes "name") ms >>= λ name. Ok (ResourceSet name before after)) x h in
      let b = ok_after (key_of maybe_resource_cell_at path (codes "before") ms)
      (λ before. key_of name_at path (codes "name") ms >>= λ name. Ok (ResourceSet name before a.0)) x a.2 in
      let n = ok_after (key_of name_at path (codes "name") ms) (λ name. Ok (ResourceSet name b.0 a.0)) x b.2 in
      object_is ((codes "after", maybe_resource_cell_text a.0) ∷ (codes "before", maybe_resource_cell_text b.0) ∷ (codes "name", string n.0)
      ∷ (codes "op", op_text op.ResourceSet) ∷ []) d ms w.keys (tt, (refl, (refl, (refl, tt)))) (
        key_exact maybe_resource_cell_at maybe_resource_cell_text maybe_cell_exact path (codes "after") ms a.0 w.keys.read a.1,
        (
          key_exact maybe_resource_cell_at maybe_resource_cell_text maybe_cell_exact path (codes "before") ms b.0 w.keys.read b.1,
          (key_exact name_at string name_exact path (codes "name") ms n.0 w.keys.read n.1, (w.own, tt)),
        ),
      )
      ∙ ap delta_text (ok_is (ResourceSet n.0 b.0 a.0) x n.2)

  of_exact : (o : Op) → IsDelta o d ms → delta_of schema o path ms ≡ Ok x → d ≡ delta_text x
  of_exact op.Spawned w h = spawned_exact w h
  of_exact op.Despawned w h = despawned_exact w h
  of_exact op.Shifted w h = shifted_exact w h
  of_exact op.CellSet w h = cell_set_exact w h
  of_exact op.Linked w h = linked_exact w h
  of_exact op.ResourceSet w h = resource_set_exact w h

-- ---- deltas and records

delta_exact : (schema : Kinds) → IsExact (delta_at schema) delta_text
delta_exact schema path d x r h =
    let p = ok_after (op_of path d) (λ o. object_at (op_keys o) path d >>= delta_of schema o path) x h in
    let q = ok_after (object_at (op_keys p.0) path d) (delta_of schema p.0 path) x p.2 in
    let w = object_was (op_keys p.0) path d q.0 r q.1 in
    let s = ok_after (field path (as_object d)) (key_of op_at path (codes "op")) p.0 p.1 in
    let same : s.0 ≡ q.0 = same_Some s.0 q.0 (sym (field_was path (as_object d) s.0 s.1) ∙ ap as_object w.whole) in
    let own = key_exact op_at op_text op_exact path (codes "op") q.0 p.0 w.read
    (subst (λ ms. key_of op_at path (codes "op") ms ≡ Ok p.0) same s.2) in
    of_exact schema path d q.0 x p.0 (record { keys = w; own = own }) q.2

record_exact : (schema : Kinds) → IsExact (record_at schema) record_text
record_exact schema path d x r h =
    let o = ok_after (object_at (codes "deltas" ∷ codes "tick" ∷ []) path d)
    (λ ms. key_of (list_of (delta_at schema)) path (codes "deltas") ms
    >>= λ deltas. key_of tick_at path (codes "tick") ms >>= λ tick. Ok (record_of tick deltas)) x h in
    let w = object_was (codes "deltas" ∷ codes "tick" ∷ []) path d o.0 r o.1 in
    let a = ok_after (key_of (list_of (delta_at schema)) path (codes "deltas") o.0)
    (λ deltas. key_of tick_at path (codes "tick") o.0 >>= λ tick. Ok (record_of tick deltas)) x o.2 in
    let t = ok_after (key_of tick_at path (codes "tick") o.0) (λ tick. Ok (record_of tick a.0)) x a.2 in
    object_is ((codes "deltas", list_text delta_text a.0) ∷ (codes "tick", count_text t.0) ∷ []) d o.0 w (tt, (refl, tt)) (
      key_exact (list_of (delta_at schema)) (list_text delta_text) (list_exact (delta_at schema) delta_text (delta_exact schema)) path
          (codes "deltas") o.0 a.0 w.read a.1,
      (key_exact tick_at count_text tick_exact path (codes "tick") o.0 t.0 w.read t.1, tt),
    )
    ∙ ap record_text (ok_is (record_of t.0 a.0) x t.2)

-- what is read as records is their text
pub records_exact : (schema : Kinds) → IsExact (records_at schema) records_text
records_exact schema = list_exact (record_at schema) record_text (record_exact schema)

pub only_texts : (schema : Kinds) (path bytes : List ℕ) (d : Data) (rs : List Record) → read bytes ≡ Some d → records_at schema path d ≡ Ok rs
    → d ≡ records_text rs
only_texts schema path bytes d rs was h = records_exact schema path d rs (value_read bytes d was) h
