-- An accepted change of a resource keeps a valid world valid.
use Rattle.std.proofs.Common.{◌≡◌, ℕ, true, false, cond, List, refl, ap, subst, sym, ◌∙◌, Option, Some, None, Ok}
use Rattle.scene_kinds.specs.declared.cell.Cell.{Cell}
use Rattle.scene_kinds.specs.declared.value.Value.{Value}
use Rattle.scene_kinds.specs.Schema.{is_good_name}
use Rattle.scene_kinds.proofs.Maps.{equal_keys}
use Rattle.scene_kinds.specs.Cells.{put_over}
use Rattle.scene_kinds.specs.Ranges.{is_in_range}
use Rattle.scene_resources.specs.Resources.{NamedCells, name_cmp_exact, cell_of, put_of, restore_of, taken, take_of}
use Rattle.scene_resources.proofs.ResourceLaws.{is_name, restored_cells}
use Rattle.scene_model.specs.World.{World}
use Rattle.scene_model.specs.Commands.{in_world, with_resources, put_resource, remove_resource}
use Rattle.scene_model.specs.Valid.{IsValid, IsResource, ResourcesAreSound, is_timely}
use Rattle.scene_model.proofs.NewCells.{timely_new, timely_there}
use Rattle.scene_model.proofs.Outcomes.{not_ok, same_world}
use Rattle.scene_model.proofs.Parts.{allowed, lifted_part, done_part}

-- other resources keep a valid world valid, where each is sound
pub resources_valid : (w : World) (r : NamedCells) → IsValid w → ResourcesAreSound w.tick r → IsValid (with_resources w r)
resources_valid w r v sound = record {
  schema = v.schema;
  slots = v.slots;
  tick = v.tick;
  rows = v.rows;
  accounted = v.accounted;
  links = v.links;
  resources = sound;
}

-- the cell of one name is another, or none
pub restored_valid : (w : World) (name : List ℕ) (o : Option Cell) → IsValid w → ((cell : Cell) → o ≡ Some cell → IsResource w.tick name cell) → IsValid (with_resources w (restore_of w.resources name o))
restored_valid w name o v new = resources_valid w (restore_of w.resources name o) v (λ q cell at.
    elim (is_name q name) as (λ b. is_name q name ≡ b → cond b o (cell_of w.resources q) ≡ Some cell → IsResource w.tick q cell) [
      | true ↦ λ e h. subst (λ (n : List ℕ). IsResource w.tick n cell) (sym (equal_keys name_cmp_exact q name e)) (new cell h)
      | false ↦ λ e h. v.resources q cell h
    ] refl (sym (restored_cells w.resources name o q) ∙ at))

-- a value put over a cell of before
put_timely : (tick : ℕ) (value : Value) (o : Option Cell) → ((c : Cell) → o ≡ Some c → is_timely tick c ≡ true) → is_timely tick (put_over o value tick) ≡ true
put_timely tick value None old = timely_new tick value
put_timely tick value (Some c) old = timely_there tick c value (old c refl)

put_value : (tick : ℕ) (value : Value) (o : Option Cell) → (put_over o value tick).value ≡ value
put_value tick value None = refl
put_value tick value (Some c) = refl

-- a value put at a good name
pub put_valid : (w : World) (name : List ℕ) (value : Value) → IsValid w → is_good_name name ≡ true → is_in_range value ≡ true → IsValid (with_resources w (put_of w.resources name value w.tick))
put_valid w name value v good held =
    let old = cell_of w.resources name in
    let cell = put_over old value w.tick in
    restored_valid w name (Some cell) v (λ c e.
    let same : cell ≡ c = cc in
    subst (IsResource w.tick name) same (record {
      good = good;
      in_range = ap is_in_range (put_value w.tick value old) ∙ held;
      timely = put_timely w.tick value old (λ d k. (v.resources name d k).timely);
    }))

-- the resources after one was taken that was there
pub taken_valid : (w : World) (name : List ℕ) (c : Cell) (r : NamedCells) → IsValid w → take_of w.resources name ≡ Ok (c, r) → IsValid (with_resources w r)
taken_valid w name c r v made =
    elim (cell_of w.resources name) as (λ o. taken w.resources name o ≡ Ok (c, r) → IsValid (with_resources w r)) [
      | None ↦ λ h. absurd (not_ok (c, r) _ h)
      | Some x ↦ λ h. subst (λ s. IsValid (with_resources w s)) (same_world x c _ r h).1 (restored_valid w name None v (λ y e. absurd (let k : None ≡ Some y = e in cc)))
    ] made

pub put_resource_keeps : (w v : World) (name : List ℕ) (value : Value) → IsValid w → is_in_range value ≡ true → put_resource w name value ≡ Ok (tt, v) → IsValid v
put_resource_keeps w v name value valid held is =
    let good = allowed (is_good_name name) _ _ (tt, v) is in
    subst IsValid (same_world tt tt _ v good.1).1 (put_valid w name value valid good.0 held)

pub remove_resource_keeps : (w v : World) (name : List ℕ) → IsValid w → remove_resource w name ≡ Ok (tt, v) → IsValid v
remove_resource_keeps w v name valid is =
    let told = done_part (in_world (take_of w.resources name) (with_resources w)) v is in
    let made = lifted_part (take_of w.resources name) (with_resources w) told.0 v told.1 in
    subst IsValid made.1.1 (taken_valid w name told.0 made.0 valid made.1.0)
