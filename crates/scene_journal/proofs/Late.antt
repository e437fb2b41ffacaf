-- The tick of a world may be set to the one before it just where no cell was changed at the world's own tick, and such
-- a cell stands at a spot that is listed.
use Rattle.std.proofs.Common.{◌≡◌, ℕ, zero, suc, ◌+◌, ◌≤◌, Bool, true, false, cond, ◌&&◌, List, [], ◌∷◌, refl, ap, sym, ◌∙◌, arith, Option, Some, None}
use Rattle.std.specs.Prelude.{Contains, nat_le, option_map, slice_get}
use Rattle.std.specs.List.{list_all}
use Rattle.std.specs.Ordering.{nat_cmp, eq_by_cmp}
use Rattle.std.specs.Cmp.{nat_cmp_total}
use Rattle.std.specs.FinMap.{nat_cmp-IsAntisymmetric}
use Rattle.std.proofs.lemmas.Bool.{and_parts, le-leb, leb-true}
use Rattle.std.proofs.lemmas.Bool.Decides.{nat_tests, same_from_decides}
use Rattle.std.proofs.lemmas.Option.{slice_get-get_or}
use Rattle.scene_kinds.specs.declared.cell.Cell.{Cell}
use Rattle.scene_kinds.specs.Cells.{IsAscending, cell_of}
use Rattle.scene_kinds.proofs.CellLaws.{below_none, first_below, rest_ascends}
use Rattle.scene_kinds.proofs.Maps.{equal_keys, ties_itself}
use Rattle.scene_resources.specs.Resources.{cell_of as resource_of}
use Rattle.scene_model.specs.World.{World}
use Rattle.scene_model.specs.Valid.{IsValid, is_timely}
use Rattle.scene_model.specs.Can.{can_set_tick}
use Rattle.scene_model.specs.Raw.{cells_of, listed_cells}
use Rattle.scene_model.proofs.CanParts.{CanSetTick, set_tick}
use Rattle.scene_model.proofs.RowOf.{has_cell, row_stands, row_there}
use Rattle.scene_model.proofs.TimelyTests.{passed_at, pass_all}
use Rattle.scene_journal.specs.declared.spot.Spot.{Spot}
use Rattle.scene_journal.specs.declared.spot.Spot.TheVariants.{Component, Resource}
use Rattle.scene_journal.specs.Newest.{Newest, Covers, IsListed, changed_in, is_other, was_changed_otherwise}
use Rattle.scene_journal.proofs.Listed.{found_at}

-- what all elements pass, one of them passes
passed_in : {X : Type 0} (p : X → Bool) (xs : List X) (x : X) → list_all p xs ≡ true → Contains xs x → p x ≡ true
passed_in p xs x all there = passed_at p xs there.0 x all (slice_get-get_or xs there.0 x there.1 ∙ ap (λ y. Some y) there.2)

-- where kinds ascend, a cell is the one of its kind
at_found : (cells : List (ℕ × Cell)) (i : ℕ) (c : ℕ × Cell) → IsAscending cells → slice_get cells i ≡ Some c → cell_of cells c.0 ≡ Some c.1
at_found [] i c h at = absurd (let k : None ≡ Some c = at in cc)
at_found (e ∷ es) zero c h at =
    let same : e ≡ c = cc in
    let test : eq_by_cmp nat_cmp c.0 e.0 ≡ true = ap (λ (x : ℕ × Cell). eq_by_cmp nat_cmp c.0 x.0) same ∙ ties_itself nat_cmp_total c.0 in
    ap (λ b. cond b (Some e.1) (cell_of es c.0)) test ∙ ap (λ (x : ℕ × Cell). Some x.1) same
at_found (e ∷ es) (suc i) c h at =
    let later = at_found es i c (rest_ascends e es h) at in
    elim (eq_by_cmp nat_cmp c.0 e.0) as (λ b. eq_by_cmp nat_cmp c.0 e.0 ≡ b → cond b (Some e.1) (cell_of es c.0) ≡ Some c.1) [
      | true ↦ λ t.
          let key = equal_keys nat_cmp-IsAntisymmetric c.0 e.0 t in
          absurd (let wrong : None ≡ Some c.1 = sym (below_none e.0 es (first_below e es h)) ∙ (ap (cell_of es) (sym key) ∙ later) in cc)
      | false ↦ λ t. later
    ] refl

-- ---- one cell

-- it was changed no later than the tick before, where it wasn't changed now
earlier : (now tick : ℕ) (c : Cell) → now ≡ tick + 1 → is_timely now c ≡ true → (c.changed ≡ now → ⊥) → is_timely tick c ≡ true
earlier now tick c is timely other =
    let parts = and_parts (nat_le c.added c.changed) (nat_le c.changed now) timely in
    let low = leb-true c.changed now parts.1 in
    let lower : c.changed ≤ tick = omega (arith, is, other, low) in
    ap (λ b. b && nat_le c.changed tick) parts.0 ∙ le-leb c.changed tick lower

-- and the other way round
not_now : (now tick : ℕ) (c : Cell) → now ≡ tick + 1 → is_timely tick c ≡ true → is_other now (Some c.changed) ≡ true
not_now now tick c is timely =
    let parts = and_parts (nat_le c.added c.changed) (nat_le c.changed tick) timely in
    let low = leb-true c.changed tick parts.1 in
    let other : c.changed ≡ now → ⊥ = λ same. omega (arith, same, is, low) in
    grind (arith, nat_tests)

now_is_not : (now : ℕ) (c : Cell) → c.changed ≡ now → is_other now (Some c.changed) ≡ true → ⊥
now_is_not now c is other = grind (arith, nat_tests)

-- ---- all cells

module _ (n : Newest) (w : World) (tick age : ℕ) (spots : List Spot) (v : IsValid w) (covers : Covers n w) (is : w.tick ≡ tick + 1)
    (old : w.tick + age ≡ n.opening) (here : slice_get n.by_age age ≡ Some spots) where
  -- a cell that was changed now doesn't pass
  not_changed_now : (spot : Spot) (c : Cell) → list_all (was_changed_otherwise w w.tick) spots ≡ true → changed_in w spot ≡ Some c.changed
      → IsListed n c.changed spot → c.changed ≡ w.tick → ⊥
  not_changed_now spot c all found listed same =
      now_is_not w.tick c same
      (ap (is_other w.tick) (sym found) ∙ passed_in (was_changed_otherwise w w.tick) spots spot all (listed age spots (ap (λ t. t + age) same ∙ old) here))

  can_set : list_all (was_changed_otherwise w w.tick) spots ≡ true → CanSetTick w tick
  can_set all = record {
    low = let most = v.tick in omega (arith, most, is);
    rows = λ h row at. pass_all (λ c. is_timely tick c.1) row.cells (λ i c there.
        let sound = v.rows.each h row at in
        let found = at_found row.cells i c sound.fits.kinds.ascending there in
        earlier w.tick tick c.1 is (passed_at (λ x. is_timely w.tick x.1) row.cells i c sound.timely there)
        (not_changed_now (Component row.entity c.0) c.1 all
        (ap (λ o. option_map (λ (x : Cell). x.changed) (cell_of (listed_cells o) c.0)) (row_stands w row.entity h row v.rows.once at refl) ∙ ap (option_map (λ (x : Cell). x.changed)) found)
        (covers.rows h row at c.0 c.1 found)));
    resources = λ name cell at. earlier w.tick tick cell is (v.resources name cell at).timely
        (not_changed_now (Resource name) cell all (ap (option_map (λ (x : Cell). x.changed)) at) (covers.resources name cell at));
  }

  spot_passes : CanSetTick w tick → (spot : Spot) → was_changed_otherwise w w.tick spot ≡ true
  spot_passes can (Component e kind) = from (cell_of (cells_of w e) kind) refl
    where
      from : (o : Option Cell) → cell_of (cells_of w e) kind ≡ o → is_other w.tick (option_map (λ (x : Cell). x.changed) o) ≡ true
      from None q = refl
      from (Some c) q = has_cell _ w e kind c q (λ h row stands found.
          let at = found_at nat_cmp-IsAntisymmetric row.cells kind c found in
          not_now w.tick tick c is (passed_at (λ x. is_timely tick x.1) row.cells at.0 (kind, c) (can.rows h row (row_there w e h row stands).0) at.1))
  spot_passes can (Resource name) = from (resource_of w.resources name) refl
    where
      from : (o : Option Cell) → resource_of w.resources name ≡ o → is_other w.tick (option_map (λ (x : Cell). x.changed) o) ≡ true
      from None q = refl
      from (Some c) q = not_now w.tick tick c is (can.resources name c q)

  pub late_listed : list_all (was_changed_otherwise w w.tick) spots ≡ can_set_tick w tick
  late_listed = same_from_decides _ _ (can_set, λ can. pass_all (was_changed_otherwise w w.tick) spots (λ i spot at. spot_passes can spot)) (set_tick w tick)
