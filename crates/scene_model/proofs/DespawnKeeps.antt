-- An accepted despawn keeps a valid world valid.
use Rattle.std.proofs.Common.{◌≡◌, ℕ, ◌+◌, ◌<◌, true, false, ◌||◌, nat_eq, List, [], ◌∷◌, length, refl, ap, subst, sym, ◌∙◌, arith, Some, None, Ok, slice_get, slice_index, length-set, if◌then◌else◌}
use Rattle.std.specs.Prelude.{Result, Err, is_some, ◌==◌}
use Rattle.std.specs.List.{list_any}
use Rattle.std.proofs.lemmas.Bool.{or_right, eq-eqb, ne_eqb, eqb-true, eqb-false}
use Rattle.std.proofs.Math.Bool.{or-false}
use Rattle.std.proofs.lemmas.Bool.Decides.{nat_tests}
use Rattle.scene_kinds.specs.declared.entity.Entity.{Entity}
use Rattle.scene_kinds.specs.declared.cells.Row.{Row}
use Rattle.scene_kinds.specs.declared.fault.Fault.TheVariants.{HasChildren}
use Rattle.scene_kinds.specs.declared.refusal.Refusal.{Refusal}
use Rattle.scene_kinds.specs.Answers.{Outcome, Gives, refuse}
use Rattle.scene_kinds.specs.Lists.{listed}
use Rattle.scene_kinds.specs.Map as map
use Rattle.scene_alloc.specs.Slots.{SlotState, IsSlots, is_free, retires, release_of}
use Rattle.scene_alloc.proofs.SlotLaws.{freed, IsSlots-release}
use Rattle.scene_alloc.proofs.SlotParts.{CanRelease}
use Rattle.scene_links.specs.Forest.{Forest, cut, cut_from, children_of, parent_of, unlinked, unlink_of}
use Rattle.scene_links.proofs.LinkLaws.{cut_forest, cut_part, left_out}
use Rattle.scene_table.specs.declared.home.Home.{Home}
use Rattle.scene_model.specs.World.{World}
use Rattle.scene_table.specs.Tables.{lives, row_at, without_row}
use Rattle.scene_model.specs.Commands.{after_despawn, despawn}
use Rattle.scene_model.specs.Valid.{IsValid, IsSoundRow, is_live_index, is_retired}
use Rattle.scene_model.proofs.Outcomes.{not_ok, same_world, with_row_of}
use Rattle.scene_kinds.proofs.Elements.{written_stays}
use Rattle.scene_table.proofs.Standing.{each_removed, once_removed, removed_nowhere}
use Rattle.scene_table.proofs.Lives.{lives_removed}
use Rattle.scene_model.proofs.Choices.{read, there, one_of, first_of_three, second_of_three, last_of_three}
use Rattle.scene_model.proofs.TakenSlots.{any_pushed}

-- what a release leaves, as a world sees it
pub record IsReleased (s t : SlotState) (e : Entity) : Type 0 where
  pub sound : IsSlots t
  pub as_many : length t.generations ≡ length s.generations
  -- other slots stay, and are as free as they were
  pub kept : (i g : ℕ) → (i ≡ e.index → ⊥) → slice_get s.generations i ≡ Some g → slice_get t.generations i ≡ Some g
  pub others : (i : ℕ) → (i ≡ e.index → ⊥) → is_free t i ≡ is_free s i
  -- the index is free now, or retired
  pub settled : (is_free t e.index || is_retired t e.index) ≡ true

pub released : (s : SlotState) (e : Entity) → IsSlots s → CanRelease s e → IsReleased s (release_of s e) e
released s e v c =
    elim (retires e) as (λ b. retires e ≡ b → IsSlots (if b then s else freed s e) → IsReleased s (if b then s else freed s e) e) [
      | true ↦ λ r sound. record {
        sound = sound;
        as_many = refl;
        kept = λ i g ne h. h;
        others = λ i ne. refl;
        settled = ap (λ b. is_free s e.index || b) (ap (λ (g : ℕ). nat_eq g 4294967295) (read s.generations e.index e.generation c.current) ∙ r) ∙ or_right (is_free s e.index) true refl;
      }
      | false ↦ λ r sound. record {
        sound = sound;
        as_many = length-set s.generations e.index (e.generation + 1);
        kept = λ i g ne h. written_stays s.generations e.index (e.generation + 1) i g ne h;
        others = λ i ne. any_pushed s.free e.index i ∙ ap (λ b. list_any (nat_eq i) s.free || b) (ne_eqb i e.index ne) ∙ or-false (list_any (nat_eq i) s.free);
        settled = ap (λ b. b || is_retired (freed s e) e.index) (any_pushed s.free e.index e.index ∙ ap (λ b. list_any (nat_eq e.index) s.free || b) (eq-eqb e.index e.index refl) ∙ or_right (list_any (nat_eq e.index) s.free) true refl);
      }
    ] refl (IsSlots-release s e v c)

-- a live entity may be released
pub can_release : (w : World) (h : Home) (row : Row) → IsValid w → row_at w.tables h ≡ Some row → CanRelease w.slots row.entity
can_release w h row v at = let k = v.rows.each h row at in record { current = k.current; not_free = k.busy }

-- after a row was taken out no row has its index
index_gone : (w : World) (h : Home) (row : Row) → IsValid w → row_at w.tables h ≡ Some row → (g : Home) (r : Row) → row_at (without_row w.tables h) g ≡ Some r → r.entity.index ≡ row.entity.index → ⊥
index_gone w h row v at g r is e =
    let mine = (each_removed (IsSoundRow w.schema w.slots w.tick) w.tables h row at v.rows.each g r is).current in
    let theirs = (v.rows.each h row at).current in
    let k : Some r.entity.generation ≡ Some row.entity.generation = sym mine ∙ ap (slice_get w.slots.generations) e ∙ theirs in
    let f : r.entity.generation ≡ row.entity.generation = cc in
    removed_nowhere w.tables h row at v.rows.once g r is (λ i. record { index = e i; generation = f i })

no_children : (f : Forest) (e : Entity) → is_some (map.get f e) ≡ false → children_of f e ≡ []
no_children f e n = elim (map.get f e) as (λ o. is_some o ≡ false → listed o ≡ []) [
  | None ↦ λ h. refl
  | Some p ↦ λ h. absurd (let k : true ≡ false = h in cc)
] n

-- an index other than the one that left is accounted for as before, and that one is free or retired
accounted_gone : (w : World) (h : Home) (row : Row) → IsValid w → row_at w.tables h ≡ Some row → IsReleased w.slots (release_of w.slots row.entity) row.entity → (i : ℕ) → i < length w.slots.generations
    → (is_live_index (release_of w.slots row.entity) (without_row w.tables h) i || is_free (release_of w.slots row.entity) i || is_retired (release_of w.slots row.entity) i) ≡ true
accounted_gone w h row v at k i l =
    let t = release_of w.slots row.entity in
    elim (nat_eq i row.entity.index) as (λ b. nat_eq i row.entity.index ≡ b → (is_live_index (release_of w.slots row.entity) (without_row w.tables h) i || is_free (release_of w.slots row.entity) i || is_retired (release_of w.slots row.entity) i) ≡ true) [
      | true ↦ λ e.
          let s : i ≡ row.entity.index = eqb-true i row.entity.index e in
          ap (λ (n : ℕ). is_live_index (release_of w.slots row.entity) (without_row w.tables h) n || is_free (release_of w.slots row.entity) n || is_retired (release_of w.slots row.entity) n) s
          ∙ last_of_three (is_live_index t (without_row w.tables h) row.entity.index) (is_free t row.entity.index) (is_retired t row.entity.index) k.settled
      | false ↦ λ e.
          let ne = eqb-false i row.entity.index e in
          let kept : slice_index t.generations i ≡ slice_index w.slots.generations i = read t.generations i _ (k.kept i _ ne (there w.slots.generations i l)) in
          one_of _ (is_live_index w.slots w.tables i) (is_free w.slots i) (is_retired w.slots i) (v.accounted i l)
          (λ a. first_of_three _ _ _ (ap (λ (g : ℕ). lives (without_row w.tables h) (record { index = i; generation = g })) kept
          ∙ lives_removed w.tables h row (record { index = i; generation = slice_index w.slots.generations i }) at (λ u. ne (sym (ap (λ (x : Entity). x.index) u))) a))
          (λ b. second_of_three (is_live_index t (without_row w.tables h) i) _ _ (k.others i ne ∙ b))
          (λ c. or_right (is_live_index t (without_row w.tables h) i || is_free t i) _ (ap (λ (g : ℕ). nat_eq g 4294967295) kept ∙ c))
    ] refl

-- the world after a despawn is valid
pub gone_valid : (w : World) (h : Home) (row : Row) → IsValid w → row_at w.tables h ≡ Some row → is_some (map.get w.children row.entity) ≡ false → IsValid (after_despawn w h row.entity)
gone_valid w h row v at childless =
    let e = row.entity in
    let t = release_of w.slots e in
    let k = released w.slots e v.slots (can_release w h row v at) in
    let left = left_out w.children e v.links.forest (no_children w.children e childless) in
    record {
      schema = v.schema;
      slots = k.sound;
      tick = v.tick;
      rows = record {
        each = λ g r is.
            let old = each_removed (IsSoundRow w.schema w.slots w.tick) w.tables h row at v.rows.each g r is in
            let other = index_gone w h row v at g r is in
            record { current = k.kept r.entity.index r.entity.generation other old.current; busy = k.others r.entity.index other ∙ old.busy; fits = old.fits; timely = old.timely };
        once = once_removed w.tables h row at v.rows.once;
      };
      accounted = λ i l. accounted_gone w h row v at k i (subst (λ (n : ℕ). i < n) k.as_many l);
      links = record {
        live = λ p c n.
            let old = v.links.live p c (cut_part w.children e p c n) in
            let other = left p c n in
            (lives_removed w.tables h row p at (λ s. other.0 (sym s)) old.0, lives_removed w.tables h row c at (λ s. other.1 (sym s)) old.1);
        forest = cut_forest w.children e v.links.forest;
      };
      resources = v.resources;
    }

-- an entity whose list of children is empty has none
pub childless : (f : Forest) (e : Entity) → (length (children_of f e) == 0) ≡ true → is_some (map.get f e) ≡ false
childless f e h = elim (map.get f e) as (λ o. (length (listed o) == 0) ≡ true → is_some o ≡ false) [
  | None ↦ λ g. refl
  | Some p ↦ λ g. absurd (empty p.0 p.1 g)
] h
  where
    empty : (x : Entity) (xs : List Entity) → (length (x ∷ xs) == 0) ≡ true → ⊥
    empty x xs g = grind (arith, nat_tests)

-- whether it had a parent or not, a child that was unlinked is out of its list
pub unlinked_cut : (f g : Forest) (c : Entity) (r : Result (Entity × ℕ) Refusal) → Gives r f g (unlink_of f c) → g ≡ cut f c
unlinked_cut f g c r h = elim (parent_of f c) as (λ o. Gives r f g (unlinked f c o) → g ≡ cut_from f c o) [
  | None ↦ λ k. none r k
  | Some p ↦ λ k. some p r k
] h
  where
    none : (r : Result (Entity × ℕ) Refusal) → Gives r f g (unlinked f c None) → g ≡ f
    none (Ok p) k = absurd (not_ok (p, g) _ k)
    none (Err x) k = k.0

    some : (p : Entity) (r : Result (Entity × ℕ) Refusal) → Gives r f g (unlinked f c (Some p)) → g ≡ cut_from f c (Some p)
    some p (Ok q) k = sym (same_world _ _ _ _ k).1
    some p (Err x) k = absurd (not_ok _ x (sym k.1))

pub despawn_keeps : (w v : World) (e : Entity) → IsValid w → despawn w e ≡ Ok (tt, v) → IsValid v
despawn_keeps w v e valid is =
    with_row_of (IsValid v) w e _ (tt, v) is (λ h r at same made.
    elim (is_some (map.get w.children e)) as (λ b. is_some (map.get w.children e) ≡ b → ◌≡◌ {A = Outcome (Unit {0}) World} (if b then refuse HasChildren else Ok (tt, after_despawn w h e)) (Ok (tt, v)) → IsValid v) [
      | true ↦ λ c g. absurd (not_ok (tt, v) _ g)
      | false ↦ λ c g.
          subst IsValid (ap (after_despawn w h) same ∙ (same_world tt tt (after_despawn w h e) v g).1)
          (gone_valid w h r valid at (ap (λ (x : Entity). is_some (map.get w.children x)) same ∙ c))
    ] refl made)
