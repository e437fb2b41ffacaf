-- What is written of homes stays true while rows leave, come back and are written.
use Rattle.std.proofs.Common.{◌≡◌, ℕ, suc, ◌<◌, ◌≤◌, List, length, refl, ap, subst, sym, ◌∙◌, arith, Option, Some, None, length-set, true, ◌&&◌, nat_eq}
use Rattle.std.specs.Prelude.{slice_get, slice_set, option_map, IfSome}
use Rattle.std.specs.Cmp.{nat_cmp_total}
use Rattle.std.specs.FinMap.{nat_cmp-IsAntisymmetric}
use Rattle.std.specs.Option.{option_flatten}
use Rattle.std.proofs.lemmas.Bool.{and_parts, and_from, eqb-true, eq-eqb}
use Rattle.std.proofs.lemmas.Option.{same_Some, slice_get_within}
use Rattle.scene_kinds.specs.declared.entity.Entity.{Entity}
use Rattle.scene_kinds.specs.declared.cells.Row.{Row}
use Rattle.scene_kinds.specs.Cells.{mask_of}
use Rattle.scene_kinds.proofs.Lists.{list_at_apart}
use Rattle.scene_table.specs.Rows.{swap_out, put_back}
use Rattle.scene_kinds.proofs.Elements.{written, written_stays, written_there}
use Rattle.scene_table.specs.declared.home.Home.{Home}
use Rattle.scene_table.specs.Tables.{Tables, rows_at, row_at, home_in, lives, with_rows, without_row, with_row_at, StandsOnce, home_for, with_row_back, StandsIn, NoneOf}
use Rattle.scene_archetypes.specs.Archetypes.{AreHomes, SameHomes, homes_left, homes_come}
use Rattle.scene_table.proofs.RowLists.{element_at}
use Rattle.scene_table.proofs.Homes.{here_live, home_is, home_none}
use Rattle.scene_table.proofs.ReturnedRows.{returned, returned_there, returned_where}
use Rattle.scene_table.proofs.Standing.{same_home, removed, removed_where, rewritten, rewritten_stays}

-- rows of two homes have two indices
kept_apart : (t : Tables) (homes : List (Option Home)) (g : Home) (r : Row) (h : Home) (s : Row) → AreHomes t homes → row_at t g ≡ Some r → row_at t h ≡ Some s → (g ≡ h → ⊥) → r.entity.index ≡ s.entity.index → ⊥
kept_apart t homes g r h s a p q ne e =
    let one : Some (Some g) ≡ Some (Some h) = sym (a.kept g r p) ∙ ap (slice_get homes) e ∙ a.kept h s q in
    ne (same_Some g h (same_Some (Some g) (Some h) one))

-- a longer list with the same homes
pub same_homes : (t : Tables) (old new : List (Option Home)) → AreHomes t old → SameHomes old new → AreHomes t new
same_homes t old new a s = record { kept = λ h r is. s.stays r.entity.index h (a.kept h r is); found = λ i h is. a.found i h (s.back i h is) }

-- ---- a row that left

pub left_homes : (t : Tables) (homes : List (Option Home)) (home : Home) (gone : Row) → AreHomes t homes → row_at t home ≡ Some gone
    → AreHomes (without_row t home) (homes_left homes gone.entity home (option_map (λ (row : Row). row.entity) (row_at (without_row t home) home)))
left_homes t homes home gone a at =
    elim (row_at (without_row t home) home) as (λ o. row_at (without_row t home) home ≡ o → AreHomes (without_row t home) (homes_left homes gone.entity home (option_map (λ (row : Row). row.entity) o))) [
      | None ↦ λ none. record {
        kept = λ g r is. removed (slice_get (slice_set homes gone.entity.index None) r.entity.index ≡ Some (Some g)) t home gone g r at is
            (λ e f q l m n. absurd (let k : None ≡ Some r = sym none ∙ ap (row_at (without_row t home)) (sym (same_home g home e f)) ∙ is in cc))
            (λ ne n k. written_stays homes gone.entity.index None r.entity.index (Some g) (kept_apart t homes g r home gone a k at ne) (a.kept g r k));
        found = λ i g is. written ((row : Row) × ((row_at (without_row t home) g ≡ Some row) × (row.entity.index ≡ i))) homes gone.entity.index None i (Some g) is
            (λ e f. absurd (let k : None ≡ Some g = f in cc))
            (λ ne old. let w = a.found i g old in
            removed_where ((row : Row) × ((row_at (without_row t home) g ≡ Some row) × (row.entity.index ≡ i))) t home gone g w.0 at (other i g w.0 ne w.1.0 w.1.1) w.1.0
            (λ k. (w.0, (k, w.1.1)))
            (λ k. absurd (let j : None ≡ Some w.0 = sym none ∙ k in cc)));
      }
      | Some c ↦ λ came.
          let last : (q : ℕ) × ((suc q ≡ length (rows_at t home.mask)) × ((home.place < q) × (row_at t (record { mask = home.mask; place = q }) ≡ Some c))) =
          removed _ t home gone home c at came (λ e f q l m n. (q, (l, (m, n)))) (λ ne n k. absurd (ne refl)) in
          let was : Home = record { mask = home.mask; place = last.0 } in
          let gone_other : c.entity.index ≡ gone.entity.index → ⊥ = kept_apart t homes was c home gone a last.1.1.1 at (λ s. let p : last.0 ≡ home.place = ap (λ (x : Home). x.place) s in let m = last.1.1.0 in omega (arith, p, m)) in
          let here : slice_get (slice_set (slice_set homes gone.entity.index None) c.entity.index (Some home)) c.entity.index ≡ Some (Some home) =
          written_there (slice_set homes gone.entity.index None) c.entity.index (Some home) (Some was) (written_stays homes gone.entity.index None c.entity.index (Some was) gone_other (a.kept was c last.1.1.1)) in
          record {
            kept = λ g r is. removed (slice_get (slice_set (slice_set homes gone.entity.index None) c.entity.index (Some home)) r.entity.index ≡ Some (Some g)) t home gone g r at is
                (λ e f q l m n.
                let u : g ≡ home = same_home g home e f in
                let v : c ≡ r = same_Some c r (sym came ∙ ap (row_at (without_row t home)) (sym u) ∙ is) in
                subst (λ (x : Home). slice_get (slice_set (slice_set homes gone.entity.index None) c.entity.index (Some home)) r.entity.index ≡ Some (Some x)) (sym u)
                (subst (λ (x : Row). slice_get (slice_set (slice_set homes gone.entity.index None) c.entity.index (Some home)) x.entity.index ≡ Some (Some home)) v here))
                (λ ne n k. written_stays (slice_set homes gone.entity.index None) c.entity.index (Some home) r.entity.index (Some g)
                (kept_apart t homes g r was c a k last.1.1.1 (λ s. let p : g.place ≡ last.0 = ap (λ (x : Home). x.place) s in let l = last.1.0 in let m = n (ap (λ (x : Home). x.mask) s) in omega (arith, p, l, m)))
                (written_stays homes gone.entity.index None r.entity.index (Some g) (kept_apart t homes g r home gone a k at ne) (a.kept g r k)));
            found = λ i g is. written ((row : Row) × ((row_at (without_row t home) g ≡ Some row) × (row.entity.index ≡ i))) (slice_set homes gone.entity.index None) c.entity.index (Some home) i (Some g) is
                (λ e f. (c, (ap (row_at (without_row t home)) (sym (same_Some home g f)) ∙ came, sym e)))
                (λ ne old. written ((row : Row) × ((row_at (without_row t home) g ≡ Some row) × (row.entity.index ≡ i))) homes gone.entity.index None i (Some g) old
                (λ e f. absurd (let k : None ≡ Some g = f in cc))
                (λ ne2 old2. let w = a.found i g old2 in
                removed_where ((row : Row) × ((row_at (without_row t home) g ≡ Some row) × (row.entity.index ≡ i))) t home gone g w.0 at (other i g w.0 ne2 w.1.0 w.1.1) w.1.0
                (λ k. (w.0, (k, w.1.1)))
                (λ k. absurd (ne (sym w.1.1 ∙ ap (λ (x : Row). x.entity.index) (same_Some w.0 c (sym k ∙ came)))))));
          }
    ] refl
  where
    other : (i : ℕ) (g : Home) (r : Row) → (i ≡ gone.entity.index → ⊥) → row_at t g ≡ Some r → r.entity.index ≡ i → g ≡ home → ⊥
    other i g r ne is e s = ne (sym e ∙ ap (λ (x : Row). x.entity.index) (same_Some r gone (sym is ∙ ap (row_at t) s ∙ at)))

-- ---- a row that came

pub come_homes : (t : Tables) (homes : List (Option Home)) (place : ℕ) (row : Row) → AreHomes t homes → place ≤ length (rows_at t (mask_of row.cells)) → NoneOf row.entity.index t → row.entity.index < length homes
    → AreHomes (with_row_back t place row)
    (homes_come homes row.entity (home_for row.cells place) (option_map (λ (r : Row). r.entity) (row_at t (home_for row.cells place))) (length (rows_at t (mask_of row.cells))))
come_homes t homes place row a l none_of within =
    let home = home_for row.cells place in
    let last = home_for row.cells (length (rows_at t (mask_of row.cells))) in
    let index = row.entity.index in
    let any = element_at homes row.entity.index within in
    elim (row_at t (home_for row.cells place)) as (λ o. row_at t (home_for row.cells place) ≡ o
    → AreHomes (with_row_back t place row) (homes_come homes row.entity (home_for row.cells place) (option_map (λ (r : Row). r.entity) o) (length (rows_at t (mask_of row.cells))))) [
      | None ↦ λ none. record {
        kept = λ g r is. returned (slice_get (slice_set homes index (Some home)) r.entity.index ≡ Some (Some g)) t place row g r l is
            (λ e s. at_home (slice_set homes index (Some home)) g r e s (written_there homes index (Some home) any.0 any.1))
            (λ m n k. absurd (let j : None ≡ Some r = sym none ∙ k in cc))
            (λ ne n k. written_stays homes index (Some home) r.entity.index (Some g) (none_of g r k) (a.kept g r k));
        found = λ i g is. written ((r : Row) × ((row_at (with_row_back t place row) g ≡ Some r) × (r.entity.index ≡ i))) homes index (Some home) i (Some g) is
            (λ e f. (row, (ap (row_at (with_row_back t place row)) (sym (same_Some home g f)) ∙ returned_there t place row l, sym e)))
            (λ ne old. let w = a.found i g old in
            returned_where ((r : Row) × ((row_at (with_row_back t place row) g ≡ Some r) × (r.entity.index ≡ i))) t place row g w.0 w.1.0
            (λ ne2 k. (w.0, (k, w.1.1)))
            (λ e k. absurd (let j : None ≡ Some w.0 = sym none ∙ ap (row_at t) (sym e) ∙ w.1.0 in cc)));
      }
      | Some d ↦ λ there.
          let di = d.entity.index in
          let two : d.entity.index ≡ row.entity.index → ⊥ = none_of home d there in
          record {
            kept = λ g r is. returned (slice_get (slice_set (slice_set homes di (Some last)) index (Some home)) r.entity.index ≡ Some (Some g)) t place row g r l is
                (λ e s. at_home (slice_set (slice_set homes di (Some last)) index (Some home)) g r e s
                (written_there (slice_set homes di (Some last)) index (Some home) any.0 (written_stays homes di (Some last) index any.0 (λ e2. two (sym e2)) any.1)))
                (λ m n k.
                let u : g ≡ last = same_home g last m n in
                let v : d ≡ r = same_Some d r (sym there ∙ k) in
                subst (λ (x : Home). slice_get (slice_set (slice_set homes di (Some last)) index (Some home)) r.entity.index ≡ Some (Some x)) (sym u)
                (subst (λ (x : Row). slice_get (slice_set (slice_set homes di (Some last)) index (Some home)) x.entity.index ≡ Some (Some last)) v
                (written_stays (slice_set homes di (Some last)) index (Some home) di (Some last) two (written_there homes di (Some last) (Some home) (a.kept home d there)))))
                (λ ne n k. written_stays (slice_set homes di (Some last)) index (Some home) r.entity.index (Some g) (none_of g r k)
                (written_stays homes di (Some last) r.entity.index (Some g) (kept_apart t homes g r home d a k there ne) (a.kept g r k)));
            found = λ i g is. written ((r : Row) × ((row_at (with_row_back t place row) g ≡ Some r) × (r.entity.index ≡ i))) (slice_set homes di (Some last)) index (Some home) i (Some g) is
                (λ e f. (row, (ap (row_at (with_row_back t place row)) (sym (same_Some home g f)) ∙ returned_there t place row l, sym e)))
                (λ ne old. written ((r : Row) × ((row_at (with_row_back t place row) g ≡ Some r) × (r.entity.index ≡ i))) homes di (Some last) i (Some g) old
                (λ e f.
                let k : row_at (with_row_back t place row) last ≡ Some d = returned_where (row_at (with_row_back t place row) last ≡ Some d) t place row home d there (λ ne2 k. absurd (ne2 refl)) (λ e2 k. k) in
                (d, (ap (row_at (with_row_back t place row)) (sym (same_Some last g f)) ∙ k, sym e)))
                (λ ne2 old2. let w = a.found i g old2 in
                returned_where ((r : Row) × ((row_at (with_row_back t place row) g ≡ Some r) × (r.entity.index ≡ i))) t place row g w.0 w.1.0
                (λ ne3 k. (w.0, (k, w.1.1)))
                (λ e k. absurd (ne2 (sym w.1.1 ∙ ap (λ (x : Row). x.entity.index) (same_Some w.0 d (sym w.1.0 ∙ ap (row_at t) e ∙ there)))))));
          }
    ] refl
  where
    at_home : (hs : List (Option Home)) (g : Home) (r : Row) → g ≡ home_for row.cells place → row ≡ r → slice_get hs row.entity.index ≡ Some (Some (home_for row.cells place)) → slice_get hs r.entity.index ≡ Some (Some g)
    at_home hs g r e s h =
        subst (λ (x : Home). slice_get hs r.entity.index ≡ Some (Some x)) (sym e) (subst (λ (x : Row). slice_get hs x.entity.index ≡ Some (Some (home_for row.cells place))) s h)

-- ---- a row that was written

pub written_homes : (t : Tables) (homes : List (Option Home)) (home : Home) (was row : Row) → AreHomes t homes → row_at t home ≡ Some was → row.entity ≡ was.entity → AreHomes (with_row_at t home row) homes
written_homes t homes home was row a at same = record {
  kept = λ g r is. rewritten (slice_get homes r.entity.index ≡ Some (Some g)) t home row g r is
      (λ e s. subst (λ (x : Home). slice_get homes r.entity.index ≡ Some (Some x)) (sym e)
      (subst (λ (x : Entity). slice_get homes x.index ≡ Some (Some home)) (sym same ∙ ap (λ (x : Row). x.entity) s) (a.kept home was at)))
      (λ ne k. a.kept g r k);
  found = λ i g is.
      let w = a.found i g is in
      let k = rewritten_stays t home was row g w.0 at same w.1.0 in
      (k.0, (k.1.0, ap (λ (x : Entity). x.index) k.1.1 ∙ w.1.1));
}

-- ---- one step of the code

-- the row of an entity that stands at a home
pub row_standing : (t : Tables) (e : Entity) (home : Home) → StandsIn t e home → (row : Row) × ((row_at t home ≡ Some row) × (row.entity ≡ e))
row_standing t e home s = elim (row_at t home) as (λ o. option_map (λ (row : Row). row.entity) o ≡ Some e → (row : Row) × ((o ≡ Some row) × (row.entity ≡ e))) [
  | None ↦ λ k. absurd (let j : None ≡ Some e = k in cc)
  | Some row ↦ λ k. (row, (refl, same_Some row.entity e k))
] s

pub index_within : (t : Tables) (homes : List (Option Home)) (home : Home) (row : Row) → AreHomes t homes → row_at t home ≡ Some row → row.entity.index < length homes
index_within t homes home row a at = slice_get_within homes row.entity.index (Some home) (a.kept home row at)

pub entity_within : (t : Tables) (homes : List (Option Home)) (e : Entity) (home : Home) → AreHomes t homes → StandsIn t e home → e.index < length homes
entity_within t homes e home a s = let k = row_standing t e home s in subst (λ (x : Entity). x.index < length homes) k.1.1 (index_within t homes home k.0 a k.1.0)

-- an entity that stands somewhere has an index for which there is a home
pub some_within : (t : Tables) (homes : List (Option Home)) (home : Home) (o : Option Entity) → AreHomes t homes → o ≡ option_map (λ (row : Row). row.entity) (row_at t home) → IfSome o (λ e. e.index < length homes)
some_within t homes home o a is = elim o as (λ o. o ≡ option_map (λ (row : Row). row.entity) (row_at t home) → IfSome o (λ e. e.index < length homes)) [
  | None ↦ λ k. tt
  | Some e ↦ λ k. entity_within t homes e home a (sym k)
] is

-- one that came to the home that was left, too
pub came_within : (t : Tables) (homes : List (Option Home)) (e : Entity) (home : Home) (new : Tables) (o : Option Entity) → AreHomes t homes → StandsIn t e home → row_at new home ≡ row_at (without_row t home) home
    → o ≡ option_map (λ (row : Row). row.entity) (row_at new home) → IfSome o (λ e. e.index < length homes)
came_within t homes e home new o a s same is =
    let gone = row_standing t e home s in
    elim o as (λ o. o ≡ option_map (λ (row : Row). row.entity) (row_at new home) → IfSome o (λ e. e.index < length homes)) [
      | None ↦ λ k. tt
      | Some c ↦ λ k.
          let row = row_standing (without_row t home) c home (ap (option_map (λ (row : Row). row.entity)) (sym same) ∙ sym k) in
          subst (λ (x : Entity). x.index < length homes) row.1.1
          (removed (row.0.entity.index < length homes) t home gone.0 home row.0 gone.1.0 row.1.0
          (λ m f q l n j. index_within t homes (record { mask = home.mask; place = q }) row.0 a j)
          (λ ne n j. index_within t homes home row.0 a j))
    ] is

-- a row left
pub left : (t : Tables) (homes : List (Option Home)) (e : Entity) (home : Home) (came : Option Entity) (after : List (Option Home)) → AreHomes t homes → StandsIn t e home
    → came ≡ option_map (λ (row : Row). row.entity) (row_at (without_row t home) home) → after ≡ homes_left homes e home came → AreHomes (without_row t home) after
left t homes e home came after a s is written =
    let gone = row_standing t e home s in
    subst (AreHomes (without_row t home)) (sym (written ∙ ap (homes_left homes e home) is))
    (subst (λ (x : Entity). AreHomes (without_row t home) (homes_left homes x home (option_map (λ (row : Row). row.entity) (row_at (without_row t home) home)))) gone.1.1 (left_homes t homes home gone.0 a gone.1.0))

-- and its entity has no row then
none_left : (t : Tables) (homes : List (Option Home)) (e : Entity) (home : Home) → AreHomes t homes → StandsIn t e home → NoneOf e.index (without_row t home)
none_left t homes e home a s = λ g r is same.
    let gone = row_standing t e home s in
    let index : r.entity.index ≡ gone.0.entity.index = same ∙ ap (λ (x : Entity). x.index) (sym gone.1.1) in
    removed ⊥ t home gone.0 g r gone.1.0 is
    (λ m f q l n k. kept_apart t homes (record { mask = home.mask; place = q }) r home gone.0 a k gone.1.0 (λ x. let p : q ≡ home.place = ap (λ (y : Home). y.place) x in omega (arith, p, n, f)) index)
    (λ ne n k. kept_apart t homes g r home gone.0 a k gone.1.0 ne index)

pub length_left : (homes : List (Option Home)) (gone : Entity) (home : Home) (came : Option Entity) → length (homes_left homes gone home came) ≡ length homes
length_left homes gone home None = length-set homes gone.index None
length_left homes gone home (Some c) = length-set (slice_set homes gone.index None) c.index (Some home) ∙ length-set homes gone.index None

-- a row came
pub come : (t : Tables) (homes : List (Option Home)) (place : ℕ) (row : Row) (mask : ℕ) (e : Entity) (displaced : Option Entity) (last : ℕ) (after : List (Option Home)) → AreHomes t homes → mask ≡ mask_of row.cells → row.entity ≡ e
    → place ≤ length (rows_at t mask) → NoneOf e.index t → e.index < length homes → displaced ≡ option_map (λ (r : Row). r.entity) (row_at t (record { mask = mask; place = place })) → last ≡ length (rows_at t mask)
    → after ≡ homes_come homes e (record { mask = mask; place = place }) displaced last → AreHomes (with_row_back t place row) after
come t homes place row mask e displaced last after a m same within none below d l written =
    let base = come_homes t homes place row a (subst (λ k. place ≤ length (rows_at t k)) m within) (subst (λ (x : Entity). NoneOf x.index t) (sym same) none) (subst (λ (x : Entity). x.index < length homes) (sym same) below) in
    let there : displaced ≡ option_map (λ (r : Row). r.entity) (row_at t (home_for row.cells place)) = d ∙ ap (λ k. option_map (λ (r : Row). r.entity) (row_at t (record { mask = k; place = place }))) m in
    let count : last ≡ length (rows_at t (mask_of row.cells)) = l ∙ ap (λ k. length (rows_at t k)) m in
    subst (AreHomes (with_row_back t place row)) (sym (written ∙ λ i. homes_come homes (sym same i) (record { mask = m i; place = place }) (there i) (count i))) base

-- rows of another kind set aren't touched
pub row_apart : (t : Tables) (m : ℕ) (rows : List Row) (h : Home) → (h.mask ≡ m → ⊥) → row_at (with_rows t m rows) h ≡ row_at t h
row_apart t m rows h ne = ap (λ (rs : List Row). slice_get rs h.place) (list_at_apart nat_cmp_total nat_cmp-IsAntisymmetric t m h.mask rows ne)

-- a row moved to the table of another kind set
pub moved_homes : (t : Tables) (homes : List (Option Home)) (e : Entity) (home : Home) (mask place : ℕ) (row new_row : Row) (after : Tables) (came displaced : Option Entity) (last : ℕ) (middle end : List (Option Home))
    → AreHomes t homes → row_at t home ≡ Some row → row.entity ≡ e → new_row.entity ≡ row.entity → mask ≡ mask_of new_row.cells → (home.mask ≡ mask → ⊥) → place ≤ length (rows_at t mask)
    → after ≡ with_rows (without_row t home) mask (put_back (rows_at t mask) place new_row)
    → displaced ≡ option_map (λ (r : Row). r.entity) (row_at t (record { mask = mask; place = place })) → last ≡ length (rows_at t mask) → came ≡ option_map (λ (r : Row). r.entity) (row_at after home)
    → middle ≡ homes_left homes e home came → end ≡ homes_come middle e (record { mask = mask; place = place }) displaced last
    → (after ≡ with_row_back (without_row t home) place new_row) × AreHomes after end
moved_homes t homes e home mask place row new_row after came displaced last middle end a at same entity m apart within is d l c written written2 =
    let stands : StandsIn t e home = ap (option_map (λ (r : Row). r.entity)) at ∙ ap Some same in
    let rows : rows_at (without_row t home) mask ≡ rows_at t mask = list_at_apart nat_cmp_total nat_cmp-IsAntisymmetric t home.mask mask (swap_out (rows_at t home.mask) home.place) (λ x. apart (sym x)) in
    let left_there : row_at after home ≡ row_at (without_row t home) home = ap (λ u. row_at u home) is ∙ row_apart (without_row t home) mask (put_back (rows_at t mask) place new_row) home apart in
    let first : AreHomes (without_row t home) middle = left t homes e home came middle a stands (c ∙ ap (option_map (λ (r : Row). r.entity)) left_there) written in
    let target : row_at (without_row t home) (record { mask = mask; place = place }) ≡ row_at t (record { mask = mask; place = place }) = ap (λ (rs : List Row). slice_get rs place) rows in
    let below : e.index < length middle = let k = entity_within t homes e home a stands in let n = ap length written ∙ length_left homes e home came in omega (arith, k, n) in
    let then = come (without_row t home) middle place new_row mask e displaced last end first m (entity ∙ same) (subst (λ (rs : List Row). place ≤ length rs) (sym rows) within) (none_left t homes e home a stands) below
    (d ∙ ap (option_map (λ (r : Row). r.entity)) (sym target)) (l ∙ ap length (sym rows)) written2 in
    let back : after ≡ with_row_back (without_row t home) place new_row =
    is ∙ ap (λ (rs : List Row). with_rows (without_row t home) mask (put_back rs place new_row)) (sym rows) ∙ ap (λ k. with_rows (without_row t home) k (put_back (rows_at (without_row t home) k) place new_row)) m in
    (back, subst (λ u. AreHomes u end) (sym back) then)

-- ---- where an entity is found

pub found_home : (t : Tables) (homes : List (Option Home)) (e : Entity) (h : Home) → AreHomes t homes → StandsIn t e h → home_in e t.entries ≡ Some h
found_home t homes e h a s = let k = row_standing t e h s in home_is t e h k.0 (stands_once t homes a) k.1.0 k.1.1
  where
    stands_once : (t : Tables) (homes : List (Option Home)) → AreHomes t homes → StandsOnce t
    stands_once t homes a = λ g h r s p q e. same_Some g h (same_Some (Some g) (Some h) (sym (a.kept g r p) ∙ ap (λ (x : Entity). slice_get homes x.index) e ∙ a.kept h s q))

-- where another entity stands at the home of an index, or none, the entity is dead
pub dead_home : (t : Tables) (homes : List (Option Home)) (e : Entity) → AreHomes t homes → ((h : Home) → slice_get homes e.index ≡ Some (Some h) → StandsIn t e h → ⊥) → home_in e t.entries ≡ None
dead_home t homes e a nowhere = home_none t e (λ h r is same. nowhere h (ap (λ (x : Entity). slice_get homes x.index) (sym same) ∙ a.kept h r is) (ap (option_map (λ (r : Row). r.entity)) is ∙ ap Some same))

-- the home that a search by index gives, where one stands there
pub home_lent : (homes now : List (Option Home)) (index : ℕ) (h : Home) (o : Option Home) → now ≡ homes → o ≡ option_flatten (slice_get now index) → slice_get homes index ≡ Some (Some h) → o ≡ Some h
home_lent homes now index h o s is at = is ∙ ap (λ (hs : List (Option Home)). option_flatten (slice_get hs index)) s ∙ ap option_flatten at

-- and of an entity that lives it is where its row stands
pub home_lives : (t : Tables) (homes now : List (Option Home)) (e : Entity) (o : Option Home) → AreHomes t homes → lives t e ≡ true → now ≡ homes
    → o ≡ option_flatten (slice_get now e.index) → (h : Home) × (StandsIn t e h × (o ≡ Some h))
home_lives t homes now e o a live s is =
    let home = here_live t e live in
    let stands : StandsIn t e home.0 = ap (option_map (λ (r : Row). r.entity)) home.1.there ∙ ap Some home.1.same in
    let at : slice_get homes e.index ≡ Some (Some home.0) = ap (λ (x : Entity). slice_get homes x.index) (sym home.1.same) ∙ a.kept home.0 home.1.row home.1.there in
    (home.0, (stands, home_lent homes now e.index home.0 o s is at))

-- entities of equal parts, and equal ones
pub same_parts : (a b : Entity) → (nat_eq a.index b.index && nat_eq a.generation b.generation) ≡ true → a ≡ b
same_parts a b e =
    let parts = and_parts (nat_eq a.index b.index) (nat_eq a.generation b.generation) e in
    let index = eqb-true a.index b.index parts.0 in
    let generation = eqb-true a.generation b.generation parts.1 in
    λ i. record { index = index i; generation = generation i }

pub same_itself : (a b : Entity) → a ≡ b → (nat_eq a.index b.index && nat_eq a.generation b.generation) ≡ true
same_itself a b e = and_from (nat_eq a.index b.index) (nat_eq a.generation b.generation) (eq-eqb a.index b.index (ap (λ (x : Entity). x.index) e)) (eq-eqb a.generation b.generation (ap (λ (x : Entity). x.generation) e))
