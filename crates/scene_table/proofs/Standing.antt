-- The rows of all tables after a row was added, taken out or written: facts of each row, and that each entity stands
-- once.
use Rattle.std.proofs.Common.{◌≡◌, ℕ, suc, ◌<◌, true, false, cond, List, [], ◌∷◌, ◌++◌, length, refl, ap, subst, sym, ◌∙◌, arith, Some}
use Rattle.std.specs.Prelude.{slice_get, slice_set}
use Rattle.std.specs.Ordering.{nat_cmp, eq_by_cmp}
use Rattle.std.specs.Cmp.{nat_cmp_total}
use Rattle.std.specs.FinMap.{nat_cmp-IsAntisymmetric}
use Rattle.std.proofs.lemmas.Option.{same_Some, slice_get_within}
use Rattle.scene_kinds.specs.declared.entity.Entity.{Entity}
use Rattle.scene_kinds.specs.declared.cells.Row.{Row}
use Rattle.scene_kinds.specs.Cells.{mask_of}
use Rattle.scene_kinds.proofs.Lists.{list_at-with_list}
use Rattle.scene_kinds.proofs.Maps.{equal_keys, ties_itself}
use Rattle.scene_table.specs.Rows.{swap_out}
use Rattle.scene_table.specs.declared.home.Home.{Home}
use Rattle.scene_table.specs.Tables.{Tables, rows_at, with_rows, row_at, with_row, without_row, with_row_at, EachRow, StandsOnce}
use Rattle.scene_kinds.proofs.Elements.{pushed, pushed_stays, pushed_last, written, written_stays, written_there}
use Rattle.scene_table.proofs.RowLists.{swapped, swapped_stays, swapped_where}

-- what stands at a home after the rows of a kind set were written
pub row_at-with_rows : (t : Tables) (m : ℕ) (rows : List Row) (h : Home) → row_at (with_rows t m rows) h ≡ cond (eq_by_cmp nat_cmp h.mask m) (slice_get rows h.place) (row_at t h)
row_at-with_rows t m rows h = ap (λ (xs : List Row). slice_get xs h.place) (list_at-with_list nat_cmp_total t m rows h.mask) ∙
    elim (eq_by_cmp nat_cmp h.mask m) as (λ b. slice_get (cond b rows (rows_at t h.mask)) h.place ≡ cond b (slice_get rows h.place) (row_at t h)) [ true ↦ refl | false ↦ refl ]

-- numbers that a test tells apart aren't equal
pub apart : (a b : ℕ) → eq_by_cmp nat_cmp a b ≡ false → a ≡ b → ⊥
apart a b f s = let k : true ≡ false = sym (ties_itself nat_cmp_total b) ∙ ap (λ n. eq_by_cmp nat_cmp n b) (sym s) ∙ f in absurd (cc)

-- a row that stands after the rows of a kind set were written is one of those, or stood before under another kind set
pub written_rows : (P : Type 0) (t : Tables) (m : ℕ) (rows : List Row) (h : Home) (r : Row) → row_at (with_rows t m rows) h ≡ Some r
    → (h.mask ≡ m → slice_get rows h.place ≡ Some r → P) → ((h.mask ≡ m → ⊥) → row_at t h ≡ Some r → P) → P
written_rows P t m rows h r is new old =
    elim (eq_by_cmp nat_cmp h.mask m) as (λ b. eq_by_cmp nat_cmp h.mask m ≡ b → cond b (slice_get rows h.place) (row_at t h) ≡ Some r → P) [
      | true ↦ λ e g. new (equal_keys nat_cmp-IsAntisymmetric h.mask m e) g
      | false ↦ λ e g. old (apart _ m e) g
    ] refl (sym (row_at-with_rows t m rows h) ∙ is)

-- a row of the kind set that was written stands where its list has it, and one of another where it stood
pub there_written : (t : Tables) (m : ℕ) (rows : List Row) (h : Home) (r : Row) → h.mask ≡ m → slice_get rows h.place ≡ Some r → row_at (with_rows t m rows) h ≡ Some r
there_written t m rows h r e g = row_at-with_rows t m rows h ∙ ap (λ b. cond b (slice_get rows h.place) (row_at t h)) (ap (λ n. eq_by_cmp nat_cmp n m) e ∙ ties_itself nat_cmp_total m) ∙ g

pub there_apart : (t : Tables) (m : ℕ) (rows : List Row) (h : Home) (r : Row) → (h.mask ≡ m → ⊥) → row_at t h ≡ Some r → row_at (with_rows t m rows) h ≡ Some r
there_apart t m rows h r ne g = row_at-with_rows t m rows h ∙
    elim (eq_by_cmp nat_cmp h.mask m) as (λ b. eq_by_cmp nat_cmp h.mask m ≡ b → cond b (slice_get rows h.place) (row_at t h) ≡ Some r) [
      | true ↦ λ e. absurd (ne (equal_keys nat_cmp-IsAntisymmetric h.mask m e))
      | false ↦ λ e. g
    ] refl

-- whether two homes are one
pub same_home : (a b : Home) → a.mask ≡ b.mask → a.place ≡ b.place → a ≡ b
same_home a b e f = λ i. record { mask = e i; place = f i }

-- the row at a home is a row of the home's list
pub in_list : (t : Tables) (m : ℕ) (h : Home) (r : Row) → h.mask ≡ m → row_at t h ≡ Some r → slice_get (rows_at t m) h.place ≡ Some r
in_list t m h r e g = ap (λ n. slice_get (rows_at t n) h.place) (sym e) ∙ g

pub from_list : (t : Tables) (m : ℕ) (h : Home) (r : Row) → h.mask ≡ m → slice_get (rows_at t m) h.place ≡ Some r → row_at t h ≡ Some r
from_list t m h r e g = ap (λ n. slice_get (rows_at t n) h.place) e ∙ g

-- ---- a row added

-- a row that stands after a row was added is an old one at its home, or the new one
pub added : (P : Type 0) (t : Tables) (row : Row) (h : Home) (r : Row) → row_at (with_row t row) h ≡ Some r
    → (row_at t h ≡ Some r → P) → (h.mask ≡ mask_of row.cells → h.place ≡ length (rows_at t (mask_of row.cells)) → row ≡ r → P) → P
added P t row h r is old new =
    written_rows P t (mask_of row.cells) (rows_at t (mask_of row.cells) ++ row ∷ []) h r is
    (λ e g. pushed P (rows_at t (mask_of row.cells)) row h.place r g (λ k. old (from_list t (mask_of row.cells) h r e k)) (λ k l. new e k l))
    (λ ne g. old g)

pub added_stays : (t : Tables) (row : Row) (h : Home) (r : Row) → row_at t h ≡ Some r → row_at (with_row t row) h ≡ Some r
added_stays t row h r g =
    elim (eq_by_cmp nat_cmp h.mask (mask_of row.cells)) as (λ b. eq_by_cmp nat_cmp h.mask (mask_of row.cells) ≡ b → row_at (with_row t row) h ≡ Some r) [
      | true ↦ λ e.
          let s = equal_keys nat_cmp-IsAntisymmetric h.mask (mask_of row.cells) e in
          there_written t (mask_of row.cells) _ h r s (pushed_stays (rows_at t (mask_of row.cells)) row h.place r (in_list t (mask_of row.cells) h r s g))
      | false ↦ λ e. there_apart t (mask_of row.cells) _ h r (apart _ (mask_of row.cells) e) g
    ] refl

-- the new row stands last
pub added_there : (t : Tables) (row : Row) → row_at (with_row t row) (record { mask = mask_of row.cells; place = length (rows_at t (mask_of row.cells)) }) ≡ Some row
added_there t row = there_written t (mask_of row.cells) _ (record { mask = mask_of row.cells; place = length (rows_at t (mask_of row.cells)) }) row refl (pushed_last (rows_at t (mask_of row.cells)) row)

pub each_added : (P : ℕ → Row → Type 0) (t : Tables) (row : Row) → EachRow P t → P (mask_of row.cells) row → EachRow P (with_row t row)
each_added P t row each new = λ h r is. added (P h.mask r) t row h r is (λ g. each h r g)
    (λ e f s. subst (λ (m : ℕ). P m r) (sym e) (subst (λ (x : Row). P (mask_of row.cells) x) s new))

-- an entity that stands nowhere
abbrev pub StandsNowhere : Entity → Tables → Type 0
StandsNowhere e t = (h : Home) (r : Row) → row_at t h ≡ Some r → r.entity ≡ e → ⊥

pub once_added : (t : Tables) (row : Row) → StandsOnce t → StandsNowhere row.entity t → StandsOnce (with_row t row)
once_added t row once nowhere = λ a b r s p q e.
    added (a ≡ b) t row a r p
    (λ g. added (a ≡ b) t row b s q (λ k. once a b r s g k e) (λ m n k. absurd (nowhere a r g (e ∙ ap (λ x. x.entity) (sym k)))))
    (λ m n k. added (a ≡ b) t row b s q
    (λ g. absurd (nowhere b s g (sym e ∙ ap (λ x. x.entity) (sym k))))
    (λ m' n' k'. same_home a b (m ∙ sym m') (n ∙ sym n')))

-- ---- a row taken out

-- a row that stands after one was taken out stood before: in its place, or last in the list of the one that left
pub removed : (P : Type 0) (t : Tables) (h : Home) (gone : Row) (g : Home) (r : Row) → row_at t h ≡ Some gone → row_at (without_row t h) g ≡ Some r
    → (g.mask ≡ h.mask → g.place ≡ h.place → (q : ℕ) → suc q ≡ length (rows_at t h.mask) → g.place < q → row_at t (record { mask = h.mask; place = q }) ≡ Some r → P)
    → ((g ≡ h → ⊥) → (g.mask ≡ h.mask → suc g.place < length (rows_at t h.mask)) → row_at t g ≡ Some r → P) → P
removed P t h gone g r at is last old =
    written_rows P t h.mask (swap_out (rows_at t h.mask) h.place) g r is
    (λ e k. swapped P (rows_at t h.mask) h.place g.place r (slice_get_within (rows_at t h.mask) h.place gone at) k
    (λ f q l m n. last e f q l m n)
    (λ ne m n. old (λ s. ne (ap (λ x. x.place) s)) (λ u. m) (from_list t h.mask g r e n)))
    (λ ne k. old (λ s. ne (ap (λ x. x.mask) s)) (λ u. absurd (ne u)) k)

pub each_removed : (P : ℕ → Row → Type 0) (t : Tables) (h : Home) (gone : Row) → row_at t h ≡ Some gone → EachRow P t → EachRow P (without_row t h)
each_removed P t h gone at each = λ g r is. removed (P g.mask r) t h gone g r at is
    (λ e f q l m n. subst (λ (k : ℕ). P k r) (sym e) (each (record { mask = h.mask; place = q }) r n))
    (λ ne m n. each g r n)

pub once_removed : (t : Tables) (h : Home) (gone : Row) → row_at t h ≡ Some gone → StandsOnce t → StandsOnce (without_row t h)
once_removed t h gone at once = λ a b r s p q e.
    removed (a ≡ b) t h gone a r at p
    (λ m f i l n k. removed (a ≡ b) t h gone b s at q
    (λ m' f' i' l' n' k'. same_home a b (m ∙ sym m') (f ∙ sym f'))
    (λ ne n' k'.
    let u = once (record { mask = h.mask; place = i }) b r s k k' e in
    let v : i ≡ b.place = ap (λ x. x.place) u in
    let w : suc b.place < length (rows_at t h.mask) = n' (ap (λ x. x.mask) (sym u)) in
    absurd (omega arith)))
    (λ ne n k. removed (a ≡ b) t h gone b s at q
    (λ m' f' i' l' n' k'.
    let u = once a (record { mask = h.mask; place = i' }) r s k k' e in
    let v : a.place ≡ i' = ap (λ x. x.place) u in
    let w : suc a.place < length (rows_at t h.mask) = n (ap (λ x. x.mask) u) in
    absurd (omega arith))
    (λ ne' n' k'. once a b r s k k' e))

-- an entity whose row was taken out stands nowhere
pub removed_nowhere : (t : Tables) (h : Home) (gone : Row) → row_at t h ≡ Some gone → StandsOnce t → StandsNowhere gone.entity (without_row t h)
removed_nowhere t h gone at once = λ g r is e.
    removed ⊥ t h gone g r at is
    (λ m f q l n k.
    let u = once (record { mask = h.mask; place = q }) h r gone k at e in
    let v : q ≡ h.place = ap (λ x. x.place) u in
    omega arith)
    (λ ne n k. ne (once g h r gone k at e))

-- another row stands somewhere after one was taken out
pub removed_stays : (t : Tables) (h : Home) (gone : Row) (g : Home) (r : Row) → row_at t h ≡ Some gone → (g ≡ h → ⊥) → row_at t g ≡ Some r → (k : Home) × (row_at (without_row t h) k ≡ Some r)
removed_stays t h gone g r at ne is =
    elim (eq_by_cmp nat_cmp g.mask h.mask) as (λ b. eq_by_cmp nat_cmp g.mask h.mask ≡ b → (k : Home) × (row_at (without_row t h) k ≡ Some r)) [
      | true ↦ λ e.
          let s = equal_keys nat_cmp-IsAntisymmetric g.mask h.mask e in
          let k = swapped_stays (rows_at t h.mask) h.place g.place r (slice_get_within (rows_at t h.mask) h.place gone at) (λ f. ne (same_home g h s f)) (in_list t h.mask g r s is) in
          (record { mask = h.mask; place = k.0 }, there_written t h.mask (swap_out (rows_at t h.mask) h.place) (record { mask = h.mask; place = k.0 }) r refl k.1)
      | false ↦ λ e. (g, there_apart t h.mask (swap_out (rows_at t h.mask) h.place) g r (apart _ h.mask e) is)
    ] refl

-- at its home, or, where it was the last, at the home that was left
pub removed_where : (P : Type 0) (t : Tables) (h : Home) (gone : Row) (g : Home) (r : Row) → row_at t h ≡ Some gone → (g ≡ h → ⊥) → row_at t g ≡ Some r
    → (row_at (without_row t h) g ≡ Some r → P) → (row_at (without_row t h) h ≡ Some r → P) → P
removed_where P t h gone g r at ne is stays came =
    elim (eq_by_cmp nat_cmp g.mask h.mask) as (λ b. eq_by_cmp nat_cmp g.mask h.mask ≡ b → P) [
      | true ↦ λ e.
          let s = equal_keys nat_cmp-IsAntisymmetric g.mask h.mask e in
          swapped_where P (rows_at t h.mask) h.place g.place r (slice_get_within (rows_at t h.mask) h.place gone at) (λ f. ne (same_home g h s f)) (in_list t h.mask g r s is)
          (λ k. stays (there_written t h.mask (swap_out (rows_at t h.mask) h.place) g r s k))
          (λ k. came (there_written t h.mask (swap_out (rows_at t h.mask) h.place) h r refl k))
      | false ↦ λ e. stays (there_apart t h.mask (swap_out (rows_at t h.mask) h.place) g r (apart _ h.mask e) is)
    ] refl

-- ---- a row written

-- a row that stands after one was written is the new one at the home, or an old one at another
pub rewritten : (P : Type 0) (t : Tables) (h : Home) (row : Row) (g : Home) (r : Row) → row_at (with_row_at t h row) g ≡ Some r
    → (g ≡ h → row ≡ r → P) → ((g ≡ h → ⊥) → row_at t g ≡ Some r → P) → P
rewritten P t h row g r is new old =
    written_rows P t h.mask (slice_set (rows_at t h.mask) h.place row) g r is
    (λ e k. written P (rows_at t h.mask) h.place row g.place r k
    (λ f s. new (same_home g h e f) s)
    (λ ne n. old (λ s. ne (ap (λ x. x.place) s)) (from_list t h.mask g r e n)))
    (λ ne k. old (λ s. ne (ap (λ x. x.mask) s)) k)

pub each_rewritten : (P : ℕ → Row → Type 0) (t : Tables) (h : Home) (row : Row) → EachRow P t → P h.mask row → EachRow P (with_row_at t h row)
each_rewritten P t h row each new = λ g r is. rewritten (P g.mask r) t h row g r is
    (λ e s. subst (λ (k : Home). P k.mask r) (sym e) (subst (λ (x : Row). P h.mask x) s new))
    (λ ne k. each g r k)

pub once_rewritten : (t : Tables) (h : Home) (was row : Row) → row_at t h ≡ Some was → row.entity ≡ was.entity → StandsOnce t → StandsOnce (with_row_at t h row)
once_rewritten t h was row at same once = λ a b r s p q e.
    rewritten (a ≡ b) t h row a r p
    (λ m k. rewritten (a ≡ b) t h row b s q
    (λ m' k'. m ∙ sym m')
    (λ ne g. m ∙ once h b was s at g (sym same ∙ ap (λ x. x.entity) k ∙ e)))
    (λ ne g. rewritten (a ≡ b) t h row b s q
    (λ m' k'. once a h r was g at (e ∙ ap (λ x. x.entity) (sym k') ∙ same) ∙ sym m')
    (λ ne' g'. once a b r s g g' e))

-- a row of each entity stands on
pub rewritten_stays : (t : Tables) (h : Home) (was row : Row) (g : Home) (r : Row) → row_at t h ≡ Some was → row.entity ≡ was.entity → row_at t g ≡ Some r
    → (s : Row) × ((row_at (with_row_at t h row) g ≡ Some s) × (s.entity ≡ r.entity))
rewritten_stays t h was row g r at same is =
    elim (eq_by_cmp nat_cmp g.mask h.mask) as (λ b. eq_by_cmp nat_cmp g.mask h.mask ≡ b → (s : Row) × ((row_at (with_row_at t h row) g ≡ Some s) × (s.entity ≡ r.entity))) [
      | true ↦ λ e.
          let m = equal_keys nat_cmp-IsAntisymmetric g.mask h.mask e in
          elim (eq_by_cmp nat_cmp g.place h.place) as (λ b. eq_by_cmp nat_cmp g.place h.place ≡ b → (s : Row) × ((row_at (with_row_at t h row) g ≡ Some s) × (s.entity ≡ r.entity))) [
            | true ↦ λ f.
                let n = equal_keys nat_cmp-IsAntisymmetric g.place h.place f in
                let u : g ≡ h = same_home g h m n in
                let v : was ≡ r = same_Some was r (sym at ∙ ap (row_at t) (sym u) ∙ is) in
                (row, (ap (row_at (with_row_at t h row)) u ∙ there_written t h.mask (slice_set (rows_at t h.mask) h.place row) h row refl (written_there (rows_at t h.mask) h.place row was at), same ∙ ap (λ x. x.entity) v))
            | false ↦ λ f. (
              r,
              (
                there_written t h.mask (slice_set (rows_at t h.mask) h.place row) g r m
                    (written_stays (rows_at t h.mask) h.place row g.place r (apart _ h.place f) (in_list t h.mask g r m is)),
                refl,
              ),
            )
          ] refl
      | false ↦ λ e. (r, (there_apart t h.mask (slice_set (rows_at t h.mask) h.place row) g r (apart _ h.mask e) is, refl))
    ] refl
