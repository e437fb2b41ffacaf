-- The rows of all tables after a row came back to a place of its list.
use Rattle.std.proofs.Common.{◌≡◌, ℕ, zero, suc, ◌<◌, ◌≤◌, true, false, List, [], ◌∷◌, length, refl, ap, subst, sym, ◌∙◌, arith, Some, None}
use Rattle.std.specs.Prelude.{slice_get}
use Rattle.std.specs.Ordering.{nat_cmp, eq_by_cmp}
use Rattle.std.specs.Cmp.{nat_cmp_total}
use Rattle.std.specs.FinMap.{nat_cmp-IsAntisymmetric}
use Rattle.std.proofs.lemmas.Option.{slice_get_within}
use Rattle.scene_kinds.specs.declared.entity.Entity.{Entity}
use Rattle.scene_kinds.specs.declared.cells.Row.{Row}
use Rattle.scene_kinds.specs.Cells.{mask_of}
use Rattle.scene_kinds.proofs.Elements.{pushed, pushed_stays, pushed_last}
use Rattle.scene_kinds.proofs.Lists.{list_at_same, list_at_apart, list_restored}
use Rattle.scene_kinds.proofs.Maps.{equal_keys}
use Rattle.scene_table.specs.Rows.{swap_out, put_back}
use Rattle.scene_table.proofs.Swaps.{swap_out_back, put_back_stands, put_back_back, put_back_last}
use Rattle.scene_table.specs.declared.home.Home.{Home}
use Rattle.scene_table.specs.Tables.{Tables, rows_at, row_at, lives, with_rows, with_row, without_row, EachRow, StandsOnce, home_for, with_row_back}
use Rattle.scene_table.proofs.Homes.{here_live, live_here}
use Rattle.scene_table.proofs.Standing.{StandsNowhere, apart, written_rows, there_written, there_apart, same_home, in_list, from_list}

-- ---- lists

-- after one was put back: the new one at its place, the one from there at the end, or an old one at another place
replaced : {X : Type 0} (P : Type 0) (xs : List X) (i : ℕ) (x : X) (p : ℕ) (r : X) → i ≤ length xs → slice_get (put_back xs i x) p ≡ Some r
    → (p ≡ i → x ≡ r → P) → (p ≡ length xs → slice_get xs i ≡ Some r → P) → ((p ≡ i → ⊥) → p < length xs → slice_get xs p ≡ Some r → P) → P
replaced P [] zero x zero r l h new moved old = new refl (let k : x ≡ r = cc in k)
replaced P [] zero x (suc p) r l h new moved old = absurd (let k : None ≡ Some r = h in cc)
replaced P [] (suc i) x p r l h new moved old = absurd (omega arith)
replaced P (y ∷ ys) zero x zero r l h new moved old = new refl (let k : x ≡ r = cc in k)
replaced P (y ∷ ys) zero x (suc p) r l h new moved old =
    pushed P ys y p r h (λ g. old (λ e. omega arith) (let m = slice_get_within ys p r g in omega arith) g) (λ e f. moved (ap (λ n. suc n) e) (ap (λ z. Some z) f))
replaced P (y ∷ ys) (suc i) x zero r l h new moved old = old (λ e. omega arith) (omega arith) h
replaced P (y ∷ ys) (suc i) x (suc p) r l h new moved old =
    replaced P ys i x p r (omega arith) h (λ e f. new (ap (λ n. suc n) e) f) (λ e g. moved (ap (λ n. suc n) e) g)
    (λ ne m g. old (λ e. ne (omega arith)) (omega arith) g)

-- an old one stands somewhere
replaced_stays : {X : Type 0} (xs : List X) (i : ℕ) (x : X) (p : ℕ) (r : X) → slice_get xs p ≡ Some r → (q : ℕ) × (slice_get (put_back xs i x) q ≡ Some r)
replaced_stays [] i x p r h = absurd (let k : None ≡ Some r = h in cc)
replaced_stays (y ∷ ys) zero x zero r h = (suc (length ys), pushed_last ys y ∙ h)
replaced_stays (y ∷ ys) zero x (suc p) r h = (suc p, pushed_stays ys y p r h)
replaced_stays (y ∷ ys) (suc i) x zero r h = (0, h)
replaced_stays (y ∷ ys) (suc i) x (suc p) r h = let k = replaced_stays ys i x p r h in (suc k.0, k.1)

-- at its place, or, where one was put there, at the end
replaced_where : {X : Type 0} (P : Type 0) (xs : List X) (i : ℕ) (x : X) (p : ℕ) (r : X) → slice_get xs p ≡ Some r
    → ((p ≡ i → ⊥) → slice_get (put_back xs i x) p ≡ Some r → P) → (p ≡ i → slice_get (put_back xs i x) (length xs) ≡ Some r → P) → P
replaced_where P [] i x p r h stays moved = absurd (let k : None ≡ Some r = h in cc)
replaced_where P (y ∷ ys) zero x zero r h stays moved = moved refl (pushed_last ys y ∙ h)
replaced_where P (y ∷ ys) zero x (suc p) r h stays moved = stays (λ e. omega arith) (pushed_stays ys y p r h)
replaced_where P (y ∷ ys) (suc i) x zero r h stays moved = stays (λ e. omega arith) h
replaced_where P (y ∷ ys) (suc i) x (suc p) r h stays moved = replaced_where P ys i x p r h (λ ne k. stays (λ e. ne (omega arith)) k) (λ e k. moved (ap suc e) k)

-- ---- a row that comes back

-- the row that left, back at its place, and out of it again
pub row_back : (t : Tables) (place : ℕ) (row : Row) → row_at t (home_for row.cells place) ≡ Some row → with_row_back (without_row t (home_for row.cells place)) place row ≡ t
row_back t place row at =
    let rows = rows_at t (mask_of row.cells) in
    list_restored nat_cmp_total nat_cmp-IsAntisymmetric t (mask_of row.cells) (swap_out rows place) _
    (ap (λ rs. put_back rs place row) (list_at_same nat_cmp_total t (mask_of row.cells) (swap_out rows place)) ∙ swap_out_back rows place row at)

pub row_out_again : (t : Tables) (place : ℕ) (row : Row) → place ≤ length (rows_at t (mask_of row.cells)) → without_row (with_row_back t place row) (home_for row.cells place) ≡ t
row_out_again t place row l =
    let rows = rows_at t (mask_of row.cells) in
    list_restored nat_cmp_total nat_cmp-IsAntisymmetric t (mask_of row.cells) (put_back rows place row) _
    (ap (λ rs. swap_out rs place) (list_at_same nat_cmp_total t (mask_of row.cells) (put_back rows place row)) ∙ put_back_back rows place row l)

-- it stands at its place
pub returned_there : (t : Tables) (place : ℕ) (row : Row) → place ≤ length (rows_at t (mask_of row.cells)) → row_at (with_row_back t place row) (home_for row.cells place) ≡ Some row
returned_there t place row l =
    there_written t (mask_of row.cells) (put_back (rows_at t (mask_of row.cells)) place row) (home_for row.cells place) row refl (put_back_stands (rows_at t (mask_of row.cells)) place row l)

-- a row that stands then is the one that came back, the one from its place at the end of the list, or an old one at
-- another home
pub returned : (P : Type 0) (t : Tables) (place : ℕ) (row : Row) (g : Home) (r : Row) → place ≤ length (rows_at t (mask_of row.cells)) → row_at (with_row_back t place row) g ≡ Some r
    → (g ≡ home_for row.cells place → row ≡ r → P)
    → (g.mask ≡ mask_of row.cells → g.place ≡ length (rows_at t (mask_of row.cells)) → row_at t (home_for row.cells place) ≡ Some r → P)
    → ((g ≡ home_for row.cells place → ⊥) → (g.mask ≡ mask_of row.cells → g.place < length (rows_at t (mask_of row.cells))) → row_at t g ≡ Some r → P) → P
returned P t place row g r l is new moved old =
    written_rows P t (mask_of row.cells) (put_back (rows_at t (mask_of row.cells)) place row) g r is
    (λ e k. replaced P (rows_at t (mask_of row.cells)) place row g.place r l k
    (λ f s. new (same_home g (home_for row.cells place) e f) s)
    (λ f n. moved e f n)
    (λ ne m n. old (λ s. ne (ap (λ x. x.place) s)) (λ u. m) (from_list t (mask_of row.cells) g r e n)))
    (λ ne k. old (λ s. ne (ap (λ x. x.mask) s)) (λ u. absurd (ne u)) k)

pub each_returned : (P : ℕ → Row → Type 0) (t : Tables) (place : ℕ) (row : Row) → place ≤ length (rows_at t (mask_of row.cells)) → EachRow P t → P (mask_of row.cells) row → EachRow P (with_row_back t place row)
each_returned P t place row l each new = λ g r is. returned (P g.mask r) t place row g r l is
    (λ e s. subst (λ (h : Home). P h.mask r) (sym e) (subst (λ (x : Row). P (mask_of row.cells) x) s new))
    (λ m n k. subst (λ (i : ℕ). P i r) (sym m) (each (home_for row.cells place) r k))
    (λ ne n k. each g r k)

pub once_returned : (t : Tables) (place : ℕ) (row : Row) → place ≤ length (rows_at t (mask_of row.cells)) → StandsOnce t → StandsNowhere row.entity t → StandsOnce (with_row_back t place row)
once_returned t place row l once nowhere = λ a b r s p q e.
    returned (a ≡ b) t place row a r l p
    (λ m k. returned (a ≡ b) t place row b s l q
    (λ n j. m ∙ sym n)
    (λ n o g. absurd (nowhere (home_for row.cells place) s g (sym e ∙ ap (λ x. x.entity) (sym k))))
    (λ ne n g. absurd (nowhere b s g (sym e ∙ ap (λ x. x.entity) (sym k)))))
    (λ m i k. returned (a ≡ b) t place row b s l q
    (λ n j. absurd (nowhere (home_for row.cells place) r k (e ∙ ap (λ x. x.entity) (sym j))))
    (λ n o g. same_home a b (m ∙ sym n) (i ∙ sym o))
    (λ ne n g. absurd (ne (sym (once (home_for row.cells place) b r s k g e)))))
    (λ ne m k. returned (a ≡ b) t place row b s l q
    (λ n j. absurd (nowhere a r k (e ∙ ap (λ x. x.entity) (sym j))))
    (λ n o g. absurd (ne (once a (home_for row.cells place) r s k g e)))
    (λ ne' n g. once a b r s k g e))

-- a row that stood somewhere stands somewhere
pub returned_stays : (t : Tables) (place : ℕ) (row : Row) (g : Home) (r : Row) → row_at t g ≡ Some r → (k : Home) × (row_at (with_row_back t place row) k ≡ Some r)
returned_stays t place row g r is =
    let m = mask_of row.cells in
    elim (eq_by_cmp nat_cmp g.mask (mask_of row.cells)) as (λ b. eq_by_cmp nat_cmp g.mask (mask_of row.cells) ≡ b → (k : Home) × (row_at (with_row_back t place row) k ≡ Some r)) [
      | true ↦ λ e.
          let s = equal_keys nat_cmp-IsAntisymmetric g.mask (mask_of row.cells) e in
          let k = replaced_stays (rows_at t (mask_of row.cells)) place row g.place r (in_list t (mask_of row.cells) g r s is) in
          (home_for row.cells k.0, there_written t (mask_of row.cells) (put_back (rows_at t (mask_of row.cells)) place row) (home_for row.cells k.0) r refl k.1)
      | false ↦ λ e. (g, there_apart t (mask_of row.cells) (put_back (rows_at t (mask_of row.cells)) place row) g r (apart _ (mask_of row.cells) e) is)
    ] refl

-- at its home, or, where the one that came back stands there, at the end of the list
pub returned_where : (P : Type 0) (t : Tables) (place : ℕ) (row : Row) (g : Home) (r : Row) → row_at t g ≡ Some r
    → ((g ≡ home_for row.cells place → ⊥) → row_at (with_row_back t place row) g ≡ Some r → P)
    → (g ≡ home_for row.cells place → row_at (with_row_back t place row) (home_for row.cells (length (rows_at t (mask_of row.cells)))) ≡ Some r → P) → P
returned_where P t place row g r is stays moved =
    let m = mask_of row.cells in
    let after = put_back (rows_at t (mask_of row.cells)) place row in
    elim (eq_by_cmp nat_cmp g.mask (mask_of row.cells)) as (λ b. eq_by_cmp nat_cmp g.mask (mask_of row.cells) ≡ b → P) [
      | true ↦ λ e.
          let s = equal_keys nat_cmp-IsAntisymmetric g.mask (mask_of row.cells) e in
          replaced_where P (rows_at t (mask_of row.cells)) place row g.place r (in_list t (mask_of row.cells) g r s is)
          (λ ne k. stays (λ f. ne (ap (λ x. x.place) f)) (there_written t (mask_of row.cells) after g r s k))
          (λ f k. moved (same_home g (home_for row.cells place) s f) (there_written t (mask_of row.cells) after (home_for row.cells (length (rows_at t (mask_of row.cells)))) r refl k))
      | false ↦ λ e. stays (λ f. apart g.mask (mask_of row.cells) e (ap (λ x. x.mask) f)) (there_apart t (mask_of row.cells) after g r (apart g.mask (mask_of row.cells) e) is)
    ] refl

-- everybody lives on
pub lives_returned : (t : Tables) (place : ℕ) (row : Row) (e : Entity) → lives t e ≡ true → lives (with_row_back t place row) e ≡ true
lives_returned t place row e l =
    let h = here_live t e l in
    let k = returned_stays t place row h.0 h.1.row h.1.there in
    live_here (with_row_back t place row) e k.0 h.1.row k.1 h.1.same

-- a row that is put back behind the last goes last
pub back_last : (t : Tables) (row : Row) (mask last : ℕ) → mask ≡ mask_of row.cells → last ≡ length (rows_at t mask) → with_row_back t last row ≡ with_row t row
back_last t row mask last m l =
    ap (λ n. with_row_back t n row) (l ∙ ap (λ k. length (rows_at t k)) m) ∙ ap (with_rows t (mask_of row.cells)) (put_back_last (rows_at t (mask_of row.cells)) row)

-- also after one left the table of another kind set
pub moved_last : (t : Tables) (h : Home) (row : Row) (mask last : ℕ) → mask ≡ mask_of row.cells → (h.mask ≡ mask → ⊥) → last ≡ length (rows_at t mask) → with_row_back (without_row t h) last row ≡ with_row (without_row t h) row
moved_last t h row mask last m ne l =
    back_last (without_row t h) row mask last m (l ∙ ap length (sym (list_at_apart nat_cmp_total nat_cmp-IsAntisymmetric t h.mask mask (swap_out (rows_at t h.mask) h.place) (λ e. ne (sym e)))))
