-- The last row of a list that leaves it and comes again.
use Rattle.std.proofs.Common.{◌≡◌, List, [], ◌∷◌, ◌++◌, length, refl, ap, sym, ◌∙◌, Some}
use Rattle.std.specs.Prelude.{slice_get}
use Rattle.std.specs.Cmp.{nat_cmp_total}
use Rattle.std.specs.FinMap.{nat_cmp-IsAntisymmetric}
use Rattle.scene_kinds.specs.declared.cells.Row.{Row}
use Rattle.scene_kinds.specs.Cells.{mask_of}
use Rattle.scene_kinds.proofs.Elements.{pushed_last}
use Rattle.scene_kinds.proofs.Lists.{list_at_same, list_restored}
use Rattle.scene_alloc.specs.Ends.{last, front}
use Rattle.scene_alloc.proofs.SlotLaws.{push-last}
use Rattle.scene_table.specs.Rows.{swap_out}
use Rattle.scene_table.specs.declared.home.Home.{Home}
use Rattle.scene_table.specs.Tables.{Tables, rows_at, row_at, with_row, without_row, home_for}

-- one that was put last leaves
swap_out_pushed : {X : Type 0} (xs : List X) (x : X) → swap_out (xs ++ x ∷ []) (length xs) ≡ xs
swap_out_pushed [] x = refl
swap_out_pushed (y ∷ ys) x = ap (λ t. y ∷ t) (swap_out_pushed ys x)

-- the last stands behind the front
last_there : {X : Type 0} (xs : List X) (x : X) → last xs ≡ Some x → slice_get xs (length (front xs)) ≡ Some x
last_there xs x q = ap (λ ys. slice_get ys (length (front xs))) (sym (push-last xs x q)) ∙ pushed_last (front xs) x

last_out : {X : Type 0} (xs : List X) (x : X) → last xs ≡ Some x → swap_out xs (length (front xs)) ≡ front xs
last_out xs x q = ap (λ ys. swap_out ys (length (front xs))) (sym (push-last xs x q)) ∙ swap_out_pushed (front xs) x

-- ---- a row that was put last leaves, and the last one comes again

-- where a row stands that was put last
abbrev pub next_home : Tables → Row → Home
next_home t row = home_for row.cells (length (rows_at t (mask_of row.cells)))

-- where the last row stands
abbrev pub last_home : Tables → Row → Home
last_home t row = home_for row.cells (length (front (rows_at t (mask_of row.cells))))

pub pushed_row_out : (t : Tables) (row : Row) → without_row (with_row t row) (next_home t row) ≡ t
pushed_row_out t row =
    let rows = rows_at t (mask_of row.cells) in
    list_restored nat_cmp_total nat_cmp-IsAntisymmetric t (mask_of row.cells) (rows ++ row ∷ []) _
    (ap (λ rs. swap_out rs (length rows)) (list_at_same nat_cmp_total t (mask_of row.cells) (rows ++ row ∷ [])) ∙ swap_out_pushed rows row)

pub last_row_there : (t : Tables) (row : Row) → last (rows_at t (mask_of row.cells)) ≡ Some row → row_at t (last_home t row) ≡ Some row
last_row_there t row q = last_there (rows_at t (mask_of row.cells)) row q

pub last_row_again : (t : Tables) (row : Row) → last (rows_at t (mask_of row.cells)) ≡ Some row → with_row (without_row t (last_home t row)) row ≡ t
last_row_again t row q =
    let rows = rows_at t (mask_of row.cells) in
    let left = swap_out rows (length (front rows)) in
    list_restored nat_cmp_total nat_cmp-IsAntisymmetric t (mask_of row.cells) left _
    (ap (λ rs. rs ++ row ∷ []) (list_at_same nat_cmp_total t (mask_of row.cells) left ∙ last_out rows row q) ∙ push-last rows row q)
