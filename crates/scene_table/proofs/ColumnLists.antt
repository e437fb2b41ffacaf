-- Columns that are gone over one after the other.
use Rattle.std.proofs.Common.{◌≡◌, ℕ, zero, suc, ◌+◌, ◌<◌, ◌≤◌, List, [], ◌∷◌, ◌++◌, length, get_or, take, drop, map, refl, ap, subst, sym, ◌∙◌, arith, Option, Some, None}
use Rattle.std.specs.Prelude.{◌||◌, Bool, false, slice_get, slice_set}
use Rattle.std.specs.List.{AllZip, list_any}
use Rattle.std.specs.Option.{option_map}
use Rattle.std.proofs.lemmas.List.{take_more}
use Rattle.std.proofs.lemmas.List.Elements.{AllZip-push}
use Rattle.std.proofs.lemmas.List.Folds.{list_any_more}
use Rattle.scene_kinds.specs.declared.cell.Cell.{Cell}
use Rattle.scene_table.specs.Columns.{ColumnState, AreCellsAt, IsSameColumn, IsGrown, back_in_column, put_each}

-- a list whose first elements were mapped
abbrev pub mapped : {X : Type 0} → (X → X) → ℕ → List X → List X
mapped f zero xs = xs
mapped f (suc n) [] = []
mapped f (suc n) (x ∷ xs) = f x ∷ mapped f n xs

module _ {X : Type 0} (f : X → X) where
  -- the next one is as it was
  pub mapped-next : (n : ℕ) (xs : List X) (d : X) → get_or (mapped f n xs) n d ≡ get_or xs n d
  mapped-next zero xs d = refl
  mapped-next (suc n) [] d = refl
  mapped-next (suc n) (x ∷ xs) d = mapped-next n xs d

  -- and may be mapped
  pub mapped-more : (n : ℕ) (xs : List X) (d : X) → n < length xs → slice_set (mapped f n xs) n (f (get_or xs n d)) ≡ mapped f (suc n) xs
  mapped-more n [] d l = absurd (omega arith)
  mapped-more zero (x ∷ xs) d l = refl
  mapped-more (suc n) (x ∷ xs) d l = ap (λ t. f x ∷ t) (mapped-more n xs d (omega arith))

  -- all are mapped
  pub mapped-all : (n : ℕ) (xs : List X) → length xs ≤ n → mapped f n xs ≡ map f xs
  mapped-all zero [] l = refl
  mapped-all (suc n) [] l = refl
  mapped-all zero (x ∷ xs) l = absurd (omega arith)
  mapped-all (suc n) (x ∷ xs) l = ap (λ t. f x ∷ t) (mapped-all n xs (omega arith))

  -- there are as many
  pub length-mapped : (n : ℕ) (xs : List X) → length (mapped f n xs) ≡ length xs
  length-mapped zero xs = refl
  length-mapped (suc n) [] = refl
  length-mapped (suc n) (x ∷ xs) = ap (λ k. suc k) (length-mapped n xs)

  -- the next one in the list as the loop has it
  pub mapped_here : (n : ℕ) (all xs : List X) (d : X) → xs ≡ mapped f n all → get_or xs n d ≡ get_or all n d
  mapped_here n all xs d is = ap (λ t. get_or t n d) is ∙ mapped-next n all d

  -- and the list after it was mapped
  pub mapped_step : (n : ℕ) (all xs : List X) (new d : X) → xs ≡ mapped f n all → n < length all → new ≡ f (get_or xs n d) → slice_set xs n new ≡ mapped f (n + 1) all
  mapped_step n all xs new d is l e =
      let next : suc n ≡ n + 1 = omega arith in
      ap (slice_set xs n) (e ∙ ap f (mapped_here n all xs d is)) ∙ ap (λ t. slice_set t n (f (get_or all n d))) is ∙ mapped-more n all d l ∙ ap (λ k. mapped f k all) next

  -- what is true of all is true of the next
  pub mapped_true : (P : X → Type 0) (n : ℕ) (all xs : List X) (d : X) → ((k : ℕ) (e : X) → k < length all → P (get_or all k e)) → xs ≡ mapped f n all → n < length all → P (get_or xs n d)
  mapped_true P n all xs d true_of is l = subst P (sym (mapped_here n all xs d is)) (true_of n d l)

  -- the list at the end
  pub mapped_end : (n : ℕ) (all xs : List X) → xs ≡ mapped f n all → length all ≤ n → xs ≡ map f all
  mapped_end n all xs is l = is ∙ mapped-all n all l

-- the cell of a column among those at a place
pub cell_read : (columns : List ColumnState) (at : ℕ) (cells : List (ℕ × Cell)) (n : ℕ) (d : ColumnState) (e : ℕ × Cell) → AreCellsAt columns at cells → n < length columns →
    slice_get (get_or columns n d).cells at ≡ Some (get_or cells n e).1
cell_read [] at cells n d e are l = absurd (omega arith)
cell_read (column ∷ columns) at [] n d e are l = cc
cell_read (column ∷ columns) at (cell ∷ cells) zero d e are l = first (slice_get column.cells at) (ap (λ t. get_or t 0 None) are)
  where
    first : (o : Option Cell) → option_map (λ (c : Cell). (column.kind, c)) o ≡ Some cell → o ≡ Some cell.1
    first None h = absurd (let g : None ≡ Some cell = h in cc)
    first (Some c) h = cc
cell_read (column ∷ columns) at (cell ∷ cells) (suc n) d e are l = cell_read columns at cells n d e (ap (λ t. drop 1 t) are) (omega arith)

-- there are as many cells as columns
pub length-cells_at : (columns : List ColumnState) (at : ℕ) (cells : List (ℕ × Cell)) → AreCellsAt columns at cells → length cells ≡ length columns
length-cells_at [] at [] are = refl
length-cells_at [] at (cell ∷ cells) are = cc
length-cells_at (column ∷ columns) at [] are = cc
length-cells_at (column ∷ columns) at (cell ∷ cells) are = ap (λ n. suc n) (length-cells_at columns at cells (ap (λ t. drop 1 t) are))

-- the cells at a place of the first columns, and of one more
pub cells_more : (columns : List ColumnState) (at : ℕ) (n : ℕ) (d : ColumnState) (cells : List (ℕ × Cell)) (cell : Cell) → n < length columns → AreCellsAt (take n columns) at cells →
    slice_get (get_or columns n d).cells at ≡ Some cell → AreCellsAt (take (suc n) columns) at (cells ++ ((get_or columns n d).kind, cell) ∷ [])
cells_more [] at n d cells cell l are is = absurd (omega arith)
cells_more (column ∷ columns) at zero d [] cell l are is = ap (λ o. option_map (λ (c : Cell). (column.kind, c)) o ∷ []) is
cells_more (column ∷ columns) at zero d (c ∷ cells) cell l are is = cc
cells_more (column ∷ columns) at (suc n) d [] cell l are is = cc
cells_more (column ∷ columns) at (suc n) d (c ∷ cells) cell l are is =
    λ i. get_or (are i) 0 None ∷ cells_more columns at n d cells cell (omega arith) (ap (λ t. drop 1 t) are) is i

-- the last of the cells is put into its column before the others
pub put_last : (at : ℕ) (cells : List (ℕ × Cell)) (cell : ℕ × Cell) (columns : List ColumnState) (d : ColumnState) → length cells < length columns →
    put_each at (cells ++ cell ∷ []) columns ≡ put_each at cells (slice_set columns (length cells) (back_in_column at (get_or columns (length cells) d) cell.1))
put_last at [] cell [] d l = absurd (omega arith)
put_last at [] cell (column ∷ columns) d l = refl
put_last at (c ∷ cells) cell [] d l = absurd (omega arith)
put_last at (c ∷ cells) cell (column ∷ columns) d l = ap (λ t. back_in_column at column c.1 ∷ t) (put_last at cells cell columns d (omega arith))

-- where cells were put into the first columns, the next is as it was
pub put-next : (at n : ℕ) (cells : List (ℕ × Cell)) (columns : List ColumnState) (d : ColumnState) → n ≤ length cells → n < length columns →
    get_or (put_each at (take n cells) columns) n d ≡ get_or columns n d
put-next at zero cells columns d l m = refl
put-next at (suc n) [] columns d l m = absurd (omega arith)
put-next at (suc n) (c ∷ cells) [] d l m = absurd (omega arith)
put-next at (suc n) (c ∷ cells) (column ∷ columns) d l m = put-next at n cells columns d (omega arith) (omega arith)

-- and takes its cell
pub put-more : (at n : ℕ) (cells : List (ℕ × Cell)) (columns : List ColumnState) (d : ColumnState) (e : ℕ × Cell) → n < length cells → n < length columns →
    slice_set (put_each at (take n cells) columns) n (back_in_column at (get_or columns n d) (get_or cells n e).1) ≡ put_each at (take (suc n) cells) columns
put-more at n [] columns d e l m = absurd (omega arith)
put-more at n (c ∷ cells) [] d e l m = absurd (omega arith)
put-more at zero (c ∷ cells) (column ∷ columns) d e l m = refl
put-more at (suc n) (c ∷ cells) (column ∷ columns) d e l m = ap (λ t. back_in_column at column c.1 ∷ t) (put-more at n cells columns d e (omega arith) (omega arith))

pub length-put_each : (at : ℕ) (cells : List (ℕ × Cell)) (columns : List ColumnState) → length cells ≤ length columns → length (put_each at cells columns) ≡ length columns
length-put_each at [] columns l = refl
length-put_each at (c ∷ cells) [] l = absurd (omega arith)
length-put_each at (c ∷ cells) (column ∷ columns) l = ap (λ n. suc n) (length-put_each at cells columns (omega arith))

-- cells that are put into columns one part after the other
pub put-append : (at : ℕ) (a b : List (ℕ × Cell)) (s t : List ColumnState) → length a ≡ length s → put_each at (a ++ b) (s ++ t) ≡ put_each at a s ++ put_each at b t
put-append at [] b [] t e = refl
put-append at [] b (column ∷ s) t e = absurd (omega arith)
put-append at (c ∷ a) b [] t e = absurd (omega arith)
put-append at (c ∷ a) b (column ∷ s) t e = ap (λ r. back_in_column at column c.1 ∷ r) (put-append at a b s t (omega arith))

-- the cells of a part of the columns
pub cells-take : (columns : List ColumnState) (at n : ℕ) (cells : List (ℕ × Cell)) → AreCellsAt columns at cells → AreCellsAt (take n columns) at (take n cells)
cells-take columns at zero cells are = refl
cells-take [] at (suc n) [] are = refl
cells-take [] at (suc n) (c ∷ cells) are = cc
cells-take (column ∷ columns) at (suc n) [] are = cc
cells-take (column ∷ columns) at (suc n) (c ∷ cells) are = λ i. get_or (are i) 0 None ∷ cells-take columns at n cells (ap (λ t. drop 1 t) are) i

pub cells-drop : (columns : List ColumnState) (at n : ℕ) (cells : List (ℕ × Cell)) → AreCellsAt columns at cells → AreCellsAt (drop n columns) at (drop n cells)
cells-drop columns at zero cells are = are
cells-drop [] at (suc n) [] are = refl
cells-drop [] at (suc n) (c ∷ cells) are = cc
cells-drop (column ∷ columns) at (suc n) [] are = cc
cells-drop (column ∷ columns) at (suc n) (c ∷ cells) are = cells-drop columns at n cells (ap (λ t. drop 1 t) are)

-- columns are grown by nothing
pub grown_not : (columns : List ColumnState) → AllZip IsGrown columns columns
grown_not [] = tt
grown_not (column ∷ columns) = (record { same = record { kind = refl; cells = refl }; wide = omega arith }, grown_not columns)

-- by one more that is grown
pub grown_more : (old new : List ColumnState) (n : ℕ) (d column : ColumnState) → AllZip IsGrown old new → n < length new → IsGrown (get_or new n d) column → AllZip IsGrown old (slice_set new n column)
grown_more [] [] n d column all l is = absurd (omega arith)
grown_more [] (x ∷ new) n d column all l is = absurd all
grown_more (o ∷ old) [] n d column all l is = absurd all
grown_more (o ∷ old) (x ∷ new) zero d column all l is =
    (record { same = record { kind = is.same.kind ∙ all.0.same.kind; cells = is.same.cells ∙ all.0.same.cells }; wide = omega (arith, is.wide, all.0.wide) }, all.1)
grown_more (o ∷ old) (x ∷ new) (suc n) d column all l is = (all.0, grown_more old new n d column all.1 (omega arith) is)

-- copies, and one more
pub copied_more : (olds copies : List ColumnState) (n : ℕ) (old copy : ColumnState) → n < length olds → old ≡ get_or olds n old → AllZip IsSameColumn (take n olds) copies → IsSameColumn old copy → AllZip IsSameColumn (take (n + 1) olds) (copies ++ copy ∷ [])
copied_more olds copies n old copy l e all is =
    subst (λ xs. AllZip IsSameColumn xs (copies ++ copy ∷ [])) (sym (take_more olds n old l ∙ ap (λ x. take n olds ++ x ∷ []) (sym e))) (AllZip-push IsSameColumn (take n olds) copies old copy all is)

-- cells that were put into the first columns, and into one more
pub put_step : (at n : ℕ) (cells : List (ℕ × Cell)) (all columns : List ColumnState) (new d : ColumnState) (cell : Cell) (e : ℕ × Cell) → columns ≡ put_each at (take n cells) all → n < length cells → n < length all →
    cell ≡ (get_or cells n e).1 → new ≡ back_in_column at (get_or columns n d) cell → slice_set columns n new ≡ put_each at (take (n + 1) cells) all
put_step at n cells all columns new d cell e is l m here made =
    let next : suc n ≡ n + 1 = omega arith in
    ap (slice_set columns n) (made ∙ ap (λ t. back_in_column at t cell) (ap (λ t. get_or t n d) is ∙ put-next at n cells all d (omega arith) m) ∙ ap (back_in_column at (get_or all n d)) here)
    ∙ ap (λ t. slice_set t n (back_in_column at (get_or all n d) (get_or cells n e).1)) is ∙ put-more at n cells all d e l m ∙ ap (λ k. put_each at (take k cells) all) next

-- the next column, as the loop has it
pub put_here : (at n : ℕ) (cells : List (ℕ × Cell)) (all columns : List ColumnState) (d : ColumnState) → columns ≡ put_each at (take n cells) all → n ≤ length cells → n < length all → get_or columns n d ≡ get_or all n d
put_here at n cells all columns d is l m = ap (λ t. get_or t n d) is ∙ put-next at n cells all d l m

-- none of the first columns passes a test, and neither does one more
pub none_more : {X : Type 0} (test : X → Bool) (xs : List X) (n : ℕ) (x : X) → n < length xs → x ≡ get_or xs n x → list_any test (take n xs) ≡ false → test x ≡ false → list_any test (take (n + 1) xs) ≡ false
none_more test xs n x l is before now = list_any_more test xs n x l ∙ (λ i. before i || (ap test (sym is) ∙ now) i)
