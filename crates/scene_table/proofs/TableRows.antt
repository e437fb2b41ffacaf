-- The rows that entities and columns make, and what is done to both.
use Rattle.std.proofs.Common.{◌≡◌, ℕ, zero, suc, ◌-◌, ◌<◌, true, false, cond, List, [], ◌∷◌, length, get_or, drop, map, refl, ap, sym, ◌∙◌, arith, Option, Some, None, nat_eq}
use Rattle.std.specs.Prelude.{◌||◌, slice_get, slice_range, slice_set}
use Rattle.std.specs.List.{list_any, position_from}
use Rattle.std.specs.Option.{option_map}
use Rattle.std.proofs.lemmas.List.{set-get_or, map-append}
use Rattle.std.proofs.lemmas.List.Elements.{All-take, All-drop, All-map}
use Rattle.std.proofs.lemmas.List.Folds.{list_any_none}
use Rattle.std.proofs.lemmas.Option.{get_or_from_slice_get}
use Rattle.scene_kinds.specs.Cells.{cell_of}
use Rattle.scene_kinds.specs.declared.cell.Cell.{Cell}
use Rattle.scene_kinds.specs.declared.cells.Row.{Row}
use Rattle.scene_kinds.specs.declared.entity.Entity.{Entity}
use Rattle.scene_kinds.proofs.Places.{eq_by_cmp-nat_eq}
use Rattle.scene_kinds.proofs.Positions.{found}
use Rattle.scene_table.specs.Rows.{last_of, front_of, last_first, swap_out, put_back}
use Rattle.scene_table.specs.Columns.{ColumnState, zip_with, with_first, rows_of, out_of_column, put_each, kinds_of, kinds_in, AreCellsAt, AreLong}
use Rattle.scene_table.specs.declared.since.Since.{Since}
use Rattle.scene_table.specs.Since.{is_since, row_has, rows_have}
use Rattle.scene_table.proofs.Zips.{zip-length, zip-swap_out, zip-put_back, zip-set, zip-get, zip-part, zip-any-either, parts-length}

-- a map over rows that leave, come back, or are written
map-swap_out : {X Y : Type 0} (f : X → Y) (xs : List X) (i : ℕ) → map f (swap_out xs i) ≡ swap_out (map f xs) i
map-swap_out f [] i = refl
map-swap_out f (x ∷ xs) zero = map-last_first f xs
  where
    map-last : {X Y : Type 0} (f : X → Y) (x : X) (xs : List X) → f (last_of x xs) ≡ last_of (f x) (map f xs)
    map-last f x [] = refl
    map-last f x (y ∷ ys) = map-last f y ys

    map-front : {X Y : Type 0} (f : X → Y) (x : X) (xs : List X) → map f (front_of x xs) ≡ front_of (f x) (map f xs)
    map-front f x [] = refl
    map-front f x (y ∷ ys) = ap (λ t. f x ∷ t) (map-front f y ys)

    map-last_first : {X Y : Type 0} (f : X → Y) (xs : List X) → map f (last_first xs) ≡ last_first (map f xs)
    map-last_first f [] = refl
    map-last_first f (x ∷ xs) = λ i. map-last f x xs i ∷ map-front f x xs i
map-swap_out f (x ∷ xs) (suc i) = ap (λ t. f x ∷ t) (map-swap_out f xs i)

map-put_back : {X Y : Type 0} (f : X → Y) (xs : List X) (i : ℕ) (x : X) → map f (put_back xs i x) ≡ put_back (map f xs) i (f x)
map-put_back f [] i x = refl
map-put_back f (y ∷ ys) zero x = ap (λ t. f x ∷ t) (map-append f ys (y ∷ []))
map-put_back f (y ∷ ys) (suc i) x = ap (λ t. f y ∷ t) (map-put_back f ys i x)

map-get : {X Y : Type 0} (f : X → Y) (xs : List X) (i : ℕ) (x : X) → slice_get xs i ≡ Some x → slice_get (map f xs) i ≡ Some (f x)
map-get f [] i x h = absurd (let g : None ≡ Some x = h in cc)
map-get f (y ∷ ys) zero x h = cc
map-get f (y ∷ ys) (suc i) x h = map-get f ys i x h

length-map : {X Y : Type 0} (f : X → Y) (xs : List X) → length (map f xs) ≡ length xs
length-map f [] = refl
length-map f (x ∷ xs) = ap (λ n. suc n) (length-map f xs)

-- the columns behind the first are as long
pub rest_long : (n : ℕ) (column : ColumnState) (columns : List ColumnState) → AreLong n (column ∷ columns) → AreLong n columns
rest_long n column columns long k d l = long (suc k) d (omega arith)

pub first_long : (n : ℕ) (column : ColumnState) (columns : List ColumnState) → AreLong n (column ∷ columns) → length column.cells ≡ n
first_long n column columns long = long 0 column (omega arith)

-- there are as many rows as entities
pub length-rows_of : (entities : List Entity) (columns : List ColumnState) → AreLong (length entities) columns → length (rows_of entities columns) ≡ length entities
length-rows_of entities [] long = length-map _ entities
length-rows_of entities (column ∷ columns) long =
    let first = first_long (length entities) column columns long in
    let rest = length-rows_of entities columns (rest_long (length entities) column columns long) in
    zip-length (with_first column.kind) column.cells (rows_of entities columns) (first ∙ sym rest) ∙ first

-- the first column is as long as the rows of the others
pub same_length : (entities : List Entity) (column : ColumnState) (columns : List ColumnState) → AreLong (length entities) (column ∷ columns) → length column.cells ≡ length (rows_of entities columns)
same_length entities column columns long = first_long (length entities) column columns long ∙ sym (length-rows_of entities columns (rest_long (length entities) column columns long))

-- a row of a part has a cell since a tick where a column has one in that part
pub rows_any : (since : Since) (entities : List Entity) (columns : List ColumnState) (from to : ℕ) → AreLong (length entities) columns →
    rows_have since (slice_range (rows_of entities columns) from to) ≡ list_any (λ (column : ColumnState). list_any (is_since since) (slice_range column.cells from to)) columns
rows_any since entities [] from to long =
    let bare = map (λ (entity : Entity). record { entity = entity; cells = [] }) entities in
    list_any_none (row_has since) (slice_range bare from to) (All-take (λ (row : Row). row_has since row ≡ false) (to - from) (drop from bare) (All-drop (λ (row : Row). row_has since row ≡ false) from bare
    (All-map (λ (row : Row). row_has since row ≡ false) (λ (entity : Entity). record { entity = entity; cells = [] }) entities (λ k d l. refl))))
rows_any since entities (column ∷ columns) from to long =
    ap (rows_have since) (zip-part (with_first column.kind) column.cells (rows_of entities columns) from to)
    ∙ zip-any-either (with_first column.kind) (row_has since) (is_since since) (row_has since) (λ cell row. refl) _ _ (parts-length column.cells (rows_of entities columns) (same_length entities column columns long) from to)
    ∙ ap (λ b. list_any (is_since since) (slice_range column.cells from to) || b) (rows_any since entities columns from to (rest_long (length entities) column columns long))

-- a row leaves, with its entity and a cell of each column
pub rows_out : (entities : List Entity) (columns : List ColumnState) (at : ℕ) → AreLong (length entities) columns →
    rows_of (swap_out entities at) (map (out_of_column at) columns) ≡ swap_out (rows_of entities columns) at
rows_out entities [] at long = map-swap_out _ entities at
rows_out entities (column ∷ columns) at long =
    ap (zip_with (with_first column.kind) (swap_out column.cells at)) (rows_out entities columns at (rest_long (length entities) column columns long))
    ∙ zip-swap_out (with_first column.kind) column.cells (rows_of entities columns) at (same_length entities column columns long)

-- a row comes back, with its entity and a cell for each column
pub rows_back : (entities : List Entity) (columns : List ColumnState) (at : ℕ) (entity : Entity) (cells : List (ℕ × Cell)) → AreLong (length entities) columns → kinds_in cells ≡ kinds_of columns →
    rows_of (put_back entities at entity) (put_each at cells columns) ≡ put_back (rows_of entities columns) at (record { entity = entity; cells = cells })
rows_back entities [] at entity [] long same = map-put_back _ entities at entity
rows_back entities [] at entity (cell ∷ cells) long same = cc
rows_back entities (column ∷ columns) at entity [] long same = cc
rows_back entities (column ∷ columns) at entity (cell ∷ cells) long same =
    let kind : cell.0 ≡ column.kind = ap (λ ks. get_or ks 0 0) same in
    let rest : kinds_in cells ≡ kinds_of columns = ap (λ ks. drop 1 ks) same in
    ap (zip_with (with_first column.kind) (put_back column.cells at cell.1)) (rows_back entities columns at entity cells (rest_long (length entities) column columns long) rest)
    ∙ zip-put_back (with_first column.kind) column.cells (rows_of entities columns) at cell.1 (record { entity = entity; cells = cells }) (same_length entities column columns long)
    ∙ ap (λ (k : ℕ). put_back (zip_with (with_first column.kind) column.cells (rows_of entities columns)) at (record { entity = entity; cells = (k, cell.1) ∷ cells })) (sym kind)

-- the row at a place
pub rows_get : (entities : List Entity) (columns : List ColumnState) (at : ℕ) (entity : Entity) (cells : List (ℕ × Cell)) → slice_get entities at ≡ Some entity → AreCellsAt columns at cells →
    slice_get (rows_of entities columns) at ≡ Some (record { entity = entity; cells = cells })
rows_get entities [] at entity [] is are = map-get _ entities at entity is
rows_get entities [] at entity (cell ∷ cells) is are = cc
rows_get entities (column ∷ columns) at entity [] is are = cc
rows_get entities (column ∷ columns) at entity (cell ∷ cells) is are =
    let here = first_cell (slice_get column.cells at) (ap (λ t. get_or t 0 None) are) in
    zip-get (with_first column.kind) column.cells (rows_of entities columns) at cell.1 (record { entity = entity; cells = cells }) here.0 (rows_get entities columns at entity cells is (ap (λ t. drop 1 t) are))
    ∙ ap (λ (k : ℕ). Some (record { entity = entity; cells = (k, cell.1) ∷ cells })) here.1
  where
    first_cell : (o : Option Cell) → option_map (λ (c : Cell). (column.kind, c)) o ≡ Some cell → (o ≡ Some cell.1) × (column.kind ≡ cell.0)
    first_cell None h = absurd (let g : None ≡ Some cell = h in cc)
    first_cell (Some c) h = let e : (column.kind, c) ≡ cell = ap (λ o. option_or o) h in ((ap (λ x. Some x.1) e), ap (λ x. x.0) e)
      where
        option_or : Option (ℕ × Cell) → ℕ × Cell
        option_or None = cell
        option_or (Some x) = x

-- what stands at a place in two lists made one
zip-parts : {X Y Z : Type 0} (f : X → Y → Z) (xs : List X) (ys : List Y) (i : ℕ) (z : Z) → slice_get (zip_with f xs ys) i ≡ Some z →
    (x : X) × (y : Y) × (slice_get xs i ≡ Some x) × (slice_get ys i ≡ Some y) × (f x y ≡ z)
zip-parts f [] ys i z h = absurd (let g : None ≡ Some z = h in cc)
zip-parts f (x ∷ xs) [] i z h = absurd (let g : None ≡ Some z = h in cc)
zip-parts f (x ∷ xs) (y ∷ ys) zero z h = (x, y, refl, refl, (let g : Some (f x y) ≡ Some z = h in cc))
zip-parts f (x ∷ xs) (y ∷ ys) (suc i) z h = zip-parts f xs ys i z h

map-parts : (entities : List Entity) (i : ℕ) (row : Row) → slice_get (map (λ (entity : Entity). record { entity = entity; cells = [] }) entities) i ≡ Some row → (slice_get entities i ≡ Some row.entity) × (row.cells ≡ [])
map-parts [] i row h = absurd (let g : None ≡ Some row = h in cc)
map-parts (entity ∷ entities) zero row h = let e : record { entity = entity; cells = [] } ≡ row = cc in (ap (λ (r : Row). Some r.entity) e, sym (ap (λ (r : Row). r.cells) e))
map-parts (entity ∷ entities) (suc i) row h = map-parts entities i row h

-- the entity and the cells of the row at a place
pub row_parts : (entities : List Entity) (columns : List ColumnState) (at : ℕ) (row : Row) → slice_get (rows_of entities columns) at ≡ Some row → (slice_get entities at ≡ Some row.entity) × AreCellsAt columns at row.cells
row_parts entities [] at row h = let p = map-parts entities at row h in (p.0, sym (ap (map (λ (cell : ℕ × Cell). Some cell)) p.1))
row_parts entities (column ∷ columns) at row h =
    let p = zip-parts (with_first column.kind) column.cells (rows_of entities columns) at row h in
    let rest = row_parts entities columns at p.1 p.3 in (
      rest.0 ∙ ap (λ (r : Row). Some r.entity) p.4,
      (λ i. option_map (λ (cell : Cell). (column.kind, cell)) (p.2 i) ∷ rest.1 i) ∙ ap (λ (r : Row). map (λ (cell : ℕ × Cell). Some cell) r.cells) p.4,
    )

-- a list with an element written that stood there
unchanged : {X : Type 0} (xs : List X) (i : ℕ) (x : X) → slice_get xs i ≡ Some x → slice_set xs i x ≡ xs
unchanged xs i x h = ap (slice_set xs i) (sym (get_or_from_slice_get xs i x x h)) ∙ set-get_or xs i x

-- one cell of the row at a place is written, in its column
pub rows_set : (entities : List Entity) (columns : List ColumnState) (at n : ℕ) (d : ColumnState) (entity : Entity) (cells : List (ℕ × Cell)) (cell : Cell) → AreLong (length entities) columns →
    slice_get entities at ≡ Some entity → AreCellsAt columns at cells → n < length columns →
    rows_of entities (slice_set columns n (record (get_or columns n d) { cells = slice_set (get_or columns n d).cells at cell }))
    ≡ slice_set (rows_of entities columns) at (record { entity = entity; cells = slice_set cells n ((get_or columns n d).kind, cell) })
rows_set entities [] at n d entity cells cell long is are l = absurd (omega arith)
rows_set entities (column ∷ columns) at n d entity [] cell long is are l = cc
rows_set entities (column ∷ columns) at zero d entity (c ∷ cells) cell long is are l =
    let rest = rows_get entities columns at entity cells is (ap (λ t. drop 1 t) are) in
    ap (zip_with (with_first column.kind) (slice_set column.cells at cell)) (sym (unchanged (rows_of entities columns) at (record { entity = entity; cells = cells }) rest))
    ∙ zip-set (with_first column.kind) column.cells (rows_of entities columns) at cell (record { entity = entity; cells = cells }) (same_length entities column columns long)
rows_set entities (column ∷ columns) at (suc n) d entity (c ∷ cells) cell long is are l =
    let here = first_cell (slice_get column.cells at) (ap (λ t. get_or t 0 None) are) in
    let new : Row = record { entity = entity; cells = slice_set cells n ((get_or columns n d).kind, cell) } in
    ap (zip_with (with_first column.kind) column.cells) (rows_set entities columns at n d entity cells cell (rest_long (length entities) column columns long) is (ap (λ t. drop 1 t) are) (omega arith))
    ∙ ap (λ t. zip_with (with_first column.kind) t (slice_set (rows_of entities columns) at new)) (sym (unchanged column.cells at c.1 here.0))
    ∙ zip-set (with_first column.kind) column.cells (rows_of entities columns) at c.1 new (same_length entities column columns long)
    ∙ ap (λ (k : ℕ). slice_set (rows_of entities (column ∷ columns)) at (record { entity = entity; cells = (k, c.1) ∷ slice_set cells n ((get_or columns n d).kind, cell) })) here.1
  where
    first_cell : (o : Option Cell) → option_map (λ (x : Cell). (column.kind, x)) o ≡ Some c → (o ≡ Some c.1) × (column.kind ≡ c.0)
    first_cell None h = absurd (let g : None ≡ Some c = h in cc)
    first_cell (Some x) h = let e : (column.kind, x) ≡ c = cc in ((ap (λ (y : ℕ × Cell). Some y.1) e), ap (λ (y : ℕ × Cell). y.0) e)

-- what is made of two elements has what the second brings
zip-all : {X Y Z : Type 0} (f : X → Y → Z) (P : Z → Type 0) (Q : Y → Type 0) → ((x : X) (y : Y) → Q y → P (f x y)) → (xs : List X) (ys : List Y) → ((k : ℕ) (d : Y) → k < length ys → Q (get_or ys k d)) →
    (k : ℕ) (d : Z) → k < length (zip_with f xs ys) → P (get_or (zip_with f xs ys) k d)
zip-all f P Q h [] ys all k d l = absurd (omega arith)
zip-all f P Q h (x ∷ xs) [] all k d l = absurd (omega arith)
zip-all f P Q h (x ∷ xs) (y ∷ ys) all zero d l = h x y (all 0 y (omega arith))
zip-all f P Q h (x ∷ xs) (y ∷ ys) all (suc k) d l = zip-all f P Q h xs ys (λ j e m. all (suc j) e (omega arith)) k d (omega arith)

-- each row has the kinds of the columns
pub row_kinds : (entities : List Entity) (columns : List ColumnState) (k : ℕ) (d : Row) → k < length (rows_of entities columns) → kinds_in (get_or (rows_of entities columns) k d).cells ≡ kinds_of columns
row_kinds [] [] k d l = absurd (omega arith)
row_kinds (entity ∷ entities) [] zero d l = refl
row_kinds (entity ∷ entities) [] (suc k) d l = row_kinds entities [] k d (omega arith)
row_kinds entities (column ∷ columns) k d l =
    zip-all (with_first column.kind) (λ (row : Row). kinds_in row.cells ≡ kinds_of (column ∷ columns)) (λ (row : Row). kinds_in row.cells ≡ kinds_of columns)
    (λ cell row e. ap (λ ks. column.kind ∷ ks) e) column.cells (rows_of entities columns) (row_kinds entities columns) k d l

-- the entities of the rows
pub entities_of : (entities : List Entity) (columns : List ColumnState) → AreLong (length entities) columns → map (λ (row : Row). row.entity) (rows_of entities columns) ≡ entities
entities_of entities [] long = bare entities
  where
    bare : (es : List Entity) → map (λ (row : Row). row.entity) (map (λ (entity : Entity). record { entity = entity; cells = [] }) es) ≡ es
    bare [] = refl
    bare (e ∷ es) = ap (λ t. e ∷ t) (bare es)
entities_of entities (column ∷ columns) long = second column.cells (rows_of entities columns) (same_length entities column columns long) ∙ entities_of entities columns (rest_long (length entities) column columns long)
  where
    second : (cells : List Cell) (rows : List Row) → length cells ≡ length rows → map (λ (row : Row). row.entity) (zip_with (with_first column.kind) cells rows) ≡ map (λ (row : Row). row.entity) rows
    second [] [] e = refl
    second [] (r ∷ rows) e = absurd (omega arith)
    second (c ∷ cells) [] e = absurd (omega arith)
    second (c ∷ cells) (r ∷ rows) e = ap (λ t. r.entity ∷ t) (second cells rows (omega arith))

-- a first cell of the kind is the cell of the kind
pub kind_here : (kind k : ℕ) (cells : List Cell) (rows : List Row) → nat_eq kind k ≡ true → length cells ≡ length rows → map (λ (row : Row). cell_of row.cells kind) (zip_with (with_first k) cells rows) ≡ map (λ (cell : Cell). Some cell) cells
kind_here kind k [] rows t e = refl
kind_here kind k (c ∷ cells) [] t e = absurd (omega arith)
kind_here kind k (c ∷ cells) (r ∷ rows) t e =
    λ i. cond ((eq_by_cmp-nat_eq kind k ∙ t) i) (Some c) (cell_of r.cells kind) ∷ kind_here kind k cells rows t (omega arith) i

-- of another kind it changes nothing
pub kind_later : (kind k : ℕ) (cells : List Cell) (rows : List Row) → nat_eq kind k ≡ false → length cells ≡ length rows → map (λ (row : Row). cell_of row.cells kind) (zip_with (with_first k) cells rows) ≡ map (λ (row : Row). cell_of row.cells kind) rows
kind_later kind k [] [] t e = refl
kind_later kind k [] (r ∷ rows) t e = absurd (omega arith)
kind_later kind k (c ∷ cells) [] t e = absurd (omega arith)
kind_later kind k (c ∷ cells) (r ∷ rows) t e =
    λ i. cond ((eq_by_cmp-nat_eq kind k ∙ t) i) (Some c) (cell_of r.cells kind) ∷ kind_later kind k cells rows t (omega arith) i

-- the cells of a kind are those of its column
pub column_cells : (kind : ℕ) (columns : List ColumnState) (n : ℕ) → position_from (λ (column : ColumnState). nat_eq kind column.kind) 0 columns ≡ Some n →
    (entities : List Entity) (d : ColumnState) → AreLong (length entities) columns → map (λ (row : Row). cell_of row.cells kind) (rows_of entities columns) ≡ map (λ (cell : Cell). Some cell) (get_or columns n d).cells
column_cells kind columns n h = found (λ (column : ColumnState). nat_eq kind column.kind)
    (λ cs k. (entities : List Entity) (d : ColumnState) → AreLong (length entities) cs → map (λ (row : Row). cell_of row.cells kind) (rows_of entities cs) ≡ map (λ (cell : Cell). Some cell) (get_or cs k d).cells)
    (λ c cs t entities d long. kind_here kind c.kind c.cells (rows_of entities cs) t (same_length entities c cs long))
    (λ c cs k t p entities d long. kind_later kind c.kind c.cells (rows_of entities cs) t (same_length entities c cs long) ∙ p entities d (rest_long (length entities) c cs long))
    columns n h
