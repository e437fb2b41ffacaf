-- A walk over the rows of a table, and over the cells of a row, by their places.
use Rattle.std.proofs.Common.{◌≡◌, ◌<◌, ◌+◌, ℕ, Bool, true, false, cond, List, [], ◌∷◌, ◌++◌, append_assoc, length, drop, get_or, map, refl, ap, sym, ◌∙◌, arith, Some, Ok}
use Rattle.std.specs.Prelude.{slice_get, option_map, Result, Err, IfOk}
use Rattle.std.proofs.lemmas.List.{at_drop_more, map-append}
use Rattle.std.proofs.lemmas.Option.{slice_get_within, slice_get-get_or, get_or_from_slice_get}
use Rattle.std.specs.List.{filter, flat_map}
use Rattle.scene_kinds.specs.declared.entity.Entity.{Entity}
use Rattle.scene_kinds.specs.declared.cell.Cell.{Cell}
use Rattle.scene_kinds.specs.declared.cells.Row.{Row}
use Rattle.scene_pass.specs.declared.cell_name.CellName.{CellName}
use Rattle.scene_pass.specs.Pass.{names_in}

-- what is read of a row at a place is that row's
pub read_of : {X : Type 0} (f : Row → X) (rows : List Row) (at : ℕ) (row : Row) (x : X) → slice_get rows at ≡ Some row → option_map f (slice_get rows at) ≡ Some x → f row ≡ x
read_of f rows at row x there read = let same : Some (f row) ≡ Some x = ap (option_map f) (sym there) ∙ read in cc

-- there is a row at each place
pub row_at : (rows : List Row) (at : ℕ) → at < length rows → (row : Row) × (slice_get rows at ≡ Some row)
row_at [] at h = absurd (omega arith)
row_at (row ∷ rows) at h = (get_or (row ∷ rows) at row, slice_get-get_or (row ∷ rows) at row h)

-- what begins with an element that stands at a place
pub drop_at : {X Y : Type 0} (f : List X → Y) (xs : List X) (n : ℕ) (x : X) → slice_get xs n ≡ Some x → f (drop n xs) ≡ f (x ∷ drop (n + 1) xs)
drop_at f xs n x there =
    at_drop_more f xs n x (slice_get_within xs n x there) ∙ ap (λ y. f (y ∷ drop (n + 1) xs)) (get_or_from_slice_get xs n x x there)

-- the names of the cells of a row from a number on
abbrev pub names_from : (Cell → Bool) → Entity → ℕ → List (ℕ × Cell) → List CellName
names_from test entity n cells = names_in test (record { entity = entity; cells = drop n cells })

-- the name of a cell of an entity
abbrev named : Entity → ℕ × Cell → CellName
named entity c = record { entity = entity; kind = c.0 }

-- the first of them is listed where it passes
names_step : (test : Cell → Bool) (entity : Entity) (n : ℕ) (cells : List (ℕ × Cell)) (c : ℕ × Cell) → slice_get cells n ≡ Some c → names_from test entity n cells ≡ cond (test c.1) (record { entity = entity; kind = c.0 } ∷ names_from test entity (n + 1) cells) (names_from test entity (n + 1) cells)
names_step test entity n cells c there =
    let rest = filter (λ (e : ℕ × Cell). test e.1) (drop (n + 1) cells) in
    drop_at (λ ds. names_in test (record { entity = entity; cells = ds })) cells n c there
    ∙ elim (test c.1) as (λ b. map (named entity) (cond b (c ∷ rest) rest) ≡ cond b (named entity c ∷ map (named entity) rest) (map (named entity) rest)) [ true ↦ refl | false ↦ refl ]

-- one more name, and none
pub name_pushed : (test : Cell → Bool) (entity : Entity) (n : ℕ) (cells : List (ℕ × Cell)) (c : ℕ × Cell) (old new all : List CellName) → slice_get cells n ≡ Some c → test c.1 ≡ true → new ≡ old ++ record { entity = entity; kind = c.0 } ∷ [] →
    old ++ names_from test entity n cells ≡ all → new ++ names_from test entity (n + 1) cells ≡ all
name_pushed test entity n cells c old new all there passes pushed before =
    let name : CellName = record { entity = entity; kind = c.0 } in
    let rest = names_from test entity (n + 1) cells in
    ap (λ ns. ns ++ rest) pushed ∙ append_assoc old (name ∷ []) rest ∙ ap (λ ns. old ++ ns) (sym (names_step test entity n cells c there ∙ ap (λ b. cond b (name ∷ rest) rest) passes)) ∙ before

pub name_passed : (test : Cell → Bool) (entity : Entity) (n : ℕ) (cells : List (ℕ × Cell)) (c : ℕ × Cell) (old new all : List CellName) → slice_get cells n ≡ Some c → test c.1 ≡ false → new ≡ old →
    old ++ names_from test entity n cells ≡ all → new ++ names_from test entity (n + 1) cells ≡ all
name_passed test entity n cells c old new all there fails same before =
    let name : CellName = record { entity = entity; kind = c.0 } in
    let rest = names_from test entity (n + 1) cells in
    ap (λ ns. ns ++ rest) same ∙ ap (λ ns. old ++ ns) (sym (names_step test entity n cells c there ∙ ap (λ b. cond b (name ∷ rest) rest) fails)) ∙ before

-- what is known of an answer, in other words
pub ok_same : {V E X : Type 0} (f : V → X) (r : Result V E) (x y : X) → IfOk r (λ v. f v ≡ x) → x ≡ y → IfOk r (λ v. f v ≡ y)
ok_same f (Ok v) x y h same = h ∙ same
ok_same f (Err e) x y h same = tt

-- the entities of rows that are joined
pub entities_joined : {X : Type 0} (f : X → List Row) (xs : List X) → flat_map (λ x. map (λ (row : Row). row.entity) (f x)) xs ≡ map (λ (row : Row). row.entity) (flat_map f xs)
entities_joined f [] = refl
entities_joined f (x ∷ xs) =
    ap (λ es. map (λ (row : Row). row.entity) (f x) ++ es) (entities_joined f xs) ∙ sym (map-append (λ (row : Row). row.entity) (f x) (flat_map f xs))

-- one more element of a list is taken over
pub taken_over : {X : Type 0} (xs : List X) (at : ℕ) (x : X) (old new all : List X) → slice_get xs at ≡ Some x → new ≡ old ++ x ∷ [] → old ++ drop at xs ≡ all → new ++ drop (at + 1) xs ≡ all
taken_over xs at x old new all there pushed before =
    let rest = drop (at + 1) xs in
    ap (λ ys. ys ++ rest) pushed ∙ append_assoc old (x ∷ []) rest ∙ ap (λ ys. old ++ ys) (sym (drop_at (λ l. l) xs at x there)) ∙ before
