-- Rows, tables and lists of children that are taken from the tokens.
use Rattle.std.proofs.Common.{◌≡◌, ℕ, ◌+◌, ◌<◌, List, [], ◌∷◌, ◌++◌, length, drop, get_or, nat_eq, nat_lt, Some, None, Ok, refl, sym, ap, subst, ◌∙◌, arith, codes, append-nil, eq-eqb, map as each}
use Rattle.std.specs.List.{zip}
use Rattle.std.proofs.lemmas.List.{append_assoc, length-append}
use Rattle.json.specs.Token.{Token}
use Rattle.json.specs.Json.{after_end_array, read_key}
use Rattle.serde_json.specs.Data.{Data, array, object, no_items, no_members}
use Rattle.scene_kinds.specs.declared.cell.Cell.{Cell}
use Rattle.scene_kinds.specs.declared.cells.Row.{Row}
use Rattle.scene_kinds.specs.declared.entity.Entity.{Entity}
use Rattle.scene_kinds.specs.declared.shape.Shape.{Shape}
use Rattle.scene_kinds.specs.declared.shape.Shape.TheVariants.{Tag}
use Rattle.scene_kinds.specs.Schema.{Kinds}
use Rattle.scene_json.specs.Lists.{elements}
use Rattle.scene_json.specs.NodeData.{items_before, put_all}
use Rattle.scene_json_forms.specs.Reading.{◌>>=◌, below, if_good, list_of, place_in, rising_of, under}
use Rattle.scene_json_forms.specs.Walk.{cell_at, entity_at}
use Rattle.scene_json_forms.proofs.Lists.{joined, joined-none}
use Rattle.scene_json_tokens.specs.Taken.{IsTaken, Says}
use Rattle.scene_json_tokens.proofs.Grammar.{AreElements, begins_within, no_elements, one_more, pair_begins}
use Rattle.scene_json_tokens.proofs.ListsTaken.{elements_before, list_from}
use Rattle.scene_file.specs.Walk.{cells_at, cells_from, children_at, row_at, set_of, shapes_of, table_at}
use Rattle.scene_file.proofs.CellSteps.{AreRead, one_read}

-- ---- the cells of a row

none_behind : {X : Type 0} (xs : List X) → drop (length xs) xs ≡ []
none_behind [] = refl
none_behind (x ∷ xs) = none_behind xs

no_zip : (kinds : List ℕ) (none : List Cell) → length none ≡ 0 → zip kinds none ≡ []
no_zip [] none e = refl
no_zip (k ∷ kinds) [] e = refl
no_zip (k ∷ kinds) (c ∷ cells) e = absurd (omega (arith, e))

-- a cell more, with its kind
zip_more : (kinds : List ℕ) (cells : List Cell) (c : Cell) → length cells < length kinds
    → zip kinds (cells ++ c ∷ []) ≡ zip kinds cells ++ (get_or kinds (length cells) 0, c) ∷ []
zip_more [] cells c h = absurd (omega (arith, h))
zip_more (k ∷ kinds) [] c h = ap (λ l. (k, c) ∷ l) (no_zip kinds [] refl)
zip_more (k ∷ kinds) (d ∷ cells) c h = ap (λ l. (k, d) ∷ l) (zip_more kinds cells c (omega (arith, h)))

module _ (kinds : List ℕ) (shapes : List Shape) (ts : List Token) where
  -- the cells so far, with their kinds, are what the elements so far say, whatever stands behind them
  abbrev pub HasCells : List (ℕ × Cell) → List Token → Type 0
  HasCells row now = (cells : List Cell) × (row ≡ zip kinds cells) × (length row ≡ length cells) × (ds : List Data) × (length ds ≡ length cells)
      × AreElements 2 ts ds now
      × ((path : List ℕ) (rest : List Data) → length cells + length rest ≡ length shapes
      → AreRead path shapes (cells_from shapes path 0 (ds ++ rest)) cells rest)

  pub no_cells : (row : List (ℕ × Cell)) → row ≡ [] → HasCells row ts
  no_cells row e = (
    [],
    e ∙ sym (no_zip kinds [] refl),
    ap length e,
    [],
    refl,
    no_elements 2 ts,
    λ path rest many. (joined-none (cells_from shapes path 0 rest), many),
  )

  pub one_cell : (row new : List (ℕ × Cell)) (n : ℕ) (cell : Cell) (now next : List Token) → n ≡ length row
      → new ≡ row ++ (get_or kinds n 0, cell) ∷ [] → n < length kinds → HasCells row now → IsTaken (cell_at (get_or shapes n Tag)) 2 now next cell
      → HasCells new next
  one_cell row new n cell now next at grown within h one =
      let cells = h.0 in
      let ds = h.3 in
      let place : n ≡ length cells = at ∙ h.2 in (
        cells ++ cell ∷ [],
        grown ∙ ap (λ r. r ++ (get_or kinds n 0, cell) ∷ []) h.1 ∙ ap (λ m. zip kinds cells ++ (get_or kinds m 0, cell) ∷ []) place
            ∙ sym (zip_more kinds cells cell (omega (arith, place, within))),
        omega (arith, ap length grown, length-append row ((get_or kinds n 0, cell) ∷ []), length-append cells (cell ∷ []), h.2),
        ds ++ one.0 ∷ [],
        omega (arith, length-append ds (one.0 ∷ []), length-append cells (cell ∷ []), h.4),
        one_more 2 ts now next ds one.0 h.5 one.1,
        λ path rest many.
            let longer : length cells + length (one.0 ∷ rest) ≡ length shapes = omega (arith, many, length-append cells (cell ∷ [])) in
            one_read path shapes (cells_from shapes path 0 ((ds ++ one.0 ∷ []) ++ rest)) cells (cells ++ cell ∷ []) cell n one.0 (one.0 ∷ rest) rest
            place refl refl
            (subst (λ (l : List Data). AreRead path shapes (cells_from shapes path 0 l) cells (one.0 ∷ rest)) (sym (append_assoc ds (one.0 ∷ []) rest))
            (h.6 path (one.0 ∷ rest) longer)) (one.2 (place_in path n)),
      )

  pub all_cells : (old now next : List Token) (row : List (ℕ × Cell)) → old ≡ Token.begin_array ∷ ts → length row ≡ length shapes
      → HasCells row now → after_end_array now ≡ Some next
      → (cells : List Cell) × (row ≡ zip kinds cells) × IsTaken (cells_at shapes) 3 old next cells
  all_cells old now next row e many h over =
      let cells = h.0 in
      let ds = h.3 in
      let whole : length cells ≡ length shapes = sym h.2 ∙ many in
      let each : length ds ≡ length shapes = h.4 ∙ whole in
      let read : (path : List ℕ) → cells_from shapes path 0 ds ≡ Ok cells = λ path.
      ap (cells_from shapes path 0) (sym (append-nil ds)) ∙ (h.6 path [] (omega (arith, whole))).0
      ∙ ap (λ n. joined cells (cells_from (drop n shapes) path (length cells) [])) whole
      ∙ ap (λ l. joined cells (cells_from l path (length cells) [])) (none_behind shapes) ∙ ap Ok (append-nil cells) in (
        cells,
        h.1,
        (
          array (items_before ds no_items),
          list_from 2 old ts now next ds e h.5 over,
          λ path. ap (λ l. if_good path (nat_eq (length l) (length shapes)) l >>= cells_from shapes path 0) (elements_before ds)
              ∙ ap (λ t. if_good path t ds >>= cells_from shapes path 0) (eq-eqb (length ds) (length shapes) each) ∙ read path,
        ),
      )

-- ---- objects of two keys

row_said : (kinds : List ℕ) (shapes : List Shape) (d e : Data) (cells : List Cell) (entity : Entity) → Says (cells_at shapes) d cells → Says entity_at e entity
    → Says (row_at kinds shapes) (object (put_all ((codes "cells", d) ∷ (codes "entity", e) ∷ []) no_members))
    (record { entity = entity; cells = zip kinds cells })
row_said kinds shapes d e cells entity f g path = λ i.
    f (under path (codes "cells")) i >>= λ cells. g (under path (codes "entity")) i >>= λ entity. Ok (record { entity = entity; cells = zip kinds cells })

pub row_taken : (kinds : List ℕ) (shapes : List Shape) (old ts s now r after end : List Token) (cells : List Cell) (entity : Entity)
    → old ≡ Token.begin_object ∷ ts → read_key ts ≡ Some (Some (codes "cells"), s) → IsTaken (cells_at shapes) 3 s now cells
    → read_key now ≡ Some (Some (codes "entity"), r) → IsTaken entity_at 0 r after entity → read_key after ≡ Some (None, end)
    → IsTaken (row_at kinds shapes) 4 old end (record { entity = entity; cells = zip kinds cells })
row_taken kinds shapes old ts s now r after end cells entity is key f other g over = (
  object (put_all ((codes "cells", f.0) ∷ (codes "entity", g.0) ∷ []) no_members),
  pair_begins 3 old ts s now r after end (codes "cells") (codes "entity") f.0 g.0 is key f.1 other (begins_within 0 3 r after g.0 (omega arith) g.1) over,
  row_said kinds shapes f.0 g.0 cells entity f.2 g.2,
)

children_said : (d e : Data) (list : List Entity) (parent : Entity) → Says (list_of entity_at) d list → Says entity_at e parent
    → Says children_at (object (put_all ((codes "list", d) ∷ (codes "parent", e) ∷ []) no_members)) (parent, list)
children_said d e list parent f g path = λ i.
    f (under path (codes "list")) i >>= λ list. g (under path (codes "parent")) i >>= λ parent. Ok (parent, list)

pub children_taken : (old ts s now r after end : List Token) (list : List Entity) (parent : Entity)
    → old ≡ Token.begin_object ∷ ts → read_key ts ≡ Some (Some (codes "list"), s) → IsTaken (list_of entity_at) 1 s now list
    → read_key now ≡ Some (Some (codes "parent"), r) → IsTaken entity_at 0 r after parent → read_key after ≡ Some (None, end)
    → IsTaken children_at 2 old end (parent, list)
children_taken old ts s now r after end list parent is key f other g over = (
  object (put_all ((codes "list", f.0) ∷ (codes "parent", g.0) ∷ []) no_members),
  pair_begins 1 old ts s now r after end (codes "list") (codes "parent") f.0 g.0 is key f.1 other (begins_within 0 1 r after g.0 (omega arith) g.1) over,
  children_said f.0 g.0 list parent f.2 g.2,
)

table_said : (schema : Kinds) (d e : Data) (kinds : List ℕ) (rows : List Row) → Says (rising_of (below (length schema)) nat_lt) d kinds
    → Says (list_of (row_at kinds (shapes_of schema kinds))) e rows
    → Says (table_at schema) (object (put_all ((codes "kinds", d) ∷ (codes "rows", e) ∷ []) no_members)) (set_of kinds, rows)
table_said schema d e kinds rows f g path =
    ap (λ r. r >>= λ kinds. list_of (row_at kinds (shapes_of schema kinds)) (under path (codes "rows")) e >>= λ rows. Ok (set_of kinds, rows))
    (f (under path (codes "kinds")))
    ∙ ap (λ r. r >>= λ rows. Ok (set_of kinds, rows)) (g (under path (codes "rows")))

pub table_taken : (schema : Kinds) (old ts s now r after end : List Token) (kinds : List ℕ) (rows : List Row)
    → old ≡ Token.begin_object ∷ ts → read_key ts ≡ Some (Some (codes "kinds"), s) → IsTaken (rising_of (below (length schema)) nat_lt) 1 s now kinds
    → read_key now ≡ Some (Some (codes "rows"), r) → IsTaken (list_of (row_at kinds (shapes_of schema kinds))) 5 r after rows
    → read_key after ≡ Some (None, end)
    → IsTaken (table_at schema) 6 old end (set_of kinds, rows)
table_taken schema old ts s now r after end kinds rows is key f other g over = (
  object (put_all ((codes "kinds", f.0) ∷ (codes "rows", g.0) ∷ []) no_members),
  pair_begins 5 old ts s now r after end (codes "kinds") (codes "rows") f.0 g.0 is key (begins_within 1 5 s now f.0 (omega arith) f.1) other g.1 over,
  table_said schema f.0 g.0 kinds rows f.2 g.2,
)
