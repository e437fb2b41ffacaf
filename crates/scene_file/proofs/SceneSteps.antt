-- The walk through the keys of a scene, key by key.
use Rattle.std.proofs.Common.{◌≡◌, ℕ, List, [], ◌∷◌, length, nat_lt, Result, Ok, sym, ap, subst, ◌∙◌, codes, map as each}
use Rattle.std.proofs.lemmas.List.{map-id}
use Rattle.serde_json.specs.Data.{Data, Members}
use Rattle.scene_kinds.specs.declared.entity.Entity.{Entity}
use Rattle.scene_kinds.specs.declared.cell.Cell.{Cell}
use Rattle.scene_kinds.specs.declared.cells.Row.{Row}
use Rattle.scene_kinds.specs.declared.shape.Shape.{Shape}
use Rattle.scene_kinds.specs.Schema.{Kinds}
use Rattle.scene_validate.specs.Parts.{Parts}
use Rattle.scene_json_forms.specs.declared.fault.FileFault.{FileFault}
use Rattle.scene_json_forms.specs.Outcome.{IsTextFault}
use Rattle.scene_json_forms.specs.Reading.{◌>>=◌, below, list_of, rising_of, object_at, key_of}
use Rattle.scene_json_forms.specs.Walk.{u32_at, tick_at}
use Rattle.scene_file.specs.Walk.{Head, head_of, tail_of, whole_of, kinds_at, limit_at, children_at, resource_at, table_at, row_at, shapes_of, set_of, parent_follows, name_follows, table_follows, parts_of}
use Rattle.scene_json_forms.proofs.Walking.{fault_stays}

-- a step that was good
on : {A B : Type 0} (x : Result A FileFault) (a : A) (next : A → Result B FileFault) → x ≡ Ok a → (x >>= next) ≡ next a
on x a next h = ap (λ r. r >>= next) h

past : {A B : Type 0} (e : FileFault) (x : Result A FileFault) (a : A) (next : A → Result B FileFault) → x ≡ Ok a → IsTextFault e (next a)
    → IsTextFault e (x >>= next)
past e x a next h k = subst (IsTextFault e) (sym (on x a next h)) k

-- the rows of a table, whose kinds were good
pub fault_at_rows : (e : FileFault) (schema : Kinds) (path : List ℕ) (d : Data) (ms : Members) (kinds : List ℕ) (shapes : List Shape)
    → object_at (codes "kinds" ∷ codes "rows" ∷ []) path d ≡ Ok ms → key_of (rising_of (below (length schema)) nat_lt) path (codes "kinds") ms
    ≡ Ok (each (λ (n : ℕ). n) kinds)
    → shapes ≡ shapes_of schema kinds → IsTextFault e (key_of (list_of (row_at kinds shapes)) path (codes "rows") ms)
    → IsTextFault e (table_at schema path d)
fault_at_rows e schema path d ms kinds shapes h0 h1 s k =
    past e (object_at (codes "kinds" ∷ codes "rows" ∷ []) path d) ms
    (λ ms. key_of (rising_of (below (length schema)) nat_lt) path (codes "kinds") ms
    >>= λ kinds. key_of (list_of (row_at kinds (shapes_of schema kinds))) path (codes "rows") ms >>= λ rows. Ok (set_of kinds, rows)) h0
    (past e (key_of (rising_of (below (length schema)) nat_lt) path (codes "kinds") ms) kinds
    (λ kinds. key_of (list_of (row_at kinds (shapes_of schema kinds))) path (codes "rows") ms >>= λ rows. Ok (set_of kinds, rows))
    (h1 ∙ ap Ok (map-id kinds))
    (fault_stays e (key_of (list_of (row_at kinds (shapes_of schema kinds))) path (codes "rows") ms) (λ rows. Ok (set_of kinds, rows))
    (subst (λ (ss : List Shape). IsTextFault e (key_of (list_of (row_at kinds ss)) path (codes "rows") ms)) s k)))

-- ---- the first five keys

module _ (ms : Members) where
  abbrev pub after_schema : List (Entity × List Entity) → List ℕ → List ℕ → Kinds → Result Head FileFault
  after_schema children free generations schema = key_of limit_at [] (codes "limit") ms
      >>= λ limit. Ok (record { children = children; free = free; generations = generations; schema = schema; limit = limit })

  abbrev pub after_generations : List (Entity × List Entity) → List ℕ → List ℕ → Result Head FileFault
  after_generations children free generations = key_of kinds_at [] (codes "kinds") ms >>= λ schema. after_schema children free generations schema

  abbrev pub after_free : List (Entity × List Entity) → List ℕ → Result Head FileFault
  after_free children free = key_of (list_of u32_at) [] (codes "generations") ms >>= λ generations. after_generations children free generations

  abbrev pub after_children : List (Entity × List Entity) → Result Head FileFault
  after_children children = key_of (list_of u32_at) [] (codes "free") ms >>= λ free. after_free children free

  pub head_said : (children : List (Entity × List Entity)) (free generations : List ℕ) (schema : Kinds) (limit : ℕ)
      → key_of (rising_of children_at parent_follows) [] (codes "children") ms ≡ Ok children
      → key_of (list_of u32_at) [] (codes "free") ms ≡ Ok free
      → key_of (list_of u32_at) [] (codes "generations") ms ≡ Ok generations
      → key_of kinds_at [] (codes "kinds") ms ≡ Ok schema
      → key_of limit_at [] (codes "limit") ms ≡ Ok limit
      → head_of ms ≡ Ok (record { children = children; free = free; generations = generations; schema = schema; limit = limit })
  head_said children free generations schema limit h0 h1 h2 h3 h4 = λ i.
      h0 i >>= λ children. h1 i >>= λ free. h2 i >>= λ generations. h3 i >>= λ schema. h4 i
      >>= λ limit. Ok (record { children = children; free = free; generations = generations; schema = schema; limit = limit })

-- ---- the keys behind them

module _ (head : Head) (ms : Members) where
  abbrev pub after_tables : List (List ℕ × Cell) → List (ℕ × List Row) → Result Parts FileFault
  after_tables resources tables = key_of tick_at [] (codes "tick") ms >>= λ tick. Ok (whole_of head resources tables tick)

  abbrev pub after_resources : List (List ℕ × Cell) → Result Parts FileFault
  after_resources resources = key_of (rising_of (table_at head.schema) table_follows) [] (codes "tables") ms
      >>= λ tables. after_tables resources tables

  pub tail_said : (resources : List (List ℕ × Cell)) (tables : List (ℕ × List Row)) (tick : ℕ)
      → key_of (rising_of resource_at name_follows) [] (codes "resources") ms ≡ Ok resources
      → key_of (rising_of (table_at head.schema) table_follows) [] (codes "tables") ms ≡ Ok tables
      → key_of tick_at [] (codes "tick") ms ≡ Ok tick
      → tail_of head ms ≡ Ok (whole_of head resources tables tick)
  tail_said resources tables tick h0 h1 h2 = λ i. h0 i >>= λ resources. h1 i >>= λ tables. h2 i >>= λ tick. Ok (whole_of head resources tables tick)

-- both
pub parts_said : (ms : Members) (head : Head) (p : Parts) → head_of ms ≡ Ok head → tail_of head ms ≡ Ok p → parts_of ms ≡ Ok p
parts_said ms head p h k = on (head_of ms) head (λ x. tail_of x ms) h ∙ k

pub ruleset table_steps = (fault_at_rows)
