-- The parts of a valid world that were written are read again, and so is the world.
use Rattle.std.proofs.Common.{◌≡◌, ℕ, ◌<◌, ◌≤◌, true, false, List, [], ◌∷◌, ◌++◌, length, refl, ap, sym, subst, ◌∙◌, Some, None, Result, Ok, nat_lt}
use Rattle.std.specs.Prelude.{codes, ◌&&◌, nat_le}
use Rattle.std.specs.List.{AllByRecursion}
use Rattle.serde_json.specs.Data.{Data, Members, string}
use Rattle.serde_json.specs.Find.{get_member}
use Rattle.scene_kinds.specs.declared.entity.Entity.{Entity}
use Rattle.scene_kinds.specs.declared.cell.Cell.{Cell}
use Rattle.scene_kinds.specs.declared.cells.Row.{Row}
use Rattle.scene_kinds.specs.Ranges.{is_entity, is_in_range}
use Rattle.scene_kinds.specs.Schema.{Kinds, IsSchema, is_good_name}
use Rattle.scene_alloc.specs.Slots.{most_slots}
use Rattle.scene_model.specs.Valid.{IsRowOf}
use Rattle.scene_validate.specs.Parts.{Parts, has_some, keys}
use Rattle.scene_validate.proofs.Tests.{all_with}
use Rattle.scene_json_forms.specs.declared.fault.FileFault.{FileFault}
use Rattle.scene_json_forms.specs.Reading.{◌>>=◌, below, field, key_of, list_of, rising_of, under}
use Rattle.scene_json_forms.specs.Text.{members_of, list_text, count_text, entity_json, resource_cell_text}
use Rattle.scene_file.specs.Text.{kind_text, row_text, table_text, children_text, resource_text, first_text, last_text, parts_text, kinds_of}
use Rattle.scene_json_forms.specs.Walk.{u32_at, tick_at, entity_at, name_at, resource_cell_at}
use Rattle.scene_file.specs.Walk.{kinds_at, limit_at, children_at, resource_at, row_at, shapes_of, set_of, table_at, parent_follows, name_follows, table_follows, Head, head_of, tail_of, parts_in}
use Rattle.scene_json_forms.proofs.ListsBack.{ReadsBack, Follow, after, good, below_back, list_back, rising_back}
use Rattle.scene_json_forms.proofs.ValuesBack.{entity_back, resource_cell_back}
use Rattle.scene_file.proofs.SchemaBack.{kinds_back}
use Rattle.scene_file.proofs.SceneSteps.{head_said, tail_said, parts_said}
use Rattle.scene_file.proofs.RowsBack.{row_back, kinds_of_row, kinds_rise, low_kinds, set_of_row}

-- ---- the elements of the lists

-- a row of a table, with an entity that its type can hold
abbrev pub IsGoodRow : Kinds → ℕ → Row → Type 0
IsGoodRow schema mask r = (is_entity r.entity ≡ true) × IsRowOf schema mask r

rows_back : (schema : Kinds) → length schema ≤ 64 → (mask : ℕ) (r : Row) (rs : List Row) → AllByRecursion (IsGoodRow schema mask) (r ∷ rs)
    → ReadsBack (table_at schema) table_text (mask, r ∷ rs)
rows_back schema few mask r rs h path =
    let kinds : List ℕ = kinds_of mask in
    let e : kinds_of mask ≡ keys r.cells = kinds_of_row schema mask r h.0.1 few in
    after (rising_of (below (length schema)) nat_lt (under path (codes "kinds")) (list_text count_text (kinds_of mask))) (kinds_of mask)
    (λ ks. list_of (row_at ks (shapes_of schema ks)) (under path (codes "rows")) (list_text row_text (r ∷ rs)) >>= λ rows. Ok (set_of ks, rows))
    (Ok (mask, r ∷ rs))
    (rising_back (below (length schema)) count_text nat_lt (kinds_of mask)
    (subst (AllByRecursion (ReadsBack (below (length schema)) count_text)) (sym e)
    (all_with (λ k. k < length schema) (ReadsBack (below (length schema)) count_text) (λ k l. below_back (length schema) k l) (keys r.cells)
    (low_kinds schema r.cells h.0.1.shapes)))
    (subst (Follow nat_lt None) (sym e) (kinds_rise r.cells h.0.1.kinds.ascending)) (under path (codes "kinds")))
    (after (list_of (row_at (kinds_of mask) (shapes_of schema (kinds_of mask))) (under path (codes "rows")) (list_text row_text (r ∷ rs))) (r ∷ rs)
    (λ rows. Ok (set_of (kinds_of mask), rows)) (Ok (mask, r ∷ rs))
    (list_back (row_at (kinds_of mask) (shapes_of schema (kinds_of mask))) row_text (r ∷ rs)
    (all_with (IsGoodRow schema mask) (ReadsBack (row_at (kinds_of mask) (shapes_of schema (kinds_of mask))) row_text)
    (λ x k. row_back schema x (kinds_of mask) k.0 k.1.shapes (sym (kinds_of_row schema mask x k.1 few))) (r ∷ rs) h) (under path (codes "rows")))
    (ap (λ m. Ok (m, r ∷ rs)) (ap set_of e ∙ set_of_row schema mask r h.0.1)))

pub table_back : (schema : Kinds) → length schema ≤ 64 → (mask : ℕ) (rows : List Row) → has_some rows ≡ true
    → AllByRecursion (IsGoodRow schema mask) rows → ReadsBack (table_at schema) table_text (mask, rows)
table_back schema few mask [] s h = absurd (let k : false ≡ true = s in cc)
table_back schema few mask (r ∷ rs) s h = rows_back schema few mask r rs h

pub list_of_back : (l : Entity × List Entity) → is_entity l.0 ≡ true → AllByRecursion (λ e. is_entity e ≡ true) l.1
    → ReadsBack children_at children_text l
list_of_back l p h path =
    after (list_of entity_at (under path (codes "list")) (list_text entity_json l.1)) l.1
    (λ list. entity_at (under path (codes "parent")) (entity_json l.0) >>= λ parent. Ok (parent, list)) (Ok l)
    (list_back entity_at entity_json l.1 (all_with (λ e. is_entity e ≡ true) (ReadsBack entity_at entity_json) (λ e k. entity_back e k) l.1 h)
    (under path (codes "list")))
    (after (entity_at (under path (codes "parent")) (entity_json l.0)) l.0 (λ parent. Ok (parent, l.1)) (Ok l)
    (entity_back l.0 p (under path (codes "parent"))) refl)

pub resource_back : (r : List ℕ × Cell) → is_good_name r.0 ≡ true → is_in_range r.1.value ≡ true → ReadsBack resource_at resource_text r
resource_back r n h path =
    after (resource_cell_at (under path (codes "cell")) (resource_cell_text r.1)) r.1
    (λ cell. name_at (under path (codes "name")) (string r.0) >>= λ name. Ok (name, cell)) (Ok r)
    (resource_cell_back r.1 h (under path (codes "cell")))
    (after (name_at (under path (codes "name")) (string r.0)) r.0 (λ name. Ok (name, r.1)) (Ok r)
    (good (under path (codes "name")) (is_good_name r.0) r.0 n) refl)

-- ---- the whole

-- what is asked of parts so that they are read again: each element is, and the lists rise
pub record AreReadable (p : Parts) : Type 0 where
  pub children : AllByRecursion (ReadsBack children_at children_text) p.children
  pub parents : Follow parent_follows None p.children
  pub free : AllByRecursion (ReadsBack u32_at count_text) p.free
  pub generations : AllByRecursion (ReadsBack u32_at count_text) p.generations
  pub schema : IsSchema p.schema
  pub limit : (nat_le 1 p.limit && nat_le p.limit most_slots) ≡ true
  pub resources : AllByRecursion (ReadsBack resource_at resource_text) p.resources
  pub names : Follow name_follows None p.resources
  pub tables : AllByRecursion (ReadsBack (table_at p.schema) table_text) p.tables
  pub sets : Follow table_follows None p.tables

-- a key whose value was written is read again
pub key_back : {A : Type 0} (read : List ℕ → Data → Result A FileFault) (text : A → Data) (key : List ℕ) (ms : Members) (a : A)
    → get_member key ms ≡ Some (text a) → ReadsBack read text a → key_of read [] key ms ≡ Ok a
key_back read text key ms a there h = ap (λ o. field (under [] key) o >>= λ d. read (under [] key) d) there ∙ h (under [] key)

-- what the first five keys of parts say
abbrev pub head_part : Parts → Head
head_part p = record { children = p.children; free = p.free; generations = p.generations; schema = p.schema; limit = p.limit }

-- the values of the first five keys are those of parts
pub record HasHead (ms : Members) (p : Parts) : Type 0 where
  pub children : get_member (codes "children") ms ≡ Some (list_text children_text p.children)
  pub free : get_member (codes "free") ms ≡ Some (list_text count_text p.free)
  pub generations : get_member (codes "generations") ms ≡ Some (list_text count_text p.generations)
  pub schema : get_member (codes "kinds") ms ≡ Some (list_text kind_text p.schema)
  pub limit : get_member (codes "limit") ms ≡ Some (count_text p.limit)

-- and those of the keys behind them
pub record HasTail (ms : Members) (p : Parts) : Type 0 where
  pub resources : get_member (codes "resources") ms ≡ Some (list_text resource_text p.resources)
  pub tables : get_member (codes "tables") ms ≡ Some (list_text table_text p.tables)
  pub tick : get_member (codes "tick") ms ≡ Some (count_text p.tick)

pub head_back : (ms : Members) (p : Parts) → HasHead ms p → AreReadable p → head_of ms ≡ Ok (head_part p)
head_back ms p there h = head_said ms p.children p.free p.generations p.schema p.limit
    (key_back (rising_of children_at parent_follows) (list_text children_text) (codes "children") ms p.children there.children
    (rising_back children_at children_text parent_follows p.children h.children h.parents))
    (key_back (list_of u32_at) (list_text count_text) (codes "free") ms p.free there.free (list_back u32_at count_text p.free h.free))
    (key_back (list_of u32_at) (list_text count_text) (codes "generations") ms p.generations there.generations
    (list_back u32_at count_text p.generations h.generations))
    (key_back kinds_at (list_text kind_text) (codes "kinds") ms p.schema there.schema (kinds_back p.schema h.schema))
    (key_back limit_at count_text (codes "limit") ms p.limit there.limit
    (λ path. good path (nat_le 1 p.limit && nat_le p.limit most_slots) p.limit h.limit))

pub tail_back : (ms : Members) (p : Parts) → HasTail ms p → AreReadable p → tail_of (head_part p) ms ≡ Ok p
tail_back ms p there h = tail_said (head_part p) ms p.resources p.tables p.tick
    (key_back (rising_of resource_at name_follows) (list_text resource_text) (codes "resources") ms p.resources there.resources
    (rising_back resource_at resource_text name_follows p.resources h.resources h.names))
    (key_back (rising_of (table_at p.schema) table_follows) (list_text table_text) (codes "tables") ms p.tables there.tables
    (rising_back (table_at p.schema) table_text table_follows p.tables h.tables h.sets))
    (key_back tick_at count_text (codes "tick") ms p.tick there.tick (λ path. refl))

pub parts_back : (p : Parts) → AreReadable p → parts_in (parts_text p) ≡ Ok p
parts_back p h =
    let ms : Members = members_of (first_text p ++ last_text 1 p) in
    parts_said ms (head_part p) p
    (head_back ms p (record { children = refl; free = refl; generations = refl; schema = refl; limit = refl }) h)
    (tail_back ms p (record { resources = refl; tables = refl; tick = refl }) h)
