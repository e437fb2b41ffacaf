-- What is read of the lists of a scene, and of the whole, is just what stands there.
use Rattle.std.proofs.Common.{◌≡◌, ℕ, ◌+◌, ◌<◌, ◌≤◌, Bool, true, false, cond, not, List, [], ◌∷◌, ◌++◌, length, append_assoc, Some, None, Result, Ok, Err, is_some, nat_eq, nat_lt, refl, ap, sym, subst, ◌∙◌, arith, codes}
use Rattle.std.specs.Prelude.{map as each, nat_le, ◌&&◌, if◌then◌else◌}
use Rattle.std.specs.List.{AllByRecursion}
use Rattle.std.proofs.lemmas.Bool.{ltb-true, eqb-true}
use Rattle.std.proofs.lemmas.List.{append-nil, length-append}
use Rattle.std.proofs.lemmas.Option.{same_Some}
use Rattle.serde_json.specs.Data.{Data, string, Members}
use Rattle.serde_json.specs.Find.{as_object, get_member}
use Rattle.scene_kinds.specs.declared.fault.Fault.TheVariants.{BadName, KindTaken, KindsFull}
use Rattle.scene_kinds.specs.declared.shape.Shape.{Shape}
use Rattle.scene_kinds.specs.Answers.{refuse}
use Rattle.scene_kinds.specs.Schema.{Kinds, is_good_name, number_of, with_kind}
use Rattle.scene_alloc.specs.Slots.{most_slots}
use Rattle.scene_validate.specs.Parts.{Parts}
use Rattle.scene_json_forms.specs.declared.fault.FileFault.{FileFault}
use Rattle.scene_json_forms.specs.declared.fault.FileFault.TheVariants.{BadVersion}
use Rattle.scene_json_forms.specs.Reading.{◌>>=◌, field, if_good, string_at, list_at, list_of, rising_of, place_in, under, object_at, key_of}
use Rattle.scene_json_forms.specs.Text.{array_of, list_text, count_text, entity_json, shape_text, resource_cell_text}
use Rattle.scene_file.specs.Text.{kind_text, children_text, resource_text, table_text, first_text, last_text, parts_text}
use Rattle.scene_json_forms.specs.Walk.{u32_at, tick_at, entity_at, shape_at, name_at, resource_cell_at}
use Rattle.scene_file.specs.Walk.{kind_parts, added, kinds_from, kinds_at, children_at, resource_at, table_at, limit_at, scene_keys, parent_follows, name_follows, table_follows, Head, head_of, tail_of, parts_of, first_parts, version_of, parts_in, whole_of}
use Rattle.scene_json_forms.proofs.ListsBack.{Follow}
use Rattle.scene_json_forms.proofs.ReadValues.{IsRead, HasRead}
use Rattle.scene_json_forms.proofs.ListsExact.{IsExact, IsObject, list_was, list_exact, rising_key, key_was, key_exact, object_was, object_is}
use Rattle.scene_json_forms.proofs.ValuesExact.{below_exact, tick_exact, string_exact, entity_exact, shape_exact, name_exact, resource_cell_exact}
use Rattle.scene_file.proofs.RowsExact.{table_exact}
use Rattle.scene_file.proofs.SceneSteps.{after_children, after_free, after_generations, after_schema, after_resources, after_tables}
use Rattle.scene_json_forms.proofs.GoodSteps.{ok_after, good_was, ok_is, no_field, field_was}

-- ---- kinds

kind_was : (path : List ℕ) (ds : List Data) (kind : List ℕ × Shape) → AllByRecursion IsRead ds → kind_parts path ds ≡ Ok kind
    → array_of ds ≡ kind_text kind
kind_was path [] kind r h = no_field path kind h
kind_was path (n ∷ []) kind r h = no_field path kind h
kind_was path (n ∷ s ∷ []) kind r h =
    let p = ok_after (string_at (place_in path 0) n) (λ name. shape_at (place_in path 1) s >>= λ shape. Ok (name, shape)) kind h in
    let q = ok_after (shape_at (place_in path 1) s) (λ shape. Ok (p.0, shape)) kind p.2 in
    let name : n ≡ string p.0 = string_exact (place_in path 0) n p.0 r.0 p.1 in
    let shape : s ≡ shape_text q.0 = shape_exact (place_in path 1) s q.0 r.1.0 q.1 in
    (λ i. array_of (name i ∷ shape i ∷ [])) ∙ ap kind_text (ok_is (p.0, q.0) kind q.2)
kind_was path (n ∷ s ∷ d ∷ ds) kind r h = no_field path kind h

-- a kind that was added stands last, and there was a place for it
added_was : (path : List ℕ) (good taken room : Bool) (n : ℕ) (ks more : Kinds)
    → added path (cond (not good) (refuse BadName) (cond taken (refuse KindTaken) (cond room (Ok (n, ks)) (refuse KindsFull)))) ≡ Ok more
    → (room ≡ true) × (ks ≡ more)
added_was path true false true n ks more h = (refl, ok_is ks more h)
added_was path true false false n ks more h = no_field path more h
added_was path true true room n ks more h = no_field path more h
added_was path false taken room n ks more h = no_field path more h

-- kinds that were read stand behind those before them
record AreAdded (kinds : Kinds) (ds : List Data) (all : Kinds) : Type 0 where
  rest : Kinds
  whole : all ≡ kinds ++ rest
  text : ds ≡ each kind_text rest
  few : length kinds ≤ 64 → length all ≤ 64

kinds_added : (path : List ℕ) (i : ℕ) (kinds : Kinds) (ds : List Data) (all : Kinds) → AllByRecursion IsRead ds
    → kinds_from path i kinds ds ≡ Ok all → AreAdded kinds ds all
kinds_added path i kinds [] all r h =
    let same : kinds ≡ all = ok_is kinds all h in
    record { rest = []; whole = sym same ∙ sym (append-nil kinds); text = refl; few = λ l. subst (λ (ks : Kinds). length ks ≤ 64) same l }
kinds_added path i kinds (d ∷ ds) all r h =
    let at : List ℕ = place_in path i in
    let p = ok_after (list_at at d >>= kind_parts at) (λ kind. added at (with_kind kinds kind.0 kind.1) >>= λ more. kinds_from path (i + 1) more ds)
    all h in
    let kind : List ℕ × Shape = p.0 in
    let a = ok_after (list_at at d) (kind_parts at) kind p.1 in
    let w = list_was at d a.0 a.1 r.0 in
    let q = ok_after (added at (with_kind kinds kind.0 kind.1)) (λ more. kinds_from path (i + 1) more ds) all p.2 in
    let g = added_was at (is_good_name kind.0) (is_some (number_of kinds kind.0)) (nat_lt (length kinds) 64) (length kinds)
    (kinds ++ (kind.0, kind.1) ∷ []) q.0 q.1 in
    let left = kinds_added path (i + 1) q.0 ds all r.1 q.2 in
    let first : d ≡ kind_text kind = w.0 ∙ kind_was at a.0 kind w.1 a.2 in
    let others : ds ≡ each kind_text left.rest = left.text in
    let many : length (kinds ++ kind ∷ []) ≡ length kinds + 1 = length-append kinds (kind ∷ []) in
    let room : length kinds < 64 = ltb-true (length kinds) 64 g.0 in
    record {
      rest = kind ∷ left.rest;
      whole = left.whole ∙ ap (λ (ks : Kinds). ks ++ left.rest) (sym g.1) ∙ append_assoc kinds (kind ∷ []) left.rest;
      text = λ j. first j ∷ others j;
      few = λ l. left.few (subst (λ (ks : Kinds). length ks ≤ 64) g.1 (omega (arith, many, room)));
    }

-- kinds that were read
pub kinds_was : (path : List ℕ) (d : Data) (kinds : Kinds) → IsRead d → kinds_at path d ≡ Ok kinds
    → (d ≡ list_text kind_text kinds) × (length kinds ≤ 64)
kinds_was path d kinds r h =
    let p = ok_after (list_at path d) (kinds_from path 0 []) kinds h in
    let w = list_was path d p.0 p.1 r in
    let a = kinds_added path 0 [] p.0 kinds w.1 p.2 in
    (w.0 ∙ ap array_of (a.text ∙ ap (each kind_text) (sym a.whole)), a.few (omega arith))

-- ---- children and resources

children_exact : IsExact children_at children_text
children_exact path d l r h =
    let o = ok_after (object_at (codes "list" ∷ codes "parent" ∷ []) path d)
    (λ ms. key_of (list_of entity_at) path (codes "list") ms >>= λ list. key_of entity_at path (codes "parent") ms >>= λ parent. Ok (parent, list))
    l h in
    let w = object_was (codes "list" ∷ codes "parent" ∷ []) path d o.0 r o.1 in
    let p = ok_after (key_of (list_of entity_at) path (codes "list") o.0) (λ list. key_of entity_at path (codes "parent") o.0
    >>= λ parent. Ok (parent, list)) l o.2 in
    let q = ok_after (key_of entity_at path (codes "parent") o.0) (λ parent. Ok (parent, p.0)) l p.2 in
    object_is ((codes "list", list_text entity_json p.0) ∷ (codes "parent", entity_json q.0) ∷ []) d o.0 w (tt, (refl, tt)) (
      key_exact (list_of entity_at) (list_text entity_json) (list_exact entity_at entity_json entity_exact) path (codes "list") o.0 p.0 w.read p.1,
      (key_exact entity_at entity_json entity_exact path (codes "parent") o.0 q.0 w.read q.1, tt),
    )
    ∙ ap children_text (ok_is (q.0, p.0) l q.2)

resource_exact : IsExact resource_at resource_text
resource_exact path d l r h =
    let o = ok_after (object_at (codes "cell" ∷ codes "name" ∷ []) path d)
    (λ ms. key_of resource_cell_at path (codes "cell") ms >>= λ cell. key_of name_at path (codes "name") ms >>= λ name. Ok (name, cell)) l h in
    let w = object_was (codes "cell" ∷ codes "name" ∷ []) path d o.0 r o.1 in
    let p = ok_after (key_of resource_cell_at path (codes "cell") o.0) (λ cell. key_of name_at path (codes "name") o.0 >>= λ name. Ok (name, cell))
    l o.2 in
    let q = ok_after (key_of name_at path (codes "name") o.0) (λ name. Ok (name, p.0)) l p.2 in
    object_is ((codes "cell", resource_cell_text p.0) ∷ (codes "name", string q.0) ∷ []) d o.0 w (tt, (refl, tt)) (
      key_exact resource_cell_at resource_cell_text resource_cell_exact path (codes "cell") o.0 p.0 w.read p.1,
      (key_exact name_at string name_exact path (codes "name") o.0 q.0 w.read q.1, tt),
    )
    ∙ ap resource_text (ok_is (q.0, p.0) l q.2)

-- ---- the whole

limit_exact : IsExact limit_at count_text
limit_exact path d n r h =
    let p = ok_after (tick_at path d) (λ n. if_good path (nat_le 1 n && nat_le n most_slots) n) n h in
    tick_exact path d p.0 r p.1 ∙ ap count_text (good_was path (nat_le 1 p.0 && nat_le p.0 most_slots) p.0 n p.2).1

-- the key of the version, which is read before the other keys are known
pub version_found : (known : List (List ℕ)) (d : Data) (ms : Members) (n : ℕ) → IsObject known d ms → version_of d ≡ Ok n
    → get_member (codes "scene") ms ≡ Some (count_text n)
version_found known d ms n w h =
    let v = ok_after (field [] (as_object d)) (key_of tick_at [] (codes "scene")) n h in
    let same : v.0 ≡ ms = same_Some v.0 ms (sym (field_was [] (as_object d) v.0 v.1) ∙ ap as_object w.whole) in
    key_exact tick_at count_text tick_exact [] (codes "scene") ms n w.read
    (subst (λ (xs : Members). key_of tick_at [] (codes "scene") xs ≡ Ok n) same v.2)

-- the lists of parts rise
pub record Rise (p : Parts) : Type 0 where
  pub parents : Follow parent_follows None p.children
  pub names : Follow name_follows None p.resources
  pub sets : Follow table_follows None p.tables

-- the first five keys were read: their values are those of the head's texts
pub record HeadStands (ms : Members) (head : Head) : Type 0 where
  pub children : get_member (codes "children") ms ≡ Some (list_text children_text head.children)
  pub parents : Follow parent_follows None head.children
  pub free : get_member (codes "free") ms ≡ Some (list_text count_text head.free)
  pub generations : get_member (codes "generations") ms ≡ Some (list_text count_text head.generations)
  pub schema : get_member (codes "kinds") ms ≡ Some (list_text kind_text head.schema)
  pub few : length head.schema ≤ 64
  pub limit : get_member (codes "limit") ms ≡ Some (count_text head.limit)

-- and those of the keys behind them, with all that stands in the first five
pub record TailStands (ms : Members) (head : Head) (p : Parts) : Type 0 where
  pub head_is : ◌≡◌ {A = Head} head (record { children = p.children; free = p.free; generations = p.generations; schema = p.schema; limit = p.limit })
  pub resources : get_member (codes "resources") ms ≡ Some (list_text resource_text p.resources)
  pub names : Follow name_follows None p.resources
  pub tables : get_member (codes "tables") ms ≡ Some (list_text table_text p.tables)
  pub sets : Follow table_follows None p.tables
  pub tick : get_member (codes "tick") ms ≡ Some (count_text p.tick)

u32s_exact : IsExact (list_of u32_at) (list_text count_text)
u32s_exact = list_exact u32_at count_text (below_exact 4294967296)

pub head_was : (ms : Members) (head : Head) → HasRead ms → head_of ms ≡ Ok head → HeadStands ms head
head_was ms head r h =
    let k0 = ok_after (key_of (rising_of children_at parent_follows) [] (codes "children") ms) (after_children ms) head h in
    let k1 = ok_after (key_of (list_of u32_at) [] (codes "free") ms) (after_free ms k0.0) head k0.2 in
    let k2 = ok_after (key_of (list_of u32_at) [] (codes "generations") ms) (after_generations ms k0.0 k1.0) head k1.2 in
    let k3 = ok_after (key_of kinds_at [] (codes "kinds") ms) (after_schema ms k0.0 k1.0 k2.0) head k2.2 in
    let k4 = ok_after (key_of limit_at [] (codes "limit") ms)
    (λ limit. Ok (record { children = k0.0; free = k1.0; generations = k2.0; schema = k3.0; limit = limit })) head k3.2 in
    let made : Head = record { children = k0.0; free = k1.0; generations = k2.0; schema = k3.0; limit = k4.0 } in
    let s = key_was kinds_at [] (codes "kinds") ms k3.0 r k3.1 in
    let kinds = kinds_was (under [] (codes "kinds")) s.value k3.0 s.read s.was in
    let children = rising_key children_at children_text children_exact parent_follows [] (codes "children") ms k0.0 r k0.1 in
    subst (λ (x : Head). HeadStands ms x) (ok_is made head k4.2) (record {
      children = children.0;
      parents = children.1;
      free = key_exact (list_of u32_at) (list_text count_text) u32s_exact [] (codes "free") ms k1.0 r k1.1;
      generations = key_exact (list_of u32_at) (list_text count_text) u32s_exact [] (codes "generations") ms k2.0 r k2.1;
      schema = s.found ∙ ap (λ x. Some x) kinds.0;
      few = kinds.1;
      limit = key_exact limit_at count_text limit_exact [] (codes "limit") ms k4.0 r k4.1;
    })

pub tail_was : (ms : Members) (head : Head) (p : Parts) → HasRead ms → length head.schema ≤ 64 → tail_of head ms ≡ Ok p → TailStands ms head p
tail_was ms head p r few h =
    let k0 = ok_after (key_of (rising_of resource_at name_follows) [] (codes "resources") ms) (after_resources head ms) p h in
    let k1 = ok_after (key_of (rising_of (table_at head.schema) table_follows) [] (codes "tables") ms) (after_tables head ms k0.0) p k0.2 in
    let k2 = ok_after (key_of tick_at [] (codes "tick") ms) (λ tick. Ok (whole_of head k0.0 k1.0 tick)) p k1.2 in
    let resources = rising_key resource_at resource_text resource_exact name_follows [] (codes "resources") ms k0.0 r k0.1 in
    let tables = rising_key (table_at head.schema) table_text (table_exact head.schema few) table_follows [] (codes "tables") ms k1.0 r k1.1 in
    subst (λ (x : Parts). TailStands ms head x) (ok_is (whole_of head k0.0 k1.0 k2.0) p k2.2) (record {
      head_is = refl;
      resources = resources.0;
      names = resources.1;
      tables = tables.0;
      sets = tables.1;
      tick = key_exact tick_at count_text tick_exact [] (codes "tick") ms k2.0 r k2.1;
    })

-- both, of the same parts
pub record PartsStand (ms : Members) (p : Parts) : Type 0 where
  pub head : HeadStands ms (record { children = p.children; free = p.free; generations = p.generations; schema = p.schema; limit = p.limit })
  pub tail : TailStands ms (record { children = p.children; free = p.free; generations = p.generations; schema = p.schema; limit = p.limit }) p
  pub rising : Rise p

pub parts_stand : (ms : Members) (head : Head) (p : Parts) → HeadStands ms head → TailStands ms head p → PartsStand ms p
parts_stand ms head p h t =
    let a = subst (HeadStands ms) t.head_is h in
    let b = subst (λ x. TailStands ms x p) t.head_is t in
    record { head = a; tail = b; rising = record { parents = a.parents; names = t.names; sets = t.sets } }

-- parts that were read: their text is what stands there, and their lists rise
pub record AreSaid (d : Data) (p : Parts) : Type 0 where
  pub text : d ≡ parts_text p
  pub rising : Rise p

parts_were : (d : Data) (ms : Members) (p : Parts) → IsObject scene_keys d ms → get_member (codes "scene") ms ≡ Some (count_text 1)
    → parts_of ms ≡ Ok p → AreSaid d p
parts_were d ms p w one h =
    let k = ok_after (head_of ms) (λ head. tail_of head ms) p h in
    let head = head_was ms k.0 w.read k.1 in
    let s = parts_stand ms k.0 p head (tail_was ms k.0 p w.read head.few k.2) in
    let text : d ≡ parts_text p =
    object_is (first_text p ++ last_text 1 p) d ms w (tt, (refl, (refl, (refl, (refl, (refl, (refl, (refl, (refl, tt))))))))) (
      s.head.children,
      (
        s.head.free,
        (s.head.generations, (s.head.schema, (s.head.limit, (s.tail.resources, (one, (s.tail.tables, (s.tail.tick, tt))))))),
      ),
    ) in record { text = text; rising = s.rising }

-- the version that passes is the first
version_one : (b : Bool) (n : ℕ) (x : Result Parts FileFault) (p : Parts) → cond b x (Err (BadVersion n)) ≡ Ok p → (b ≡ true) × (x ≡ Ok p)
version_one true n x p h = (refl, h)
version_one false n x p h = absurd (let k : ◌≡◌ {A = Result Parts FileFault} (Err (BadVersion n)) (Ok p) = h in cc)

-- what a text of version 1 says
pub first_said : (d : Data) (p : Parts) → IsRead d → version_of d ≡ Ok 1 → first_parts d ≡ Ok p → AreSaid d p
first_said d p r v h =
    let c = ok_after (object_at scene_keys [] d) parts_of p h in
    let w = object_was scene_keys [] d c.0 r c.1 in
    parts_were d c.0 p w (version_found scene_keys d c.0 1 w v) c.2

pub parts_said_by : (d : Data) (p : Parts) → IsRead d → parts_in d ≡ Ok p → AreSaid d p
parts_said_by d p r h =
    let a = ok_after (version_of d) (λ version. if nat_eq version 1 then first_parts d else Err (BadVersion version)) p h in
    let b = version_one (nat_eq a.0 1) a.0 (first_parts d) p a.2 in
    first_said d p r (a.1 ∙ ap (λ n. Ok n) (eqb-true a.0 1 b.0)) b.1
