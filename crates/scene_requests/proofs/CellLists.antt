-- The kinds of a schema, looked at one after another.
use Rattle.std.proofs.Common.{◌≡◌, ℕ, zero, suc, ◌+◌, ◌<◌, ◌≤◌, List, [], ◌∷◌, ◌++◌, length, drop, slice_get, Option, Some, None, Result, Ok, Err, option_map, refl, sym, ap, subst, ◌∙◌, arith, append_assoc, append-nil, map as each}
use Rattle.std.specs.Prelude.{unwrap_or}
use Rattle.std.proofs.lemmas.List.{map-append}
use Rattle.serde_json.specs.Data.{Data, Members}
use Rattle.serde_json.specs.Find.{get_member}
use Rattle.scene_kinds.specs.declared.shape.Shape.{Shape}
use Rattle.scene_kinds.specs.declared.value.Value.{Value}
use Rattle.scene_kinds.specs.Schema.{Kinds, name_of}
use Rattle.scene_json_forms.specs.declared.fault.FileFault.{FileFault}
use Rattle.scene_json_forms.specs.Outcome.{IsTextFault}
use Rattle.scene_json_forms.specs.Reading.{◌>>=◌, under}
use Rattle.scene_json_forms.specs.Walk.{value_at}
use Rattle.scene_json_forms.proofs.Lists.{joined}
use Rattle.scene_json_forms.proofs.Walking.{fault_stays}
use Rattle.scene_requests.specs.Cells.{cell_numbered}
use Rattle.scene_requests.specs.Walk.{cell_where, cells_from}

-- what stands at a place, before what stands behind it
pub drop_at : {A : Type 0} (xs : List A) (i : ℕ) → i < length xs → (x : A) × (slice_get xs i ≡ Some x) × (drop i xs ≡ x ∷ drop (i + 1) xs)
drop_at [] i h = absurd (omega (arith, h))
drop_at (x ∷ xs) zero h = (x, refl, refl)
drop_at (x ∷ xs) (suc i) h =
    let rest = drop_at xs i (omega (arith, h)) in
    let e : suc i + 1 ≡ suc (i + 1) = omega arith in
    (rest.0, rest.1, rest.2 ∙ ap (λ ys. rest.0 ∷ ys) (sym (ap (λ n. drop n (x ∷ xs)) e)))

pub drop_all : {A : Type 0} (xs : List A) (i : ℕ) → length xs ≤ i → drop i xs ≡ []
drop_all [] zero h = refl
drop_all [] (suc i) h = refl
drop_all (x ∷ xs) zero h = absurd (omega (arith, h))
drop_all (x ∷ xs) (suc i) h = drop_all xs i (omega (arith, h))

-- ---- names

abbrev pub key : List ℕ × Shape → List ℕ
key k = k.0

abbrev pub shape_in : List ℕ × Shape → Shape
shape_in k = k.1

-- the names so far, and those of the kinds from a number on
abbrev pub AreNamed : Kinds → List (List ℕ) → ℕ → Type 0
AreNamed kinds names i = names ++ each key (drop i kinds) ≡ each key kinds

pub name_more : (kinds : Kinds) (names : List (List ℕ)) (i : ℕ) (name : List ℕ) → i < length kinds → name_of kinds i ≡ Some name → AreNamed kinds names i
    → AreNamed kinds (names ++ name ∷ []) (i + 1)
name_more kinds names i name low is so =
    let at = drop_at kinds i low in
    let same : ◌≡◌ {A = Option (List ℕ)} (Some (key at.0)) (Some name) = sym (ap (option_map key) at.1) ∙ is in
    let named : key at.0 ≡ name = cc same in
    append_assoc names (name ∷ []) (each key (drop (i + 1) kinds))
    ∙ ap (λ n. names ++ n ∷ each key (drop (i + 1) kinds)) (sym named)
    ∙ ap (λ ks. names ++ each key ks) (sym at.2)
    ∙ so

pub name_on : {X : Type 0} (seen : X → List ℕ) (kinds : Kinds) (xs new : List X) (x : X) (i : ℕ) → i < length kinds → new ≡ xs ++ x ∷ []
    → seen x ≡ unwrap_or (name_of kinds i) [] → AreNamed kinds (each seen xs) i → AreNamed kinds (each seen new) (i + 1)
name_on seen kinds xs new x i low grown is so =
    let at = drop_at kinds i low in
    let there : name_of kinds i ≡ Some (key at.0) = ap (option_map key) at.1 in
    let same : key at.0 ≡ seen x = sym (is ∙ ap (λ o. unwrap_or o []) there) in
    subst (λ ns. AreNamed kinds (each seen ns) (i + 1)) (sym grown)
    (subst (λ ns. AreNamed kinds ns (i + 1)) (sym (map-append seen xs (x ∷ [])))
    (name_more kinds (each seen xs) i (seen x) low (there ∙ ap Some same) so))

pub names_all : (kinds : Kinds) (names : List (List ℕ)) (i : ℕ) → length kinds ≤ i → AreNamed kinds names i → names ≡ each key kinds
names_all kinds names i high so = sym (append-nil names) ∙ ap (λ ks. names ++ each key ks) (sym (drop_all kinds i high)) ∙ so

-- ---- the cell of a kind

module _ (path : List ℕ) (ms : Members) (kind : ℕ) where
  -- no kind has the number
  pub no_kind : (o : Option (List ℕ × Shape)) → option_map key o ≡ None → cell_numbered path ms kind o ≡ Ok []
  no_kind None h = refl
  no_kind (Some k) h = absurd (cc h)

  pub no_shape : (o : Option (List ℕ × Shape)) → option_map shape_in o ≡ None → cell_numbered path ms kind o ≡ Ok []
  no_shape None h = refl
  no_shape (Some k) h = absurd (cc h)

  -- its name is no key
  pub no_cell : (o : Option (List ℕ × Shape)) (name : List ℕ) → option_map key o ≡ Some name → get_member name ms ≡ None
      → cell_numbered path ms kind o ≡ Ok []
  no_cell None name h m = absurd (cc h)
  no_cell (Some k) name h m = let n : k.0 ≡ name = cc h in ap (cell_where path kind k) (ap (λ x. get_member x ms) n ∙ m)

  -- by the value of the key
  cell_is : (k : List ℕ × Shape) (name : List ℕ) (shape : Shape) (d : Data) → k.0 ≡ name → k.1 ≡ shape → get_member name ms ≡ Some d
      → cell_numbered path ms kind (Some k) ≡ (value_at shape (under path name) d >>= λ value. Ok ((kind, value) ∷ []))
  cell_is k name shape d n s m =
      ap (cell_where path kind k) (ap (λ x. get_member x ms) n ∙ m)
      ∙ ap (λ x. value_at x (under path k.0) d >>= λ value. Ok ((kind, value) ∷ [])) s
      ∙ ap (λ x. value_at shape (under path x) d >>= λ value. Ok ((kind, value) ∷ [])) n

  pub cell_there : (o : Option (List ℕ × Shape)) (name : List ℕ) (shape : Shape) (d : Data) (value : Value) → option_map key o ≡ Some name
      → option_map shape_in o ≡ Some shape → get_member name ms ≡ Some d → value_at shape (under path name) d ≡ Ok value
      → cell_numbered path ms kind o ≡ Ok ((kind, value) ∷ [])
  cell_there None name shape d value h t m v = absurd (cc h)
  cell_there (Some k) name shape d value h t m v =
      let n : k.0 ≡ name = cc h in
      let s : k.1 ≡ shape = cc t in
      cell_is k name shape d n s m ∙ ap (λ r. r >>= λ x. Ok ((kind, x) ∷ [])) v

  pub cell_bad : (o : Option (List ℕ × Shape)) (name : List ℕ) (shape : Shape) (d : Data) (fault : FileFault) → option_map key o ≡ Some name
      → option_map shape_in o ≡ Some shape → get_member name ms ≡ Some d → IsTextFault fault (value_at shape (under path name) d)
      → IsTextFault fault (cell_numbered path ms kind o)
  cell_bad None name shape d fault h t m v = absurd (cc h)
  cell_bad (Some k) name shape d fault h t m v =
      let n : k.0 ≡ name = cc h in
      let s : k.1 ≡ shape = cc t in
      subst (IsTextFault fault) (sym (cell_is k name shape d n s m))
      (fault_stays fault (value_at shape (under path name) d) (λ value. Ok ((kind, value) ∷ [])) v)

-- ---- cells

module _ (path : List ℕ) (ms : Members) (kinds : Kinds) where
  -- the whole of what is read, by the cells so far and those of the kinds from a number on
  abbrev pub AreRead : Result (List (ℕ × Value)) FileFault → List (ℕ × Value) → ℕ → Type 0
  AreRead whole xs i = whole ≡ joined xs (cells_from path ms i (drop i kinds))

  -- by the cell of a kind that is there
  next_of : (i : ℕ) → i < length kinds → cells_from path ms i (drop i kinds)
      ≡ (cell_numbered path ms i (slice_get kinds i) >>= λ cell. cells_from path ms (i + 1) (drop (i + 1) kinds) >>= λ rest. Ok (cell ++ rest))
  next_of i low =
      let at = drop_at kinds i low in
      ap (cells_from path ms i) at.2
      ∙ ap (λ o. cell_numbered path ms i o >>= λ cell. cells_from path ms (i + 1) (drop (i + 1) kinds) >>= λ rest. Ok (cell ++ rest)) (sym at.1)

  joined-list : (xs cell : List (ℕ × Value)) (rest : Result (List (ℕ × Value)) FileFault)
      → joined xs (rest >>= λ ys. Ok (cell ++ ys)) ≡ joined (xs ++ cell) rest
  joined-list xs cell (Ok ys) = ap Ok (sym (append_assoc xs cell ys))
  joined-list xs cell (Err f) = refl

  pub cell_more : (whole : Result (List (ℕ × Value)) FileFault) (xs new cell : List (ℕ × Value)) (i : ℕ) → i < length kinds → AreRead whole xs i
      → cell_numbered path ms i (slice_get kinds i) ≡ Ok cell → new ≡ xs ++ cell → AreRead whole new (i + 1)
  cell_more whole xs new cell i low so is grown =
      let rest = cells_from path ms (i + 1) (drop (i + 1) kinds) in
      so ∙ ap (joined xs) (next_of i low)
      ∙ ap (λ r. joined xs (r >>= λ c. rest >>= λ ys. Ok (c ++ ys))) is
      ∙ joined-list xs cell rest
      ∙ ap (λ ys. joined ys rest) (sym grown)

  pub cell_faulty : (whole : Result (List (ℕ × Value)) FileFault) (xs : List (ℕ × Value)) (i : ℕ) (fault : FileFault) → i < length kinds → AreRead whole xs i
      → IsTextFault fault (cell_numbered path ms i (slice_get kinds i)) → IsTextFault fault whole
  cell_faulty whole xs i fault low so is =
      let rest = cells_from path ms (i + 1) (drop (i + 1) kinds) in
      subst (IsTextFault fault) (sym (so ∙ ap (joined xs) (next_of i low)))
      (fault_stays fault (cell_numbered path ms i (slice_get kinds i) >>= λ c. rest >>= λ ys. Ok (c ++ ys)) (λ ys. Ok (xs ++ ys))
      (fault_stays fault (cell_numbered path ms i (slice_get kinds i)) (λ c. rest >>= λ ys. Ok (c ++ ys)) is))

  pub cells_all : (whole : Result (List (ℕ × Value)) FileFault) (xs : List (ℕ × Value)) (i : ℕ) → length kinds ≤ i → AreRead whole xs i → whole ≡ Ok xs
  cells_all whole xs i high so = so ∙ ap (λ ks. joined xs (cells_from path ms i ks)) (drop_all kinds i high) ∙ ap Ok (append-nil xs)

pub ruleset cell_laws = (no_kind, no_shape, no_cell, cell_there, cell_bad)
