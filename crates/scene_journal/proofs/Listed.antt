-- Spots that are listed, as more come.
use Rattle.std.proofs.Common.{◌≡◌, ℕ, suc, ◌+◌, ◌<◌, ◌≤◌, true, false, cond, List, [], ◌∷◌, ◌++◌, length, map, refl, ap, subst, sym, ◌∙◌, arith, Bor, Option, Some, None, Result, Ok, OnOk}
use Rattle.std.specs.Prelude.{⊤, Contains, Err, IfSome, option_copied, option_map, slice_get, slice_set}
use Rattle.std.specs.declared.cmp.Ordering.{Ordering}
use Rattle.std.specs.Ordering.{nat_cmp, eq_by_cmp}
use Rattle.std.specs.FinMap.{IsAntisymmetric, nat_cmp-IsAntisymmetric}
use Rattle.std.specs.FinMap.Entries.{find}
use Rattle.std.proofs.lemmas.List.{length-set}
use Rattle.std.proofs.lemmas.List.Elements.{Contains-append_left, Contains-push}
use Rattle.std.proofs.lemmas.Option.{same_Some, slice_get-map, slice_get_within}
use Rattle.scene_kinds.specs.declared.entity.Entity.{Entity}
use Rattle.scene_kinds.specs.declared.cell.Cell.{Cell}
use Rattle.scene_kinds.specs.declared.cells.Row.{Row}
use Rattle.scene_kinds.specs.Lists.{listed}
use Rattle.scene_kinds.specs.Map as entries
use Rattle.scene_kinds.proofs.Elements.{written}
use Rattle.scene_kinds.proofs.Maps.{equal_keys}
use Rattle.scene_resources.specs.Resources.{NamedCells, name_cmp_exact, names_of, cell_of as resource_of}
use Rattle.scene_table.specs.Tables.{Tables, EachRow, rows_at, masks_of}
use Rattle.scene_table.proofs.Standing.{apart}
use Rattle.scene_journal.specs.declared.spot.Spot.{Spot}
use Rattle.scene_journal.specs.declared.spot.Spot.TheVariants.{Component, Resource}
use Rattle.scene_journal.specs.Newest.{Newest, AreListed, AreRowsListed, IsListed, IsNameListed, IsWider}

pub wider_itself : (n : Newest) → IsWider n n
wider_itself n = record { spots = λ tick spot h. h; ages = (refl, refl) }

pub wider_wider : (a b c : Newest) → IsWider a b → IsWider b c → IsWider a c
wider_wider a b c p q = record {
  spots = λ tick spot h. q.spots tick spot (p.spots tick spot h);
  ages = (q.ages.0 ∙ p.ages.0, q.ages.1 ∙ p.ages.1);
}

pub cells_wider : (a b : Newest) (e : Entity) (cells : List (ℕ × Cell)) → IsWider a b → AreListed a e cells → AreListed b e cells
cells_wider a b e cells wide h kind cell is = wide.spots cell.changed (Component e kind) (h kind cell is)

-- ---- one more spot

module _ (n m : Newest) (tick at : ℕ) (spot : Spot) (there : List Spot) (same : m.opening ≡ n.opening) (age : tick + at ≡ n.opening)
    (was : slice_get n.by_age at ≡ Some there) (now : m.by_age ≡ slice_set n.by_age at (there ++ spot ∷ [])) where
  pub added_listed : IsListed m tick spot
  added_listed a spots is here =
      written (Contains spots spot) n.by_age at (there ++ spot ∷ []) a spots (ap (λ ls. slice_get ls a) (sym now) ∙ here)
      (λ e s. subst (λ xs. Contains xs spot) s (Contains-push there spot))
      (λ other k. absurd (other (omega (arith, is, same, age))))

  still_listed : (t : ℕ) (x : Spot) → IsListed n t x → IsListed m t x
  still_listed t x h a spots is here =
      written (Contains spots x) n.by_age at (there ++ spot ∷ []) a spots (ap (λ ls. slice_get ls a) (sym now) ∙ here)
      (λ e s. subst (λ xs. Contains xs x) s (Contains-append_left there (spot ∷ []) x (h a there (is ∙ same) (ap (slice_get n.by_age) e ∙ was))))
      (λ other k. h a spots (is ∙ same) k)

  pub added_wider : IsWider n m
  added_wider = record { spots = still_listed; ages = (same, ap length now ∙ length-set n.by_age at (there ++ spot ∷ [])) }

-- no spots are kept of a tick
pub none_listed : (n : Newest) (tick : ℕ) (spot : Spot) → ((age : ℕ) → tick + age ≡ n.opening → length n.by_age ≤ age) → IsListed n tick spot
none_listed n tick spot none age spots is here =
    let past = none age is in
    let within = slice_get_within n.by_age age spots here in
    absurd (omega (arith, past, within))

-- ---- one after another

-- what holds of each element before a number
abbrev pub UpTo : {X : Type 0} → (X → Type 0) → List X → ℕ → Type 0
UpTo {X} P xs count = (i : ℕ) (x : X) → i < count → slice_get xs i ≡ Some x → P x

pub one_more : {X : Type 0} (P Q : X → Type 0) (xs : List X) (count : ℕ) (x : X) → ((y : X) → P y → Q y) → slice_get xs count ≡ Some x → Q x
    → UpTo P xs count → UpTo Q xs (count + 1)
one_more P Q xs count x wide is new before i y low at =
    elim (eq_by_cmp nat_cmp i count) as (λ t. eq_by_cmp nat_cmp i count ≡ t → Q y) [
      | true ↦ λ t.
          let place = equal_keys nat_cmp-IsAntisymmetric i count t in
          let found : Some x ≡ Some y = sym is ∙ ap (slice_get xs) (sym place) ∙ at in
          subst Q (same_Some x y found) new
      | false ↦ λ t. wide y (before i y (other i count t low) at)
    ] refl
  where
    other : (i count : ℕ) → eq_by_cmp nat_cmp i count ≡ false → i < count + 1 → i < count
    other i count t low = let differ = apart i count t in omega (arith, low, differ)

pub all_up_to : {X : Type 0} (P : X → Type 0) (xs : List X) (count : ℕ) → length xs ≤ count → UpTo P xs count → (i : ℕ) (x : X) → slice_get xs i ≡ Some x → P x
all_up_to P xs count all h i x at = let within = slice_get_within xs i x at in h i x (omega (arith, all, within)) at

-- what holds of each element of a list
abbrev pub EachOf : {X : Type 0} → (X → Type 0) → List X → Type 0
EachOf P [] = ⊤
EachOf P (x ∷ xs) = P x × EachOf P xs

pub each_more : {X : Type 0} (P Q : X → Type 0) (xs : List X) (x : X) → ((y : X) → P y → Q y) → Q x → EachOf P xs → EachOf Q (xs ++ x ∷ [])
each_more P Q [] x wide is h = (is, tt)
each_more P Q (y ∷ xs) x wide is h = (wide y h.0, each_more P Q xs x wide is h.1)

-- a cell that is found stands somewhere
pub found_at : {K X : Type 0} {R : K → K → Ordering} → IsAntisymmetric R → (es : List (K × X)) (k : K) (x : X) → find R k es ≡ Some x
    → (i : ℕ) × (slice_get es i ≡ Some (k, x))
found_at exact [] k x h = absurd (let wrong : None ≡ Some x = h in cc)
found_at {R = R} exact (e ∷ es) k x h = elim (eq_by_cmp R k e.0) as (λ b. eq_by_cmp R k e.0 ≡ b → cond b (Some e.1) (find R k es) ≡ Some x → (i : ℕ) × (slice_get (e ∷ es) i ≡ Some (k, x))) [
  | true ↦ λ t g.
      let key : k ≡ e.0 = equal_keys exact k e.0 t in
      let same : e.1 ≡ x = cc in
      (0, λ i. Some (sym key i, same i))
  | false ↦ λ t g. let rest = found_at exact es k x g in (suc rest.0, rest.1)
] refl h

-- the cell of an entity, with its kind
abbrev pub IsCellListed : Newest → Entity → ℕ × Cell → Type 0
IsCellListed n e c = IsListed n c.1.changed (Component e c.0)

pub cell_wider : (a b : Newest) (e : Entity) → IsWider a b → (c : ℕ × Cell) → IsCellListed a e c → IsCellListed b e c
cell_wider a b e wide c h = wide.spots c.1.changed (Component e c.0) h

pub cells_listed : (n : Newest) (e : Entity) (cells : List (ℕ × Cell)) (count : ℕ) → length cells ≤ count → UpTo (IsCellListed n e) cells count → AreListed n e cells
cells_listed n e cells count all h kind cell is =
    let at = found_at nat_cmp-IsAntisymmetric cells kind cell is in
    all_up_to (IsCellListed n e) cells count all h at.0 (kind, cell) at.1

pub row_wider : (a b : Newest) → IsWider a b → (row : Row) → AreListed a row.entity row.cells → AreListed b row.entity row.cells
row_wider a b wide row h = cells_wider a b row.entity row.cells wide h

pub rows_wider : (a b : Newest) → IsWider a b → (rows : List Row) → AreRowsListed a rows → AreRowsListed b rows
rows_wider a b wide rows h at row is = row_wider a b wide row (h at row is)

pub name_wider : (a b : Newest) (r : NamedCells) → IsWider a b → (name : List ℕ) → IsNameListed a r name → IsNameListed b r name
name_wider a b r wide name h cell is = wide.spots cell.changed (Resource name) (h cell is)

-- ---- what is known of a call that was accepted

pub ok_more : {A E : Type 0} {P Q : Type 0} (r : Result A E) → (P → Q) → OnOk r P → OnOk r Q
ok_more (Ok a) f h = f h
ok_more (Err e) f h = tt

-- the cell that is lent of a name, under another word for it
pub name_listed : (n : Newest) (r : NamedCells) (o : Option (Bor Cell)) (text key name : List ℕ) → text ≡ name → key ≡ name → option_copied o ≡ resource_of r key
    → IfSome o (λ cell. IsListed n cell.now.changed (Resource text)) → IsNameListed n r name
name_listed n r None text key name same keyed is h cell found =
    absurd (let wrong : None ≡ Some cell = is ∙ ap (resource_of r) keyed ∙ found in cc)
name_listed n r (Some x) text key name same keyed is h cell found =
    let cells : x.now ≡ cell = same_Some x.now cell (is ∙ ap (resource_of r) keyed ∙ found) in
    subst (λ (c : Cell). IsListed n c.changed (Resource name)) cells (subst (λ t. IsListed n x.now.changed (Resource t)) same h)

-- ---- tables and resources, in order

-- the rows of each kind set are among those of all
pub rows_listed : (n : Newest) (tables : Tables) (lists : List (List Row)) → lists ≡ map (rows_at tables) (masks_of tables)
    → ((i : ℕ) (rows : List Row) → slice_get lists i ≡ Some rows → AreRowsListed n rows)
    → EachRow (λ mask row. AreListed n row.entity row.cells) tables
rows_listed n tables lists are each h row at = from (entries.get tables h.mask) refl
  where
    from : (o : Option (Row × List Row)) → entries.get tables h.mask ≡ o → AreListed n row.entity row.cells
    from None is = absurd (let wrong : None ≡ Some row = ap (λ o. slice_get (listed o) h.place) (sym is) ∙ at in cc)
    from (Some x) is =
        let place = found_at nat_cmp-IsAntisymmetric tables.entries h.mask x is in
        let key : slice_get (masks_of tables) place.0 ≡ Some h.mask = slice_get-map (λ (t : ℕ × (Row × List Row)). t.0) tables.entries place.0 ∙ ap (option_map (λ (t : ℕ × (Row × List Row)). t.0)) place.1 in
        each place.0 (rows_at tables h.mask)
        (ap (λ ls. slice_get ls place.0) are ∙ slice_get-map (rows_at tables) (masks_of tables) place.0 ∙ ap (option_map (rows_at tables)) key) h.place row at

-- each resource's name is among the names
pub named_listed : (n : Newest) (r : NamedCells) (names : List (List ℕ)) → names ≡ names_of r
    → ((i : ℕ) (name : List ℕ) → slice_get names i ≡ Some name → IsNameListed n r name) → (name : List ℕ) → IsNameListed n r name
named_listed n r names are each name cell is =
    let place = found_at name_cmp_exact r.entries name cell is in
    each place.0 name
    (ap (λ xs. slice_get xs place.0) are ∙ slice_get-map (λ (e : List ℕ × Cell). e.0) r.entries place.0 ∙ ap (option_map (λ (e : List ℕ × Cell). e.0)) place.1) cell is
