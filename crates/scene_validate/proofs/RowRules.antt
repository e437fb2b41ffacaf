-- The rows of parts: facts of each, who lives, and that each entity stands once.
use Rattle.std.proofs.Common.{◌≡◌, ℕ, Bool, true, false, T, List, [], ◌∷◌, refl, ap, sym, subst, ◌∙◌, Some, None, Option, map, nat_eq}
use Rattle.std.specs.Prelude.{slice_get, ◌&&◌}
use Rattle.std.specs.Ordering.{nat_cmp, eq_by_cmp}
use Rattle.std.specs.Cmp.{nat_cmp_total}
use Rattle.std.specs.FinMap.{nat_cmp-IsAntisymmetric}
use Rattle.std.specs.FinMap.Entries.{is_sorted}
use Rattle.std.specs.List.{list_all, AllByRecursion, IsDistinct}
use Rattle.std.proofs.lemmas.Bool.{eqb-true, eq-eqb}
use Rattle.scene_kinds.specs.declared.entity.Entity.{Entity}
use Rattle.scene_kinds.specs.declared.cells.Row.{Row}
use Rattle.scene_kinds.specs.Cells.{mask_of}
use Rattle.scene_kinds.specs.Entity.{entity_cmp_total, entity_cmp_exact, is_same}
use Rattle.scene_kinds.specs.Schema.{Kinds, fits_kind}
use Rattle.scene_table.specs.Tables.{EachRow, StandsOnce, lives, row_at}
use Rattle.scene_links.proofs.Held.{same_is, same_self}
use Rattle.scene_table.specs.declared.home.Home.{Home}
use Rattle.scene_model.specs.Valid.{IsRowOf}
use Rattle.scene_table.proofs.Homes.{here_live, live_here}
use Rattle.scene_table.proofs.Standing.{same_home}
use Rattle.scene_validate.specs.Parts.{keys, has_some, tables_of}
use Rattle.scene_validate.specs.Rules.{flat, has_row, has_generation, is_row_of}
use Rattle.scene_validate.proofs.Tests.{and_is, and_of, same_tests, all_is, all_of, all_with}
use Rattle.scene_validate.proofs.Listed.{EachIn, listed_in, list_at-map_of, each_listed, listed_each, any_listed, listed_any, flat_is, flat_of}
use Rattle.scene_validate.proofs.Once.{once_listed, listed_once}

abbrev pub Listed : Type 0
Listed = List (ℕ × List Row)

-- kind sets are distinct
abbrev pub AreApart : Listed → Type 0
AreApart ts = IsDistinct (eq_by_cmp nat_cmp) (keys ts)

-- the row at a home is the one that stands at its place under its kind set
pub at_rows : (ts : Listed) (h : Home) → row_at (tables_of ts) h ≡ slice_get (listed_in nat_cmp ts h.mask) h.place
at_rows ts h = ap (λ (xs : List Row). slice_get xs h.place) (list_at-map_of nat_cmp_total ts h.mask)

pub each_row : (Q : ℕ → Row → Type 0) (ts : Listed) → EachIn Q ts → EachRow Q (tables_of ts)
each_row Q ts all h row is = each_listed nat_cmp_total nat_cmp-IsAntisymmetric Q ts all h.mask h.place row (sym (at_rows ts h) ∙ is)

pub row_each : (Q : ℕ → Row → Type 0) (ts : Listed) → AreApart ts → EachRow Q (tables_of ts) → EachIn Q ts
row_each Q ts d each = listed_each nat_cmp_total nat_cmp-IsAntisymmetric Q ts d (λ k p x g. each (record { mask = k; place = p }) x (at_rows ts (record { mask = k; place = p }) ∙ g))

-- a test of all rows
pub test_row : (t : Row → Bool) (ts : Listed) → list_all t (flat ts) ≡ true → EachRow (λ m r. t r ≡ true) (tables_of ts)
test_row t ts h = each_row (λ m r. t r ≡ true) ts (flat_is t ts h)

pub row_test : (t : Row → Bool) (ts : Listed) → AreApart ts → EachRow (λ m r. t r ≡ true) (tables_of ts) → list_all t (flat ts) ≡ true
row_test t ts d each = flat_of t ts (row_each (λ m r. t r ≡ true) ts d each)

-- who has a row lives
pub has_row_lives : (ts : Listed) → AreApart ts → (e : Entity) → has_row (flat ts) e ≡ lives (tables_of ts) e
has_row_lives ts d e = same_tests _ _
    (λ h.
    let r = any_listed nat_cmp_total nat_cmp-IsAntisymmetric (λ (r : Row). is_same e r.entity) ts d h in
    live_here (tables_of ts) e (record { mask = r.0; place = r.1.0 }) r.1.1.0 (at_rows ts (record { mask = r.0; place = r.1.0 }) ∙ r.1.1.1.0) (sym (same_is e r.1.1.0.entity r.1.1.1.1)))
    (λ l.
    let g = here_live (tables_of ts) e l in
    listed_any nat_cmp_total nat_cmp-IsAntisymmetric (λ (r : Row). is_same e r.entity) ts g.0.mask g.0.place g.1.row (sym (at_rows ts g.0) ∙ g.1.there) (ap (is_same e) g.1.same ∙ same_self e))

-- entities that differ over all rows stand once, and the other way round
pub stands_once : (ts : Listed) → IsDistinct is_same (map (λ (r : Row). r.entity) (flat ts)) → StandsOnce (tables_of ts)
stands_once ts d a b r s p q e =
    let k = once_listed nat_cmp_total nat_cmp-IsAntisymmetric entity_cmp_total entity_cmp_exact (λ (r : Row). r.entity) ts d a.mask b.mask a.place b.place r s
    (record { one = sym (at_rows ts a) ∙ p; other = sym (at_rows ts b) ∙ q }) e in same_home a b k.0 k.1

pub once_stands : (ts : Listed) → AreApart ts → StandsOnce (tables_of ts) → IsDistinct is_same (map (λ (r : Row). r.entity) (flat ts))
once_stands ts d once = listed_once nat_cmp_total nat_cmp-IsAntisymmetric entity_cmp_total entity_cmp_exact (λ (r : Row). r.entity) ts d (λ k j p q x y at e.
    let a : Home = record { mask = k; place = p } in
    let b : Home = record { mask = j; place = q } in
    let s = once a b x y (at_rows ts a ∙ at.one) (at_rows ts b ∙ at.other) e in (ap (λ h. h.mask) s, ap (λ h. h.place) s))

-- ---- what the tests of one row say

pub generation_is : (o : Option ℕ) (g : ℕ) → has_generation o g ≡ true → o ≡ Some g
generation_is None g h = absurd (let k : false ≡ true = h in cc)
generation_is (Some n) g h = ap (λ m. Some m) (eqb-true n g h)

pub generation_of : (o : Option ℕ) (g : ℕ) → o ≡ Some g → has_generation o g ≡ true
generation_of o g h = ap (λ x. has_generation x g) h ∙ eq-eqb g g refl

pub passes : (b : Bool) → b ≡ true → T b
passes b h = subst T (sym h) tt

pub passed : (b : Bool) → T b → b ≡ true
passed true h = refl
passed false h = absurd h

pub row_of_is : (schema : Kinds) (mask : ℕ) (r : Row) → is_row_of schema mask r ≡ true → IsRowOf schema mask r
row_of_is schema mask r h =
    let a = and_is (is_sorted nat_cmp r.cells && nat_eq (mask_of r.cells) mask) (list_all (λ c. fits_kind schema c.1.value c.0) r.cells) h in
    let b = and_is (is_sorted nat_cmp r.cells) (nat_eq (mask_of r.cells) mask) a.0 in
    record { kinds = record { ascending = passes (is_sorted nat_cmp r.cells) b.0; kinds = eqb-true (mask_of r.cells) mask b.1 }; shapes = a.1 }

pub row_of_of : (schema : Kinds) (mask : ℕ) (r : Row) → IsRowOf schema mask r → is_row_of schema mask r ≡ true
row_of_of schema mask r h =
    and_of (is_sorted nat_cmp r.cells && nat_eq (mask_of r.cells) mask) (list_all (λ c. fits_kind schema c.1.value c.0) r.cells)
    (and_of (is_sorted nat_cmp r.cells) (nat_eq (mask_of r.cells) mask) (passed (is_sorted nat_cmp r.cells) h.kinds.ascending) (eq-eqb (mask_of r.cells) mask h.kinds.kinds)) h.shapes

-- the test of tables
pub tables_fit : (schema : Kinds) (ts : Listed) → list_all (λ t. has_some t.1 && list_all (is_row_of schema t.0) t.1) ts ≡ true → EachIn (λ m r. IsRowOf schema m r) ts
tables_fit schema ts h = all_with (λ t. (has_some t.1 && list_all (is_row_of schema t.0) t.1) ≡ true) (λ t. AllByRecursion (IsRowOf schema t.0) t.1)
    (λ t k. all_with (λ r. is_row_of schema t.0 r ≡ true) (IsRowOf schema t.0) (λ r g. row_of_is schema t.0 r g) t.1 (all_is (is_row_of schema t.0) t.1 (and_is (has_some t.1) (list_all (is_row_of schema t.0) t.1) k).1))
    ts (all_is (λ t. has_some t.1 && list_all (is_row_of schema t.0) t.1) ts h)

pub tables_some : (schema : Kinds) (ts : Listed) → list_all (λ t. has_some t.1 && list_all (is_row_of schema t.0) t.1) ts ≡ true → list_all (λ t. has_some t.1) ts ≡ true
tables_some schema ts h = all_of (λ t. has_some t.1) ts (all_with (λ t. (has_some t.1 && list_all (is_row_of schema t.0) t.1) ≡ true) (λ t. has_some t.1 ≡ true)
    (λ t k. (and_is (has_some t.1) (list_all (is_row_of schema t.0) t.1) k).0) ts (all_is (λ t. has_some t.1 && list_all (is_row_of schema t.0) t.1) ts h))

pub fit_tables : (schema : Kinds) (ts : Listed) → list_all (λ t. has_some t.1) ts ≡ true → EachIn (λ m r. IsRowOf schema m r) ts → list_all (λ t. has_some t.1 && list_all (is_row_of schema t.0) t.1) ts ≡ true
fit_tables schema [] s h = refl
fit_tables schema (t ∷ ts) s h =
    let k = and_is (has_some t.1) (list_all (λ t. has_some t.1) ts) s in
    and_of (has_some t.1 && list_all (is_row_of schema t.0) t.1) (list_all (λ t. has_some t.1 && list_all (is_row_of schema t.0) t.1) ts)
    (and_of (has_some t.1) (list_all (is_row_of schema t.0) t.1) k.0 (all_of (is_row_of schema t.0) t.1 (all_with (IsRowOf schema t.0) (λ r. is_row_of schema t.0 r ≡ true) (λ r g. row_of_of schema t.0 r g) t.1 h.0)))
    (fit_tables schema ts k.1 h.1)
