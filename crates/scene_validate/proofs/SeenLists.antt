-- Tests of the vectors of the code, as those of the lists that they are.
use Rattle.std.proofs.Common.{◌≡◌, Bool, List, [], ◌∷◌, ◌++◌, refl, ap, sym, ◌∙◌, map, Vec, true, false}
use Rattle.std.specs.Prelude.{◌&&◌}
use Rattle.std.specs.List.{list_all}
use Rattle.std.specs.declared.alloc.Global.{Global}
use Rattle.std.proofs.lemmas.List.Folds.{list_all-append, list_all-map}
use Rattle.std.proofs.lemmas.List.{map-append, append_assoc, append-nil}
use Rattle.scene_validate.specs.Parts.{keys, has_some}
use Rattle.scene_validate.specs.Rules.{flat, are_distinct, is_row_of, is_current, rows_are_current, tables_are_sound}
use Rattle.scene_validate.specs.Seen.{lists_seen, seen}
use Rattle.scene_validate.specs.declared.parts.WorldParts.{WorldParts}
use Rattle.scene_kinds.specs.declared.cells.Row.{Row}
use Rattle.std.specs.Ordering.{nat_cmp, eq_by_cmp}
use Rattle.std.proofs.Common.{ℕ}
use Rattle.std.proofs.Common.{not, Bor, String}
use Rattle.std.specs.Prelude.{string_bytes}
use Rattle.scene_kinds.specs.declared.cell.Cell.{Cell}
use Rattle.scene_kinds.specs.Schema.{is_good_name}
use Rattle.scene_resources.specs.Resources.{name_cmp}
use Rattle.scene_model.specs.Valid.{is_timely}
use Rattle.scene_validate.specs.Seen.{named_seen}
use Rattle.scene_validate.specs.Rules.{names_are_sound, ticks_are_sound}

module _ {K X : Type 0} where
  -- a test of all lists in a row, list by list
  pub all_flat : (t : X → Bool) (es : List (K × Vec X Global)) → list_all (λ e. list_all t e.1.items) es ≡ list_all t (flat (lists_seen es))
  all_flat t [] = refl
  all_flat t (e ∷ es) = ap (λ b. list_all t e.1.items && b) (all_flat t es) ∙ sym (list_all-append t e.1.items (flat (lists_seen es)))

  -- a test of each key with its list
  pub all_seen : (t : K × List X → Bool) (es : List (K × Vec X Global)) → list_all (λ e. t (e.0, e.1.items)) es ≡ list_all t (lists_seen es)
  all_seen t es = sym (list_all-map t (λ (e : K × Vec X Global). (e.0, e.1.items)) es)

  -- the same keys
  pub same_keys : (es : List (K × Vec X Global)) → map (λ (e : K × Vec X Global). e.0) es ≡ keys (lists_seen es)
  same_keys [] = refl
  same_keys (e ∷ es) = ap (λ ks. e.0 ∷ ks) (same_keys es)

  -- a list in a row comes behind those before
  pub flat_push : {Y : Type 0} (f : X → Y) (es : List (K × Vec X Global)) (e : K × Vec X Global) → map f (flat (lists_seen (es ++ e ∷ []))) ≡ map f (flat (lists_seen es)) ++ map f e.1.items
  flat_push f [] e = ap (map f) (append-nil e.1.items)
  flat_push f (d ∷ es) e = map-append f d.1.items (flat (lists_seen (es ++ e ∷ []))) ∙ ap (λ ys. map f d.1.items ++ ys) (flat_push f es e) ∙ sym (append_assoc (map f d.1.items) (map f (flat (lists_seen es))) (map f e.1.items))
      ∙ ap (λ ys. ys ++ map f e.1.items) (sym (map-append f d.1.items (flat (lists_seen es))))

-- ---- the rules, of the lists that the code reads

abbrev pub RowVecs : Type 0
RowVecs = List (ℕ × Vec Row Global)

pub current_seen : (p : WorldParts) (g : List ℕ) (ts : RowVecs) (b : Bool) → g ≡ p.generations.items → ts ≡ p.tables.items
    → b ≡ list_all (λ t. list_all (λ r. is_current g r.entity) t.1.items) ts → b ≡ rows_are_current (seen p)
current_seen p g ts b e f h = h ∙ all_flat (λ (r : Row). is_current g r.entity) ts
    ∙ ap (λ (xs : RowVecs). list_all (λ (r : Row). is_current g r.entity) (flat (lists_seen xs))) f ∙ ap (λ h. list_all (λ (r : Row). is_current h r.entity) (flat (lists_seen p.tables.items))) e

-- the test of the tables, once kind sets are told to be distinct or not
-- the kind sets of parts
abbrev keys_of : WorldParts → List ℕ
keys_of p = keys (lists_seen p.tables.items)

sets_are : (p : WorldParts) (sets masks : List ℕ) (ts : RowVecs) (d : Bool) → masks ≡ map (λ (t : ℕ × Vec Row Global). t.0) ts → ts ≡ p.tables.items → sets ≡ masks
    → d ≡ are_distinct (eq_by_cmp nat_cmp) sets → d ≡ are_distinct (eq_by_cmp nat_cmp) (keys_of p)
sets_are p sets masks ts d k t s h = h ∙ ap (are_distinct (eq_by_cmp nat_cmp)) (s ∙ k ∙ ap (map (λ (t : ℕ × Vec Row Global). t.0)) t ∙ same_keys p.tables.items)

pub sets_twice : (p : WorldParts) (sets masks : List ℕ) (ts : RowVecs) (d : Bool) → masks ≡ map (λ (t : ℕ × Vec Row Global). t.0) ts → ts ≡ p.tables.items → sets ≡ masks
    → d ≡ are_distinct (eq_by_cmp nat_cmp) sets → d ≡ false → false ≡ tables_are_sound (seen p)
sets_twice p sets masks ts d k t s h f =
    ap (λ b. b && list_all (λ t. has_some t.1 && list_all (is_row_of p.schema t.0) t.1) (lists_seen p.tables.items)) (sym f ∙ sets_are p sets masks ts d k t s h)

pub sets_once : (p : WorldParts) (sets masks : List ℕ) (ts us : RowVecs) (d b : Bool) → masks ≡ map (λ (t : ℕ × Vec Row Global). t.0) ts → ts ≡ p.tables.items → sets ≡ masks
    → d ≡ are_distinct (eq_by_cmp nat_cmp) sets → d ≡ true → us ≡ p.tables.items → b ≡ list_all (λ t. has_some t.1.items && list_all (is_row_of p.schema t.0) t.1.items) us → b ≡ tables_are_sound (seen p)
sets_once p sets masks ts us d b k t s h y u f =
    f ∙ all_seen (λ t. has_some t.1 && list_all (is_row_of p.schema t.0) t.1) us
    ∙ ap (λ (xs : RowVecs). list_all (λ t. has_some t.1 && list_all (is_row_of p.schema t.0) t.1) (lists_seen xs)) u
    ∙ ap (λ b. b && list_all (λ t. has_some t.1 && list_all (is_row_of p.schema t.0) t.1) (lists_seen p.tables.items)) (sym y ∙ sets_are p sets masks ts d k t s h)

-- ---- resources

abbrev pub NamedVecs : Type 0
NamedVecs = List (String Global × Cell)

-- names as texts are distinct where their bytes are
distinct_texts : {A K : Type 0} (f : A → K) (same : K → K → Bool) (xs : List A) → are_distinct (λ a b. same (f a) (f b)) xs ≡ are_distinct same (map f xs)
distinct_texts f same [] = refl
distinct_texts f same (x ∷ xs) = ap (λ b. b && are_distinct (λ a b. same (f a) (f b)) xs) (sym (list_all-map (λ y. not (same (f x) y)) f xs)) ∙ ap (λ b. list_all (λ y. not (same (f x) y)) (map f xs) && b) (distinct_texts f same xs)

good_seen : (rs : NamedVecs) → list_all (λ (r : String Global × Cell). is_good_name (string_bytes r.0)) rs ≡ list_all (λ r. is_good_name r.0) (named_seen rs)
good_seen rs = sym (list_all-map (λ r. is_good_name r.0) (λ (r : String Global × Cell). (string_bytes r.0, r.1)) rs)

names_seen : (rs : NamedVecs) → map (λ (r : String Global × Cell). string_bytes r.0) rs ≡ keys (named_seen rs)
names_seen [] = refl
names_seen (r ∷ rs) = ap (λ ns. string_bytes r.0 ∷ ns) (names_seen rs)

pub names_bad : (p : WorldParts) (rs : NamedVecs) (b : Bool) → rs ≡ p.resources.items → b ≡ list_all (λ (r : String Global × Cell). is_good_name (string_bytes r.0)) rs → b ≡ false → false ≡ names_are_sound (seen p)
names_bad p rs b e h f =
    ap (λ b. b && are_distinct (eq_by_cmp name_cmp) (keys (named_seen p.resources.items)))
    (sym f ∙ h ∙ good_seen rs ∙ ap (λ (xs : NamedVecs). list_all (λ r. is_good_name r.0) (named_seen xs)) e)

pub names_told : (p : WorldParts) (rs : NamedVecs) (b : Bool) → rs ≡ p.resources.items → b ≡ list_all (λ (r : String Global × Cell). is_good_name (string_bytes r.0)) rs → b ≡ true
    → (names texts : List (Bor (List ℕ))) (d : Bool) → texts ≡ names → map (λ (n : Bor (List ℕ)). n.now) names ≡ map (λ (r : String Global × Cell). string_bytes r.0) rs
    → d ≡ are_distinct (λ (a b : Bor (List ℕ)). eq_by_cmp name_cmp a.now b.now) texts → d ≡ names_are_sound (seen p)
names_told p rs b e h t names texts d s n k =
    k ∙ distinct_texts (λ (a : Bor (List ℕ)). a.now) (eq_by_cmp name_cmp) texts ∙ ap (are_distinct (eq_by_cmp name_cmp)) (ap (map (λ (a : Bor (List ℕ)). a.now)) s ∙ n ∙ names_seen rs)
    ∙ ap (λ (xs : NamedVecs). are_distinct (eq_by_cmp name_cmp) (keys (named_seen xs))) e
    ∙ ap (λ b. b && are_distinct (eq_by_cmp name_cmp) (keys (named_seen p.resources.items)))
    (sym t ∙ h ∙ good_seen rs ∙ ap (λ (xs : NamedVecs). list_all (λ r. is_good_name r.0) (named_seen xs)) e)

-- the ticks of rows, and then of resources
rows_timely : (tick : ℕ) (p : WorldParts) (ts : RowVecs) (b : Bool) → ts ≡ p.tables.items → b ≡ list_all (λ t. list_all (λ (r : Row). list_all (λ c. is_timely tick c.1) r.cells) t.1.items) ts
    → b ≡ list_all (λ (r : Row). list_all (λ c. is_timely tick c.1) r.cells) (flat (lists_seen p.tables.items))
rows_timely tick p ts b e h = h ∙ all_flat (λ (r : Row). list_all (λ c. is_timely tick c.1) r.cells) ts ∙ ap (λ (xs : RowVecs). list_all (λ (r : Row). list_all (λ c. is_timely tick c.1) r.cells) (flat (lists_seen xs))) e

pub rows_untimely : (p : WorldParts) (ts : RowVecs) (b : Bool) → ts ≡ p.tables.items → b ≡ list_all (λ t. list_all (λ (r : Row). list_all (λ c. is_timely p.tick c.1) r.cells) t.1.items) ts → b ≡ false → false ≡ ticks_are_sound (seen p)
rows_untimely p ts b e h f = ap (λ b. b && list_all (λ r. is_timely p.tick r.1) (named_seen p.resources.items)) (sym f ∙ rows_timely p.tick p ts b e h)

pub ticks_told : (p : WorldParts) (ts : RowVecs) (b : Bool) → ts ≡ p.tables.items → b ≡ list_all (λ t. list_all (λ (r : Row). list_all (λ c. is_timely p.tick c.1) r.cells) t.1.items) ts → b ≡ true
    → (rs : NamedVecs) (d : Bool) → rs ≡ p.resources.items → d ≡ list_all (λ (r : String Global × Cell). is_timely p.tick r.1) rs → d ≡ ticks_are_sound (seen p)
ticks_told p ts b e h t rs d f k =
    k ∙ sym (list_all-map (λ r. is_timely p.tick r.1) (λ (r : String Global × Cell). (string_bytes r.0, r.1)) rs) ∙ ap (λ (xs : NamedVecs). list_all (λ r. is_timely p.tick r.1) (named_seen xs)) f
    ∙ ap (λ b. b && list_all (λ r. is_timely p.tick r.1) (named_seen p.resources.items)) (sym t ∙ rows_timely p.tick p ts b e h)
