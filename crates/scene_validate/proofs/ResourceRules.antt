-- The resources of parts: facts of each.
use Rattle.std.proofs.Common.{◌≡◌, ℕ, true, false, cond, List, [], ◌∷◌, refl, ap, sym, subst, ◌∙◌, Some, None}
use Rattle.std.specs.Ordering.{eq_by_cmp}
use Rattle.std.specs.FinMap.Entries.{find}
use Rattle.std.specs.List.{list_all, AllByRecursion, IsDistinct}
use Rattle.scene_kinds.specs.declared.cell.Cell.{Cell}
use Rattle.scene_kinds.specs.Map as map
use Rattle.scene_kinds.specs.Ranges.{is_in_range}
use Rattle.scene_kinds.specs.Schema.{is_good_name}
use Rattle.scene_kinds.proofs.Maps.{get-insert, equal_keys, ties_itself}
use Rattle.scene_resources.specs.Resources.{name_cmp, name_cmp_total, name_cmp_exact}
use Rattle.scene_model.specs.Valid.{ResourcesAreSound, IsResource, is_timely}
use Rattle.scene_validate.specs.Parts.{keys, resources_of}
use Rattle.scene_validate.proofs.Tests.{all_is, all_of, all_with}

abbrev pub Named : Type 0
Named = List (List ℕ × Cell)

-- the map of resources has what is found first
pub get-resources_of : (rs : Named) (q : List ℕ) → map.get (resources_of rs) q ≡ find name_cmp q rs
get-resources_of [] q = refl
get-resources_of (r ∷ rs) q = get-insert name_cmp_total (resources_of rs) r.0 r.1 q ∙ ap (cond (eq_by_cmp name_cmp q r.0) (Some r.1)) (get-resources_of rs q)

each_found : (Q : List ℕ → Cell → Type 0) (rs : Named) → AllByRecursion (λ r. Q r.0 r.1) rs → (q : List ℕ) (c : Cell) → find name_cmp q rs ≡ Some c → Q q c
each_found Q [] h q c e = absurd (let g : None ≡ Some c = e in cc)
each_found Q (r ∷ rs) h q c is = elim (eq_by_cmp name_cmp q r.0) as (λ b. eq_by_cmp name_cmp q r.0 ≡ b → cond b (Some r.1) (find name_cmp q rs) ≡ Some c → Q q c) [
  | true ↦ λ t g. subst (λ n. Q n c) (sym (equal_keys name_cmp_exact q r.0 t)) (subst (Q r.0) (let k : r.1 ≡ c = (let m : Some r.1 ≡ Some c = g in cc) in k) h.0)
  | false ↦ λ t g. each_found Q rs h.1 q c g
] refl is

found_nowhere : (q : List ℕ) (rs : Named) → AllByRecursion (λ n. eq_by_cmp name_cmp q n ≡ false) (keys rs) → find name_cmp q rs ≡ None
found_nowhere q [] h = refl
found_nowhere q (r ∷ rs) h = ap (λ b. cond b (Some r.1) (find name_cmp q rs)) h.0 ∙ found_nowhere q rs h.1

found_each : (Q : List ℕ → Cell → Type 0) (rs : Named) → IsDistinct (eq_by_cmp name_cmp) (keys rs) → ((q : List ℕ) (c : Cell) → find name_cmp q rs ≡ Some c → Q q c) → AllByRecursion (λ r. Q r.0 r.1) rs
unfolding IsDistinct
found_each Q [] d h = tt
found_each Q (r ∷ rs) d h = (
  h r.0 r.1 (ap (λ b. cond b (Some r.1) (find name_cmp r.0 rs)) (ties_itself name_cmp_total r.0)),
  found_each Q rs d.1 (λ q c g. h q c (elim (eq_by_cmp name_cmp q r.0) as (λ b. eq_by_cmp name_cmp q r.0 ≡ b → cond b (Some r.1) (find name_cmp q rs) ≡ Some c) [
    | true ↦ λ t.
        let n = found_nowhere r.0 rs d.0 in
        absurd (let m : None ≡ Some c = sym n ∙ ap (λ k. find name_cmp k rs) (sym (equal_keys name_cmp_exact q r.0 t)) ∙ g in cc)
    | false ↦ λ t. g
  ] refl)),
)

-- the resources are sound, where their tests pass
pub resources_are : (tick : ℕ) (rs : Named) → list_all (λ r. is_good_name r.0) rs ≡ true → list_all (λ r. is_in_range r.1.value) rs ≡ true → list_all (λ r. is_timely tick r.1) rs ≡ true
    → ResourcesAreSound tick (resources_of rs)
resources_are tick rs good range timely name cell is =
    let found = sym (get-resources_of rs name) ∙ is in
    record {
      good = each_found (λ n c. is_good_name n ≡ true) rs (all_is (λ r. is_good_name r.0) rs good) name cell found;
      in_range = each_found (λ n c. is_in_range c.value ≡ true) rs (all_is (λ r. is_in_range r.1.value) rs range) name cell found;
      timely = each_found (λ n c. is_timely tick c ≡ true) rs (all_is (λ r. is_timely tick r.1) rs timely) name cell found;
    }

-- and the other way round
sound_each : (tick : ℕ) (rs : Named) → IsDistinct (eq_by_cmp name_cmp) (keys rs) → ResourcesAreSound tick (resources_of rs) → AllByRecursion (λ r. IsResource tick r.0 r.1) rs
sound_each tick rs d sound = found_each (IsResource tick) rs d (λ q c g. sound q c (get-resources_of rs q ∙ g))

pub names_good : (tick : ℕ) (rs : Named) → IsDistinct (eq_by_cmp name_cmp) (keys rs) → ResourcesAreSound tick (resources_of rs) → list_all (λ r. is_good_name r.0) rs ≡ true
names_good tick rs d sound = all_of (λ r. is_good_name r.0) rs (all_with (λ r. IsResource tick r.0 r.1) (λ r. is_good_name r.0 ≡ true) (λ r k. k.good) rs (sound_each tick rs d sound))

pub resources_timely : (tick : ℕ) (rs : Named) → IsDistinct (eq_by_cmp name_cmp) (keys rs) → ResourcesAreSound tick (resources_of rs) → list_all (λ r. is_timely tick r.1) rs ≡ true
resources_timely tick rs d sound = all_of (λ r. is_timely tick r.1) rs (all_with (λ r. IsResource tick r.0 r.1) (λ r. is_timely tick r.1 ≡ true) (λ r k. k.timely) rs (sound_each tick rs d sound))

pub resources_in_range : (tick : ℕ) (rs : Named) → IsDistinct (eq_by_cmp name_cmp) (keys rs) → ResourcesAreSound tick (resources_of rs) → list_all (λ r. is_in_range r.1.value) rs ≡ true
resources_in_range tick rs d sound = all_of (λ r. is_in_range r.1.value) rs (all_with (λ r. IsResource tick r.0 r.1) (λ r. is_in_range r.1.value ≡ true) (λ r k. k.in_range) rs (sound_each tick rs d sound))
