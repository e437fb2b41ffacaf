-- An object that has values of all the keys that are known, and no other key, is the object of these keys and values.
use Rattle.std.proofs.Common.{◌≡◌, ℕ, true, false, cond, List, [], ◌∷◌, Option, Some, None, refl, ap, sym, subst, ◌∙◌, map as each}
use Rattle.std.specs.Prelude.{◌||◌}
use Rattle.std.specs.List.{list_any, AllByRecursion}
use Rattle.std.specs.Ordering.{nat_cmp, match_ordering, ordering_reverse, is_eq}
use Rattle.std.specs.declared.cmp.Ordering.{Ordering}
use Rattle.std.specs.declared.cmp.Ordering.TheVariants.{Less, Equal, Greater}
use Rattle.std.specs.Cmp.Lexicographic.{slice_cmp}
use Rattle.std.specs.Str.{bytes_eq}
use Rattle.std.proofs.lemmas.Cmp.{nat_list_cmp_total}
use Rattle.std.proofs.lemmas.Map.Text.{is_eq-slice_cmp}
use Rattle.std.proofs.lemmas.Slice.Eq.{bytes_eq-Decides}
use Rattle.serde_json.specs.Data.{Data, Members, no_members, member}
use Rattle.serde_json.specs.Find.{get_member}
use Rattle.scene_json_forms.specs.Reading.{unknown_in}
use Rattle.scene_json_forms.specs.Text.{members_of}
use Rattle.scene_json_forms.proofs.Ascending.{Ascend, from_any}
use Rattle.scene_json_forms.proofs.ReadValues.{key_cmp, KeysRise}

-- the keys of a list of members, and that they ascend
abbrev pub names : List (List ℕ × Data) → List (List ℕ)
names ks = each (λ k. k.0) ks

abbrev pub NamesRise : Option (List ℕ) → List (List ℕ × Data) → Type 0
NamesRise before ks = Ascend key_cmp before (names ks)

-- each key is found with its value
abbrev pub AreFound : Members → List (List ℕ × Data) → Type 0
AreFound ms ks = AllByRecursion (λ k. get_member k.0 ms ≡ Some k.1) ks

-- ---- keys in their order

above : (k l : List ℕ) → slice_cmp nat_cmp k l ≡ Less → slice_cmp nat_cmp l k ≡ Greater
above k l h = nat_list_cmp_total.antisymm l k ∙ ap ordering_reverse h

below : (k l : List ℕ) → slice_cmp nat_cmp k l ≡ Greater → slice_cmp nat_cmp l k ≡ Less
below k l h = nat_list_cmp_total.antisymm l k ∙ ap ordering_reverse h

same_key : (k l : List ℕ) → slice_cmp nat_cmp k l ≡ Equal → k ≡ l
same_key k l h = (bytes_eq-Decides k l).0 (sym (is_eq-slice_cmp k l) ∙ ap is_eq h)

not_same : (k l : List ℕ) (o : Ordering) → slice_cmp nat_cmp k l ≡ o → is_eq o ≡ false → bytes_eq k l ≡ false
not_same k l o h e = sym (is_eq-slice_cmp k l) ∙ ap is_eq h ∙ e

-- a lower key is below the same keys
lower : (k l : List ℕ) (ms : Members) → slice_cmp nat_cmp k l ≡ Less → KeysRise (Some l) ms → KeysRise (Some k) ms
lower k l no_members h r = tt
lower k l (member m d ms) h r = (nat_list_cmp_total.trans k l m h r.0, r.1)

lower_name : (k l : List ℕ) (ks : List (List ℕ × Data)) → slice_cmp nat_cmp k l ≡ Less → NamesRise (Some l) ks → NamesRise (Some k) ks
lower_name k l [] h r = tt
lower_name k l (m ∷ ks) h r = (nat_list_cmp_total.trans k l m.0 h r.0, r.1)

any_lower : (before : Option (List ℕ)) (ms : Members) → KeysRise before ms → KeysRise None ms
any_lower before no_members r = tt
any_lower before (member m d ms) r = (tt, r.1)

-- a key that is below all others isn't found
not_found : (k : List ℕ) (ms : Members) → KeysRise (Some k) ms → get_member k ms ≡ None
not_found k no_members r = refl
not_found k (member l d ms) r =
    ap (λ o. match_ordering o (get_member k ms) (Some d) (get_member k ms)) r.0 ∙ not_found k ms (lower k l ms r.0 r.1)

-- nor is it known
not_known : (k : List ℕ) (ks : List (List ℕ × Data)) → NamesRise (Some k) ks → list_any (bytes_eq k) (names ks) ≡ false
not_known k [] r = refl
not_known k (m ∷ ks) r =
    ap (λ b. b || list_any (bytes_eq k) (names ks)) (not_same k m.0 Less r.0 refl) ∙ not_known k ks (lower_name k m.0 ks r.0 r.1)

-- a key below all others may be known or not
known_below : (k : List ℕ) (known : List (List ℕ)) (ms : Members) → KeysRise (Some k) ms → unknown_in (k ∷ known) ms ≡ unknown_in known ms
known_below k known no_members r = refl
known_below k known (member l d ms) r =
    ap (λ b. cond (b || list_any (bytes_eq l) known) (unknown_in (k ∷ known) ms) (Some l)) (not_same l k Greater (above k l r.0) refl)
    ∙ ap (λ o. cond (list_any (bytes_eq l) known) o (Some l)) (known_below k known ms (lower k l ms r.0 r.1))

-- keys above the first one are found behind it
found_behind : (l : List ℕ) (e : Data) (ms : Members) (ks : List (List ℕ × Data)) → NamesRise (Some l) ks → AreFound (member l e ms) ks
    → AreFound ms ks
found_behind l e ms [] r f = tt
found_behind l e ms (k ∷ ks) r f = (
  sym (ap (λ o. match_ordering o (get_member k.0 ms) (Some e) (get_member k.0 ms)) (above l k.0 r.0)) ∙ f.0,
  found_behind l e ms ks (lower_name l k.0 ks r.0 r.1) f.1,
)

-- ---- the whole

not_both : {P : Type 0} {A : Type 0} (o : Option A) (a : A) → o ≡ None → o ≡ Some a → P
not_both o a h k = absurd (let e : None ≡ Some a = sym h ∙ k in cc)

pub members_are : (ks : List (List ℕ × Data)) (ms : Members) → KeysRise None ms → NamesRise None ks → unknown_in (names ks) ms ≡ None
    → AreFound ms ks → ms ≡ members_of ks
members_are [] no_members r n u f = refl
members_are [] (member l e ms) r n u f = absurd (let h : Some l ≡ None = u in cc)
members_are (k ∷ ks) no_members r n u f = absurd (let h : None ≡ Some k.1 = f.0 in cc)
members_are (k ∷ ks) (member l e ms) r n u f =
    elim (slice_cmp nat_cmp k.0 l) as (λ o. slice_cmp nat_cmp k.0 l ≡ o → member l e ms ≡ member k.0 k.1 (members_of ks)) [
      | Less ↦ λ h. not_both (get_member k.0 (member l e ms)) k.1 (not_found k.0 (member l e ms) (h, r.1)) f.0
      | Equal ↦ λ h.
          let key : k.0 ≡ l = same_key k.0 l h in
          let there : match_ordering Equal (get_member k.0 ms) (Some e) (get_member k.0 ms) ≡ Some k.1 =
          sym (ap (λ o. match_ordering o (get_member k.0 ms) (Some e) (get_member k.0 ms)) h) ∙ f.0 in
          let value : e ≡ k.1 = (let s : Some e ≡ Some k.1 = there in cc) in
          let rise : NamesRise (Some l) ks = subst (λ x. NamesRise (Some x) ks) key n.1 in
          let own : KeysRise (Some k.0) ms = subst (λ x. KeysRise (Some x) ms) (sym key) r.1 in
          let left : unknown_in (names (k ∷ ks)) ms ≡ None = sym
          (ap (λ b. cond b (unknown_in (names (k ∷ ks)) ms) (Some l)) (head_known l k.0 (names ks) key)) ∙ u in
          let rest : ms ≡ members_of ks = members_are ks ms (any_lower (Some l) ms r.1) (from_any key_cmp (Some l) (names ks) rise)
          (sym (known_below k.0 (names ks) ms own) ∙ left) (found_behind l e ms ks rise f.1) in
          λ i. member (sym key i) (value i) (rest i)
      | Greater ↦ λ h.
          let unknown : list_any (bytes_eq l) (names (k ∷ ks)) ≡ false = not_known l (k ∷ ks) (below k.0 l h, n.1) in
          not_both (unknown_in (names (k ∷ ks)) (member l e ms)) l u (ap (λ b. cond b (unknown_in (names (k ∷ ks)) ms) (Some l)) unknown)
    ] refl
  where
    head_known : (x y : List ℕ) (known : List (List ℕ)) → y ≡ x → list_any (bytes_eq x) (y ∷ known) ≡ true
    head_known x y known same = ap (λ b. b || list_any (bytes_eq x) known) ((bytes_eq-Decides x y).1 (sym same))
