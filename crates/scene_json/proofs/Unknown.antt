-- The first unknown key by bytes, of members in any order.
use Rattle.std.proofs.Common.{◌≡◌, ℕ, Bool, true, false, cond, ◌||◌, Bor, List, [], ◌∷◌, Option, Some, None, bytes_eq, refl, sym, ap, ◌∙◌, map as each}
use Rattle.std.specs.Cmp.Lexicographic.{slice_cmp}
use Rattle.std.specs.List.{list_any}
use Rattle.std.specs.Ordering.{nat_cmp, match_ordering, ordering_reverse, is_eq, is_le}
use Rattle.std.specs.declared.cmp.Ordering.{Ordering}
use Rattle.std.specs.declared.cmp.Ordering.TheVariants.{Less, Equal, Greater}
use Rattle.std.proofs.lemmas.Bool.{false≢true, true≢false}
use Rattle.std.proofs.lemmas.Cmp.{nat_list_cmp_total}
use Rattle.std.proofs.lemmas.Map.Text.{is_eq-slice_cmp}
use Rattle.std.proofs.lemmas.Slice.Eq.{bytes_eq-Decides}
use Rattle.json.proofs.Found.{Some_inj, not_found}
use Rattle.serde_json.specs.Data.{Data, null, boolean, number, string, array, object, Members, no_members, member, put}
use Rattle.serde_json.specs.Find.{as_object}
use Rattle.scene_json.specs.Keys.{members_in, unknown_in, sooner}
use Rattle.scene_json.specs.NodeData.{put_all}

abbrev compare : List ℕ → List ℕ → Ordering
compare k l = slice_cmp nat_cmp k l

-- each key is above another
abbrev AreAbove : List ℕ → Members → Type 0
AreAbove k no_members = Unit {0}
AreAbove k (member l d ms) = (compare k l ≡ Less) × AreAbove k ms

-- keys ascend
abbrev pub Ascend : Members → Type 0
Ascend no_members = Unit {0}
Ascend (member k d ms) = AreAbove k ms × Ascend ms

same_key : (k l : List ℕ) → compare k l ≡ Equal → k ≡ l
same_key k l h = (bytes_eq-Decides k l).0 (sym (is_eq-slice_cmp k l) ∙ ap is_eq h)

turned : (k l : List ℕ) → compare k l ≡ Greater → compare l k ≡ Less
turned k l h = nat_list_cmp_total.antisymm l k ∙ ap ordering_reverse h

above_lower : (k l : List ℕ) (ms : Members) → compare k l ≡ Less → AreAbove l ms → AreAbove k ms
above_lower k l no_members h a = tt
above_lower k l (member m d ms) h a = (nat_list_cmp_total.trans k l m h a.0, above_lower k l ms h a.1)

-- ---- a key that is put in keeps the order

above_put : (l k : List ℕ) (d : Data) (ms : Members) → compare l k ≡ Less → AreAbove l ms → AreAbove l (put k d ms)
above_put l k d no_members h a = (h, tt)
above_put l k d (member m e ms) h a =
    elim (compare k m) as (λ o. AreAbove l (match_ordering o (member k d (member m e ms)) (member m d ms) (member m e (put k d ms)))) [
      | Less ↦ (h, a)
      | Equal ↦ (a.0, a.1)
      | Greater ↦ (a.0, above_put l k d ms h a.1)
    ]

ascend_put : (k : List ℕ) (d : Data) (ms : Members) → Ascend ms → Ascend (put k d ms)
ascend_put k d no_members r = (tt, tt)
ascend_put k d (member l e ms) r =
    elim (compare k l) as (λ o. compare k l ≡ o → Ascend (match_ordering o (member k d (member l e ms)) (member l d ms) (member l e (put k d ms)))) [
      | Less ↦ λ h. ((h, above_lower k l ms h r.0), r)
      | Equal ↦ λ h. (r.0, r.1)
      | Greater ↦ λ h. (above_put l k d ms (turned k l h) r.0, ascend_put k d ms r.1)
    ] refl

-- ---- the first unknown key, with one more

-- a key that stands there already
at_equal : (u : Option (List ℕ)) (k l : List ℕ) (b : Bool) → compare k l ≡ Equal
    → cond b u (Some l) ≡ cond b (cond b u (Some l)) (Some (sooner (cond b u (Some l)) k))
at_equal u k l true h = refl
at_equal u k l false h = ap (λ o. Some (match_ordering o k l l)) (sym h)

-- a key that comes behind the first one
at_greater : (u v : Option (List ℕ)) (k l : List ℕ) (b c : Bool) → compare k l ≡ Greater → v ≡ cond c u (Some (sooner u k))
    → cond b v (Some l) ≡ cond c (cond b u (Some l)) (Some (sooner (cond b u (Some l)) k))
at_greater u v k l true c h e = e
at_greater u v k l false true h e = refl
at_greater u v k l false false h e = ap (λ o. Some (match_ordering o k l l)) (sym h)

-- whether a key is one of those that are referred to
pub any_known : (key : List ℕ) (known : List (Bor (List ℕ))) → list_any (λ k. bytes_eq key k.now) known ≡ list_any (bytes_eq key) (each (λ k. k.now) known)
any_known key [] = refl
any_known key (k ∷ ks) = ap (λ b. bytes_eq key k.now || b) (any_known key ks)

-- the key that comes first
pub first_kept : (first key : List ℕ) → is_le (compare first key) ≡ true → first ≡ sooner (Some first) key
first_kept first key h = kept (compare key first) refl
  where
    kept : (o : Ordering) → compare key first ≡ o → first ≡ match_ordering o key first first
    kept Less e = absurd (false≢true (sym (ap is_le (nat_list_cmp_total.antisymm first key ∙ ap ordering_reverse e)) ∙ h))
    kept Equal e = refl
    kept Greater e = refl

pub later_kept : (first key : List ℕ) → is_le (compare first key) ≡ false → key ≡ sooner (Some first) key
later_kept first key h = kept (compare key first) refl
  where
    kept : (o : Ordering) → compare key first ≡ o → key ≡ match_ordering o key first first
    kept Less e = refl
    kept Equal e = absurd (true≢false (sym (ap is_le (nat_list_cmp_total.antisymm first key ∙ ap ordering_reverse e)) ∙ h))
    kept Greater e = absurd (true≢false (sym (ap is_le (nat_list_cmp_total.antisymm first key ∙ ap ordering_reverse e)) ∙ h))

module _ (known : List (List ℕ)) where
  -- an unknown key comes first where it does, and a known one changes nothing
  abbrev pub first_with : Option (List ℕ) → List ℕ → Option (List ℕ)
  first_with first k = cond (list_any (bytes_eq k) known) first (Some (sooner first k))

  -- keys that are above another one come behind it
  behind : (k : List ℕ) (ms : Members) → AreAbove k ms → sooner (unknown_in known ms) k ≡ k
  behind k no_members a = refl
  behind k (member l d ms) a =
      elim (list_any (bytes_eq l) known) as (λ b. sooner (cond b (unknown_in known ms) (Some l)) k ≡ k) [
        | true ↦ behind k ms a.1
        | false ↦ ap (λ o. match_ordering o k l l) a.0
      ]

  unknown_put : (k : List ℕ) (d : Data) (ms : Members) → Ascend ms → unknown_in known (put k d ms) ≡ first_with (unknown_in known ms) k
  unknown_put k d no_members r = refl
  unknown_put k d (member l e ms) r =
      let before : Option (List ℕ) = cond (list_any (bytes_eq l) known) (unknown_in known ms) (Some l) in
      elim (compare k l) as (λ o. compare k l ≡ o → unknown_in known (match_ordering o (member k d (member l e ms)) (member l d ms) (member l e (put k d ms)))
      ≡ first_with before k) [
        | Less ↦ λ h. ap (λ x. cond (list_any (bytes_eq k) known) before (Some x))
            (sym (behind k (member l e ms) (h, above_lower k l ms h r.0)))
        | Equal ↦ λ h. at_equal (unknown_in known ms) k l (list_any (bytes_eq l) known) h
            ∙ ap (λ x. cond (list_any (bytes_eq x) known) before (Some (sooner before k))) (sym (same_key k l h))
        | Greater ↦ λ h. at_greater (unknown_in known ms) (unknown_in known (put k d ms)) k l (list_any (bytes_eq l) known)
            (list_any (bytes_eq k) known) h (unknown_put k d ms r.1)
      ] refl

  -- the first unknown key of members and of what came first before them
  abbrev pub first_of : Option (List ℕ) → List (List ℕ × Data) → Option (List ℕ)
  first_of first [] = first
  first_of first (m ∷ ms) = first_of (first_with first m.0) ms

  first_from : (ms : List (List ℕ × Data)) (found : Members) → Ascend found → unknown_in known (put_all ms found) ≡ first_of (unknown_in known found) ms
  first_from [] found r = refl
  first_from (m ∷ ms) found r =
      first_from ms (put m.0 m.1 found) (ascend_put m.0 m.1 found r) ∙ ap (λ u. first_of u ms) (unknown_put m.0 m.1 found r)

  pub first_unknown : (ms : List (List ℕ × Data)) → unknown_in known (put_all ms no_members) ≡ first_of None ms
  first_unknown ms = first_from ms no_members tt

  pub unknown_among : (d : Data) (ms : List (List ℕ × Data)) → Some (put_all ms no_members) ≡ as_object d → unknown_in known (members_in d) ≡ first_of None ms
  unknown_among null ms e = not_found _ (sym e)
  unknown_among (boolean b) ms e = not_found _ (sym e)
  unknown_among (number n) ms e = not_found _ (sym e)
  unknown_among (string s) ms e = not_found _ (sym e)
  unknown_among (array ds) ms e = not_found _ (sym e)
  unknown_among (object os) ms e = ap (unknown_in known) (sym (Some_inj _ _ e)) ∙ first_unknown ms
