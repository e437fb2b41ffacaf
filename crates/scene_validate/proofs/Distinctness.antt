-- Keys that are put into a set one after another, where none is in it yet.
use Rattle.std.proofs.Common.{◌≡◌, ℕ, ◌+◌, ◌<◌, ◌≤◌, Bool, true, false, not, cond, List, [], ◌∷◌, ◌++◌, length, take, drop, refl, ap, sym, ◌∙◌, get_or}
use Rattle.std.specs.Prelude.{◌||◌, ◌&&◌}
use Rattle.std.specs.List.{list_any}
use Rattle.std.specs.declared.cmp.Ordering.{Ordering}
use Rattle.std.specs.Ordering.{eq_by_cmp}
use Rattle.std.specs.Cmp.{IsTotalOrder}
use Rattle.std.specs.BTreeSet.{BTreeSet, contains}
use Rattle.std.proofs.lemmas.Cmp.{eq_by_cmp_equiv}
use Rattle.std.proofs.lemmas.List.{take_more, take-append-drop, take_all}
use Rattle.std.proofs.lemmas.List.Folds.{list_any-append}
use Rattle.scene_validate.specs.Rules.{are_distinct}
use Rattle.scene_validate.proofs.Tests.{same_tests}
use Rattle.scene_validate.proofs.Marking.{distinct_push, distinct_front}

-- the first so many of keys are distinct, and a set has just them
pub record AreSeen {K : Type 0} (R : K → K → Ordering) (keys : List K) (n : ℕ) (seen : BTreeSet K) : Type 0 where
  pub each : (q : K) → contains R seen q ≡ list_any (eq_by_cmp R q) (take n keys)
  pub apart : are_distinct (eq_by_cmp R) (take n keys) ≡ true

module _ {K : Type 0} (R : K → K → Ordering) (o : IsTotalOrder R) (keys : List K) where
  -- the next key is new where it keeps them distinct
  seen_next : (n : ℕ) (key : K) (seen : BTreeSet K) → AreSeen R keys n seen → n < length keys → key ≡ get_or keys n key
      → are_distinct (eq_by_cmp R) (take (n + 1) keys) ≡ not (contains R seen key)
  seen_next n key seen s l is =
      ap (are_distinct (eq_by_cmp R)) (take_more keys n key l ∙ ap (λ k. take n keys ++ k ∷ []) (sym is))
      ∙ distinct_push (eq_by_cmp R) (eq_by_cmp_equiv o).symm (take n keys) key
      ∙ ap (λ b. b && not (list_any (eq_by_cmp R key) (take n keys))) s.apart
      ∙ ap not (sym (s.each key))

  pub seen_more : (n : ℕ) (key : K) (old new : BTreeSet K) (added : Bool) → AreSeen R keys n old → n < length keys → key ≡ get_or keys n key
      → added ≡ not (contains R old key) → added ≡ true → ((q : K) → contains R new q ≡ cond (eq_by_cmp R key q) true (contains R old q)) → AreSeen R keys (n + 1) new
  seen_more n key old new added s l is d t u = record {
    each = λ q.
        u q ∙ ap (cond (eq_by_cmp R key q) true) (s.each q) ∙ ap (λ b. cond b true (list_any (eq_by_cmp R q) (take n keys))) ((eq_by_cmp_equiv o).symm key q)
        ∙ one_more (eq_by_cmp R q key) (list_any (eq_by_cmp R q) (take n keys))
        ∙ sym (ap (list_any (eq_by_cmp R q)) (take_more keys n key l ∙ ap (λ k. take n keys ++ k ∷ []) (sym is)) ∙ list_any-append (eq_by_cmp R q) (take n keys) (key ∷ []));
    apart = seen_next n key old s l is ∙ sym d ∙ t;
  }
    where
      one_more : (a b : Bool) → cond a true b ≡ (b || (a || false))
      one_more true true = refl
      one_more true false = refl
      one_more false true = refl
      one_more false false = refl

  pub seen_stops : (n : ℕ) (key : K) (old : BTreeSet K) (added : Bool) → AreSeen R keys n old → n < length keys → key ≡ get_or keys n key
      → added ≡ not (contains R old key) → added ≡ false → false ≡ are_distinct (eq_by_cmp R) keys
  seen_stops n key old added s l is d t = sym (same_tests (are_distinct (eq_by_cmp R) keys) false
      (λ h.
      sym (seen_next n key old s l is ∙ sym d ∙ t)
      ∙ distinct_front (eq_by_cmp R) (eq_by_cmp_equiv o).symm (take (n + 1) keys) (drop (n + 1) keys) (ap (are_distinct (eq_by_cmp R)) (take-append-drop (n + 1) keys) ∙ h))
      (λ h. absurd (let k : false ≡ true = h in cc)))

  pub seen_all : (n : ℕ) (seen : BTreeSet K) → AreSeen R keys n seen → length keys ≤ n → true ≡ are_distinct (eq_by_cmp R) keys
  seen_all n seen s l = sym (ap (are_distinct (eq_by_cmp R)) (sym (take_all n keys l)) ∙ s.apart)
