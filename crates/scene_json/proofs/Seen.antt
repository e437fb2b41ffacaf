-- What is seen of nodes from a place on.
use Rattle.std.proofs.Common.{◌≡◌, ℕ, zero, suc, ◌+◌, ◌≤◌, List, [], ◌∷◌, ◌++◌, length, drop, get_or, Bor, false, is_some, refl, sym, ap, ◌∙◌, arith}
use Rattle.serde_json.specs.Data.{Data}
use Rattle.serde_json.specs.Find.{as_null}
use Rattle.scene_json.specs.NodeData.{first, inside, says, seen, text_in}
use Rattle.scene_json.specs.declared.node.Node.{Node}
use Rattle.scene_json.specs.declared.node.Node.TheVariants.{Null, Bool, Count, Below, Number, String, List as Listed, Object}

-- past the last node nothing is seen
pub seen_past : (k : ℕ) (ns : List Node) → length ns ≤ k → seen k ns ≡ []
unfolding seen
seen_past k [] h = refl
seen_past zero (n ∷ ns) h = absurd (omega arith)
seen_past (suc k) (n ∷ ns) h = seen_past k ns (omega arith)

-- the first value, by the node that it begins with
pub first_seen : (k : ℕ) (ns : List Node) → first (seen k ns) ≡ says (get_or ns k Null) (seen (k + 1) ns)
unfolding seen
first_seen k [] = refl
first_seen zero (n ∷ ns) = refl
first_seen (suc k) (n ∷ ns) =
    let later : suc (k + 1) ≡ suc k + 1 = omega arith in
    first_seen k ns ∙ ap (λ j. says (get_or ns k Null) (seen j (n ∷ ns))) later

-- the values behind it
pub others_seen : (k : ℕ) (ns : List Node) → drop 1 (seen k ns) ≡ seen (k + 1 + inside (get_or ns k Null)) ns
unfolding seen
others_seen k [] = refl
others_seen zero (n ∷ ns) = let later : suc (inside n) ≡ 0 + 1 + inside n = omega arith in ap (λ j. seen j (n ∷ ns)) later
others_seen (suc k) (n ∷ ns) =
    let later : suc (k + 1 + inside (get_or ns k Null)) ≡ suc k + 1 + inside (get_or ns k Null) = omega arith in
    others_seen k ns ∙ ap (λ j. seen j (n ∷ ns)) later

-- by the node itself
pub first_by : (k : ℕ) (ns : List Node) (n : Node) → n ≡ get_or ns k Null → first (seen k ns) ≡ says n (seen (k + 1) ns)
first_by k ns n e = first_seen k ns ∙ ap (λ m. says m (seen (k + 1) ns)) (sym e)

pub others_by : (k i : ℕ) (ns : List Node) (n : Node) → n ≡ get_or ns k Null → i ≡ inside n → seen (k + 1 + i) ns ≡ drop 1 (seen k ns)
others_by k i ns n e h = ap (λ j. seen (k + 1 + j) ns) (h ∙ ap inside e) ∙ sym (others_seen k ns)

-- nothing is seen behind what stands last
pub none_behind : (k i : ℕ) (ns : List Node) (n : Node) → n ≡ get_or ns k Null → i ≡ inside n → length ns ≤ k + 1 + i → seen (length ns) ns ≡ drop 1 (seen k ns)
none_behind k i ns n e h long =
    seen_past (length ns) ns (omega arith) ∙ sym (seen_past (k + 1 + i) ns long) ∙ others_by k i ns n e h

pub none_past : (k : ℕ) (ns : List Node) → length ns ≤ k → seen k ns ≡ drop 1 (seen k ns)
none_past k ns h = let none = seen_past k ns h in none ∙ ap (drop 1) (sym none)

pub inside_past : (k : ℕ) (ns : List Node) → length ns ≤ k → seen k ns ≡ seen (k + 1) ns
inside_past k ns h = seen_past k ns h ∙ sym (seen_past (k + 1) ns (omega arith))

-- there are no more values than nodes
pub no_more_values : (k : ℕ) (ns : List Node) → length (seen k ns) ≤ length ns
unfolding seen
no_more_values k [] = omega arith
no_more_values zero (n ∷ ns) = omega (arith, no_more_values (inside n) ns)
no_more_values (suc k) (n ∷ ns) = omega (arith, no_more_values k ns)

-- nodes before others are passed over
pub seen_over : (ms ns : List Node) → seen (length ms) (ms ++ ns) ≡ seen 0 ns
unfolding seen
seen_over [] ns = refl
seen_over (m ∷ ms) ns = seen_over ms ns

-- ---- what a node that is no other says

pub no_null : (n : Node) (ds : List Data) → (n ≡ Null → ⊥) → false ≡ is_some (as_null (says n ds))
no_null Null ds never = absurd (never refl)
no_null (Bool b) ds never = refl
no_null (Count k) ds never = refl
no_null (Below z) ds never = refl
no_null (Number s) ds never = refl
no_null (String s) ds never = refl
no_null (Listed k c) ds never = refl
no_null (Object k c) ds never = refl

pub no_text : (n : Node) (ds : List Data) → ((s : Bor (List ℕ)) → n ≡ String s → ⊥) → [] ≡ text_in (says n ds)
no_text Null ds never = refl
no_text (Bool b) ds never = refl
no_text (Count k) ds never = refl
no_text (Below z) ds never = refl
no_text (Number s) ds never = refl
no_text (String s) ds never = absurd (never s refl)
no_text (Listed k c) ds never = refl
no_text (Object k c) ds never = refl
