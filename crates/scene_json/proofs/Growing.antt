-- Nodes that say just some data.
use Rattle.std.proofs.Common.{◌≡◌, ℕ, ◌+◌, ◌-◌, ◌≤◌, List, [], ◌∷◌, ◌++◌, length, slice_set, refl, sym, ap, ap₂, ◌∙◌, arith, append_assoc, append-nil, length-append}
use Rattle.std.proofs.Math.Seq.{set-append_seam}
use Rattle.serde_json.specs.Data.{Data, array, object, no_items, no_members}
use Rattle.scene_json.specs.NodeData.{Grows, Say, first, inside, items_before, items_from, fields_from, listed, put_all, says, seen}
use Rattle.scene_json.specs.declared.node.Node.{Node}
use Rattle.scene_json.specs.declared.node.Node.TheVariants.{List as Listed, Object, Null}
use Rattle.scene_json.proofs.Seen.{seen_over, no_more_values}
use Rattle.scene_json.proofs.Elements.{items_again, fields_again}

-- ---- what nodes say

say_none : Say [] []
say_none rest = refl

pub say_more : (a b : List Node) (x y : List Data) → Say a x → Say b y → Say (a ++ b) (x ++ y)
say_more a b x y f g rest =
    ap (seen 0) (append_assoc a b rest) ∙ f (b ++ rest) ∙ ap (λ z. x ++ z) (g rest) ∙ sym (append_assoc x y (seen 0 rest))

-- a node with nothing inside
pub say_one : (n : Node) (d : Data) → inside n ≡ 0 → ((ds : List Data) → says n ds ≡ d) → Say (n ∷ []) (d ∷ [])
unfolding seen
say_one n d e h rest = ap₂ (λ x k. x ∷ seen k rest) (h (seen 0 rest)) e

-- nodes behind the node of a list, or of an object
pub say_list : (a : List Node) (x : List Data) → Say a x → Say (Listed (length a) (length x) ∷ a) (array (items_before x no_items) ∷ [])
unfolding seen
say_list a x f rest =
    ap₂ (λ i z. array i ∷ z) (ap (items_from (length x)) (f rest) ∙ items_again x (seen 0 rest)) (seen_over a rest)

pub say_object : (a : List Node) (ms : List (List ℕ × Data)) → Say a (listed ms)
    → Say (Object (length a) (length ms) ∷ a) (object (put_all ms no_members) ∷ [])
unfolding seen
say_object a ms f rest =
    ap₂ (λ i z. object (put_all i no_members) ∷ z) (ap (fields_from (length ms)) (f rest) ∙ fields_again ms (seen 0 rest)) (seen_over a rest)

no_more : (a : List Node) (x : List Data) → Say a x → length x ≤ length a
no_more a x f =
    let e = f [] in
    omega (arith, no_more_values 0 (a ++ []), ap length e, length-append x (seen 0 []), ap length (append-nil a))

-- the whole of some nodes
pub say_whole : (a : List Node) (d : Data) → Say a (d ∷ []) → first (seen 0 a) ≡ d
say_whole a d f = ap (λ l. first (seen 0 l)) (sym (append-nil a)) ∙ ap first (f [])

-- ---- what is added

pub grows_none : (old new : List Node) → new ≡ old → Grows old new []
grows_none old new e = ([], e ∙ sym (append-nil old), say_none)

pub grows_more : (old mid new : List Node) (x y : List Data) → Grows old mid x → Grows mid new y → Grows old new (x ++ y)
grows_more old mid new x y a b = (
  a.0 ++ b.0,
  b.1 ∙ ap (λ l. l ++ b.0) a.1 ∙ append_assoc old a.0 b.0,
  say_more a.0 b.0 x y a.2 b.2,
)

pub grows_one : (old new : List Node) (n : Node) (d : Data) → new ≡ old ++ n ∷ [] → inside n ≡ 0 → ((ds : List Data) → says n ds ≡ d) → Grows old new (d ∷ [])
grows_one old new n d e h s = (n ∷ [], e, say_one n d h s)

pub grows_within : (old new : List Node) (x : List Data) → Grows old new x → length old + length x ≤ length new
grows_within old new x g = omega (arith, ap length g.1, length-append old g.0, no_more g.0 x g.2)

-- what one value added to no nodes is the whole of them
pub grown_whole : (none new : List Node) (d : Data) → none ≡ [] → Grows none new (d ∷ []) → first (seen 0 new) ≡ d
grown_whole none new d empty g = ap (λ l. first (seen 0 l)) (g.1 ∙ ap (λ o. o ++ g.0) empty) ∙ say_whole g.0 d g.2

-- ---- a list or an object, whose node takes the place that was left for it

-- the nodes with a place left, and what was added behind it
left_open : (old mid new more : List Node) (n : Node) → mid ≡ old ++ n ∷ [] → new ≡ mid ++ more → new ≡ old ++ n ∷ more
left_open old mid new more n e f = f ∙ ap (λ l. l ++ more) e ∙ append_assoc old (n ∷ []) more

module _ (old mid new closed : List Node) (n : Node) (is : mid ≡ old ++ n ∷ []) where
  pub grows_list : (x : List Data) (count : ℕ) → count ≡ length x → Grows mid new x
      → ((more : List Node) → new ≡ old ++ n ∷ more → closed ≡ old ++ Listed (length more) count ∷ more)
      → Grows old closed (array (items_before x no_items) ∷ [])
  grows_list x count many g close = (
    Listed (length g.0) (length x) ∷ g.0,
    close g.0 (left_open old mid new g.0 n is g.1) ∙ ap (λ c. old ++ Listed (length g.0) c ∷ g.0) many,
    say_list g.0 x g.2,
  )

  pub grows_object : (ms : List (List ℕ × Data)) (count : ℕ) → count ≡ length ms → Grows mid new (listed ms)
      → ((more : List Node) → new ≡ old ++ n ∷ more → closed ≡ old ++ Object (length more) count ∷ more)
      → Grows old closed (object (put_all ms no_members) ∷ [])
  grows_object ms count many g close = (
    Object (length g.0) (length ms) ∷ g.0,
    close g.0 (left_open old mid new g.0 n is g.1) ∙ ap (λ c. old ++ Object (length g.0) c ∷ g.0) many,
    say_object g.0 ms g.2,
  )

-- a node in the place that was left for it
pub closed : (old more all : List Node) (at len : ℕ) (node : ℕ → Node) → all ≡ old ++ Null ∷ more → at ≡ length old → len ≡ length all
    → slice_set all at (node (len - at - 1)) ≡ old ++ node (length more) ∷ more
closed old more all at len node e place many =
    let fits : len - at - 1 ≡ length more = omega (arith, many, place, ap length e, length-append old (Null ∷ more)) in
    ap₂ (λ l n. slice_set l at (node n)) e fits ∙ ap (λ i. slice_set (old ++ Null ∷ more) i (node (length more))) place ∙ set-append_seam old Null more (node (length more))
