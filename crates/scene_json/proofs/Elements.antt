-- The elements and the members that are left, by their number.
use Rattle.std.proofs.Common.{◌≡◌, ℕ, zero, suc, List, [], ◌∷◌, ◌++◌, length, drop, refl, ap}
use Rattle.serde_json.specs.Data.{Data, no_items, item}
use Rattle.scene_json.specs.Lists.{elements}
use Rattle.scene_json.specs.NodeData.{fields_from, items_before, items_from, listed}

pub as_many : (n : ℕ) (ds : List Data) → length (elements (items_from n ds)) ≡ n
as_many zero ds = refl
as_many (suc n) ds = ap suc (as_many n (drop 1 ds))

-- what stands before other data is found again
pub items_again : (ds rest : List Data) → items_from (length ds) (ds ++ rest) ≡ items_before ds no_items
items_again [] rest = refl
items_again (d ∷ ds) rest = ap (item d) (items_again ds rest)

pub fields_again : (ms : List (List ℕ × Data)) (rest : List Data) → fields_from (length ms) (listed ms ++ rest) ≡ ms
fields_again [] rest = refl
fields_again (m ∷ ms) rest = ap (λ x. m ∷ x) (fields_again ms rest)
