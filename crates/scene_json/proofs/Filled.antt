-- Elements and members that are read one after another.
use Rattle.std.proofs.Common.{◌≡◌, ℕ, List, [], ◌∷◌, ◌++◌, Option, Some, None, Result, Ok, Err, OnOk, Bor, ◌≤◌, length, refl, sym, ap, subst, arith}
use Rattle.json.specs.Json.{parse_map}
use Rattle.json.specs.Token.{Token}
use Rattle.serde_json.specs.Data.{Data, string, Items, item, Members, put}
use Rattle.scene_json.specs.NodeData.{Grows, items_before, listed, put_all}
use Rattle.scene_json.specs.declared.node.Node.{Node}
use Rattle.scene_json.specs.declared.node.Node.TheVariants.{String}
use Rattle.scene_json.proofs.Growing.{grows_more, grows_one}

-- what holds on an answer leads to more
pub on_ok : {T E A B : Type 0} (r : Result T E) → (A → B) → OnOk r A → OnOk r B
on_ok (Ok t) f h = f h
on_ok (Err e) f h = tt

before_push : (ds : List Data) (d : Data) (rest : Items) → items_before ds (item d rest) ≡ items_before (ds ++ d ∷ []) rest
before_push [] d rest = refl
before_push (e ∷ ds) d rest = ap (item e) (before_push ds d rest)

pub one_more_element : (ds : List Data) (d : Data) (r : Option (Items × List Token))
    → parse_map (items_before ds) (parse_map (item d) r) ≡ parse_map (items_before (ds ++ d ∷ [])) r
one_more_element ds d None = refl
one_more_element ds d (Some p) = ap (λ x. Some (x, p.1)) (before_push ds d p.0)

pub put_push : (ms : List (List ℕ × Data)) (k : List ℕ) (d : Data) (found : Members) → put_all (ms ++ (k, d) ∷ []) found ≡ put k d (put_all ms found)
put_push [] k d found = refl
put_push (m ∷ ms) k d found = put_push ms k d (put m.0 m.1 found)

pub listed_push : (ms : List (List ℕ × Data)) (k : List ℕ) (d : Data) → listed (ms ++ (k, d) ∷ []) ≡ listed ms ++ string k ∷ d ∷ []
listed_push [] k d = refl
listed_push (m ∷ ms) k d = ap (λ l. string m.0 ∷ m.1 ∷ l) (listed_push ms k d)

pub as_many_listed : (ms : List (List ℕ × Data)) → length ms ≤ length (listed ms)
as_many_listed [] = omega arith
as_many_listed (m ∷ ms) = omega (arith, as_many_listed ms)

-- a key and its value are added behind members
pub members_grow : (start old mid new : List Node) (ms : List (List ℕ × Data)) (k : Bor (List ℕ)) (d : Data) → Grows start old (listed ms)
    → mid ≡ old ++ String k ∷ [] → Grows mid new (d ∷ []) → Grows start new (listed (ms ++ (k.now, d) ∷ []))
members_grow start old mid new ms k d before key after =
    let pair = grows_more old mid new (string k.now ∷ []) (d ∷ []) (grows_one old mid (String k) (string k.now) key refl (λ ds. refl)) after in
    let all = grows_more start old new (listed ms) (string k.now ∷ d ∷ []) before pair in
    subst (λ x. Grows start new x) (sym (listed_push ms k.now d)) all
