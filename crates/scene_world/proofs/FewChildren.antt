-- The lists of children of a valid world are no longer than its slots are many, so each place in them is a u32.
use Rattle.std.proofs.Common.{◌≡◌, ℕ, ◌<◌, ◌≤◌, ◌||◌, true, false, cond, List, [], ◌∷◌, map, length, nat_eq, refl, ap, sym, subst, ◌∙◌, arith, Option, Some, None}
use Rattle.std.specs.Prelude.{◌^◌, IfSome, option_map, suc}
use Rattle.std.specs.List.{list_any, IsDistinct, AllByRecursion}
use Rattle.std.proofs.lemmas.Bool.{eqb-true}
use Rattle.std.proofs.lemmas.Map.Steps.{length-le_from_distinct_below}
use Rattle.std.proofs.lemmas.List.{length-map}
use Rattle.std.proofs.lemmas.Option.{same_Some, slice_get_within}
use Rattle.scene_kinds.specs.declared.entity.Entity.{Entity}
use Rattle.scene_kinds.specs.Entity.{is_same}
use Rattle.scene_links.specs.Forest.{holds, without, children_of, parent_of, place_among, place_of, link_in, cut}
use Rattle.scene_links.proofs.LinkLaws.{holds_head, holds_tail, same_self, children-cut}
use Rattle.scene_table.proofs.Homes.{here_live}
use Rattle.scene_model.specs.World.{World, is_live}
use Rattle.scene_model.specs.Valid.{IsValid, IsCurrent}
use Rattle.scene_model.proofs.LinkKeeps.{one_live}

abbrev index_of : Entity → ℕ
index_of e = e.index

-- all of a list are alive
abbrev AllLive : World → List Entity → Type 0
AllLive w xs = (e : Entity) → holds e xs ≡ true → is_live w e ≡ true

module _ (w : World) (v : IsValid w) where
  index_low : (e : Entity) → is_live w e ≡ true → e.index < length w.slots.generations
  index_low e live =
      let row = here_live w.tables e live in
      slice_get_within w.slots.generations e.index e.generation (subst (IsCurrent w.slots) row.1.same (v.rows.each row.0 row.1.row row.1.there).current)

  indices_low : (xs : List Entity) → AllLive w xs → (q : ℕ) → list_any (nat_eq q) (map index_of xs) ≡ true → q < length w.slots.generations
  indices_low [] live q h = absurd (let k : false ≡ true = h in cc)
  indices_low (x ∷ xs) live q h =
      elim (nat_eq q x.index) as (λ b. nat_eq q x.index ≡ b → (b || list_any (nat_eq q) (map index_of xs)) ≡ true → q < length w.slots.generations) [
        | true ↦ λ same k. subst (λ n. n < length w.slots.generations) (sym (eqb-true q x.index same)) (index_low x (live x (holds_head x xs)))
        | false ↦ λ other k. indices_low xs (λ e i. live e (holds_tail e x xs i)) q k
      ] refl h

  -- others have other indices
  others_apart : (x : Entity) (xs : List Entity) → is_live w x ≡ true → AllLive w xs → AllByRecursion (λ y. is_same x y ≡ false) xs → AllByRecursion (λ k. nat_eq x.index k ≡ false) (map index_of xs)
  others_apart x [] own live h = tt
  others_apart x (y ∷ ys) own live h = (
    elim (nat_eq x.index y.index) as (λ b. nat_eq x.index y.index ≡ b → b ≡ false) [
      | true ↦ λ same.
          let one : x ≡ y = one_live w x y v own (live y (holds_head y ys)) (eqb-true x.index y.index same) in
          let no : true ≡ false = sym (same_self x) ∙ ap (is_same x) one ∙ h.0 in absurd (cc)
      | false ↦ λ other. refl
    ] refl,
    others_apart x ys own (λ e i. live e (holds_tail e y ys i)) h.1,
  )

  indices_distinct : (xs : List Entity) → AllLive w xs → IsDistinct is_same xs → IsDistinct nat_eq (map index_of xs)
  unfolding IsDistinct
  indices_distinct [] live d = tt
  indices_distinct (x ∷ xs) live d = (others_apart x xs (live x (holds_head x xs)) (λ e i. live e (holds_tail e x xs i)) d.0, indices_distinct xs (λ e i. live e (holds_tail e x xs i)) d.1)

  pub children_few : (p : Entity) → length (children_of w.children p) ≤ 1048576
  children_few p =
      let xs = children_of w.children p in
      let live : AllLive w xs = λ e h. (v.links.live p e h).1 in
      let few = length-le_from_distinct_below (map index_of xs) (length w.slots.generations) (indices_distinct xs live (v.links.forest.once p)) (indices_low xs live) in
      let same = length-map xs index_of in
      let slots = v.slots.few in
      let limit = v.slots.low_limit in
      omega (arith, few, same, slots, limit)

place_le : (c : Entity) (xs : List Entity) → place_among c xs ≤ length xs
place_le c [] = omega arith
place_le c (x ∷ xs) = elim (is_same c x) as (λ b. cond b 0 (suc (place_among c xs)) ≤ length (x ∷ xs)) [
  | true ↦ omega arith
  | false ↦ let rest = place_le c xs in omega (arith, rest)
]

without_le : (c : Entity) (xs : List Entity) → length (without c xs) ≤ length xs
without_le c [] = omega arith
without_le c (x ∷ xs) = elim (is_same c x) as (λ b. length (cond b xs (x ∷ without c xs)) ≤ length (x ∷ xs)) [
  | true ↦ omega arith
  | false ↦ let rest = without_le c xs in omega (arith, rest)
]

-- the place of a child
pub place_low : (w : World) (e : Entity) (place : ℕ) → IsValid w → place_of w.children e ≡ Some place → place ≤ 1048576
place_low w e place v is =
    elim (parent_of w.children e) as (λ o. option_map (λ q. place_among e (children_of w.children q)) o ≡ Some place → place ≤ 1048576) [
      | None ↦ λ h. absurd (let k : None ≡ Some place = h in cc)
      | Some q ↦ λ h.
          let own = same_Some (place_among e (children_of w.children q)) place h in
          let within = place_le e (children_of w.children q) in
          let few = children_few w v q in
          omega (arith, own, within, few)
    ] is

-- and the place in a link
pub link_low : (w : World) (e : Entity) (o : Option (Entity × ℕ)) → IsValid w → o ≡ link_in w.children e → IfSome o (λ (l : Entity × ℕ). l.1 < 2 ^ 32)
link_low w e o v is = subst (λ (p : Option (Entity × ℕ)). IfSome p (λ (l : Entity × ℕ). l.1 < 2 ^ 32)) (sym is)
    (elim (parent_of w.children e) as (λ p. IfSome (option_map (λ (q : Entity). (q, place_among e (children_of w.children q))) p) (λ (l : Entity × ℕ). l.1 < 2 ^ 32)) [
      | None ↦ tt
      | Some q ↦
          let within = place_le e (children_of w.children q) in
          let few = children_few w v q in
          let low : place_among e (children_of w.children q) < 2 ^ 32 = omega (arith, within, few) in
          low
    ])

-- the last place in a list without a child
pub last_low : (w : World) (c p : Entity) → IsValid w → length (children_of (cut w.children c) p) ≤ 1048576
last_low w c p v =
    let same = ap length (children-cut w.children c v.links.forest p) in
    let fewer = without_le c (children_of w.children p) in
    let few = children_few w v p in
    omega (arith, same, fewer, few)
