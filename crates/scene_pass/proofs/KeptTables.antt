-- The rows of the tables that a filter matches, where tables stand in the order of their kind sets.
use Rattle.std.proofs.Common.{◌≡◌, ℕ, true, false, cond, Bor, List, [], ◌∷◌, ◌++◌, map as each, refl, ap, sym, ◌∙◌}
use Rattle.std.specs.List.{filter, flat_map}
use Rattle.scene_table.specs.Table.{TableState}
use Rattle.scene_model.specs.World.{World}
use Rattle.scene_table.specs.Tables.{rows_at}
use Rattle.scene_systems.specs.declared.filter.Filter.{Filter}
use Rattle.scene_systems.specs.Filter.{is_match}
use Rattle.scene_pass.specs.Pass.{rows_in}

-- tables that the filter matches, over their own kind sets
rows_of_kept : (w : World) (f : Filter) (ts : List (Bor TableState)) → each (λ t. t.now.rows) ts ≡ each (rows_at w.tables) (each (λ t. t.now.mask) ts) → flat_map (λ t. t.now.rows) (filter (λ t. is_match f t.now.mask) ts) ≡ flat_map (rows_in w f) (each (λ t. t.now.mask) ts)
rows_of_kept w f [] h = refl
rows_of_kept w f (t ∷ ts) h =
    let first : t.now.rows ≡ rows_at w.tables t.now.mask = cc in
    let rest : each (λ t. t.now.rows) ts ≡ each (rows_at w.tables) (each (λ t. t.now.mask) ts) = cc in
    elim (is_match f t.now.mask) as (λ b. flat_map (λ t. t.now.rows) (cond b (t ∷ filter (λ t. is_match f t.now.mask) ts) (filter (λ t. is_match f t.now.mask) ts)) ≡ cond b (rows_at w.tables t.now.mask) [] ++ flat_map (rows_in w f) (each (λ t. t.now.mask) ts)) [
      | true ↦ λ i. first i ++ rows_of_kept w f ts rest i
      | false ↦ rows_of_kept w f ts rest
    ]

-- and over the kind sets that they are known to have
pub rows_of_matching : (w : World) (f : Filter) (ts : List (Bor TableState)) (masks : List ℕ) → each (λ t. t.now.mask) ts ≡ masks → each (λ t. t.now.rows) ts ≡ each (rows_at w.tables) masks → flat_map (λ t. t.now.rows) (filter (λ t. is_match f t.now.mask) ts) ≡ flat_map (rows_in w f) masks
rows_of_matching w f ts masks is rows = rows_of_kept w f ts (rows ∙ ap (each (rows_at w.tables)) (sym is)) ∙ ap (flat_map (rows_in w f)) is
