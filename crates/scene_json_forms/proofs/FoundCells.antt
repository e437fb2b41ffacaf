-- The resources of all names are all resources.
use Rattle.std.proofs.Common.{◌≡◌, ℕ, List, [], ◌∷◌, ◌++◌, Option, Some, map, refl, ap, sym, ◌∙◌}
use Rattle.scene_kinds.specs.declared.cell.Cell.{Cell}
use Rattle.scene_resources.specs.Resources.{NamedCells, cell_of, names_of}
use Rattle.scene_resources.proofs.ResourceLaws.{names_found}
use Rattle.scene_json_forms.specs.NamedCells.{by_names, named, named_cells}

module _ {X : Type 0} (one : List ℕ → Option Cell → List X) (all : List (List ℕ × Cell) → List X) (none : all [] ≡ [])
    (more : (e : List ℕ × Cell) (es : List (List ℕ × Cell)) → all (e ∷ es) ≡ one e.0 (Some e.1) ++ all es) (r : NamedCells) where
  -- names that find the cells beside them
  beside : (es : List (List ℕ × Cell)) → map (cell_of r) (map (λ e. e.0) es) ≡ map (λ e. Some e.1) es → by_names one r (map (λ e. e.0) es) ≡ all es
  beside [] h = sym none
  beside (e ∷ es) h =
      let found : cell_of r e.0 ≡ Some e.1 = cc h in
      let others : map (cell_of r) (map (λ e. e.0) es) ≡ map (λ e. Some e.1) es = cc h in
      ap (λ o. one e.0 o ++ by_names one r (map (λ e. e.0) es)) found ∙ ap (λ rest. one e.0 (Some e.1) ++ rest) (beside es others) ∙ sym (more e es)

  -- what is made of all names is what is made of all resources
  pub all_names : by_names one r (names_of r) ≡ all r.entries
  all_names = beside r.entries (names_found r)

-- the names of all resources, with their cells
pub named_whole : (r : NamedCells) → named_cells r (names_of r) ≡ r.entries
named_whole r = all_names named (λ es. es) refl (λ e es. refl) r
