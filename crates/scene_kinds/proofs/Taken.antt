-- What comes of taking out the cell of a kind.
use Rattle.std.proofs.Common.{◌≡◌, ℕ, suc, ◌+◌, true, false, cond, not, List, [], ◌∷◌, refl, ap, subst, sym, ◌∙◌, arith, Option, Some, None, nat_eq}
use Rattle.std.specs.Prelude.{IfSome}
use Rattle.std.specs.List.{position_from}
use Rattle.std.proofs.lemmas.Bool.Decides.{nat_tests}
use Rattle.scene_kinds.specs.declared.cell.Cell.{Cell}
use Rattle.scene_kinds.specs.Cells.{cell_of, without_cell, IsTakenAt}
use Rattle.scene_kinds.proofs.CellLaws.{none_taken, first_below, rest_ascends, below_none}
use Rattle.scene_kinds.proofs.Places.{eq_by_cmp-nat_eq}

-- the search for a kind ends where the kind is taken out
taken : (kind : ℕ) (cells : List (ℕ × Cell)) (n i : ℕ) → position_from (λ (e : ℕ × Cell). nat_eq kind e.0) n cells ≡ Some i → (k : ℕ) × ((i ≡ n + k) × IsTakenAt kind cells k)
taken kind [] n i h = cc
taken kind (e ∷ es) n i h =
    elim (nat_eq kind e.0) as (λ b. nat_eq kind e.0 ≡ b → (k : ℕ) × ((i ≡ n + k) × IsTakenAt kind (e ∷ es) k)) [
      | true ↦ λ t.
          let g : Some n ≡ Some i = rw t at h in
          let m : n ≡ i = cc in
          let same : e.0 ≡ kind = grind (arith, nat_tests) in (
            0,
            (
              omega arith,
              λ a.
                  sym (none_taken es kind (subst (λ (k : ℕ). cell_of es k ≡ None) same (below_none e.0 es (first_below e es a))))
                  ∙ ap (λ b. cond (not b) (e ∷ without_cell es kind) (without_cell es kind)) (sym (eq_by_cmp-nat_eq kind e.0 ∙ t)),
            ),
          )
      | false ↦ λ t.
          let r = taken kind es (n + 1) i (rw t at h) in (
            suc r.0,
            (
              omega arith,
              λ a.
                  ap (e ∷◌) (r.1.1 (rest_ascends e es a))
                  ∙ ap (λ b. cond (not b) (e ∷ without_cell es kind) (without_cell es kind)) (sym (eq_by_cmp-nat_eq kind e.0 ∙ t)),
            ),
          )
    ] refl

-- a search that finds a place finds where the kind is taken out
pub taken_placed : (kind : ℕ) (cells : List (ℕ × Cell)) (r : Option ℕ) → r ≡ position_from (λ (e : ℕ × Cell). nat_eq kind e.0) 0 cells → IfSome r (IsTakenAt kind cells)
taken_placed kind cells None e = tt
taken_placed kind cells (Some i) e =
    let r = taken kind cells 0 i (sym e) in
    let same : r.0 ≡ i = omega arith in subst (IsTakenAt kind cells) same r.1.1
