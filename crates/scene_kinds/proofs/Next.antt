-- Where a cell of a kind goes, and what comes of putting it there.
use Rattle.std.proofs.Common.{◌≡◌, ℕ, suc, ◌+◌, true, false, not, List, [], ◌∷◌, ◌++◌, refl, ap, subst, sym, ◌∙◌, arith, Option, Some, None, nat_lt}
use Rattle.std.specs.Prelude.{IfSome, IfNone}
use Rattle.std.specs.List.{position_from}
use Rattle.std.specs.Ordering.{nat_cmp}
use Rattle.std.specs.declared.cmp.Ordering.TheVariants.{Less, Equal, Greater}
use Rattle.std.specs.Cmp.{nat_cmp_is}
use Rattle.std.specs.FinMap.Entries.{put, by_order}
use Rattle.std.proofs.lemmas.Bool.{ltb-true}
use Rattle.std.proofs.lemmas.Bool.Decides.{nat_tests}
use Rattle.scene_kinds.specs.declared.cell.Cell.{Cell}
use Rattle.scene_kinds.specs.Cells.{IsNext, GoesLast}

-- a kind that is neither at nor above another is below it
below : (a k : ℕ) → nat_lt a k ≡ false → (a ≡ k → ⊥) → nat_cmp k a ≡ Less
below a k h e = grind (arith, nat_tests)

-- where the search for a place ends, counted from any number
nexts : (kind : ℕ) (es : List (ℕ × Cell)) (n i : ℕ) → position_from (λ (c : ℕ × Cell). not (nat_lt c.0 kind)) n es ≡ Some i → (k : ℕ) × ((i ≡ n + k) × IsNext kind es k)
nexts kind [] n i h = cc
nexts kind (e ∷ es) n i h =
    elim (nat_lt e.0 kind) as (λ b. nat_lt e.0 kind ≡ b → (k : ℕ) × ((i ≡ n + k) × IsNext kind (e ∷ es) k)) [
      | false ↦ λ p.
          let g : Some n ≡ Some i = rw p at h in
          let m : n ≡ i = cc in (
            0,
            (
              omega arith,
              record {
                within = omega arith;
                same = λ d v s. ap (λ (k : ℕ). (k, v) ∷ es) (sym s) ∙ ap (λ o. by_order o ((kind, v) ∷ e ∷ es) ((e.0, v) ∷ es) (e ∷ put nat_cmp kind v es)) (nat_cmp_is kind e.0 Equal (sym s));
                other = λ d v s. ap (λ o. by_order o ((kind, v) ∷ e ∷ es) ((e.0, v) ∷ es) (e ∷ put nat_cmp kind v es)) (sym (below e.0 kind p s));
              },
            ),
          )
      | true ↦ λ p.
          let r = nexts kind es (n + 1) i (rw p at h) in (
            suc r.0,
            (
              omega arith,
              record {
                within = omega (arith, r.1.1.within);
                same = λ d v s. ap (e ∷◌) (r.1.1.same d v s) ∙ ap (λ o. by_order o ((kind, v) ∷ e ∷ es) ((e.0, v) ∷ es) (e ∷ put nat_cmp kind v es)) (nat_cmp_is kind e.0 Greater (ltb-true e.0 kind p));
                other = λ d v s. ap (e ∷◌) (r.1.1.other d v s) ∙ ap (λ o. by_order o ((kind, v) ∷ e ∷ es) ((e.0, v) ∷ es) (e ∷ put nat_cmp kind v es)) (nat_cmp_is kind e.0 Greater (ltb-true e.0 kind p));
              },
            ),
          )
    ] refl

-- where the search for a place ends, a cell of the kind goes
pub next_found : (kind : ℕ) (es : List (ℕ × Cell)) (o : Option ℕ) → o ≡ position_from (λ (c : ℕ × Cell). not (nat_lt c.0 kind)) 0 es → IfSome o (IsNext kind es)
next_found kind es None h = tt
next_found kind es (Some i) h =
    let r = nexts kind es 0 i (sym h) in
    let e : r.0 ≡ i = omega arith in subst (IsNext kind es) e r.1.1

-- where it ends with none, the cell goes last
none_next : (kind : ℕ) (es : List (ℕ × Cell)) (n : ℕ) (v : Cell) → position_from (λ (c : ℕ × Cell). not (nat_lt c.0 kind)) n es ≡ None → es ++ (kind, v) ∷ [] ≡ put nat_cmp kind v es
none_next kind [] n v h = refl
none_next kind (e ∷ es) n v h =
    elim (nat_lt e.0 kind) as (λ b. nat_lt e.0 kind ≡ b → e ∷ es ++ (kind, v) ∷ [] ≡ put nat_cmp kind v (e ∷ es)) [
      | false ↦ λ p. absurd (let g : Some n ≡ None = rw p at h in cc)
      | true ↦ λ p. ap (e ∷◌) (none_next kind es (n + 1) v (rw p at h)) ∙ ap (λ o. by_order o ((kind, v) ∷ e ∷ es) ((e.0, v) ∷ es) (e ∷ put nat_cmp kind v es)) (nat_cmp_is kind e.0 Greater (ltb-true e.0 kind p))
    ] refl

-- where the search for a place ends with none, a cell of the kind goes last
pub next_none : (kind : ℕ) (es : List (ℕ × Cell)) (o : Option ℕ) → o ≡ position_from (λ (c : ℕ × Cell). not (nat_lt c.0 kind)) 0 es → IfNone o (GoesLast kind es)
next_none kind es None h = λ v. none_next kind es 0 v (sym h)
next_none kind es (Some i) h = tt

pub ruleset places = (next_found, next_none)
