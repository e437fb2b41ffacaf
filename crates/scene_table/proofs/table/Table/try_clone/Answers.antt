use Rattle.std.proofs.Common.{◌≡◌, ◌<◌, ◌∙◌, ℕ, List, [], ◌∷◌, length, refl, ap, subst, sym, arith}
use Rattle.std.specs.Prelude.{nat_eq, false, true, vec_capacity}
use Rattle.std.specs.List.{AllZip}
use Rattle.std.proofs.Common.{rules}
use Rattle.std.proofs.lemmas.List.Elements.{same_from_all_zip}
use Rattle.std.proofs.lemmas.Bool.Decides.{nat_tests}
use Rattle.scene_kinds.specs.declared.entity.Entity.{Entity}
use Rattle.scene_table.specs.Columns.{IsSameColumn, rows_of, AreLong}
use Rattle.scene_table.proofs.TableFacts.{no_rows, same_rows, same_kinds_of, same_long, least_above}
use Rattle.scene_table.proofs.TableRows.{length-rows_of}
use Rattle.scene_table.proofs.table.Table.try_clone.Goals as goal

pub invariant_of-result : goal.invariant_of-result
invariant_of-result c =
    let es : c.in_ok-clone.field-0.items ≡ c.self.inside.entities.items = search (rules, same_from_all_zip) in
    let all : AllZip IsSameColumn c.self.inside.columns.items c.in_ok-clone_columns.field-0.items = subst (λ t. AllZip IsSameColumn t c.in_ok-clone_columns.field-0.items) c.as_slice.ensures.value c.in_ok-clone_columns.ensures.same in
    let some : 0 < length c.self.inside.entities.items = not_empty c.self.inside.entities.len (length c.self.inside.entities.items) (omega arith) (sym c.is_empty.ensures ∙ c.if-is_empty.false) in
    let long = same_long (length c.in_ok-clone.field-0.items) c.self.inside.columns.items c.in_ok-clone_columns.field-0.items all (subst (λ (t : List Entity). AreLong (length t) c.self.inside.columns.items) (sym es) c.self.invariant.long) in
    record {
      long = long;
      kinds = λ room row g. c.self.invariant.kinds (omega arith) row (g ∙ same_kinds_of c.self.inside.columns.items c.in_ok-clone_columns.field-0.items all);
      fits = least_above (length c.in_ok-clone.field-0.items) (vec_capacity c.in_ok-clone.field-0) c.in_ok-clone_columns.field-0.items (omega arith) (λ k d m. omega (arith, long k d m, c.in_ok-clone_columns.ensures.fits k d m));
    }
  where
    not_empty : (a b : ℕ) → a ≡ b → nat_eq a 0 ≡ false → 0 < b
    not_empty a b e h = grind (arith, nat_tests)

pub returns-clause-fits : goal.returns-clause-fits
returns-clause-fits c =
    let es : c.in_ok-clone.field-0.items ≡ c.self.inside.entities.items = search (rules, same_from_all_zip) in
    let all : AllZip IsSameColumn c.self.inside.columns.items c.in_ok-clone_columns.field-0.items = subst (λ t. AllZip IsSameColumn t c.in_ok-clone_columns.field-0.items) c.as_slice.ensures.value c.in_ok-clone_columns.ensures.same in
    let long = same_long (length c.in_ok-clone.field-0.items) c.self.inside.columns.items c.in_ok-clone_columns.field-0.items all (subst (λ (t : List Entity). AreLong (length t) c.self.inside.columns.items) (sym es) c.self.invariant.long) in
    let fits = least_above (length c.in_ok-clone.field-0.items) (vec_capacity c.in_ok-clone.field-0) c.in_ok-clone_columns.field-0.items (omega arith) (λ k d m. omega (arith, long k d m, c.in_ok-clone_columns.ensures.fits k d m)) in
    let rows = length-rows_of c.in_ok-clone.field-0.items c.in_ok-clone_columns.field-0.items long in
    omega (arith, fits, rows)

pub returns-clause-rows : goal.returns-clause-rows
returns-clause-rows c =
    let es : c.in_ok-clone.field-0.items ≡ c.self.inside.entities.items = search (rules, same_from_all_zip) in
    let all : AllZip IsSameColumn c.self.inside.columns.items c.in_ok-clone_columns.field-0.items = subst (λ t. AllZip IsSameColumn t c.in_ok-clone_columns.field-0.items) c.as_slice.ensures.value c.in_ok-clone_columns.ensures.same in
    (λ i. rows_of (es i) c.in_ok-clone_columns.field-0.items) ∙ same_rows c.self.inside.entities.items c.self.inside.columns.items c.in_ok-clone_columns.field-0.items all ∙ ap (λ t. t.rows) c.self.view_is

pub returns-then-is_empty-clause-rows : goal.returns-then-is_empty-clause-rows
returns-then-is_empty-clause-rows c =
    let none : c.self.inside.entities.items ≡ [] = nothing c.self.inside.entities.items c.self.inside.entities.len (omega arith) (sym c.is_empty.ensures ∙ c.if-is_empty.true) in
    c.new.ensures.rows ∙ sym (no_rows c.self.inside.columns.items (subst (λ (t : List Entity). AreLong (length t) c.self.inside.columns.items) none c.self.invariant.long)) ∙ (λ i. rows_of (sym none i) c.self.inside.columns.items) ∙ ap (λ t. t.rows) c.self.view_is
  where
    nothing : (es : List Entity) (k : ℕ) → k ≡ length es → nat_eq k 0 ≡ true → es ≡ []
    nothing [] k e h = refl
    nothing (x ∷ es) k e h = absurd (grind (arith, nat_tests))
