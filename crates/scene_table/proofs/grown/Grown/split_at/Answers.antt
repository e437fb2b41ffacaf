use Rattle.std.proofs.Common.{◌∙◌, ℤ, List, FitsSigned, length, drop, take, ap, sym, subst, arith, rules, ◌≤◌, w64}
use Rattle.std.proofs.lemmas.Int.{to_z-of_z}
use Rattle.scene_kinds.specs.declared.value.Value.TheVariants.{Vec3}
use Rattle.scene_table.specs.Grown.{values_in}
use Rattle.scene_table.specs.Runs.{vecs_after, vector_after}
use Rattle.scene_table.proofs.Zips.{zip-low, zip-take, zip-drop}
use Rattle.scene_table.proofs.grown.Grown.split_at.Goals as goal

pub split_at-requires-in-Vecs : goal.split_at-requires-in-Vecs
split_at-requires-in-Vecs c =
    let here = subst (λ s. c.args.at ≤ length (values_in s)) c.in-Vecs.is c.requires in
    let low = zip-low (λ (x y : List ℤ). Vec3 (vector_after x y c.in-Vecs.turns)) c.in-Vecs.base.now c.in-Vecs.by.now in
    omega (arith, here, low.0)

pub split_at-requires-in-Vecs-2 : goal.split_at-requires-in-Vecs-2
split_at-requires-in-Vecs-2 c =
    let here = subst (λ s. c.args.at ≤ length (values_in s)) c.in-Vecs.is c.requires in
    let low = zip-low (λ (x y : List ℤ). Vec3 (vector_after x y c.in-Vecs.turns)) c.in-Vecs.base.now c.in-Vecs.by.now in
    omega (arith, here, low.1)

pub returns-in-Vecs-clause-front : goal.returns-in-Vecs-clause-front
returns-in-Vecs-clause-front c =
    let turns : FitsSigned w64 c.in-Vecs.turns = search rules in
    (λ i. vecs_after (c.split_at-in-Vecs.ensures.front i) (c.split_at-in-Vecs-2.ensures.front i) (to_z-of_z w64 _ turns i))
    ∙ sym (zip-take (λ (x y : List ℤ). Vec3 (vector_after x y c.in-Vecs.turns)) c.args.at c.in-Vecs.base.now c.in-Vecs.by.now)
    ∙ ap (λ s. take c.args.at (values_in s)) (sym c.in-Vecs.is)

pub returns-in-Vecs-clause-back : goal.returns-in-Vecs-clause-back
returns-in-Vecs-clause-back c =
    let turns : FitsSigned w64 c.in-Vecs.turns = search rules in
    (λ i. vecs_after (c.split_at-in-Vecs.ensures.back i) (c.split_at-in-Vecs-2.ensures.back i) (to_z-of_z w64 _ turns i))
    ∙ sym (zip-drop (λ (x y : List ℤ). Vec3 (vector_after x y c.in-Vecs.turns)) c.args.at c.in-Vecs.base.now c.in-Vecs.by.now)
    ∙ ap (λ s. drop c.args.at (values_in s)) (sym c.in-Vecs.is)
