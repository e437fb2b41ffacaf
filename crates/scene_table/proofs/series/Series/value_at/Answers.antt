use Rattle.std.proofs.Common.{◌<◌, ◌∙◌, ℤ, ap, sym, arith, rules, subst, refl, length, Some, List, FitsSigned, to_z, of_z, w64}
use Rattle.std.specs.Prelude.{slice_get}
use Rattle.std.proofs.lemmas.Int.{to_z-of_z}
use Rattle.std.proofs.lemmas.Option.{slice_get_read}
use Rattle.scene_kinds.specs.declared.value.Value.TheVariants.{Int, Vec3}
use Rattle.scene_table.specs.Runs.{ints_after, vecs_after, vector_after, grown, AreInRange}
use Rattle.scene_table.proofs.Fits.{int_there, int_fits, vec_there, vec_fits, length-ints_after}
use Rattle.scene_table.proofs.Zips.{zip-low}
use Rattle.scene_table.proofs.series.Series.value_at.Goals as goal

pub number_after-requires : goal.number_after-requires
number_after-requires c =
    let base = c.in-Ints.base.items in
    let turns = c.args.turns in
    let by = c.in-Ints.by in
    let here : c.args.place < length (ints_after base by turns) = subst (λ s. c.args.place < length (grown s turns)) c.in-Ints.is c.requires.there in
    let range = subst (λ s. AreInRange (grown s turns)) c.in-Ints.is c.requires.range in
    let within : c.args.place < length base = omega (arith, here, length-ints_after base by turns) in
    let number : FitsSigned w64 c.index.result.now = search rules in
    let adds : FitsSigned w64 by = search rules in
    let there = slice_get_read base (length base) c.args.place c.index.result.now refl within c.index.ensures ∙ ap (λ x. Some x) (sym (to_z-of_z w64 c.index.result.now number)) in
    int_fits base by turns _ _ _ c.args.place there (to_z-of_z w64 by adds) (to_z-of_z w64 turns c.ranges.turns) range

pub returns-in-Ints : goal.returns-in-Ints
returns-in-Ints c =
    let base = c.in-Ints.base.items in
    let turns = c.args.turns in
    let by = c.in-Ints.by in
    let here : c.args.place < length (ints_after base by turns) = subst (λ s. c.args.place < length (grown s turns)) c.in-Ints.is c.requires.there in
    let range = subst (λ s. AreInRange (grown s turns)) c.in-Ints.is c.requires.range in
    let within : c.args.place < length base = omega (arith, here, length-ints_after base by turns) in
    let number : FitsSigned w64 c.index.result.now = search rules in
    let adds : FitsSigned w64 by = search rules in
    let there = slice_get_read base (length base) c.args.place c.index.result.now refl within c.index.ensures ∙ ap (λ x. Some x) (sym (to_z-of_z w64 c.index.result.now number)) in
    let sum = to_z-of_z w64 c.number_after.result (record { sfits = c.number_after.type_inv }) ∙ c.number_after.ensures in
    ap (λ s. slice_get (grown s turns) c.args.place) c.in-Ints.is
    ∙ int_there base by turns (to_z w64 (of_z w64 c.index.result.now)) (to_z w64 (of_z w64 by)) (to_z w64 (of_z w64 turns)) c.args.place there (to_z-of_z w64 by adds) (to_z-of_z w64 turns c.ranges.turns)
    ∙ (λ i. Some (Int (sym sum i)))

pub index-requires-in-Vecs : goal.index-requires-in-Vecs
index-requires-in-Vecs c =
    let base = c.in-Vecs.base.items in
    let by = c.in-Vecs.by.items in
    let turns = c.args.turns in
    let here : c.args.place < length (vecs_after base by turns) = subst (λ s. c.args.place < length (grown s turns)) c.in-Vecs.is c.requires.there in
    let low = zip-low (λ (x y : List ℤ). Vec3 (vector_after x y turns)) base by in
    omega (arith, here, low.0, low.1)

pub index-requires-in-Vecs-2 : goal.index-requires-in-Vecs-2
index-requires-in-Vecs-2 c =
    let base = c.in-Vecs.base.items in
    let by = c.in-Vecs.by.items in
    let turns = c.args.turns in
    let here : c.args.place < length (vecs_after base by turns) = subst (λ s. c.args.place < length (grown s turns)) c.in-Vecs.is c.requires.there in
    let low = zip-low (λ (x y : List ℤ). Vec3 (vector_after x y turns)) base by in
    omega (arith, here, low.0, low.1)

pub vector_after-requires : goal.vector_after-requires
vector_after-requires c =
    let base = c.in-Vecs.base.items in
    let by = c.in-Vecs.by.items in
    let turns = c.args.turns in
    let here : c.args.place < length (vecs_after base by turns) = subst (λ s. c.args.place < length (grown s turns)) c.in-Vecs.is c.requires.there in
    let low = zip-low (λ (x y : List ℤ). Vec3 (vector_after x y turns)) base by in
    let range = subst (λ s. AreInRange (grown s turns)) c.in-Vecs.is c.requires.range in
    let b = slice_get_read base (length base) c.args.place c.index-in-Vecs.result.now refl (omega (arith, here, low.0)) c.index-in-Vecs.ensures in
    let d = slice_get_read by (length by) c.args.place c.index-in-Vecs-2.result.now refl (omega (arith, here, low.1)) c.index-in-Vecs-2.ensures in
    vec_fits base by turns _ _ _ c.args.place b d (to_z-of_z w64 turns c.ranges.turns) range

pub returns-in-Vecs : goal.returns-in-Vecs
returns-in-Vecs c =
    let base = c.in-Vecs.base.items in
    let by = c.in-Vecs.by.items in
    let turns = c.args.turns in
    let here : c.args.place < length (vecs_after base by turns) = subst (λ s. c.args.place < length (grown s turns)) c.in-Vecs.is c.requires.there in
    let low = zip-low (λ (x y : List ℤ). Vec3 (vector_after x y turns)) base by in
    let range = subst (λ s. AreInRange (grown s turns)) c.in-Vecs.is c.requires.range in
    let b = slice_get_read base (length base) c.args.place c.index-in-Vecs.result.now refl (omega (arith, here, low.0)) c.index-in-Vecs.ensures in
    let d = slice_get_read by (length by) c.args.place c.index-in-Vecs-2.result.now refl (omega (arith, here, low.1)) c.index-in-Vecs-2.ensures in
    ap (λ s. slice_get (grown s turns) c.args.place) c.in-Vecs.is
    ∙ vec_there base by turns (to_z w64 (of_z w64 turns)) c.index-in-Vecs.result.now c.index-in-Vecs-2.result.now c.args.place b d (to_z-of_z w64 turns c.ranges.turns)
    ∙ ap (λ x. Some (Vec3 x)) (sym c.vector_after.ensures)
