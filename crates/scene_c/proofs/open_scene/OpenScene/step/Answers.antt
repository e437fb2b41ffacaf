use Rattle.std.proofs.Common.{◌≡◌, ◌∙◌, Some, ap, sym, subst, refl, inl, length, map, drop}
use Rattle.std.specs.Prelude.{slice_get}
use Rattle.std.proofs.lemmas.List.{drop-map, length-map}
use Rattle.scene_c.specs.Memory.{copied}
use Rattle.scene_c.specs.Reads.{whole_now}
use Rattle.scene_c.specs.Steps.{TellsStep, records_on, shown_delta}
use Rattle.scene_c.proofs.open_scene.OpenScene.step.Goals as goal

pub returns : goal.returns
returns c =
    let kept = c.in-Some-record_on.record.now in
    let there : slice_get (records_on c.args.way (whole_now c.args.self.now)) c.args.place ≡ Some kept =
    sym (c.in-Some-record_on.ensures ∙ ap (λ w. slice_get (records_on c.args.way w) c.args.place) c.in-Some.ensures.editor) in
    let total = c.len.ensures ∙ ap length c.deltas.ensures ∙ sym (length-map kept.deltas shown_delta) in
    let left = c.behind.ensures ∙ ap (drop c.args.from) (c.forward.ensures ∙ c.deltas-2.ensures) in
    let told = c.fill_deltas.ensures ∙ ap (λ ds. copied (map shown_delta ds) c.args.at.now) left
    ∙ ap (λ xs. copied xs c.args.at.now) (sym (drop-map shown_delta c.args.from kept.deltas)) in
    inl (subst (λ o. TellsStep o c.args.from c.args.tick.now c.tick_before.result c.args.at.now c.fill_deltas.new.room c.args.total.now c.len.result 0) (sym there)
    (c.tick_before.ensures, (refl, (total, told))))
