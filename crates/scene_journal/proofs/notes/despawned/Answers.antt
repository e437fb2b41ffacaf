use Rattle.std.proofs.Common.{ap, sym, ◌∙◌, [], ◌∷◌}
use Rattle.scene_alloc.specs.Slots.{retires}
use Rattle.scene_links.specs.Forest.{link_in}
use Rattle.scene_deltas.specs.declared.delta.Delta.TheVariants.{Despawned}
use Rattle.scene_deltas.specs.Notes.{of_row}
use Rattle.scene_journal.proofs.notes.despawned.Goals as goal

pub returns : goal.returns
returns c = λ w is.
    let e = c.args.entity in
    (λ i. Despawned e (is.stood i) (is.had i) (is.linked i) (is.gone i) ∷ [])
    ∙ sym (ap (λ o. of_row o (λ place cells. Despawned e place cells (link_in w.children e) (retires e) ∷ [])) is.found)
