use Rattle.std.proofs.Common.{◌≡◌, Ok, Err, MatchResult, ap, subst}
use Rattle.scene_kinds.specs.Cells.{shown}
use Rattle.scene_model.specs.World.{World, component_of}
use Rattle.scene_c.proofs.open_scene.OpenScene.cell.Goals as goal

pub returns-clause-found : goal.returns-clause-found
returns-clause-found c =
    let now = ap (λ w. w.machine.now) c.in_ok-editor.ensures.editor in
    subst (λ (w : World). MatchResult c.get.result (λ found. component_of w c.args.entity c.args.kind ≡ Ok (shown found)) (λ r. component_of w c.args.entity c.args.kind ≡ Err r))
    now (subst (λ (w : World). MatchResult c.get.result (λ found. component_of w c.args.entity c.args.kind ≡ Ok (shown found)) (λ r. component_of w c.args.entity c.args.kind ≡ Err r))
    c.world.ensures c.get.ensures)
