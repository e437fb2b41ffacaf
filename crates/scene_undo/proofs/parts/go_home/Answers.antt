use Rattle.std.proofs.Common.{subst, sym, ◌∙◌}
use Rattle.std.proofs.lemmas.Option.{slice_get_within}
use Rattle.scene_deltas.proofs.Lists.{made_next, may_next}
use Rattle.scene_undo.specs.Direction.{Can, in_turn, step}
use Rattle.scene_undo.proofs.Turns.{here}
use Rattle.scene_undo.proofs.parts.go_home.Goals as goal

pub go-requires : goal.go-requires
go-requires c =
    let way = c.args.direction in
    let room = c.args.draft.now.room in
    let rs = in_turn way c.args.frames.now in
    let n = c.loop-number.number in
    let r = c.at_turn.result.now in
    subst (λ x. Can way x r c.loop-number.draft.world) (sym c.loop-number.invariant.1)
    (may_next (step way) rs c.args.draft.now.world c.loop-number.draft.world n r (slice_get_within rs n r c.at_turn.ensures)
    (here rs n r c.at_turn.ensures) c.loop-number.invariant.0 (Can way room) c.requires)

pub loop-number-preserved : goal.loop-number-preserved
loop-number-preserved c =
    let way = c.args.direction in
    let rs = in_turn way c.args.frames.now in
    let n = c.loop-number.number in
    let r = c.at_turn.result.now in (
      made_next (step way) rs c.args.draft.now.world c.loop-number.draft.world n r (slice_get_within rs n r c.at_turn.ensures)
          (here rs n r c.at_turn.ensures) c.loop-number.invariant.0 c.go.new.world.world c.in_ok-go.ensures.done,
      c.go.ensures.room ∙ c.loop-number.invariant.1,
    )
