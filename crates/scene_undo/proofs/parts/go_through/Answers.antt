use Rattle.std.proofs.Common.{◌≡◌}
use Rattle.std.proofs.lemmas.Option.{slice_get_within}
use Rattle.scene_world.proofs.Room.{wider_wider}
use Rattle.scene_deltas.proofs.Lists.{made_next, may_longer}
use Rattle.scene_undo.specs.Direction.{Can, in_turn, step}
use Rattle.scene_undo.proofs.Turns.{all_wider, fault_here, here}
use Rattle.scene_undo.proofs.parts.go_through.Goals as goal

pub loop-number-preserved : goal.loop-number-preserved
loop-number-preserved c =
    let way = c.args.direction in
    let w = c.args.draft.now.world in
    let v = c.loop-number.draft in
    let next = c.check.new.draft in
    let rs = in_turn way c.args.frames.now in
    let n = c.loop-number.number in
    let r = c.at_turn-frame.result.now in
    let now = c.loop-number.invariant.0 in
    let low = slice_get_within rs n r c.at_turn-frame.ensures in
    let done : next.world ≡ step way r v.world = c.in_default.ensures.done in
    let can : Can way next.room r v.world = c.in_default.ensures.can in (
      (
        made_next (step way) rs w v.world n r low (here rs n r c.at_turn-frame.ensures) now.0 next.world done,
        may_longer (step way) rs w v.world n r low (here rs n r c.at_turn-frame.ensures) now.0 (Can way next.room)
            (all_wider way v.room next.room c.check.ensures.wide _ w now.1) can,
      ),
      wider_wider c.args.draft.now.room v.room next.room c.loop-number.invariant.1 c.check.ensures.wide,
      c.in_default.ensures.covers,
    )

pub returns-in-Err-clause-refused : goal.returns-in-Err-clause-refused
returns-in-Err-clause-refused c =
    let way = c.args.direction in
    let w = c.args.draft.now.world in
    let v = c.loop-number.draft in
    let rs = in_turn way c.args.frames.now in
    let r = c.at_turn-frame.result.now in
    let now = c.loop-number.invariant.0 in
    fault_here way v.room rs w v.world c.loop-number.number r c.at_turn-frame.ensures now.0 now.1
    c.in-Err.refusal c.in_frame.result c.in-Err.ensures.refused c.in_frame.ensures.named c.in_frame.ensures.memory
