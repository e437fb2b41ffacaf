use Rattle.std.proofs.Common.{ap, subst, sym, ◌∙◌}
use Rattle.scene_world.proofs.Room.{holds_wider}
use Rattle.scene_undo.specs.Direction.{CanAll, after, in_turn, opposite}
use Rattle.scene_undo.proofs.Turns.{home, home_turn}
use Rattle.scene_undo.proofs.parts.try_records.Goals as goal

pub go_home-requires : goal.go_home-requires
go_home-requires c =
    let way = c.args.direction in
    let w = c.args.draft.now.world in
    let v = c.go_through.new.draft in
    let fs = c.args.frames.now in
    let held = holds_wider c.args.draft.now.room v.room w c.go_through.ensures.wide c.room_holds.ensures in
    let there = home way v.room (in_turn way fs) w c.tick-tick.ensures.valid held c.in_ok-go_through.ensures.can in
    let can = subst (λ rs. CanAll (opposite way) v.room rs (after way (in_turn way fs) w)) (sym (home_turn way fs)) there.can in
    subst (λ o. CanAll o v.room (in_turn o fs) v.world) (sym c.opposite.ensures)
    (subst (CanAll (opposite way) v.room (in_turn (opposite way) fs)) (sym c.in_ok-go_through.ensures.done) can)

pub returns-clause-same : goal.returns-clause-same
returns-clause-same c =
    let way = c.args.direction in
    let w = c.args.draft.now.world in
    let v = c.go_through.new.draft in
    let fs = c.args.frames.now in
    let held = holds_wider c.args.draft.now.room v.room w c.go_through.ensures.wide c.room_holds.ensures in
    let there = home way v.room (in_turn way fs) w c.tick-tick.ensures.valid held c.in_ok-go_through.ensures.can in
    c.in_ok-go_home.ensures.done ∙ ap (λ o. after o (in_turn o fs) v.world) c.opposite.ensures
    ∙ ap (after (opposite way) (in_turn (opposite way) fs)) c.in_ok-go_through.ensures.done
    ∙ ap (λ rs. after (opposite way) rs (after way (in_turn way fs) w)) (home_turn way fs) ∙ there.back
