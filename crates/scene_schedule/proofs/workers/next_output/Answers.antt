use Rattle.std.proofs.Common.{◌≡◌, ◌+◌, ◌<◌, ◌%◌, length, set, sym, subst, ◌∙◌}
use Rattle.std.specs.Vec.{vec_len}
use Rattle.std.proofs.Math.Nat.{mod-lt}
use Rattle.scene_schedule.specs.Turns.{AreLeft}
use Rattle.scene_schedule.proofs.Shares.{left_taken}
use Rattle.scene_schedule.proofs.workers.next_output.Goals as goal

pub returns-in-Some-clause-left : goal.returns-in-Some-clause-left
returns-in-Some-clause-left g c =
    let left = c.args.left.now.items in
    let k = c.args.at % c.len.result in
    let same : vec_len c.args.left.now ≡ length left = c.args.left.now.ok.0 in
    let count = c.len.ensures ∙ same in
    let below : k < length left = subst (λ n. k < n) count (mod-lt c.args.at (subst (λ n. 0 < n) (sym count) c.requires.workers)) in
    subst (λ slot. AreLeft (g.G.Gate.passed c.args.gate.now) c.args.world.now.world (c.args.at + 1) c.args.rules.now (set left k slot)) (sym c.taken.ensures.rest)
    (left_taken (g.G.Gate.passed c.args.gate.now) c.args.world.now.world c.args.at c.args.rules.now left k c.index_mut.result.now below c.index_mut.ensures.value c.requires.left)

pub returns-in-None-clause-left : goal.returns-in-None-clause-left
returns-in-None-clause-left g c =
    let left = c.args.left.now.items in
    let k = c.args.at % c.len.result in
    let same : vec_len c.args.left.now ≡ length left = c.args.left.now.ok.0 in
    let count = c.len.ensures ∙ same in
    let below : k < length left = subst (λ n. k < n) count (mod-lt c.args.at (subst (λ n. 0 < n) (sym count) c.requires.workers)) in
    subst (λ slot. AreLeft (g.G.Gate.passed c.args.gate.now) c.args.world.now.world (c.args.at + 1) c.args.rules.now (set left k slot)) (sym c.taken.ensures.rest)
    (left_taken (g.G.Gate.passed c.args.gate.now) c.args.world.now.world c.args.at c.args.rules.now left k c.index_mut.result.now below c.index_mut.ensures.value c.requires.left)
