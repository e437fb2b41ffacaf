use Rattle.scene_lock.proofs.Passing.{follows_further}
use Rattle.scene_lock.proofs.Walks.{tries-more, tries-last}
use Rattle.scene_lock.proofs.lock.WordLock.read.Goals as goal

pub loop-preserved : goal.loop-preserved
loop-preserved g c = let k = g.S.Kept in let i = c.loop.invariant in let next = c.try_read-next in
    let f = follows_further k.legal k.session c.args.self.now c.args.pass c.loop.pass next.result.0 i.0 i.1 next.ensures.pass in
    (f.0, f.1, tries-more c.args.pass.session c.loop.pass.session i.0.1 c.args.pass.steps c.loop.pass.steps next.result.0.steps i.2 next.result.1 next.ensures.steps)

pub returns-in-Some-answer-clause-steps : goal.returns-in-Some-answer-clause-steps
returns-in-Some-answer-clause-steps g c = let i = c.loop.invariant in let next = c.try_read-next in
    tries-last c.args.pass.session c.loop.pass.session i.0.1 c.args.pass.steps c.loop.pass.steps next.result.0.steps i.2 next.result.1 next.ensures.steps c.in-Some-answer.answer c.in-Some-answer.is
