use Rattle.std.proofs.Common.{length, drop, subst, sym, ◌∙◌, arith}
use Rattle.std.proofs.lemmas.Iterator.Adapters.{YieldsList-from_vec}
use Rattle.std.proofs.lemmas.Iterator.Consumers.{YieldsList-turn, YieldsList-end}
use Rattle.std.proofs.lemmas.List.{length_push}
use Rattle.scene_undo.proofs.SeveralCalls.{AreLeftBack, all_back, can_back, next_back}
use Rattle.scene_undo.proofs.editor.Editor.undo_each.Goals as goal

pub undo_copied-requires-clause-copies : goal.undo_copied-requires-clause-copies
undo_copied-requires-clause-copies c =
    let gives = c.into_iter-copies-iterator.ensures.into_iter_gives in
    let turn = YieldsList-turn (YieldsList-from_vec {s = c.into_iter-copies-iterator.result} c.args.all.items gives.0 (gives.1 ∙ c.args.all.ok.0)) c.loop-copies.yielded c.loop-copies.copies-iterator c.loop-copies.yielded_by c.next.result c.next.new.self c.in-Some.copies c.in-Some.is c.next.ensures.steps in
    (can_back (length c.args.all.items) c.args.self.now c.args.all.items (length c.loop-copies.yielded) c.in-Some.copies c.loop-copies.self turn c.loop-copies.invariant).0

pub undo_copied-requires-clause-counted : goal.undo_copied-requires-clause-counted
undo_copied-requires-clause-counted c =
    let gives = c.into_iter-copies-iterator.ensures.into_iter_gives in
    let turn = YieldsList-turn (YieldsList-from_vec {s = c.into_iter-copies-iterator.result} c.args.all.items gives.0 (gives.1 ∙ c.args.all.ok.0)) c.loop-copies.yielded c.loop-copies.copies-iterator c.loop-copies.yielded_by c.next.result c.next.new.self c.in-Some.copies c.in-Some.is c.next.ensures.steps in
    (can_back (length c.args.all.items) c.args.self.now c.args.all.items (length c.loop-copies.yielded) c.in-Some.copies c.loop-copies.self turn c.loop-copies.invariant).1

pub loop-copies-preserved : goal.loop-copies-preserved
loop-copies-preserved c =
    let gives = c.into_iter-copies-iterator.ensures.into_iter_gives in
    let turn = YieldsList-turn (YieldsList-from_vec {s = c.into_iter-copies-iterator.result} c.args.all.items gives.0 (gives.1 ∙ c.args.all.ok.0)) c.loop-copies.yielded c.loop-copies.copies-iterator c.loop-copies.yielded_by c.next.result c.next.new.self c.in-Some.copies c.in-Some.is c.next.ensures.steps in
    let n = length c.args.all.items in
    subst (λ k. AreLeftBack n c.args.self.now (drop k c.args.all.items) c.undo_copied.new.self) (sym (length_push c.loop-copies.yielded c.in-Some.copies))
    (next_back n c.args.self.now c.args.all.items (length c.loop-copies.yielded) c.in-Some.copies c.loop-copies.self c.undo_copied.new.self turn c.loop-copies.invariant
    c.undo_copied.ensures.machine c.undo_copied.ensures.records c.undo_copied.ensures.counted)

pub returns-clause-machine : goal.returns-clause-machine
returns-clause-machine c =
    let gives = c.into_iter-copies-iterator.ensures.into_iter_gives in
    let all = YieldsList-end (YieldsList-from_vec {s = c.into_iter-copies-iterator.result} c.args.all.items gives.0 (gives.1 ∙ c.args.all.ok.0)) c.loop-copies.yielded c.loop-copies.copies-iterator c.loop-copies.yielded_by c.next.result c.next.new.self c.in-None.is c.next.ensures.steps in
    (all_back (length c.args.all.items) (length c.loop-copies.yielded) c.args.self.now c.args.all.items c.loop-copies.self (omega (arith, all.1)) c.loop-copies.invariant).0

pub returns-clause-past : goal.returns-clause-past
returns-clause-past c =
    let gives = c.into_iter-copies-iterator.ensures.into_iter_gives in
    let all = YieldsList-end (YieldsList-from_vec {s = c.into_iter-copies-iterator.result} c.args.all.items gives.0 (gives.1 ∙ c.args.all.ok.0)) c.loop-copies.yielded c.loop-copies.copies-iterator c.loop-copies.yielded_by c.next.result c.next.new.self c.in-None.is c.next.ensures.steps in
    (all_back (length c.args.all.items) (length c.loop-copies.yielded) c.args.self.now c.args.all.items c.loop-copies.self (omega (arith, all.1)) c.loop-copies.invariant).1

pub returns-clause-future : goal.returns-clause-future
returns-clause-future c =
    let gives = c.into_iter-copies-iterator.ensures.into_iter_gives in
    let all = YieldsList-end (YieldsList-from_vec {s = c.into_iter-copies-iterator.result} c.args.all.items gives.0 (gives.1 ∙ c.args.all.ok.0)) c.loop-copies.yielded c.loop-copies.copies-iterator c.loop-copies.yielded_by c.next.result c.next.new.self c.in-None.is c.next.ensures.steps in
    (all_back (length c.args.all.items) (length c.loop-copies.yielded) c.args.self.now c.args.all.items c.loop-copies.self (omega (arith, all.1)) c.loop-copies.invariant).2
