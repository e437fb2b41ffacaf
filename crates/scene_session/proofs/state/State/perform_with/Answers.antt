use Rattle.std.proofs.Common.{◌≡◌, sym, subst, IfOk}
use Rattle.scene_session.specs.declared.state.Beginning.{Beginning}
use Rattle.scene_session.specs.Calls.{asked, told}
use Rattle.scene_session.specs.State.{StateView, IsReplayOf, IsLegal, answer_after}
use Rattle.scene_session.proofs.Entered.{kept_after, reply_after}
use Rattle.scene_session.proofs.Props.{kept}
use Rattle.scene_session.proofs.state.State.perform_with.Goals as goal

pub invariant_of-self : goal.invariant_of-self
invariant_of-self g c =
    let o : Beginning = record { editor = c.self.inside.opening.value; limit = c.self.inside.limit } in
    ∣ subst (λ l. IsReplayOf o l c.self.inside.editor) (sym c.make_room.ensures.items) (kept o c.self.inside.history.items c.self.inside.editor c.self.invariant) ∣₁

pub returns-in-Err-clause-legal : goal.returns-in-Err-clause-legal
returns-in-Err-clause-legal g c =
    let o : Beginning = record { editor = c.self.inside.opening.value; limit = c.self.inside.limit } in
    subst (IsLegal o) (sym c.make_room.ensures.items) (kept o c.self.inside.history.items c.self.inside.editor c.self.invariant).1

pub invariant_of-self-2 : goal.invariant_of-self-2
invariant_of-self-2 g c =
    let o : Beginning = record { editor = c.self.inside.opening.value; limit = c.self.inside.limit } in
    ∣ kept_after o c.self.inside.history.items c.make_room.new.history.items c.enter.new.history.items c.make_room.ensures.items c.self.inside.editor c.do_call_with-replies.new.editor c.args.session c.args.call
    c.do_call_with-replies.result (kept o c.self.inside.history.items c.self.inside.editor c.self.invariant) c.in_default.ensures.few c.do_call_with-replies.ensures.done c.do_call_with-replies.ensures.none
    c.enter.result c.enter.ensures.entered c.enter.ensures.reply c.enter.ensures.stopped ∣₁

pub returns-clause-legal : goal.returns-clause-legal
returns-clause-legal g c =
    let o : Beginning = record { editor = c.self.inside.opening.value; limit = c.self.inside.limit } in
    (kept_after o c.self.inside.history.items c.make_room.new.history.items c.enter.new.history.items c.make_room.ensures.items c.self.inside.editor c.do_call_with-replies.new.editor c.args.session c.args.call
    c.do_call_with-replies.result (kept o c.self.inside.history.items c.self.inside.editor c.self.invariant) c.in_default.ensures.few c.do_call_with-replies.ensures.done c.do_call_with-replies.ensures.none
    c.enter.result c.enter.ensures.entered c.enter.ensures.reply c.enter.ensures.stopped).1

pub returns-clause-reply : goal.returns-clause-reply
returns-clause-reply g c =
    let o : Beginning = record { editor = c.self.inside.opening.value; limit = c.self.inside.limit } in
    subst (λ (s : StateView). IfOk c.enter.result (λ r. told r ≡ answer_after s.opening s.history (asked c.args.call))) c.self.view_is
    (reply_after o c.self.inside.history.items c.make_room.new.history.items c.enter.new.history.items c.make_room.ensures.items c.self.inside.editor c.do_call_with-replies.new.editor c.args.session c.args.call
    c.do_call_with-replies.result (kept o c.self.inside.history.items c.self.inside.editor c.self.invariant) c.in_default.ensures.few c.do_call_with-replies.ensures.done c.do_call_with-replies.ensures.none
    c.enter.result c.enter.ensures.reply)
