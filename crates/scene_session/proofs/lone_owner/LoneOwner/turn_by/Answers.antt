use Rattle.std.proofs.Common.{◌+◌, ◌≤◌, Ok, length, replicate, ap, sym, ◌∙◌, arith}
use Rattle.std.proofs.lemmas.List.{length-append, length-replicate}
use Rattle.scene_session.specs.History.{replay}
use Rattle.scene_session.specs.Owner.{OwnerState, next}
use Rattle.scene_session.specs.Turns.{owner_by, turned}
use Rattle.scene_session.specs.Whole.{whole_of}
use Rattle.scene_session.proofs.Turns.{editor_done, editor_stopped}
use Rattle.scene_session.proofs.lone_owner.LoneOwner.turn_by.Goals as goal

pub invariant_of-self : goal.invariant_of-self
invariant_of-self c =
    let x = c.self.inside in
    let h : OwnerState = record { opening = whole_of x.opening.value; limit = x.limit; history = x.log.calls; session = x.session } in
    let enough = c.if-self-count.false in
    let left = c.self.invariant.1 in
    let room : length x.log.calls + c.args.count ≤ x.limit = omega (arith, enough, left) in
    let done = editor_done c.args.way h x.editor c.self.invariant.0 c.args.count room c.turn.new.editor c.in-Ok.ensures in
    let calls = replicate c.args.count (turned x.session c.args.way) in
    let entered = c.enter_turns.ensures.entered in
    let both = length-append x.log.calls calls in
    let count = length-replicate c.args.count (turned x.session c.args.way) in
    let taken = c.enter_turns.ensures.room in
    (sym done.1 ∙ ap (replay next (whole_of x.opening.value)) (sym entered), omega (arith, ap length entered, both, count, taken, left))

pub returns-in-Ok : goal.returns-in-Ok
returns-in-Ok c =
    let x = c.self.inside in
    let h : OwnerState = record { opening = whole_of x.opening.value; limit = x.limit; history = x.log.calls; session = x.session } in
    let enough = c.if-self-count.false in
    let left = c.self.invariant.1 in
    let room : length x.log.calls + c.args.count ≤ x.limit = omega (arith, enough, left) in
    ap (owner_by c.args.way c.args.count) (sym c.self.view_is)
    ∙ (editor_done c.args.way h x.editor c.self.invariant.0 c.args.count room c.turn.new.editor c.in-Ok.ensures).0
    ∙ (λ i. Ok (tt, record { opening = whole_of x.opening.value; limit = x.limit; history = sym c.enter_turns.ensures.entered i; session = x.session }))

pub returns-in-Err : goal.returns-in-Err
returns-in-Err c =
    let x = c.self.inside in
    let h : OwnerState = record { opening = whole_of x.opening.value; limit = x.limit; history = x.log.calls; session = x.session } in
    let enough = c.if-self-count.false in
    let left = c.self.invariant.1 in
    let room : length x.log.calls + c.args.count ≤ x.limit = omega (arith, enough, left) in (
      c.self.view_is,
      λ other. ap (owner_by c.args.way c.args.count) (sym c.self.view_is)
          ∙ editor_stopped c.args.way h x.editor c.self.invariant.0 c.args.count room c.in-Err.refusal (c.in-Err.ensures.1 other),
    )
