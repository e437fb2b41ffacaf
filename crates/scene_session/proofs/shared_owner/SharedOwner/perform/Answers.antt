use Rattle.std.proofs.Common.{◌≡◌, ◌≢◌, ◌<◌, ◌+◌, List, IfOk, IfErr, sym, subst, arith, length}
use Rattle.std.specs.Global.{Vec}
use Rattle.scene_kinds.specs.Answers.{refusal_of}
use Rattle.scene_kinds.specs.declared.fault.Fault.TheVariants.{NoMemory}
use Rattle.scene_lock.specs.Pass.{PassView}
use Rattle.scene_session.specs.declared.entry.Entry.{Entry}
use Rattle.scene_session.specs.declared.state.Beginning.{Beginning}
use Rattle.scene_session.specs.Calls.{Refused, asked, told}
use Rattle.scene_session.specs.AllPasses.{IsOnlyCall}
use Rattle.scene_session.specs.State.{stopping_at}
use Rattle.scene_session.specs.Owner.{OwnerState, owner_of, performed}
use Rattle.scene_session.specs.Passes.{AreEight, first_seen}
use Rattle.scene_session.proofs.Machines.{only_done, only_full, only_room, only_stopped, only_takes_room, only_where_room}
use Rattle.scene_session.proofs.Places.{are_all, after_long, first_of, put_back, taken, taken_session}
use Rattle.scene_session.proofs.shared_owner.SharedOwner.perform.Goals as goal

abbrev P : Type 0
P = PassView Entry Beginning

pub perform_with_all-passes-requires-clause-all : goal.perform_with_all-passes-requires-clause-all
perform_with_all-passes-requires-clause-all g c κs within =
    let lock = c.self.inside.lock in let h = first_seen c.self.inside.passes.items in let s = c.self.inside.session in let small = c.self.invariant.1 in
    let ps = c.replace-others.result.items in let pass = c.swap_remove-pass.result in let others = c.swap_remove-pass.new.self.items in
    let eight = subst (λ (v : Vec P). AreEight lock h v.items) (sym c.replace-others.ensures.value) c.self.invariant.0 in
    let is = c.swap_remove-pass.ensures.value in let left = c.swap_remove-pass.ensures.items in
    are_all lock h ps eight s small pass others is left

pub swap-requires-clause-i_in_bounds : goal.swap-requires-clause-i_in_bounds
swap-requires-clause-i_in_bounds g c =
    let lock = c.self.inside.lock in let h = first_seen c.self.inside.passes.items in let s = c.self.inside.session in let small = c.self.invariant.1 in
    let ps = c.replace-others.result.items in let pass = c.swap_remove-pass.result in let others = c.swap_remove-pass.new.self.items in
    let eight = subst (λ (v : Vec P). AreEight lock h v.items) (sym c.replace-others.ensures.value) c.self.invariant.0 in
    let is = c.swap_remove-pass.ensures.value in let left = c.swap_remove-pass.ensures.items in
    let only = c.perform_with_all-passes.ensures.only in let after = c.perform_with_all-passes.result.0 in
    let given = only.2 in
    let long = after_long lock h ps eight s small pass others is left only.0 (only.1) after.items given in
    omega (arith, long, small, after.ok.0)

pub swap-requires-clause-j_in_bounds : goal.swap-requires-clause-j_in_bounds
swap-requires-clause-j_in_bounds g c =
    let lock = c.self.inside.lock in let h = first_seen c.self.inside.passes.items in let s = c.self.inside.session in let small = c.self.invariant.1 in
    let ps = c.replace-others.result.items in let pass = c.swap_remove-pass.result in let others = c.swap_remove-pass.new.self.items in
    let eight = subst (λ (v : Vec P). AreEight lock h v.items) (sym c.replace-others.ensures.value) c.self.invariant.0 in
    let is = c.swap_remove-pass.ensures.value in let left = c.swap_remove-pass.ensures.items in
    let only = c.perform_with_all-passes.ensures.only in let after = c.perform_with_all-passes.result.0 in
    let given = only.2 in
    let long = after_long lock h ps eight s small pass others is left only.0 (only.1) after.items given in
    omega (arith, long, after.ok.0)

pub invariant_of-self : goal.invariant_of-self
invariant_of-self g c =
    let lock = c.self.inside.lock in let h = first_seen c.self.inside.passes.items in let s = c.self.inside.session in let small = c.self.invariant.1 in
    let ps = c.replace-others.result.items in let pass = c.swap_remove-pass.result in let others = c.swap_remove-pass.new.self.items in
    let eight = subst (λ (v : Vec P). AreEight lock h v.items) (sym c.replace-others.ensures.value) c.self.invariant.0 in
    let is = c.swap_remove-pass.ensures.value in let left = c.swap_remove-pass.ensures.items in
    let only = c.perform_with_all-passes.ensures.only in let after = c.perform_with_all-passes.result.0 in
    let given = only.2 in
    let back = put_back lock h ps eight s small pass others is left (only.0) (only.1) after.items given c.perform_with_all-passes.ensures.each in
    let put = subst (AreEight lock (only.0)) (sym c.swap.ensures.items) back in
    let seen = first_of lock (only.0) c.swap.new.self.items put in
    let o = lock.terms.opening in let result = c.perform_with_all-passes.result.1 in
    let call = subst (λ n. IsOnlyCall o n c.args.call h result (only.0)) (taken_session lock h ps eight s small pass others is left)
    (subst (λ l. IsOnlyCall o pass.session c.args.call l result (only.0)) (taken lock h ps eight s small pass others is left).1 only.3) in
    let room = c.room_after-self-inside.result in let takes = only_takes_room o h s (only.0) c.args.call result call c.self.inside.room room c.self.invariant.3 c.room_after-self-inside.ensures in (
      subst (λ l. AreEight lock l c.swap.new.self.items) (sym seen) put,
      small,
      c.self.invariant.2,
      subst (λ (l : List Entry). room + length l ≡ o.limit) (sym seen) takes,
    )

pub returns-clause-done : goal.returns-clause-done
returns-clause-done g c =
    let lock = c.self.inside.lock in let h = first_seen c.self.inside.passes.items in let s = c.self.inside.session in let small = c.self.invariant.1 in
    let ps = c.replace-others.result.items in let pass = c.swap_remove-pass.result in let others = c.swap_remove-pass.new.self.items in
    let eight = subst (λ (v : Vec P). AreEight lock h v.items) (sym c.replace-others.ensures.value) c.self.invariant.0 in
    let is = c.swap_remove-pass.ensures.value in let left = c.swap_remove-pass.ensures.items in
    let only = c.perform_with_all-passes.ensures.only in let after = c.perform_with_all-passes.result.0 in
    let given = only.2 in
    let back = put_back lock h ps eight s small pass others is left (only.0) (only.1) after.items given c.perform_with_all-passes.ensures.each in
    let seen = first_of lock (only.0) c.swap.new.self.items (subst (AreEight lock (only.0)) (sym c.swap.ensures.items) back) in
    let o = lock.terms.opening in let result = c.perform_with_all-passes.result.1 in
    let call = subst (λ n. IsOnlyCall o n c.args.call h result (only.0)) (taken_session lock h ps eight s small pass others is left)
    (subst (λ l. IsOnlyCall o pass.session c.args.call l result (only.0)) (taken lock h ps eight s small pass others is left).1 only.3) in
    subst (λ (b : OwnerState). IfOk result (λ reply. performed b (asked c.args.call) ≡ (owner_of (record { opening = o; history = (first_seen c.swap.new.self.items) }) s, told reply))) c.self.view_is
    (subst (λ (l : List Entry). IfOk result (λ reply. performed (owner_of (record { opening = o; history = h }) s) (asked c.args.call) ≡ (owner_of (record { opening = o; history = l }) s, told reply))) (sym seen) (only_done o h s (only.0) c.args.call result call))

pub returns-clause-full : goal.returns-clause-full
returns-clause-full g c =
    let lock = c.self.inside.lock in let h = first_seen c.self.inside.passes.items in let s = c.self.inside.session in let small = c.self.invariant.1 in
    let ps = c.replace-others.result.items in let pass = c.swap_remove-pass.result in let others = c.swap_remove-pass.new.self.items in
    let eight = subst (λ (v : Vec P). AreEight lock h v.items) (sym c.replace-others.ensures.value) c.self.invariant.0 in
    let is = c.swap_remove-pass.ensures.value in let left = c.swap_remove-pass.ensures.items in
    let only = c.perform_with_all-passes.ensures.only in let after = c.perform_with_all-passes.result.0 in
    let given = only.2 in
    let back = put_back lock h ps eight s small pass others is left (only.0) (only.1) after.items given c.perform_with_all-passes.ensures.each in
    let seen = first_of lock (only.0) c.swap.new.self.items (subst (AreEight lock (only.0)) (sym c.swap.ensures.items) back) in
    let o = lock.terms.opening in let result = c.perform_with_all-passes.result.1 in
    let call = subst (λ n. IsOnlyCall o n c.args.call h result (only.0)) (taken_session lock h ps eight s small pass others is left)
    (subst (λ l. IsOnlyCall o pass.session c.args.call l result (only.0)) (taken lock h ps eight s small pass others is left).1 only.3) in
    subst (λ (b : OwnerState). IfErr result (λ x. x.refusal ≢ refusal_of NoMemory → performed b (asked c.args.call) ≡ (owner_of (record { opening = o; history = (first_seen c.swap.new.self.items) }) s, Refused x.refusal))) c.self.view_is
    (subst (λ (l : List Entry). IfErr result (λ x. x.refusal ≢ refusal_of NoMemory → performed (owner_of (record { opening = o; history = h }) s) (asked c.args.call) ≡ (owner_of (record { opening = o; history = l }) s, Refused x.refusal))) (sym seen) (only_full o h s (only.0) c.args.call result call))

pub returns-clause-stopped : goal.returns-clause-stopped
returns-clause-stopped g c =
    let lock = c.self.inside.lock in let h = first_seen c.self.inside.passes.items in let s = c.self.inside.session in let small = c.self.invariant.1 in
    let ps = c.replace-others.result.items in let pass = c.swap_remove-pass.result in let others = c.swap_remove-pass.new.self.items in
    let eight = subst (λ (v : Vec P). AreEight lock h v.items) (sym c.replace-others.ensures.value) c.self.invariant.0 in
    let is = c.swap_remove-pass.ensures.value in let left = c.swap_remove-pass.ensures.items in
    let only = c.perform_with_all-passes.ensures.only in let after = c.perform_with_all-passes.result.0 in
    let given = only.2 in
    let back = put_back lock h ps eight s small pass others is left (only.0) (only.1) after.items given c.perform_with_all-passes.ensures.each in
    let seen = first_of lock (only.0) c.swap.new.self.items (subst (AreEight lock (only.0)) (sym c.swap.ensures.items) back) in
    let o = lock.terms.opening in let result = c.perform_with_all-passes.result.1 in
    let call = subst (λ n. IsOnlyCall o n c.args.call h result (only.0)) (taken_session lock h ps eight s small pass others is left)
    (subst (λ l. IsOnlyCall o pass.session c.args.call l result (only.0)) (taken lock h ps eight s small pass others is left).1 only.3) in
    subst (λ (b : OwnerState). IfErr result (λ x. (owner_of (record { opening = o; history = (first_seen c.swap.new.self.items) }) s ≡ b) × (x.call ≡ c.args.call) × (x.refusal ≡ stopping_at b.limit (length b.history)))) c.self.view_is
    (subst (λ (l : List Entry). IfErr result (λ x. (owner_of (record { opening = o; history = l }) s ≡ owner_of (record { opening = o; history = h }) s) × (x.call ≡ c.args.call) × (x.refusal ≡ stopping_at o.limit (length (owner_of (record { opening = o; history = h }) s).history)))) (sym seen) (only_stopped o h s (only.0) c.args.call result call))

pub returns-clause-room : goal.returns-clause-room
returns-clause-room g c =
    let lock = c.self.inside.lock in let h = first_seen c.self.inside.passes.items in let s = c.self.inside.session in let small = c.self.invariant.1 in
    let ps = c.replace-others.result.items in let pass = c.swap_remove-pass.result in let others = c.swap_remove-pass.new.self.items in
    let eight = subst (λ (v : Vec P). AreEight lock h v.items) (sym c.replace-others.ensures.value) c.self.invariant.0 in
    let is = c.swap_remove-pass.ensures.value in let left = c.swap_remove-pass.ensures.items in
    let only = c.perform_with_all-passes.ensures.only in let after = c.perform_with_all-passes.result.0 in
    let o = lock.terms.opening in let result = c.perform_with_all-passes.result.1 in
    let call = subst (λ n. IsOnlyCall o n c.args.call h result (only.0)) (taken_session lock h ps eight s small pass others is left)
    (subst (λ l. IsOnlyCall o pass.session c.args.call l result (only.0)) (taken lock h ps eight s small pass others is left).1 only.3) in
    subst (λ (b : OwnerState). IfErr result (λ x. x.refusal.fault ≡ NoMemory → length b.history < b.limit)) c.self.view_is
    (only_room o h s (only.0) c.args.call result call)

pub room_after-self-inside-requires : goal.room_after-self-inside-requires
room_after-self-inside-requires g c =
    let lock = c.self.inside.lock in let h = first_seen c.self.inside.passes.items in let s = c.self.inside.session in let small = c.self.invariant.1 in
    let ps = c.replace-others.result.items in let pass = c.swap_remove-pass.result in let others = c.swap_remove-pass.new.self.items in
    let eight = subst (λ (v : Vec P). AreEight lock h v.items) (sym c.replace-others.ensures.value) c.self.invariant.0 in
    let is = c.swap_remove-pass.ensures.value in let left = c.swap_remove-pass.ensures.items in
    let only = c.perform_with_all-passes.ensures.only in let after = c.perform_with_all-passes.result.0 in
    let o = lock.terms.opening in let result = c.perform_with_all-passes.result.1 in
    let call = subst (λ n. IsOnlyCall o n c.args.call h result (only.0)) (taken_session lock h ps eight s small pass others is left)
    (subst (λ l. IsOnlyCall o pass.session c.args.call l result (only.0)) (taken lock h ps eight s small pass others is left).1 only.3) in
    only_where_room o h s (only.0) c.args.call result call c.self.inside.room c.self.invariant.3
