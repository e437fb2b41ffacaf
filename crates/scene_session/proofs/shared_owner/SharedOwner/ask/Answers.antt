use Rattle.std.proofs.Common.{◌≡◌, ◌+◌, List, length, sym, ap, subst, ◌∙◌, arith}
use Rattle.std.specs.Global.{Vec}
use Rattle.scene_lock.specs.Pass.{PassView}
use Rattle.scene_session.specs.declared.entry.Entry.{Entry}
use Rattle.scene_session.specs.declared.state.Beginning.{Beginning}
use Rattle.scene_session.specs.Whole.{Whole}
use Rattle.scene_session.specs.Owner.{owner_of, whole_at}
use Rattle.scene_session.specs.Passes.{AreEight, first_seen}
use Rattle.scene_session.proofs.Machines.{whole_is}
use Rattle.scene_session.proofs.Places.{are_all, after_long, first_of, put_back, taken}
use Rattle.scene_session.proofs.shared_owner.SharedOwner.ask.Goals as goal

abbrev P : Type 0
P = PassView Entry Beginning

pub ask_with_all-passes-requires-clause-all : goal.ask_with_all-passes-requires-clause-all
ask_with_all-passes-requires-clause-all g c =
    let lock = c.self.inside.lock in let h = first_seen c.self.inside.passes.items in let s = c.self.inside.session in let small = c.self.invariant.1 in
    let ps = c.replace-others.result.items in let pass = c.swap_remove-pass.result in let others = c.swap_remove-pass.new.self.items in
    let eight = subst (λ (v : Vec P). AreEight lock h v.items) (sym c.replace-others.ensures.value) c.self.invariant.0 in
    let is = c.swap_remove-pass.ensures.value in let left = c.swap_remove-pass.ensures.items in
    are_all lock h ps eight s small pass others is left

pub swap-requires-clause-i_in_bounds : goal.swap-requires-clause-i_in_bounds
swap-requires-clause-i_in_bounds g c =
    let lock = c.self.inside.lock in let h = first_seen c.self.inside.passes.items in let s = c.self.inside.session in let small = c.self.invariant.1 in
    let ps = c.replace-others.result.items in let pass = c.swap_remove-pass.result in let others = c.swap_remove-pass.new.self.items in
    let eight = subst (λ (v : Vec P). AreEight lock h v.items) (sym c.replace-others.ensures.value) c.self.invariant.0 in
    let is = c.swap_remove-pass.ensures.value in let left = c.swap_remove-pass.ensures.items in
    let only = c.ask_with_all-passes.ensures.only in let after = c.ask_with_all-passes.result.0 in
    let given = only.1 in
    let long = after_long lock h ps eight s small pass others is left pass.seen (only.0) after.items given in
    omega (arith, long, small, after.ok.0)

pub swap-requires-clause-j_in_bounds : goal.swap-requires-clause-j_in_bounds
swap-requires-clause-j_in_bounds g c =
    let lock = c.self.inside.lock in let h = first_seen c.self.inside.passes.items in let s = c.self.inside.session in let small = c.self.invariant.1 in
    let ps = c.replace-others.result.items in let pass = c.swap_remove-pass.result in let others = c.swap_remove-pass.new.self.items in
    let eight = subst (λ (v : Vec P). AreEight lock h v.items) (sym c.replace-others.ensures.value) c.self.invariant.0 in
    let is = c.swap_remove-pass.ensures.value in let left = c.swap_remove-pass.ensures.items in
    let only = c.ask_with_all-passes.ensures.only in let after = c.ask_with_all-passes.result.0 in
    let given = only.1 in
    let long = after_long lock h ps eight s small pass others is left pass.seen (only.0) after.items given in
    omega (arith, long, after.ok.0)

pub invariant_of-self : goal.invariant_of-self
invariant_of-self g c =
    let lock = c.self.inside.lock in let h = first_seen c.self.inside.passes.items in let s = c.self.inside.session in let small = c.self.invariant.1 in
    let ps = c.replace-others.result.items in let pass = c.swap_remove-pass.result in let others = c.swap_remove-pass.new.self.items in
    let eight = subst (λ (v : Vec P). AreEight lock h v.items) (sym c.replace-others.ensures.value) c.self.invariant.0 in
    let is = c.swap_remove-pass.ensures.value in let left = c.swap_remove-pass.ensures.items in
    let only = c.ask_with_all-passes.ensures.only in let after = c.ask_with_all-passes.result.0 in
    let given = only.1 in
    let back = put_back lock h ps eight s small pass others is left pass.seen (only.0) after.items given c.ask_with_all-passes.ensures.each in
    let put = subst (AreEight lock pass.seen) (sym c.swap.ensures.items) back in
    let seen = first_of lock pass.seen c.swap.new.self.items put in let same = (taken lock h ps eight s small pass others is left).1 in (
      subst (λ l. AreEight lock l c.swap.new.self.items) (sym seen) put,
      small,
      c.self.invariant.2,
      subst (λ (l : List Entry). c.self.inside.room + length l ≡ lock.terms.opening.limit) (sym (seen ∙ same)) c.self.invariant.3,
    )

pub returns-clause-same : goal.returns-clause-same
returns-clause-same g c =
    let lock = c.self.inside.lock in let h = first_seen c.self.inside.passes.items in let s = c.self.inside.session in let small = c.self.invariant.1 in
    let ps = c.replace-others.result.items in let pass = c.swap_remove-pass.result in let others = c.swap_remove-pass.new.self.items in
    let eight = subst (λ (v : Vec P). AreEight lock h v.items) (sym c.replace-others.ensures.value) c.self.invariant.0 in
    let is = c.swap_remove-pass.ensures.value in let left = c.swap_remove-pass.ensures.items in
    let only = c.ask_with_all-passes.ensures.only in let after = c.ask_with_all-passes.result.0 in
    let given = only.1 in
    let back = put_back lock h ps eight s small pass others is left pass.seen (only.0) after.items given c.ask_with_all-passes.ensures.each in
    let seen = first_of lock pass.seen c.swap.new.self.items (subst (AreEight lock pass.seen) (sym c.swap.ensures.items) back) in
    let same = (taken lock h ps eight s small pass others is left).1 in
    ap (λ l. owner_of (record { opening = lock.terms.opening; history = l }) s) (seen ∙ same) ∙ c.self.view_is

pub returns-clause-answer : goal.returns-clause-answer
returns-clause-answer g c =
    let lock = c.self.inside.lock in let h = first_seen c.self.inside.passes.items in let s = c.self.inside.session in let small = c.self.invariant.1 in
    let ps = c.replace-others.result.items in let pass = c.swap_remove-pass.result in let others = c.swap_remove-pass.new.self.items in
    let eight = subst (λ (v : Vec P). AreEight lock h v.items) (sym c.replace-others.ensures.value) c.self.invariant.0 in
    let is = c.swap_remove-pass.ensures.value in let left = c.swap_remove-pass.ensures.items in
    let o = lock.terms.opening in
    let same = (taken lock h ps eight s small pass others is left).1 in
    let now = whole_is o pass.seen s ∙ ap (λ l. whole_at (owner_of (record { opening = o; history = l }) s)) same ∙ ap whole_at c.self.view_is in
    subst (λ (w : Whole). g.Q.EditorQuery.finds c.args.query.now w c.ask_with_all-passes.result.1) now c.ask_with_all-passes.ensures.answer
