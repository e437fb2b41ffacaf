use Rattle.std.proofs.Common.{◌≡◌, ◌≤◌, ℕ, false, nat_lt, sym, ◌∙◌, arith}
use Rattle.std.proofs.lemmas.Bool.Decides.{nat_tests}
use Rattle.scene_kinds.proofs.Subsets.{none_above}
use Rattle.scene_kinds.proofs.kind_set.KindSetKindSetMethods.contains.Goals as goal

pub returns-else-kind-lt64 : goal.returns-else-kind-lt64
returns-else-kind-lt64 c = past c.args.kind c.if-kind-lt64.false ∙ sym (none_above c.args.self c.args.kind c.ranges.self.fits c.if-kind-lt64.false)
  where
    past : (kind : ℕ) → 64 ≤ kind → nat_lt kind 64 ≡ false
    past kind h = grind (arith, nat_tests)
