-- How a run ends, from how its script is known.
use Rattle.std.proofs.Common.{◌≡◌, ℕ, List, length, subst, Option, Some, None, IfSome}
use Rattle.std.specs.Prelude.{take}
use Rattle.scene_session.specs.Passes.{AreOf}
use Rattle.scene_app.specs.declared.run.RunEnd.{RunEnd}
use Rattle.scene_app.specs.declared.alone.AloneEnd.{AloneEnd}
use Rattle.scene_app.specs.Alone.{IsAloneEndOf}
use Rattle.scene_interpreter.specs.Printed.{bad_lines, owner_after}
use Rattle.scene_app.specs.Run.{IsEndOf}

-- a run of the bytes that were read ends as a run of the script, where that is known
pub ends_so : (script : Option (List ℕ)) (bytes : List ℕ) (end : RunEnd) → IfSome script (λ s. bytes ≡ s)
    → end.bad_lines ≡ length (bad_lines bytes) → end.reports.items ≡ take 10 (bad_lines bytes) → AreOf end.lock end.passes.items (owner_after bytes)
    → IsEndOf script end
ends_so None bytes end is bad reports passes = record { bad = tt; reports = tt; passes = tt; eight = (owner_after bytes, passes) }
ends_so (Some s) bytes end is bad reports passes = record {
  bad = subst (λ b. end.bad_lines ≡ length (bad_lines b)) is bad;
  reports = subst (λ b. end.reports.items ≡ take 10 (bad_lines b)) is reports;
  passes = subst (λ b. AreOf end.lock end.passes.items (owner_after b)) is passes;
  eight = (owner_after bytes, passes);
}

-- and so does one without a lock
pub alone_ends_so : (script : Option (List ℕ)) (bytes : List ℕ) (end : AloneEnd) → IfSome script (λ s. bytes ≡ s)
    → end.bad.count ≡ length (bad_lines bytes) → end.bad.first.items ≡ take 10 (bad_lines bytes) → end.owner ≡ owner_after bytes
    → IsAloneEndOf script end
alone_ends_so None bytes end is count first owner = record { count = tt; first = tt; owner = tt }
alone_ends_so (Some s) bytes end is count first owner = record {
  count = subst (λ b. end.bad.count ≡ length (bad_lines b)) is count;
  first = subst (λ b. end.bad.first.items ≡ take 10 (bad_lines b)) is first;
  owner = subst (λ b. end.owner ≡ owner_after b) is owner;
}
