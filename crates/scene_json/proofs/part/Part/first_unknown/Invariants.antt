use Rattle.std.proofs.Common.{◌≡◌, length, option_map, map as each}
use Rattle.scene_json.specs.Keys.{members_in, unknown_in}
use Rattle.scene_json.specs.View.{fields, view}
use Rattle.scene_json.proofs.Unknown.{first_of}
use Rattle.scene_json.proofs.part.Part.first_unknown.Given as goal

abbrev pub invariant-loop-key : goal.invariant-loop-key
invariant-loop-key l =
    unknown_in (each (λ k. k.now) l.known) (members_in (view l.self))
    ≡ first_of (each (λ k. k.now) l.known) (option_map (λ k. k.now) l.first) (fields l.members)

abbrev pub decreases-loop-key : goal.decreases-loop-key
decreases-loop-key l = length (fields l.members)
