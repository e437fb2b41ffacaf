use Rattle.std.proofs.Common.{◌≡◌, ◌+◌, [], length}
use Rattle.scene_json.specs.View.{views}
use Rattle.scene_json_forms.specs.Paths.{path_bytes}
use Rattle.scene_file.specs.Walk.{kinds_from}
use Rattle.scene_file.proofs.read_kinds.kinds_from.Given as goal

abbrev pub invariant-loop-place : goal.invariant-loop-place
invariant-loop-place l =
    (kinds_from (path_bytes l.path) 0 [] (views l.initial.parts) ≡ kinds_from (path_bytes l.path) l.place l.schema (views l.parts))
    × (l.place + length (views l.parts) ≡ l.place-end)
