use Rattle.std.proofs.Common.{◌≡◌, Some, codes, rules}
use Rattle.json.specs.Json.{read_key}
use Rattle.scene_file.specs.SeenEditor.{saved_seen}
use Rattle.scene_file.specs.SeenHead.{head_seen}
use Rattle.scene_json_tokens.proofs.FewNumbers.{if_some}
use Rattle.scene_file.proofs.SceneTaken.{first_taken, second_taken}
use Rattle.scene_file.proofs.usual_scene.take_scene.Goals as goal

pub returns-in-resources : goal.returns-in-resources
returns-in-resources c =
    let key : read_key c.take_head.new.reader ≡ Some (Some (codes "resources"), c.next_key.new.self) = search rules in
    if_some c.take_first.result (λ saved first. first_taken (head_seen c.in_ok-head.head) c.args.reader.now c.take_object.new.reader
    c.take_head.new.reader c.next_key.new.self c.take_first.new.reader (saved_seen saved) c.in_ok-take_object.ensures c.in_ok-head.ensures key first)
    c.take_first.ensures

pub returns-in-redo : goal.returns-in-redo
returns-in-redo c =
    let key : read_key c.take_head.new.reader ≡ Some (Some (codes "redo"), c.next_key.new.self) = search rules in
    if_some c.take_second.result (λ saved second. second_taken (head_seen c.in_ok-head.head) c.args.reader.now c.take_object.new.reader
    c.take_head.new.reader c.next_key.new.self c.take_second.new.reader (saved_seen saved) c.in_ok-take_object.ensures c.in_ok-head.ensures key second)
    c.take_second.ensures
