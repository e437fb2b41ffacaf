use Rattle.std.proofs.Common.{◌≡◌, [], ap, subst, ◌∙◌, rules}
use Rattle.std.specs.Str.{IsUtf8}
use Rattle.json.specs.Lex.{tokens}
use Rattle.scene_file.specs.SeenEditor.{saved_seen}
use Rattle.scene_file.specs.Taken.{IsScene}
use Rattle.scene_file.proofs.SceneTaken.{text_taken}
use Rattle.scene_file.proofs.usual_scene.usual_saved.Goals as goal

pub returns : goal.returns
returns c =
    let text = c.args.text.now in
    let saved = saved_seen c.in_ok-saved.saved in
    let same : c.in-Ok.text.now ≡ text = search rules in
    let utf8 : IsUtf8 text = search rules in
    let ended : c.take_scene.new.reader ≡ [] = search rules in
    let begun : c.in-Ok-new.reader ≡ tokens c.in-Ok.text.now = search rules in
    text_taken text saved c.take_scene.new.reader utf8 ended
    (subst (λ ts. IsScene ts c.take_scene.new.reader saved) (begun ∙ ap tokens same) c.in_ok-saved.ensures)
