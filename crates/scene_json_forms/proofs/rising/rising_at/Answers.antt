use Rattle.std.proofs.Common.{◌≡◌, ◌-◌, ◌++◌, [], ◌∷◌, true, None, Ok, ap, sym, ◌∙◌, length, slice_get, rules, map as each}
use Rattle.scene_json.specs.View.{view, views}
use Rattle.scene_json_forms.specs.Paths.{path_bytes}
use Rattle.scene_json_forms.specs.Reading.{may_follow, place_in, rising_at}
use Rattle.scene_json_forms.proofs.Lists.{risen_on}
use Rattle.scene_json_forms.proofs.PathSteps.{path-Item}
use Rattle.scene_json_forms.proofs.rising.rising_at.Goals as goal

pub parts-preserved : goal.parts-preserved
parts-preserved g c =
    let items = c.parts.items.items in
    let part = c.in-Some.part in
    let grown : c.push.new.self.items ≡ items ++ c.in_ok-item.item ∷ [] = search rules in
    let above : may_follow g.F.Form.follows (slice_get (each g.F.Form.meant items) (length items - 1)) (g.F.Form.meant c.in_ok-item.item) ≡ true =
    search rules in
    let count : c.len.result ≡ length items = search rules in
    let read : g.F.Form.word c.args.form.now (place_in (path_bytes c.args.path.now) (length items)) (view part) ≡ Ok (g.F.Form.meant c.in_ok-item.item) =
    ap (λ n. g.F.Form.word c.args.form.now (place_in (path_bytes c.args.path.now) n) (view part)) (sym count)
    ∙ ap (λ p. g.F.Form.word c.args.form.now p (view part)) (sym (path-Item _ c.len.result)) ∙ c.in_ok-item.ensures in
    risen_on (g.F.Form.word c.args.form.now) (path_bytes c.args.path.now) g.F.Form.follows g.F.Form.meant
    (rising_at (g.F.Form.word c.args.form.now) g.F.Form.follows (path_bytes c.args.path.now) 0 None (views c.args.parts))
    items c.push.new.self.items c.in_ok-item.item (view part) (views c.parts.parts) (views c.next.new.self)
    grown c.in-Some.ensures c.parts.invariant read above
