use Rattle.std.proofs.Common.{◌≡◌, subst, sym, ap, ◌∙◌}
use Rattle.scene_json.specs.View.{view}
use Rattle.scene_json_forms.specs.declared.fault.FileFault.{FileFault}
use Rattle.scene_json_forms.specs.Outcome.{IsTextFault}
use Rattle.scene_json_forms.specs.Paths.{path_bytes}
use Rattle.scene_json_forms.specs.Reading.{two_keys, under}
use Rattle.scene_json_forms.proofs.PathSteps.{path-Key}
use Rattle.scene_json_forms.proofs.TwoKeys.{first_faulty, other_faulty, two_good}
use Rattle.scene_json_forms.proofs.Walking.{handed_on}
use Rattle.scene_json_forms.proofs.object.two_keys.Goals as goal

pub returns-in_err-a : goal.returns-in_err-a
returns-in_err-a g c =
    let f = c.in_err-a.field-0.0 in
    let read = g.F.Form.word c.args.first.now in
    let next = g.G.Form.word c.args.second.now in
    let path = path_bytes c.args.path.now in
    let value = view c.in-Some.value in
    let whole = two_keys read c.args.key.now next c.args.other.now path (view c.args.object.now) in
    let fault : IsTextFault f (read (under path c.args.key.now) value) =
    subst (λ p. IsTextFault f (read p value)) (path-Key _ _) c.in_err-a.ensures in
    let first : IsTextFault f whole =
    first_faulty c.args.key.now c.args.other.now value (view c.in-Some.last) read next path (view c.args.object.now) f c.requires c.in-Some.ensures fault in
    handed_on (λ both. (g.F.Form.meant both.0, g.G.Form.meant both.1)) c.from_residual.result whole _ c.from_residual.ensures.1 (λ e same.
    let is : f ≡ e = cc in subst (λ (g : FileFault). IsTextFault g whole) is first)

pub returns-in_err-b : goal.returns-in_err-b
returns-in_err-b g c =
    let f = c.in_err-b.field-0.0 in
    let read = g.F.Form.word c.args.first.now in
    let next = g.G.Form.word c.args.second.now in
    let path = path_bytes c.args.path.now in
    let value = view c.in-Some.value in
    let last = view c.in-Some.last in
    let whole = two_keys read c.args.key.now next c.args.other.now path (view c.args.object.now) in
    let fault : IsTextFault f (next (under path c.args.other.now) last) =
    subst (λ p. IsTextFault f (next p last)) (path-Key _ _) c.in_err-b.ensures in
    let other : IsTextFault f whole =
    other_faulty c.args.key.now c.args.other.now value last read next path (view c.args.object.now) f _ c.requires c.in-Some.ensures
    (ap (λ p. read p value) (sym (path-Key _ _)) ∙ c.in_ok-a.ensures) fault in
    handed_on (λ both. (g.F.Form.meant both.0, g.G.Form.meant both.1)) c.from_residual-in_err-b.result whole _ c.from_residual-in_err-b.ensures.1 (λ e same.
    let is : f ≡ e = cc in subst (λ (g : FileFault). IsTextFault g whole) is other)

pub returns : goal.returns
returns g c =
    let read = g.F.Form.word c.args.first.now in
    let next = g.G.Form.word c.args.second.now in
    let value = view c.in-Some.value in
    let last = view c.in-Some.last in
    two_good c.args.key.now c.args.other.now value last read next (path_bytes c.args.path.now) (view c.args.object.now) _ _ c.requires c.in-Some.ensures
    (ap (λ p. read p value) (sym (path-Key _ _)) ∙ c.in_ok-a.ensures) (ap (λ p. next p last) (sym (path-Key _ _)) ∙ c.in_ok-b.ensures)
