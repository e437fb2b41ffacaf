use Rattle.std.proofs.Common.{subst, sym}
use Rattle.scene_json.specs.View.{view}
use Rattle.scene_json_forms.specs.Members.{members_in}
use Rattle.scene_json_forms.specs.Outcome.{ReadsAs}
use Rattle.scene_json_forms.specs.Paths.{path_bytes}
use Rattle.scene_json_forms.specs.Reading.{object_at}
use Rattle.scene_script.specs.declared.form.LineForm.{LineForm}
use Rattle.scene_requests.specs.Keys.{form_keys}
use Rattle.scene_requests.proofs.keys.known_form_keys.Goals as goal

pub returns-in-System : goal.returns-in-System
returns-in-System c =
    subst (λ (form : LineForm). ReadsAs (λ _. members_in (view c.args.value.now)) c.object_at-in-System.result
    (object_at (form_keys form) (path_bytes c.args.path.now) (view c.args.value.now))) (sym c.in-System.is) c.object_at-in-System.ensures
