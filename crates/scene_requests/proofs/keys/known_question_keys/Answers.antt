use Rattle.std.proofs.Common.{◌≡◌, ◌⊎◌, inl, inr, refl, subst, sym}
use Rattle.scene_json.specs.View.{view}
use Rattle.scene_json_forms.specs.Members.{members_in}
use Rattle.scene_json_forms.specs.Outcome.{ReadsAs}
use Rattle.scene_json_forms.specs.Paths.{path_bytes}
use Rattle.scene_json_forms.specs.Reading.{object_at}
use Rattle.scene_requests.specs.declared.request_form.QuestionForm.{QuestionForm}
use Rattle.scene_requests.specs.declared.request_form.QuestionForm.TheVariants.{AddedSince, ChangedSince}
use Rattle.scene_requests.specs.Asked.{question_keys}
use Rattle.scene_requests.proofs.keys.known_question_keys.Goals as goal

-- both have the same keys
same_keys : (form : QuestionForm) → (form ≡ ChangedSince) ⊎ (form ≡ AddedSince) → question_keys ChangedSince ≡ question_keys form
same_keys form (inl is) = subst (λ f. question_keys ChangedSince ≡ question_keys f) (sym is) refl
same_keys form (inr is) = subst (λ f. question_keys ChangedSince ≡ question_keys f) (sym is) refl

pub returns-in-ChangedSince : goal.returns-in-ChangedSince
returns-in-ChangedSince c =
    subst (λ keys. ReadsAs (λ _. members_in (view c.args.value.now)) c.object_at-in-ChangedSince.result
    (object_at keys (path_bytes c.args.path.now) (view c.args.value.now))) (same_keys c.args.form c.in-ChangedSince.is) c.object_at-in-ChangedSince.ensures
