-- Nothing but the texts of editors is read.
use Rattle.std.proofs.Common.{◌≡◌, ◌⊎◌, inl, inr, arith, ℕ, Bool, true, false, cond, List, [], ◌∷◌, ◌++◌, Option, Some, None, Result, Ok, Err, nat_eq, reverse, take, refl, ap, sym, subst, ◌∙◌, codes}
use Rattle.std.specs.Prelude.{IfOk}
use Rattle.std.proofs.lemmas.Bool.{eqb-true}
use Rattle.serde_json.specs.Data.{Data, Members}
use Rattle.serde_json.specs.Find.{get_member}
use Rattle.serde_json.specs.Read.{read}
use Rattle.scene_model.specs.World.{World}
use Rattle.scene_journal.specs.Records.{Record}
use Rattle.scene_journal.specs.FirstFaults.{first_fault}
use Rattle.scene_undo.specs.Editor.{EditorState}
use Rattle.scene_validate.specs.Parts.{Parts, parts_of, world_of}
use Rattle.scene_validate.specs.Rules.{first_broken}
use Rattle.scene_json_forms.specs.declared.fault.FileFault.{FileFault}
use Rattle.scene_json_forms.specs.declared.fault.FileFault.TheVariants.{BadRecord, BadVersion}
use Rattle.scene_json_forms.specs.Reading.{◌>>=◌, key_of, object_at}
use Rattle.scene_file_records.specs.Text.{records_text}
use Rattle.scene_file_records.specs.Walk.{records_at}
use Rattle.scene_file.specs.EditorLaws.{IsTextOf, IsWorldText, IsEditorText}
use Rattle.scene_file.specs.EditorScene.{editor_in, editor_of, editor_saved_as, if_fit, loaded_editor, with_records}
use Rattle.scene_file.specs.EditorText.{editor_parts_text}
use Rattle.scene_file.specs.EditorWalk.{Saved, editor_keys, first_saved, second_saved, saved_by, saved_in, saved_of}
use Rattle.scene_file.specs.Scene.{if_unbroken, json_in}
use Rattle.scene_file.specs.Text.{first_text, last_text, parts_text}
use Rattle.scene_file.specs.Walk.{head_of, tail_of, first_parts, version_of}
use Rattle.scene_json_forms.proofs.GoodSteps.{ok_after, ok_is}
use Rattle.scene_json_forms.proofs.ListsExact.{key_exact, object_was, object_is}
use Rattle.scene_json_forms.proofs.ReadValues.{IsRead, value_read}
use Rattle.scene_file_records.proofs.RecordsExact.{records_exact}
use Rattle.scene_file.proofs.OnlyTexts.{parts_kept, unbroken_was, value_was}
use Rattle.scene_file.proofs.SceneExact.{Rise, first_said, head_was, parts_stand, tail_was, version_found}

-- ---- version 2

-- parts and records that were read: their text is what stands there, and the lists of the parts rise
record AreSaved (d : Data) (s : Saved) : Type 0 where
  text : d ≡ editor_parts_text s.parts s.past s.future
  rising : Rise s.parts

second_said : (d : Data) (s : Saved) → IsRead d → version_of d ≡ Ok 2 → second_saved d ≡ Ok s → AreSaved d s
second_said d s r v h =
    let o = ok_after (object_at editor_keys [] d) saved_of s h in
    let ms : Members = o.0 in
    let w = object_was editor_keys [] d ms r o.1 in
    let k0 = ok_after (head_of ms) (λ head. key_of (records_at head.schema) [] (codes "redo") ms >>= λ future. tail_of head ms
    >>= λ parts. key_of (records_at parts.schema) [] (codes "undo") ms >>= λ past. Ok (record { parts = parts; past = past; future = future })) s o.2 in
    let k1 = ok_after (key_of (records_at k0.0.schema) [] (codes "redo") ms) (λ future. tail_of k0.0 ms
    >>= λ parts. key_of (records_at parts.schema) [] (codes "undo") ms >>= λ past. Ok (record { parts = parts; past = past; future = future })) s k0.2 in
    let k2 = ok_after (tail_of k0.0 ms)
    (λ parts. key_of (records_at parts.schema) [] (codes "undo") ms >>= λ past. Ok (record { parts = parts; past = past; future = k1.0 })) s k1.2 in
    let p : Parts = k2.0 in
    let k3 = ok_after (key_of (records_at p.schema) [] (codes "undo") ms) (λ past. Ok (record { parts = p; past = past; future = k1.0 })) s k2.2 in
    let head = head_was ms k0.0 w.read k0.1 in
    let at = parts_stand ms k0.0 p head (tail_was ms k0.0 p w.read head.few k2.1) in
    let redo : get_member (codes "redo") ms ≡ Some (records_text k1.0) =
    key_exact (records_at k0.0.schema) records_text (records_exact k0.0.schema) [] (codes "redo") ms k1.0 w.read k1.1 in
    let undo : get_member (codes "undo") ms ≡ Some (records_text k3.0) =
    key_exact (records_at p.schema) records_text (records_exact p.schema) [] (codes "undo") ms k3.0 w.read k3.1 in
    let text : d ≡ editor_parts_text p k3.0 k1.0 =
    object_is (first_text p ++ ((codes "redo", records_text k1.0) ∷ (last_text 2 p ++ ((codes "undo", records_text k3.0) ∷ [])))) d ms w
    (tt, (refl, (refl, (refl, (refl, (refl, (refl, (refl, (refl, (refl, (refl, tt))))))))))) (
      at.head.children,
      (
        at.head.free,
        (
          at.head.generations,
          (
            at.head.schema,
            (
              at.head.limit,
              (redo, (at.tail.resources, (version_found editor_keys d ms 2 w v, (at.tail.tables, (at.tail.tick, (undo, tt)))))),
            ),
          ),
        ),
      ),
    ) in
    subst (λ (x : Saved). AreSaved d x) (ok_is (record { parts = p; past = k3.0; future = k1.0 }) s k3.2)
    (record { text = text; rising = at.rising })

-- ---- both versions

-- what was read of a text of either version
of_version : (b c : Bool) (n : ℕ) (x y : Result Saved FileFault) (s : Saved) → cond b x (cond c y (Err (BadVersion n))) ≡ Ok s
    → ((b ≡ true) × (x ≡ Ok s)) ⊎ ((c ≡ true) × (y ≡ Ok s))
of_version true c n x y s h = inl (refl, h)
of_version false true n x y s h = inr (refl, h)
of_version false false n x y s h = absurd (let k : ◌≡◌ {A = Result Saved FileFault} (Err (BadVersion n)) (Ok s) = h in cc)

fit_was : (o : Option (ℕ × ℕ)) (a e : EditorState) → if_fit o a ≡ Ok e → a ≡ e
fit_was None a e h = ok_is a e h
fit_was (Some p) a e h = absurd (let k : ◌≡◌ {A = Result EditorState FileFault} (Err (BadRecord p.0 p.1)) (Ok e) = h in cc)

-- nothing is left of no records
none_kept : (depth : ℕ) → ◌≡◌ {A = List Record} (take depth []) []
none_kept depth = grind arith

module _ (depth : ℕ) (bytes : List ℕ) (d : Data) (was : read bytes ≡ Some d) (w : World) where
  -- the text of parts is that of their world
  own_parts : (p : Parts) → Rise p → first_broken p ≡ None → world_of p ≡ w → p ≡ parts_of w
  own_parts p rise none made = sym (parts_kept p rise none) ∙ ap parts_of made

  of_first : (s : Saved) → version_of d ≡ Ok 1 → first_saved d ≡ Ok s → first_broken s.parts ≡ None → world_of s.parts ≡ w
      → IsWorldText bytes (editor_of depth s.past s.future w)
  of_first s v h none made =
      let p = ok_after (first_parts d) (λ parts. Ok (record { parts = parts; past = []; future = [] })) s h in
      let same : ◌≡◌ {A = Saved} (record { parts = p.0; past = []; future = [] }) s = ok_is (record { parts = p.0; past = []; future = [] }) s p.2 in
      let said = first_said d p.0 (value_read bytes d was) v p.1 in
      let own : p.0 ≡ parts_of w = own_parts p.0 said.rising (ap (λ (x : Saved). first_broken x.parts) same ∙ none)
      (ap (λ (x : Saved). world_of x.parts) same ∙ made) in
      record {
        value = was ∙ ap (λ x. Some x) (said.text ∙ ap parts_text own);
        no_past = ap (λ (x : Saved). take depth (reverse x.past)) (sym same) ∙ none_kept depth;
        no_future = ap (λ (x : Saved). x.future) (sym same);
      }

  of_second : (s : Saved) → version_of d ≡ Ok 2 → second_saved d ≡ Ok s → first_broken s.parts ≡ None → world_of s.parts ≡ w
      → IsEditorText bytes (editor_of depth s.past s.future w)
  of_second s v h none made =
      let said = second_said d s (value_read bytes d was) v h in
      let own : s.parts ≡ parts_of w = own_parts s.parts said.rising none made in
      record {
        past = s.past;
        value = was ∙ ap (λ x. Some x) (said.text ∙ ap (λ p. editor_parts_text p s.past s.future) own);
        kept = refl;
      }

  of_either : (s : Saved) → saved_in d ≡ Ok s → first_broken s.parts ≡ None → world_of s.parts ≡ w
      → IsTextOf bytes (editor_of depth s.past s.future w)
  of_either s h none made =
      let a = ok_after (version_of d) (λ version. saved_by version d) s h in
      elim (of_version (nat_eq a.0 1) (nat_eq a.0 2) a.0 (first_saved d) (second_saved d) s a.2)
      as (λ x. IsTextOf bytes (editor_of depth s.past s.future w)) [
        | inl one ↦ inl (of_first s (a.1 ∙ ap (λ n. Ok n) (eqb-true a.0 1 one.0)) one.1 none made)
        | inr two ↦ inr (of_second s (a.1 ∙ ap (λ n. Ok n) (eqb-true a.0 2 two.0)) two.1 none made)
      ]

-- the value of bytes that are read as an editor is the editor's own
pub only_editor_text : (depth : ℕ) (bytes : List ℕ) (e : EditorState) → loaded_editor depth bytes ≡ Ok e → IsTextOf bytes e
only_editor_text depth bytes e h =
    let j = ok_after (json_in bytes) (editor_in depth) e h in
    let s = ok_after (saved_in j.0) (editor_saved_as depth) e j.2 in
    let u = ok_after (if_unbroken (first_broken s.0.parts) s.0.parts) (with_records depth s.0.past s.0.future) e s.2 in
    let v = unbroken_was (first_broken s.0.parts) s.0.parts u.0 u.1 in
    let same : editor_of depth s.0.past s.0.future u.0 ≡ e =
    fit_was (first_fault (reverse s.0.past) s.0.future u.0) (editor_of depth s.0.past s.0.future u.0) e u.2 in
    subst (IsTextOf bytes) same (of_either depth bytes j.0 (value_was bytes j.0 j.1) u.0 s.0 s.1 v.0 v.1)

-- of an answer, where it is an editor
pub if_editor_text : (depth : ℕ) (bytes : List ℕ) (r : Result EditorState FileFault) → IfOk r (λ e. loaded_editor depth bytes ≡ Ok e)
    → IfOk r (IsTextOf bytes)
if_editor_text depth bytes (Ok e) h = only_editor_text depth bytes e h
if_editor_text depth bytes (Err f) h = tt
