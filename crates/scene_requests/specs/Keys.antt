-- The keys of requests, by what they ask for, and those of the steps of a system (docs/SHELL.md, "Requests"). They stand
-- by their bytes.
use Rattle.std.specs.Prelude.{ℕ, List, [], ◌∷◌, codes, Option, Some, None, if◌then◌else◌}
use Rattle.std.specs.Str.{bytes_eq}
use Rattle.scene_script.specs.declared.form.LineForm.{LineForm}
use Rattle.scene_script.specs.declared.form.LineForm.TheVariants as form
use Rattle.scene_requests.specs.declared.step_name.StepName.{StepName}
use Rattle.scene_requests.specs.declared.step_name.StepName.TheVariants as step

-- the keys of a request; most have none but what they do
abbrev pub form_keys : LineForm → List (List ℕ)
form_keys form.Kind = codes "do" ∷ codes "name" ∷ codes "shape" ∷ []
form_keys form.Slots = codes "do" ∷ codes "limit" ∷ []
form_keys form.Load = codes "do" ∷ codes "text" ∷ []
form_keys form.Calls = codes "do" ∷ codes "limit" ∷ []
form_keys form.Depth = codes "do" ∷ codes "limit" ∷ []
form_keys form.Spawn = codes "cells" ∷ codes "do" ∷ []
form_keys form.Insert = codes "do" ∷ codes "entity" ∷ codes "kind" ∷ codes "value" ∷ []
form_keys form.Despawn = codes "do" ∷ codes "entity" ∷ []
form_keys form.Remove = codes "do" ∷ codes "entity" ∷ codes "kind" ∷ []
form_keys form.Parent = codes "child" ∷ codes "do" ∷ codes "parent" ∷ []
form_keys form.Unparent = codes "child" ∷ codes "do" ∷ []
form_keys form.DespawnAll = codes "do" ∷ codes "entity" ∷ []
form_keys form.DespawnIfAlive = codes "do" ∷ codes "entity" ∷ []
form_keys form.Put = codes "do" ∷ codes "name" ∷ codes "shape" ∷ codes "value" ∷ []
form_keys form.Drop = codes "do" ∷ codes "name" ∷ []
form_keys form.Get = codes "do" ∷ codes "entity" ∷ []
form_keys form.Undo = codes "count" ∷ codes "do" ∷ []
form_keys form.Redo = codes "count" ∷ codes "do" ∷ []
form_keys form.System = codes "do" ∷ codes "name" ∷ codes "need" ∷ codes "steps" ∷ codes "without" ∷ []
form_keys form.As = codes "do" ∷ codes "session" ∷ []
form_keys other = codes "do" ∷ []

-- the value of the key `step`
abbrev pub step_name : StepName → List ℕ
step_name step.AddVec = codes "addvec"
step_name step.AddInt = codes "addint"
step_name step.Zero = codes "zero"
step_name step.Child = codes "child"
step_name step.Count = codes "count"

-- the step of a name, where it is one of the five
abbrev pub step_named : List ℕ → Option StepName
step_named name =
    if bytes_eq name (step_name step.AddVec) then Some step.AddVec
    else if bytes_eq name (step_name step.AddInt) then Some step.AddInt
    else if bytes_eq name (step_name step.Zero) then Some step.Zero
    else if bytes_eq name (step_name step.Child) then Some step.Child
    else if bytes_eq name (step_name step.Count) then Some step.Count
    else None

-- the keys of such a step
abbrev pub step_keys : StepName → List (List ℕ)
step_keys step.AddVec = codes "by" ∷ codes "step" ∷ codes "to" ∷ []
step_keys step.AddInt = codes "by" ∷ codes "step" ∷ codes "to" ∷ []
step_keys step.Zero = codes "kind" ∷ codes "step" ∷ []
step_keys step.Child = codes "cells" ∷ codes "step" ∷ []
step_keys step.Count = codes "name" ∷ codes "step" ∷ []
