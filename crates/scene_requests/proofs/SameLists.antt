-- Items that are seen as they are.
use Rattle.std.proofs.Common.{◌≡◌, List, Result, Ok, ap, ◌∙◌, map as each}
use Rattle.std.proofs.lemmas.List.{map-id}
use Rattle.scene_json_forms.specs.declared.fault.FileFault.{FileFault}

-- what is read as a list of them is read as that list
pub kept : {A : Type 0} (r : Result (List A) FileFault) (xs : List A) → r ≡ Ok (each (λ x. x) xs) → r ≡ Ok xs
kept r xs h = h ∙ ap Ok (map-id xs)
