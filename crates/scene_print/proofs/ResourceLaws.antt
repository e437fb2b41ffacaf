-- The resources of all names are all resources.
use Rattle.std.proofs.Common.{◌≡◌, refl}
use Rattle.scene_resources.specs.Resources.{NamedCells, names_of}
use Rattle.scene_json_forms.proofs.FoundCells.{all_names}
use Rattle.scene_print.specs.Shown.{resources_text}
use Rattle.scene_print.specs.ShowSteps.{one_resource, named_text}

pub named_whole : (r : NamedCells) → named_text r (names_of r) ≡ resources_text r.entries
named_whole r = all_names one_resource resources_text refl (λ e es. refl) r
