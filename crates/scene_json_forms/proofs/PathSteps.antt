-- The bytes of a path, step by step.
use Rattle.std.proofs.Common.{◌≡◌, ℕ, Bor, List, rules}
use Rattle.scene_json_forms.specs.declared.path.Path.{Path, Item, Key, the_lemmas}
use Rattle.scene_json_forms.specs.Paths.{path_bytes}
use Rattle.scene_json_forms.specs.Reading.{place_in, under}

pub path-Item : (above : Bor Path) (i : ℕ) → path_bytes (Item above i) ≡ place_in (path_bytes above.now) i
path-Item above i = search (rules, the_lemmas)

pub path-Key : (above : Bor Path) (key : Bor (List ℕ)) → path_bytes (Key above key) ≡ under (path_bytes above.now) key.now
path-Key above key = search (rules, the_lemmas)
