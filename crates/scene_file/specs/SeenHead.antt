-- How the code's head of a scene is seen.
use Rattle.scene_validate.specs.Seen.{lists_seen}
use Rattle.scene_file.specs.Walk.{Head}
use Rattle.scene_file.specs.declared.read_scene.SceneHead.{SceneHead}

-- what the code holds of the first five keys
abbrev pub head_seen : SceneHead → Head
head_seen h = record {
  children = lists_seen h.children.items;
  free = h.free.items;
  generations = h.generations.items;
  schema = h.schema;
  limit = h.limit;
}
