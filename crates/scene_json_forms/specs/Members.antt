-- The members of an object.
pub use Rattle.scene_json.specs.Keys.{members_in}
