use Rattle.scene_file.proofs.usual_scene.take_second.Goals as goal

pub returns : goal.returns
returns c = (
  c.take_value.new.reader,
  c.take_key.new.reader,
  c.take_tail.new.reader,
  c.take_member.new.reader,
  c.in_ok-future.ensures,
  c.in_ok-take_key.ensures,
  c.in_ok-parts.ensures,
  c.in_ok-past.ensures,
  c.in_ok-take_object_end.ensures,
)
