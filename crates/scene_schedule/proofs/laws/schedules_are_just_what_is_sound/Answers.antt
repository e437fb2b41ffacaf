use Rattle.scene_schedule.proofs.Sounds.{schedules_sound, sound_schedules}
use Rattle.scene_schedule.proofs.laws.schedules_are_just_what_is_sound.Goals as goal

pub returns : goal.returns
returns c = λ s. (schedules_sound s, sound_schedules s)
