use Rattle.scene_file.proofs.OnlyTexts.{only_text}
use Rattle.scene_file.proofs.laws.only_texts_of_worlds_are_read.Goals as goal

pub returns : goal.returns
returns c = λ bytes w h. only_text bytes w h
