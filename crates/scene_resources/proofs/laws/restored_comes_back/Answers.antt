use Rattle.scene_resources.proofs.ResourceLaws.{restored_cells, restore_restores, put_restores, take_restores}
use Rattle.scene_resources.proofs.laws.restored_comes_back.Goals as goal

pub returns : goal.returns
returns c = record { cells = restored_cells; restored = restore_restores; put = put_restores; taken = take_restores }
