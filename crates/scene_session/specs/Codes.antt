-- How machines with their records are told apart.
use Rattle.std.specs.Prelude.{ℕ, List, [], refl}
use Rattle.std.specs.Coded.{Coded, code_by, coded×, coded_list, coded_ℕ}
use Rattle.scene_kinds.specs.Map as map
use Rattle.scene_model.specs.World.{World}
use Rattle.scene_world.specs.contracts.world.World as world
use Rattle.scene_world.specs.Room.{Housed}
use Rattle.scene_machine.specs.Machine.{Machine}
use Rattle.scene_journal.specs.contracts.record.FrameRecord as frame_record
use Rattle.scene_journal.specs.Records.{Record}
use Rattle.scene_session.specs.Whole.{Whole}

-- a world is told apart as one with no room
abbrev pub world_code : Coded World
world_code = code_by Housed world.the_row.coded
    (λ w. record { world = w; room = record { slots = 0; rows = map.empty; homes = 0; lists = []; names = [] } }) (λ h. h.world) (λ _. refl)

-- a machine by its parts
abbrev pub machine_code : Coded (Machine World)
machine_code = code_by (List World × (World × (List World × (ℕ × ℕ))))
    (coded× (coded_list world_code) (coded× world_code (coded× (coded_list world_code) (coded× coded_ℕ coded_ℕ))))
    (λ m. (m.past, (m.now, (m.future, (m.rewinds, m.depth)))))
    (λ p. record { past = p.0; now = p.1.0; future = p.1.1.0; rewinds = p.1.1.1.0; depth = p.1.1.1.1 }) (λ _. refl)

-- a machine with its records
abbrev pub whole_code : Coded Whole
whole_code = code_by (Machine World × (List Record × List Record))
    (coded× machine_code (coded× (coded_list frame_record.the_row.coded) (coded_list frame_record.the_row.coded)))
    (λ w. (w.machine, (w.past, w.future))) (λ p. record { machine = p.0; past = p.1.0; future = p.1.1 }) (λ _. refl)
