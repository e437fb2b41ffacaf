-- The numbers, names and texts of faults, places and refusals.
use Rattle.std.specs.Prelude.{ℕ, List, ◌++◌, Option, Some, None, codes, decimal}
use Rattle.scene_kinds.specs.declared.fault.Fault.{Fault}
use Rattle.scene_kinds.specs.declared.fault.Fault.TheVariants.{NoSuchEntity, HasChildren, NotPresent, WrongShape, NoSuchKind, DuplicateKind, SelfParent, Cycle, NoParent, NoSuchResource, EntitiesFull, BadLocal, TickFull, Overflow, NothingToUndo, NothingToRedo, HistoryFull, Rewound, Busy, NoMemory, Conflict, BadRule, OtherSchema, QueueFull, BadName, KindTaken, KindsFull, BadWorld, BadRecord}
use Rattle.scene_kinds.specs.declared.refusal.Place.{Place}
use Rattle.scene_kinds.specs.declared.refusal.Refusal.{Refusal}
use Rattle.scene_kinds.specs.Entity.{entity_text}

-- a fault's number, whatever its fields
abbrev pub fault_number : Fault → ℕ
fault_number NoSuchEntity = 1
fault_number HasChildren = 2
fault_number NotPresent = 3
fault_number WrongShape = 4
fault_number NoSuchKind = 5
fault_number DuplicateKind = 6
fault_number SelfParent = 7
fault_number Cycle = 8
fault_number NoParent = 9
fault_number NoSuchResource = 10
fault_number EntitiesFull = 11
fault_number BadLocal = 12
fault_number TickFull = 13
fault_number (Overflow e) = 14
fault_number NothingToUndo = 15
fault_number NothingToRedo = 16
fault_number (HistoryFull n) = 17
fault_number (Rewound n) = 18
fault_number Busy = 19
fault_number NoMemory = 20
fault_number (Conflict phase first second) = 21
fault_number (BadRule phase system) = 22
fault_number OtherSchema = 23
fault_number QueueFull = 24
fault_number BadName = 30
fault_number KindTaken = 31
fault_number KindsFull = 32
fault_number (BadWorld rule) = 40
fault_number (BadRecord frame delta) = 41

-- a fault's name, whatever its fields
abbrev pub fault_name : Fault → List ℕ
fault_name NoSuchEntity = codes "NoSuchEntity"
fault_name HasChildren = codes "HasChildren"
fault_name NotPresent = codes "NotPresent"
fault_name WrongShape = codes "WrongShape"
fault_name NoSuchKind = codes "NoSuchKind"
fault_name DuplicateKind = codes "DuplicateKind"
fault_name SelfParent = codes "SelfParent"
fault_name Cycle = codes "Cycle"
fault_name NoParent = codes "NoParent"
fault_name NoSuchResource = codes "NoSuchResource"
fault_name EntitiesFull = codes "EntitiesFull"
fault_name BadLocal = codes "BadLocal"
fault_name TickFull = codes "TickFull"
fault_name (Overflow e) = codes "Overflow"
fault_name NothingToUndo = codes "NothingToUndo"
fault_name NothingToRedo = codes "NothingToRedo"
fault_name (HistoryFull n) = codes "HistoryFull"
fault_name (Rewound n) = codes "Rewound"
fault_name Busy = codes "Busy"
fault_name NoMemory = codes "NoMemory"
fault_name (Conflict phase first second) = codes "Conflict"
fault_name (BadRule phase system) = codes "BadRule"
fault_name OtherSchema = codes "OtherSchema"
fault_name QueueFull = codes "QueueFull"
fault_name BadName = codes "BadName"
fault_name KindTaken = codes "KindTaken"
fault_name KindsFull = codes "KindsFull"
fault_name (BadWorld rule) = codes "BadWorld"
fault_name (BadRecord frame delta) = codes "BadRecord"

-- the number and the name, and what follows
abbrev pub labelled : Fault → List ℕ → List ℕ
labelled f rest = decimal (fault_number f) ++ (codes " " ++ (fault_name f ++ rest))

-- the number and the name, and then the fault's fields, each after a space
abbrev pub fault_text : Fault → List ℕ
fault_text (Overflow e) = labelled (Overflow e) (codes " " ++ entity_text e.index e.generation)
fault_text (HistoryFull n) = labelled (HistoryFull n) (codes " " ++ decimal n)
fault_text (Rewound n) = labelled (Rewound n) (codes " " ++ decimal n)
fault_text (Conflict phase first second) =
    labelled (Conflict phase first second) (codes " " ++ (decimal phase ++ (codes " " ++ (decimal first ++ (codes " " ++ decimal second)))))
fault_text (BadRule phase system) = labelled (BadRule phase system) (codes " " ++ (decimal phase ++ (codes " " ++ decimal system)))
fault_text (BadWorld rule) = labelled (BadWorld rule) (codes " " ++ decimal rule)
fault_text (BadRecord frame delta) = labelled (BadRecord frame delta) (codes " " ++ (decimal frame ++ (codes " " ++ decimal delta)))
fault_text f = decimal (fault_number f) ++ (codes " " ++ fault_name f)

-- phase, queue and command, in words
abbrev pub place_text : Place → List ℕ
place_text p = codes "phase " ++ (decimal p.phase ++ (codes ", queue " ++ (decimal p.queue ++ (codes ", command " ++ decimal p.command))))

-- the fault, and then the place where there is one
abbrev pub placed_text : Fault → Option Place → List ℕ
placed_text f None = fault_text f
placed_text f (Some p) = fault_text f ++ (codes " at " ++ place_text p)

-- what a refusal says: the fault, and its place in words
abbrev pub refusal_text : Refusal → List ℕ
refusal_text r = placed_text r.fault r.place
