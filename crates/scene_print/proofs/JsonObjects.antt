-- The texts of objects, member by member.
use Rattle.std.proofs.Common.{◌≡◌, ℕ, List, ◌++◌, Option, Some, None, append_assoc, refl, ap, sym, ◌∙◌}
use Rattle.std.specs.Prelude.{codes, decimal, true}
use Rattle.serde_json.proofs.OnLiterals.{serde_json_on_literals}
use Rattle.serde_json.specs.Data.{Data, string}
use Rattle.serde_json.specs.Written.{compact_text, members_text}
use Rattle.scene_kinds.specs.declared.cells.Row.{Row}
use Rattle.scene_kinds.specs.declared.fault.Fault.{Fault}
use Rattle.scene_kinds.specs.declared.fault.Fault.TheVariants.{NoSuchEntity, HasChildren, NotPresent, WrongShape, NoSuchKind, DuplicateKind, SelfParent, Cycle, NoParent, NoSuchResource, EntitiesFull, BadLocal, TickFull, Overflow, NothingToUndo, NothingToRedo, HistoryFull, Rewound, Busy, NoMemory, Conflict, BadRule, OtherSchema, QueueFull, BadName, KindTaken, KindsFull, BadWorld, BadRecord}
use Rattle.scene_kinds.specs.declared.refusal.Place.{Place}
use Rattle.scene_kinds.specs.declared.refusal.Refusal.{Refusal}
use Rattle.scene_kinds.specs.Fault.{fault_number, fault_name}
use Rattle.scene_kinds.specs.Schema.{Kinds}
use Rattle.scene_links.specs.Forest.{parents}
use Rattle.scene_model.specs.World.{World, kind_sets}
use Rattle.scene_pass.specs.declared.cell_name.CellName.{CellName}
use Rattle.scene_table.specs.Tables.{rows_at}
use Rattle.scene_json_forms.specs.declared.fault.FileFault.{FileFault}
use Rattle.scene_json_forms.specs.declared.fault.FileFault.TheVariants as file
use Rattle.scene_json_forms.specs.Fault.{file_number, file_name}
use Rattle.scene_json_forms.specs.Text.{count_text, entity_json, list_text, members_of}
use Rattle.scene_print.specs.JsonObjects.{answer_of, object_by}
use Rattle.scene_print.specs.JsonShown.{cell_member, cell_name_json, children_member, kind_json, kinds_json, listed_answer, resource_member, row_answer, row_json, table_of, world_answer}
use Rattle.scene_print.specs.JsonSteps.{fields_text, file_fields, first_members, head_text, last_members, place_text, row_text}
use Rattle.scene_print.specs.JsonTold.{fault_members, file_fault_json, file_members, named_members, place_members, refused_json}

-- ---- refusals and faults

-- the members of a place, with the brace behind them
placed : (p : Option Place) → members_text true (members_of (place_members p)) ≡ place_text p ++ codes "}"
unfolding serde_json_on_literals
placed None = refl
placed (Some p) = refl

-- the fields of a fault before other members
fields : (f : Fault) (ms : List (List ℕ × Data)) → members_text true (members_of (fault_members f ++ ms)) ≡ fields_text f ++ members_text true (members_of ms)
unfolding serde_json_on_literals
fields (Overflow e) ms = refl
fields (HistoryFull n) ms = refl
fields (Rewound n) ms = refl
fields (Conflict phase first second) ms =
    let rest : List ℕ = members_text true (members_of ms) in
    let two : List ℕ = codes ",\"second\":" ++ decimal second in
    let one : List ℕ = codes ",\"first\":" ++ (decimal first ++ two) in
    sym (ap (λ t. codes ",\"phase\":" ++ t) (append_assoc (decimal phase) one rest
    ∙ ap (λ t. decimal phase ++ (codes ",\"first\":" ++ t)) (append_assoc (decimal first) two rest)))
fields (BadRule phase system) ms =
    let rest : List ℕ = members_text true (members_of ms) in
    sym (ap (λ t. codes ",\"phase\":" ++ t) (append_assoc (decimal phase) (codes ",\"system\":" ++ decimal system) rest))
fields (BadWorld rule) ms = refl
fields (BadRecord frame delta) ms =
    let rest : List ℕ = members_text true (members_of ms) in
    sym (ap (λ t. codes ",\"frame\":" ++ t) (append_assoc (decimal frame) (codes ",\"delta\":" ++ decimal delta) rest))
fields f ms = refl

-- the head of a refusal: its fault by number and name
abbrev Heads : Fault → List (List ℕ × Data) → Type 0
Heads f ms = compact_text (answer_of (codes "refused") (named_members (fault_number f) (fault_name f) ++ ms))
    ≡ codes "{\"answer\":\"refused\",\"number\":" ++ (decimal (fault_number f) ++ (codes ",\"name\":\"" ++ (fault_name f
    ++ (codes "\"" ++ members_text true (members_of ms)))))

headed : (f : Fault) (ms : List (List ℕ × Data)) → Heads f ms
unfolding serde_json_on_literals
headed NoSuchEntity ms = refl
headed (HistoryFull n) ms = refl
headed (Conflict phase first second) ms = refl
headed HasChildren ms = refl
headed NotPresent ms = refl
headed WrongShape ms = refl
headed NoSuchKind ms = refl
headed DuplicateKind ms = refl
headed SelfParent ms = refl
headed Cycle ms = refl
headed NoParent ms = refl
headed NoSuchResource ms = refl
headed EntitiesFull ms = refl
headed BadLocal ms = refl
headed TickFull ms = refl
headed (Overflow e) ms = refl
headed NothingToUndo ms = refl
headed NothingToRedo ms = refl
headed (Rewound n) ms = refl
headed Busy ms = refl
headed NoMemory ms = refl
headed (BadRule phase system) ms = refl
headed OtherSchema ms = refl
headed QueueFull ms = refl
headed BadName ms = refl
headed KindTaken ms = refl
headed KindsFull ms = refl
headed (BadWorld rule) ms = refl
headed (BadRecord frame delta) ms = refl

-- what follows a head
behind_head : (lead : List ℕ) (number : ℕ) (name rest : List ℕ)
    → (lead ++ (decimal number ++ (codes ",\"name\":\"" ++ (name ++ codes "\"")))) ++ rest
    ≡ lead ++ (decimal number ++ (codes ",\"name\":\"" ++ (name ++ (codes "\"" ++ rest))))
behind_head lead number name rest = append_assoc lead (decimal number ++ (codes ",\"name\":\"" ++ (name ++ codes "\""))) rest
    ∙ ap (λ t. lead ++ t) (append_assoc (decimal number) (codes ",\"name\":\"" ++ (name ++ codes "\"")) rest
    ∙ ap (λ t. decimal number ++ (codes ",\"name\":\"" ++ t)) (append_assoc name (codes "\"") rest))

pub refused_is : (r : Refusal) → compact_text (refused_json r)
    ≡ head_text (codes "refused") (fault_number r.fault) (fault_name r.fault) ++ (fields_text r.fault ++ (place_text r.place ++ codes "}"))
refused_is r =
    let members = fault_members r.fault ++ place_members r.place in
    let number = fault_number r.fault in
    let name = fault_name r.fault in
    headed r.fault members ∙ sym (behind_head (codes "{\"answer\":\"refused\",\"number\":") number name (members_text true (members_of members)))
    ∙ ap (λ t. head_text (codes "refused") number name ++ t)
    (fields r.fault (place_members r.place) ∙ ap (λ t. fields_text r.fault ++ t) (placed r.place))

-- the fields of the fault of a scene text, with the brace behind them
file_closed : (f : FileFault) → members_text true (members_of (file_members f)) ≡ file_fields f ++ codes "}"
unfolding serde_json_on_literals
file_closed (file.BadRecord frame delta) =
    sym (ap (λ t. codes ",\"frame\":" ++ t) (append_assoc (decimal frame) (codes ",\"delta\":" ++ decimal delta) (codes "}")))
file_closed file.NoMemory = refl
file_closed (file.BadWorld rule) = refl
file_closed file.NotJson = refl
file_closed (file.UnknownKey path) = refl
file_closed (file.BadField path) = refl
file_closed (file.BadVersion version) = refl
file_closed file.ReadFault = refl
file_closed file.WriteFault = refl
file_closed file.TooLong = refl

-- the head of the fault of a scene text: its number and name
abbrev FileHeads : FileFault → List (List ℕ × Data) → Type 0
FileHeads f ms = compact_text (answer_of (codes "fault") (named_members (file_number f) (file_name f) ++ ms))
    ≡ codes "{\"answer\":\"fault\",\"number\":" ++ (decimal (file_number f) ++ (codes ",\"name\":\"" ++ (file_name f
    ++ (codes "\"" ++ members_text true (members_of ms)))))

file_headed : (f : FileFault) (ms : List (List ℕ × Data)) → FileHeads f ms
unfolding serde_json_on_literals
file_headed file.NoMemory ms = refl
file_headed (file.BadWorld rule) ms = refl
file_headed (file.BadRecord frame delta) ms = refl
file_headed file.NotJson ms = refl
file_headed (file.UnknownKey path) ms = refl
file_headed (file.BadField path) ms = refl
file_headed (file.BadVersion version) ms = refl
file_headed file.ReadFault ms = refl
file_headed file.WriteFault ms = refl
file_headed file.TooLong ms = refl

pub file_fault_is : (f : FileFault) → compact_text (file_fault_json f)
    ≡ head_text (codes "fault") (file_number f) (file_name f) ++ (file_fields f ++ codes "}")
file_fault_is f =
    file_headed f (file_members f)
    ∙ sym (behind_head (codes "{\"answer\":\"fault\",\"number\":") (file_number f) (file_name f) (members_text true (members_of (file_members f))))
    ∙ ap (λ t. head_text (codes "fault") (file_number f) (file_name f) ++ t) (file_closed f)

-- ---- rows and lists of cells

pub cell_name_is : (kinds : Kinds) (c : CellName) → compact_text (cell_name_json kinds c)
    ≡ codes "{\"entity\":" ++ (compact_text (entity_json c.entity) ++ (codes ",\"kind\":" ++ (compact_text (kind_json kinds c.kind) ++ codes "}")))
unfolding serde_json_on_literals
cell_name_is kinds c = refl

pub listed_is : (word : List ℕ) (kinds : Kinds) (cells : List CellName) → compact_text (listed_answer word kinds cells)
    ≡ codes "{\"answer\":" ++ (compact_text (string word) ++ (codes ",\"cells\":" ++ (compact_text (list_text (cell_name_json kinds) cells) ++ codes "}")))
unfolding serde_json_on_literals
listed_is word kinds cells = refl

-- a text behind the members of a row
behind_row : (kinds : Kinds) (row : Row) (rest : List ℕ) → row_text kinds row ++ rest
    ≡ codes "\"entity\":" ++ (compact_text (entity_json row.entity)
    ++ (codes ",\"cells\":" ++ (compact_text (object_by (cell_member kinds) row.cells) ++ rest)))
behind_row kinds row rest =
    let cells : List ℕ = compact_text (object_by (cell_member kinds) row.cells) in
    ap (λ t. codes "\"entity\":" ++ t) (append_assoc (compact_text (entity_json row.entity)) (codes ",\"cells\":" ++ cells) rest)

row_parts : (kinds : Kinds) (row : Row) → compact_text (row_json kinds row)
    ≡ codes "{\"entity\":" ++ (compact_text (entity_json row.entity)
    ++ (codes ",\"cells\":" ++ (compact_text (object_by (cell_member kinds) row.cells) ++ codes "}")))
unfolding serde_json_on_literals
row_parts kinds row = refl

pub row_is : (kinds : Kinds) (row : Row) → compact_text (row_json kinds row) ≡ codes "{" ++ (row_text kinds row ++ codes "}")
row_is kinds row = row_parts kinds row ∙ ap (λ t. codes "{" ++ t) (sym (behind_row kinds row (codes "}")))

answer_parts : (kinds : Kinds) (row : Row) → compact_text (row_answer kinds row)
    ≡ codes "{\"answer\":\"row\",\"entity\":" ++ (compact_text (entity_json row.entity)
    ++ (codes ",\"cells\":" ++ (compact_text (object_by (cell_member kinds) row.cells) ++ codes "}")))
unfolding serde_json_on_literals
answer_parts kinds row = refl

pub row_answer_is : (kinds : Kinds) (row : Row) → compact_text (row_answer kinds row)
    ≡ codes "{\"answer\":\"row\"," ++ (row_text kinds row ++ codes "}")
row_answer_is kinds row = answer_parts kinds row ∙ ap (λ t. codes "{\"answer\":\"row\"," ++ t) (sym (behind_row kinds row (codes "}")))

-- ---- worlds

pub table_is : (w : World) (mask : ℕ) → compact_text (table_of w mask)
    ≡ codes "{\"kinds\":" ++ (compact_text (kinds_json w.schema mask)
    ++ (codes ",\"rows\":" ++ (compact_text (list_text (row_json w.schema) (rows_at w.tables mask)) ++ codes "}")))
unfolding serde_json_on_literals
table_is w mask = refl

-- the members of a world up to its free list, and then a text
abbrev up_to_free : World → List ℕ → List ℕ
up_to_free w rest =
    codes "{\"answer\":\"world\",\"tick\":" ++ (decimal w.tick
    ++ (codes ",\"generations\":" ++ (compact_text (list_text count_text w.slots.generations)
    ++ (codes ",\"free\":" ++ (compact_text (list_text count_text w.slots.free) ++ rest)))))

-- those from its tables on, and then a text
abbrev from_tables : World → List ℕ → List ℕ
from_tables w rest =
    codes ",\"tables\":" ++ (compact_text (list_text (table_of w) (kind_sets w))
    ++ (codes ",\"children\":" ++ (compact_text (object_by (children_member w.children) (parents w.children))
    ++ (codes ",\"resources\":" ++ (compact_text (object_by resource_member w.resources.entries) ++ rest)))))

six : (a b c d e f k : List ℕ) → (a ++ (b ++ (c ++ (d ++ (e ++ f))))) ++ k ≡ a ++ (b ++ (c ++ (d ++ (e ++ (f ++ k)))))
six a b c d e f k = simp append_assoc refl

first_is : (w : World) (rest : List ℕ) → first_members w ++ rest ≡ up_to_free w rest
first_is w rest = six (codes "{\"answer\":\"world\",\"tick\":") (decimal w.tick)
    (codes ",\"generations\":") (compact_text (list_text count_text w.slots.generations))
    (codes ",\"free\":") (compact_text (list_text count_text w.slots.free)) rest

last_is : (w : World) (rest : List ℕ) → last_members w ++ rest ≡ from_tables w rest
last_is w rest = six (codes ",\"tables\":") (compact_text (list_text (table_of w) (kind_sets w)))
    (codes ",\"children\":") (compact_text (object_by (children_member w.children) (parents w.children)))
    (codes ",\"resources\":") (compact_text (object_by resource_member w.resources.entries)) rest

world_parts : (w : World) → compact_text (world_answer w) ≡ up_to_free w (from_tables w (codes "}"))
unfolding serde_json_on_literals
world_parts w = refl

pub world_is : (w : World) → compact_text (world_answer w) ≡ first_members w ++ (last_members w ++ codes "}")
world_is w = world_parts w ∙ ap (up_to_free w) (sym (last_is w (codes "}"))) ∙ sym (first_is w (last_members w ++ codes "}"))

-- three texts that are written at once, and then the rest
pub three : (old a b c rest s1 s2 : List ℕ) → s1 ≡ old ++ (a ++ (b ++ c)) → s2 ≡ s1 ++ rest → s2 ≡ old ++ (a ++ (b ++ (c ++ rest)))
three old a b c rest s1 s2 h k = k ∙ ap (λ s. s ++ rest) h ∙ (simp append_assoc refl)
