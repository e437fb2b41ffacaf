use Rattle.std.proofs.Common.{◌≡◌, ℕ, ◌+◌, ◌*◌, ◌≤◌, List, length}
use Rattle.json.specs.Json.{items, members, value, parse_map}
use Rattle.serde_json.specs.Data.{Data, no_members}
use Rattle.serde_json.specs.Read.{of_items, of_members, converted}
use Rattle.scene_json.specs.NodeData.{Grows, items_before, listed, put_all}
use Rattle.scene_json.proofs.filling.+read.Given as goal

abbrev pub decreases-read_value : goal.decreases-read_value
decreases-read_value l = 3 * l.depth + 2

abbrev pub decreases-read_list : goal.decreases-read_list
decreases-read_list l = 3 * l.depth + 1

abbrev pub decreases-read_object : goal.decreases-read_object
decreases-read_object l = 3 * l.depth + 1

abbrev pub decreases-read_elements : goal.decreases-read_elements
decreases-read_elements l = 3 * l.depth + 3

abbrev pub decreases-read_members : goal.decreases-read_members
decreases-read_members l = 3 * l.depth + 3

abbrev pub invariant-read_elements-elements : goal.invariant-read_elements-elements
invariant-read_elements-elements l =
    (n : ℕ) × (length l.reader ≤ n) × (length l.reader ≤ length l.initial.reader)
    × (ds : List Data) × (l.count ≡ length ds) × Grows l.initial.nodes.items l.nodes.items ds
    × (converted of_items (items (value l.depth) (length l.initial.reader) l.initial.reader)
    ≡ parse_map (items_before ds) (converted of_items (items (value l.depth) n l.reader)))

abbrev pub decreases-read_elements-elements : goal.decreases-read_elements-elements
decreases-read_elements-elements l = length l.reader

abbrev pub invariant-read_members-members : goal.invariant-read_members-members
invariant-read_members-members l =
    (n : ℕ) × (length l.reader ≤ n) × (length l.reader ≤ length l.initial.reader)
    × (ms : List (List ℕ × Data)) × (l.count ≡ length ms) × Grows l.initial.nodes.items l.nodes.items (listed ms)
    × (converted (λ js. of_members js no_members) (members (value l.depth) (length l.initial.reader) l.initial.reader)
    ≡ converted (λ js. of_members js (put_all ms no_members)) (members (value l.depth) n l.reader))

abbrev pub decreases-read_members-members : goal.decreases-read_members-members
decreases-read_members-members l = length l.reader
