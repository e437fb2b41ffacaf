-- The texts of deltas and records, member by member.
use Rattle.std.proofs.Common.{◌≡◌, ℕ, List, ◌++◌, refl, ap, sym, ◌∙◌}
use Rattle.std.specs.Prelude.{Bool, true, false, Option, codes, decimal, if◌then◌else◌}
use Rattle.serde_json.proofs.OnLiterals.{serde_json_on_literals}
use Rattle.serde_json.specs.Data.{string}
use Rattle.serde_json.specs.Written.{compact_text}
use Rattle.scene_kinds.specs.declared.cell.Cell.{Cell}
use Rattle.scene_kinds.specs.declared.entity.Entity.{Entity}
use Rattle.scene_deltas.specs.declared.delta.Delta.{Delta}
use Rattle.scene_journal.specs.Records.{record_of}
use Rattle.scene_json_forms.specs.Text.{list_text, entity_json}
use Rattle.scene_json_forms.proofs.ListsWritten.{chain}
use Rattle.scene_file_records.specs.Text.{kcell_text, kcells_text, link_text, maybe_resource_cell_text, spawned_text, despawned_text, shifted_text, cell_set_text, linked_text, resource_set_text, delta_text, record_text}

-- a mark, as it is written
abbrev pub flag : Bool → List ℕ
flag b = if b then codes "true" else codes "false"

pub spawned_is : (e : Entity) (cells : List (ℕ × Cell)) (fresh : Bool) → compact_text (spawned_text e cells fresh)
    ≡ codes "{\"cells\":" ++ (compact_text (kcells_text cells) ++ (codes ",\"entity\":" ++ (compact_text (entity_json e)
    ++ (codes ",\"fresh\":" ++ (flag fresh ++ codes ",\"op\":\"spawned\"}")))))
unfolding serde_json_on_literals
spawned_is e cells true = refl
spawned_is e cells false = refl

pub despawned_is : (e : Entity) (place : ℕ) (cells : List (ℕ × Cell)) (link : Option (Entity × ℕ)) (retired : Bool)
    → compact_text (despawned_text e place cells link retired)
    ≡ codes "{\"cells\":" ++ (compact_text (kcells_text cells) ++ (codes ",\"entity\":" ++ (compact_text (entity_json e)
    ++ (codes ",\"link\":" ++ (compact_text (link_text link)
    ++ (codes ",\"op\":\"despawned\",\"place\":" ++ (decimal place ++ (codes ",\"retired\":" ++ (flag retired ++ codes "}")))))))))
unfolding serde_json_on_literals
despawned_is e place cells link true = refl
despawned_is e place cells link false = refl

pub shifted_is : (e : Entity) (place : ℕ) (cell : ℕ × Cell) (inward : Bool) → compact_text (shifted_text e place cell inward)
    ≡ codes "{\"cell\":" ++ (compact_text (kcell_text cell) ++ (codes ",\"entity\":" ++ (compact_text (entity_json e)
    ++ (codes ",\"inward\":" ++ (flag inward ++ (codes ",\"op\":\"shifted\",\"place\":" ++ (decimal place ++ codes "}")))))))
unfolding serde_json_on_literals
shifted_is e place cell true = refl
shifted_is e place cell false = refl

pub cell_set_is : (e : Entity) (before after : ℕ × Cell) → compact_text (cell_set_text e before after)
    ≡ codes "{\"after\":" ++ (compact_text (kcell_text after) ++ (codes ",\"before\":" ++ (compact_text (kcell_text before)
    ++ (codes ",\"entity\":" ++ (compact_text (entity_json e) ++ codes ",\"op\":\"cellset\"}")))))
unfolding serde_json_on_literals
cell_set_is e before after = refl

pub linked_is : (e : Entity) (before after : Option (Entity × ℕ)) → compact_text (linked_text e before after)
    ≡ codes "{\"after\":" ++ (compact_text (link_text after) ++ (codes ",\"before\":" ++ (compact_text (link_text before)
    ++ (codes ",\"entity\":" ++ (compact_text (entity_json e) ++ codes ",\"op\":\"linked\"}")))))
unfolding serde_json_on_literals
linked_is e before after = refl

pub resource_set_is : (name : List ℕ) (before after : Option Cell) → compact_text (resource_set_text name before after)
    ≡ codes "{\"after\":" ++ (compact_text (maybe_resource_cell_text after) ++ (codes ",\"before\":" ++ (compact_text (maybe_resource_cell_text before)
    ++ (codes ",\"name\":" ++ (compact_text (string name) ++ codes ",\"op\":\"resourceset\"}")))))
unfolding serde_json_on_literals
resource_set_is name before after = refl

pub record_is : (tick : ℕ) (deltas : List Delta) → compact_text (record_text (record_of tick deltas))
    ≡ codes "{\"deltas\":" ++ (compact_text (list_text delta_text deltas) ++ (codes ",\"tick\":" ++ (decimal tick ++ codes "}")))
unfolding serde_json_on_literals
record_is tick deltas = refl

-- seven texts that are written one after another
pub seven : (old a b c d e f g s1 s2 s3 s4 s5 s6 s7 text : List ℕ) → text ≡ a ++ (b ++ (c ++ (d ++ (e ++ (f ++ g))))) → s1 ≡ old ++ a
    → s2 ≡ s1 ++ b → s3 ≡ s2 ++ c → s4 ≡ s3 ++ d → s5 ≡ s4 ++ e → s6 ≡ s5 ++ f → s7 ≡ s6 ++ g → s7 ≡ old ++ text
seven old a b c d e f g s1 s2 s3 s4 s5 s6 s7 text h h1 h2 h3 h4 h5 h6 h7 =
    chain old a (b ++ (c ++ (d ++ (e ++ (f ++ g))))) s1 s7 h1
    (chain s1 b (c ++ (d ++ (e ++ (f ++ g)))) s2 s7 h2 (chain s2 c (d ++ (e ++ (f ++ g))) s3 s7 h3 (chain s3 d (e ++ (f ++ g)) s4 s7 h4
    (chain s4 e (f ++ g) s5 s7 h5 (chain s5 f g s6 s7 h6 h7)))))
    ∙ ap (λ t. old ++ t) (sym h)
