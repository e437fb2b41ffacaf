-- The texts of answers as JSON.
use Rattle.std.proofs.Common.{◌≡◌, ℕ, List, ◌++◌, Ok, Err, length, append_assoc, refl, ap, sym, ◌∙◌}
use Rattle.std.specs.Prelude.{Bool, codes, decimal, nat_le, true, false, if◌then◌else◌}
use Rattle.serde_json.proofs.OnLiterals.{serde_json_on_literals}
use Rattle.serde_json.specs.Data.{Data, string}
use Rattle.serde_json.specs.Written.{compact_text}
use Rattle.scene_file.specs.Saving.{if_short}
use Rattle.scene_json_forms.specs.Text.{entity_json, list_text}
use Rattle.scene_json_forms.specs.declared.fault.FileFault.TheVariants.{TooLong}
use Rattle.scene_kinds.specs.declared.entity.Entity.{Entity}
use Rattle.scene_undo.specs.declared.cursor.Cursor.{Cursor}
use Rattle.scene_interpreter.specs.JsonAnswer.{bad_json, history_json, made_json, mark_json, plain_json, word_json}
use Rattle.scene_interpreter.specs.JsonQuestion.{scene_json}

pub nothing_is : compact_text (word_json (codes "nothing")) ≡ codes "{\"answer\":\"nothing\"}"
unfolding serde_json_on_literals
nothing_is = refl

pub ok_is : compact_text (word_json (codes "ok")) ≡ codes "{\"answer\":\"ok\"}"
unfolding serde_json_on_literals
ok_is = refl

pub queued_is : compact_text (word_json (codes "queued")) ≡ codes "{\"answer\":\"queued\"}"
unfolding serde_json_on_literals
queued_is = refl

pub undone_is : compact_text (word_json (codes "undone")) ≡ codes "{\"answer\":\"undone\"}"
unfolding serde_json_on_literals
undone_is = refl

pub redone_is : compact_text (word_json (codes "redone")) ≡ codes "{\"answer\":\"redone\"}"
unfolding serde_json_on_literals
redone_is = refl

pub mark_is : (c : Cursor) → compact_text (mark_json c)
    ≡ codes "{\"answer\":\"mark\",\"rewinds\":" ++ (decimal c.rewinds ++ (codes ",\"tick\":" ++ (decimal c.tick ++ codes "}")))
unfolding serde_json_on_literals
mark_is c = refl

pub history_is : (n : ℕ) → compact_text (history_json n) ≡ codes "{\"answer\":\"history\",\"calls\":" ++ (decimal n ++ codes "}")
unfolding serde_json_on_literals
history_is n = refl

pub made_is : (es : List Entity) → compact_text (made_json es)
    ≡ codes "{\"answer\":\"done\",\"entities\":" ++ (compact_text (list_text entity_json es) ++ codes "}")
unfolding serde_json_on_literals
made_is es = refl

pub plain_is : (text : List ℕ) → compact_text (plain_json text) ≡ codes "{\"answer\":\"text\",\"text\":" ++ (compact_text (string text) ++ codes "}")
unfolding serde_json_on_literals
plain_is text = refl

pub bad_is : (words : List ℕ) → compact_text (bad_json words) ≡ codes "{\"answer\":\"bad\",\"reason\":" ++ (compact_text (string words) ++ codes "}")
unfolding serde_json_on_literals
bad_is words = refl

pub scene_is : (d : Data) → compact_text (scene_json d) ≡ codes "{\"answer\":\"scene\",\"text\":" ++ (compact_text d ++ codes "}")
unfolding serde_json_on_literals
scene_is d = refl

-- three texts that are written one after another
pub three : (old a b c s1 s2 s3 text : List ℕ) → text ≡ a ++ (b ++ c) → s1 ≡ old ++ a → s2 ≡ s1 ++ b → s3 ≡ s2 ++ c → s3 ≡ old ++ text
three old a b c s1 s2 s3 text is h1 h2 h3 =
    h3 ∙ ap (λ s. s ++ c) h2 ∙ append_assoc s1 b c ∙ ap (λ s. s ++ (b ++ c)) h1 ∙ append_assoc old a (b ++ c) ∙ ap (λ t. old ++ t) (sym is)

-- a text that a save gave is the one that it was to write
pub short_is : (text saved : List ℕ) → if_short text ≡ Ok saved → saved ≡ text
short_is text saved is = by_test (nat_le (length text) 67108864) is
  where
    by_test : (b : Bool) → (if b then Ok text else Err TooLong) ≡ Ok saved → saved ≡ text
    by_test true same = cc same
    by_test false same = absurd (cc same)
