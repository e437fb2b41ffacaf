-- A text as a JSON string, and what is written to a text.
use Rattle.std.specs.Prelude.{◌≡◌, ◌++◌, ℕ, List, String, string_bytes}
use Rattle.serde_json.specs.Data.{string}
use Rattle.serde_json.specs.Written.{compact_text}

-- a text as a JSON string
abbrev pub json_text : List ℕ → List ℕ
json_text bytes = compact_text (string bytes)

-- a text that was written to has what it had, and these bytes behind it
abbrev pub Adds : {Z : Type 0} → String Z → String Z → List ℕ → Type 0
Adds old new bytes = string_bytes new ≡ string_bytes old ++ bytes
