-- The list of the kinds of a set, kind by kind.
use Rattle.std.proofs.Common.{◌≡◌, ℕ, List, [], ◌∷◌, ◌++◌, append_assoc, refl, ap, sym, ◌∙◌}
use Rattle.std.specs.Prelude.{Bool, true, false, codes, decimal}
use Rattle.serde_json.specs.Written.{compact_text, comma_if}
use Rattle.scene_kinds.specs.KindSet.{kinds_in, kinds_from}
use Rattle.scene_json_forms.specs.Text.{count_text, list_text}
use Rattle.scene_file.specs.Text.{kinds_of}
use Rattle.scene_json_forms.specs.Printing.{rest_text}
use Rattle.scene_file.specs.Printing.{kinds_json}

-- the next kind of those that are left is written, after its comma
pub kind_written : (later : Bool) (kind : ℕ) (left more there comma after all : List ℕ) → left ≡ kind ∷ more
    → there ++ rest_text later count_text left ≡ all
    → comma ≡ there ++ comma_if later → after ≡ comma ++ decimal kind → after ++ rest_text true count_text more ≡ all
kind_written later kind left more there comma after all next whole first second =
    let rest : List ℕ = rest_text true count_text more in
    ap (λ b. b ++ rest) second ∙ append_assoc comma (decimal kind) rest
    ∙ ap (λ b. b ++ (decimal kind ++ rest)) first ∙ append_assoc there (comma_if later) (decimal kind ++ rest)
    ∙ ap (λ ks. there ++ rest_text later count_text ks) (sym next) ∙ whole

-- the bracket is written behind the last one
closed : (later : Bool) (kinds left old opened there after : List ℕ) → left ≡ []
    → there ++ rest_text later count_text left ≡ opened ++ rest_text false count_text kinds
    → opened ≡ old ++ codes "[" → after ≡ there ++ codes "]" → after ≡ old ++ compact_text (list_text count_text kinds)
closed later kinds left old opened there after none whole first last =
    last ∙ ap (λ ks. there ++ rest_text later count_text ks) (sym none) ∙ whole
    ∙ ap (λ b. b ++ rest_text false count_text kinds) first ∙ append_assoc old (codes "[") (rest_text false count_text kinds)

-- the kinds of a set are those that a scene text lists
same_kinds : (mask : ℕ) → kinds_in mask ≡ kinds_of mask
unfolding kinds_from
same_kinds mask = refl

kinds_are : (mask : ℕ) (old after : List ℕ) → after ≡ old ++ compact_text (list_text count_text (kinds_in mask)) → after ≡ old ++ compact_text (kinds_json mask)
unfolding kinds_json
kinds_are mask old after h = h ∙ ap (λ ks. old ++ compact_text (list_text count_text ks)) (same_kinds mask)

pub kinds_closed : (mask : ℕ) (later : Bool) (left old opened there after : List ℕ) → left ≡ []
    → there ++ rest_text later count_text left ≡ opened ++ rest_text false count_text (kinds_in mask)
    → opened ≡ old ++ codes "[" → after ≡ there ++ codes "]" → after ≡ old ++ compact_text (kinds_json mask)
kinds_closed mask later left old opened there after none whole first last =
    kinds_are mask old after (closed later (kinds_in mask) left old opened there after none whole first last)
