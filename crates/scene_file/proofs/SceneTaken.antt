-- A scene text that is taken from its tokens says what the walk says of it.
use Rattle.std.proofs.Common.{◌≡◌, ℕ, ◌-◌, ◌<◌, List, [], ◌∷◌, ◌++◌, codes, Some, Result, Ok, sym, ap, subst, ◌∙◌, arith}
use Rattle.std.proofs.lemmas.List.{append_assoc}
use Rattle.std.specs.Str.{IsUtf8}
use Rattle.json.specs.Token.{Token}
use Rattle.json.specs.Json.{read_key, value}
use Rattle.json.specs.Lex.{tokens}
use Rattle.serde_json.specs.Data.{Data, Members, object, no_members}
use Rattle.serde_json.specs.Read.{converted, of_json}
use Rattle.scene_validate.specs.Parts.{Parts}
use Rattle.scene_json.specs.NodeData.{put_all}
use Rattle.scene_json.proofs.Turns.{whole_read}
use Rattle.scene_json_forms.specs.declared.fault.FileFault.{FileFault}
use Rattle.scene_json_forms.specs.Reading.{◌>>=◌, key_of, list_of, rising_of}
use Rattle.scene_json_forms.specs.Walk.{tick_at, u32_at}
use Rattle.scene_json_tokens.specs.Taken.{HasMembers, IsTaken}
use Rattle.scene_json_tokens.proofs.Grammar.{member_more, no_members_yet, object_begins}
use Rattle.scene_file_records.specs.Walk.{records_at}
use Rattle.scene_file.specs.EditorScene.{said_in}
use Rattle.scene_file.specs.EditorWalk.{Saved, saved_by, saved_in}
use Rattle.scene_file.specs.Taken.{AreBehind, IsFirst, IsHead, IsMember, IsScene, IsSecond, IsTail, IsValueOf, SaysHead, SaysTail, head_members, tail_members}
use Rattle.scene_kinds.specs.declared.cell.Cell.{Cell}
use Rattle.scene_kinds.specs.declared.cells.Row.{Row}
use Rattle.scene_file.specs.Walk.{Head, children_at, head_of, kinds_at, limit_at, name_follows, parent_follows, resource_at, table_at, table_follows, tail_of, whole_of}
use Rattle.scene_file.proofs.SceneSteps.{head_said, parts_said, tail_said}
use Rattle.scene_file.proofs.TextFaults.{json_read}

-- a value that was taken wherever it stands is the value of a key
pub value_taken : {A : Type 0} (word : List ℕ → Data → Result A FileFault) (levels : ℕ) (key : List ℕ) (old new : List Token) (a : A)
    → levels < 127 → IsTaken word levels old new a → IsValueOf word key old new a
value_taken word levels key old new a low h = (h.0, h.1 126 (omega (arith, low)), h.2 key)

pub member_taken : {A : Type 0} (word : List ℕ → Data → Result A FileFault) (levels : ℕ) (key : List ℕ) (old s new : List Token) (a : A)
    → levels < 127 → read_key old ≡ Some (Some key, s) → IsTaken word levels s new a → IsMember word key old new a
member_taken word levels key old s new a low e h = (s, e, value_taken word levels key s new a low h)

-- a member more
add_member : {A : Type 0} (word : List ℕ → Data → Result A FileFault) (key : List ℕ) (ts now next : List Token) (ms : List (List ℕ × Data)) (a : A)
    → HasMembers 126 ts ms now → (m : IsMember word key now next a) → HasMembers 126 ts (ms ++ (key, m.2.0) ∷ []) next
add_member word key ts now next ms a h m = member_more 126 ts now m.0 next ms key m.2.0 h m.1 m.2.1

pub head_taken : (old a b c d e : List Token) (head : Head)
    → IsMember (rising_of children_at parent_follows) (codes "children") old a head.children → IsMember (list_of u32_at) (codes "free") a b head.free
    → IsMember (list_of u32_at) (codes "generations") b c head.generations → IsMember kinds_at (codes "kinds") c d head.schema
    → IsMember limit_at (codes "limit") d e head.limit → IsHead old e head
head_taken old a b c d e head h0 h1 h2 h3 h4 =
    let m0 = add_member (rising_of children_at parent_follows) (codes "children") old old a [] head.children (no_members_yet 126 old) h0 in
    let m1 = add_member (list_of u32_at) (codes "free") old a b ((codes "children", h0.2.0) ∷ []) head.free m0 h1 in
    let m2 = add_member (list_of u32_at) (codes "generations") old b c ((codes "children", h0.2.0) ∷ (codes "free", h1.2.0) ∷ []) head.generations m1 h2 in
    let m3 = add_member kinds_at (codes "kinds") old c d
    ((codes "children", h0.2.0) ∷ (codes "free", h1.2.0) ∷ (codes "generations", h2.2.0) ∷ []) head.schema m2 h3 in
    let m4 = add_member limit_at (codes "limit") old d e
    ((codes "children", h0.2.0) ∷ (codes "free", h1.2.0) ∷ (codes "generations", h2.2.0) ∷ (codes "kinds", h3.2.0) ∷ []) head.limit m3 h4 in
    (h0.2.0, h1.2.0, h2.2.0, h3.2.0, h4.2.0, m4, (h0.2.2, h1.2.2, h2.2.2, h3.2.2, h4.2.2))

-- ---- the keys behind the first five

behind_four : (xs : List (List ℕ × Data)) (a b c d : List ℕ × Data)
    → (((xs ++ a ∷ []) ++ b ∷ []) ++ c ∷ []) ++ d ∷ [] ≡ xs ++ a ∷ b ∷ c ∷ d ∷ []
behind_four xs a b c d =
    append_assoc ((xs ++ a ∷ []) ++ b ∷ []) (c ∷ []) (d ∷ []) ∙ append_assoc (xs ++ a ∷ []) (b ∷ []) (c ∷ d ∷ [])
    ∙ append_assoc xs (a ∷ []) (b ∷ c ∷ d ∷ [])

pub tail_taken : (head : Head) (version : ℕ) (old a b c d : List Token) (resources : List (List ℕ × Cell)) (tables : List (ℕ × List Row)) (tick : ℕ)
    (parts : Parts) → IsValueOf (rising_of resource_at name_follows) (codes "resources") old a resources
    → IsMember tick_at (codes "scene") a b version → IsMember (rising_of (table_at head.schema) table_follows) (codes "tables") b c tables
    → IsMember tick_at (codes "tick") c d tick → parts ≡ whole_of head resources tables tick → IsTail head version old d parts
tail_taken head version old a b c d resources tables tick parts h0 h1 h2 h3 is =
    let r : List ℕ × Data = (codes "resources", h0.0) in
    let v : List ℕ × Data = (codes "scene", h1.2.0) in
    let t : List ℕ × Data = (codes "tables", h2.2.0) in
    let n : List ℕ × Data = (codes "tick", h3.2.0) in
    let behind : AreBehind (codes "resources") old (r ∷ v ∷ t ∷ n ∷ []) d = λ ts before others h e.
    let m0 = member_more 126 ts before old a others (codes "resources") h0.0 h e h0.1 in
    let m1 = add_member tick_at (codes "scene") ts a b (others ++ r ∷ []) version m0 h1 in
    let m2 = add_member (rising_of (table_at head.schema) table_follows) (codes "tables") ts b c ((others ++ r ∷ []) ++ v ∷ []) tables m1 h2 in
    let m3 = add_member tick_at (codes "tick") ts c d (((others ++ r ∷ []) ++ v ∷ []) ++ t ∷ []) tick m2 h3 in
    subst (λ (ms : List (List ℕ × Data)). HasMembers 126 ts ms d) (behind_four others r v t n) m3 in
    (h0.0, h1.2.0, h2.2.0, h3.2.0, behind, (resources, tables, tick, h0.2, h1.2.2, h2.2.2, h3.2.2, is))

-- ---- the whole

-- the members of a scene of version 1, and of one of version 2
abbrev nine : Data → Data → Data → Data → Data → Data → Data → Data → Data → Members
nine c f g k l r v t n = put_all (head_members c f g k l ++ tail_members r v t n) no_members

abbrev eleven : Data → Data → Data → Data → Data → Data → Data → Data → Data → Data → Data → Members
eleven c f g k l x r v t n y = put_all ((head_members c f g k l ++ (codes "redo", x) ∷ tail_members r v t n) ++ (codes "undo", y) ∷ []) no_members

first_says : (c f g k l r v t n : Data) (head : Head) (saved : Saved) → SaysHead c f g k l head → SaysTail head 1 r v t n saved.parts → saved.past ≡ []
    → saved.future ≡ [] → saved_in (object (nine c f g k l r v t n)) ≡ Ok saved
first_says c f g k l r v t n head saved h i past future =
    let ms : Members = nine c f g k l r v t n in
    let first : head_of ms ≡ Ok head = head_said ms head.children head.free head.generations head.schema head.limit h.0 h.1 h.2 h.3 h.4 in
    let last : tail_of head ms ≡ Ok saved.parts = tail_said head ms i.0 i.1 i.2 i.3 i.5 i.6 ∙ ap Ok (sym i.7) in
    ap (λ r. r >>= λ version. saved_by version (object ms)) i.4
    ∙ ap (λ r. r >>= λ parts. Ok (record { parts = parts; past = []; future = [] })) (parts_said ms head saved.parts first last)
    ∙ (λ j. Ok (record { parts = saved.parts; past = sym past j; future = sym future j }))

second_says : (c f g k l x r v t n y : Data) (head : Head) (saved : Saved) → SaysHead c f g k l head → SaysTail head 2 r v t n saved.parts
    → records_at head.schema (codes "redo") x ≡ Ok saved.future → records_at saved.parts.schema (codes "undo") y ≡ Ok saved.past
    → saved_in (object (eleven c f g k l x r v t n y)) ≡ Ok saved
second_says c f g k l x r v t n y head saved h i redo undo =
    let ms : Members = eleven c f g k l x r v t n y in
    let first : head_of ms ≡ Ok head = head_said ms head.children head.free head.generations head.schema head.limit h.0 h.1 h.2 h.3 h.4 in
    let last : tail_of head ms ≡ Ok saved.parts = tail_said head ms i.0 i.1 i.2 i.3 i.5 i.6 ∙ ap Ok (sym i.7) in
    ap (λ r. r >>= λ version. saved_by version (object ms)) i.4
    ∙ ap (λ r. r >>= λ head. key_of (records_at head.schema) [] (codes "redo") ms >>= λ future. tail_of head ms
    >>= λ parts. key_of (records_at parts.schema) [] (codes "undo") ms >>= λ past. Ok (record { parts = parts; past = past; future = future })) first
    ∙ ap (λ r. r >>= λ future. tail_of head ms
    >>= λ parts. key_of (records_at parts.schema) [] (codes "undo") ms >>= λ past. Ok (record { parts = parts; past = past; future = future })) redo
    ∙ ap (λ r. r >>= λ parts. key_of (records_at parts.schema) [] (codes "undo") ms
    >>= λ past. Ok (record { parts = parts; past = past; future = saved.future })) last
    ∙ ap (λ r. r >>= λ past. Ok (record { parts = saved.parts; past = past; future = saved.future })) undo

module _ (head : Head) (old ts now s new : List Token) (saved : Saved) (is : old ≡ Token.begin_object ∷ ts) (h : IsHead ts now head) where
  pub first_taken : read_key now ≡ Some (Some (codes "resources"), s) → IsFirst head s new saved → IsScene old new saved
  first_taken key f =
      let t = f.1 in
      let ms : List (List ℕ × Data) = head_members h.0 h.1 h.2 h.3 h.4 ++ tail_members t.0 t.1 t.2 t.3 in
      let all : HasMembers 126 ts ms f.0 = t.4 ts now (head_members h.0 h.1 h.2 h.3 h.4) h.5 key in (
        object (put_all ms no_members),
        ap (λ l. converted of_json (value 127 l)) is ∙ object_begins 127 ts f.0 new ms (omega arith) all f.2,
        first_says h.0 h.1 h.2 h.3 h.4 t.0 t.1 t.2 t.3 head saved h.6 t.5 f.3 f.4,
      )

  pub second_taken : read_key now ≡ Some (Some (codes "redo"), s) → IsSecond head s new saved → IsScene old new saved
  second_taken key f =
      let x = f.4 in
      let t = f.6 in
      let y = f.7 in
      let five : List (List ℕ × Data) = head_members h.0 h.1 h.2 h.3 h.4 in
      let six : List (List ℕ × Data) = five ++ (codes "redo", x.0) ∷ [] in
      let redo : HasMembers 126 ts six f.0 = member_more 126 ts now s f.0 five (codes "redo") x.0 h.5 key x.1 in
      let ten : HasMembers 126 ts (six ++ tail_members t.0 t.1 t.2 t.3) f.2 = t.4 ts f.0 six redo f.5 in
      let all : HasMembers 126 ts ((six ++ tail_members t.0 t.1 t.2 t.3) ++ (codes "undo", y.2.0) ∷ []) f.3 =
      add_member (records_at saved.parts.schema) (codes "undo") ts f.2 f.3 (six ++ tail_members t.0 t.1 t.2 t.3) saved.past ten y in (
        object (put_all ((six ++ tail_members t.0 t.1 t.2 t.3) ++ (codes "undo", y.2.0) ∷ []) no_members),
        ap (λ l. converted of_json (value 127 l)) is
            ∙ object_begins 127 ts f.3 new ((six ++ tail_members t.0 t.1 t.2 t.3) ++ (codes "undo", y.2.0) ∷ []) (omega arith) all f.8,
        second_says h.0 h.1 h.2 h.3 h.4 x.0 t.0 t.1 t.2 t.3 y.2.0 head saved h.6 t.5 x.2 y.2.2,
      )

-- the whole text
pub text_taken : (text : List ℕ) (saved : Saved) (new : List Token) → IsUtf8 text → new ≡ [] → IsScene (tokens text) new saved → said_in text ≡ Ok saved
text_taken text saved new utf8 ended h =
    ap (λ r. r >>= saved_in) (json_read text h.0 utf8 (whole_read (value 127 (tokens text)) h.0 (h.1 ∙ ap (λ r. Some (h.0, r)) ended))) ∙ h.2
