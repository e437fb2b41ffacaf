-- Lists and objects whose elements and members are taken from the tokens one after another.
use Rattle.std.proofs.Common.{◌≡◌, ℕ, ◌+◌, ◌-◌, ◌<◌, ◌≤◌, Bool, List, [], ◌∷◌, ◌++◌, length, Some, None, option_map, refl, sym, ap, ◌∙◌, arith}
use Rattle.json.specs.Token.{Token}
use Rattle.json.specs.Json.{after_end_array, items, members, parse_map, read_key, value}
use Rattle.json.proofs.Grammar.{left, value_is, value-begin_array, value-begin_object, read_key-shorter, skip_value-shorter}
use Rattle.serde_json.specs.Data.{Data, Num, boolean, number, string, array, object, no_items, no_members}
use Rattle.serde_json.specs.Read.{of_json, of_items, of_members, converted, number_of}
use Rattle.scene_json.specs.NodeData.{items_before, put_all}
use Rattle.scene_json.proofs.Turns.{converted-array, converted-object, converted_some, item_read, items_over, member_read, members_over, none_before}
use Rattle.scene_json.proofs.Filled.{one_more_element, put_push}
use Rattle.scene_json_tokens.specs.Taken.{Begins, HasMembers}

-- ---- a value of one token

pub number_begins : (s : List ℕ) (x : Num) (rest : List Token) → number_of s ≡ Some x → Begins 0 (Token.number s ∷ rest) (number x) rest
number_begins s x rest e depth h =
    ap (converted of_json) (value_is depth (Token.number s ∷ rest)) ∙ ap (λ o. option_map (λ d. (d, rest)) (option_map number o)) e

pub string_begins : (s : List ℕ) (rest : List Token) → Begins 0 (Token.string s ∷ rest) (string s) rest
string_begins s rest depth h = ap (converted of_json) (value_is depth (Token.string s ∷ rest))

pub truth_begins : (b : Bool) (rest : List Token) → Begins 0 (Token.boolean b ∷ rest) (boolean b) rest
truth_begins b rest depth h = ap (converted of_json) (value_is depth (Token.boolean b ∷ rest))

-- a value that nests less deep
pub begins_within : (levels more : ℕ) (old new : List Token) (d : Data) → levels ≤ more → Begins levels old d new → Begins more old d new
begins_within levels more old new d le h depth l = h depth (omega (arith, le, l))

-- ---- what the tokens of a value are not, and how many there are

no_value : {P : Type 0} (depth : ℕ) (ts r : List Token) (d : Data) → converted of_json (value depth (Token.end_array ∷ ts)) ≡ Some (d, r) → P
no_value depth ts r d e =
    absurd (let none : None ≡ Some (d, r) = sym (ap (converted of_json) (value_is depth (Token.end_array ∷ ts))) ∙ e in cc)

not_over : (depth : ℕ) (ts r : List Token) (d : Data) → converted of_json (value depth ts) ≡ Some (d, r) → after_end_array ts ≡ None
not_over depth [] r d e = refl
not_over depth (Token.begin_object ∷ ts) r d e = refl
not_over depth (Token.end_object ∷ ts) r d e = refl
not_over depth (Token.begin_array ∷ ts) r d e = refl
not_over depth (Token.end_array ∷ ts) r d e = no_value depth ts r d e
not_over depth (Token.key s ∷ ts) r d e = refl
not_over depth (Token.string s ∷ ts) r d e = refl
not_over depth (Token.number s ∷ ts) r d e = refl
not_over depth (Token.boolean b ∷ ts) r d e = refl
not_over depth (Token.null ∷ ts) r d e = refl
not_over depth (Token.bad ∷ ts) r d e = refl

shorter : (depth : ℕ) (ts r : List Token) (d : Data) → converted of_json (value depth ts) ≡ Some (d, r) → length r < length ts
shorter depth ts r d e = let j = converted_some of_json (value depth ts) d r e in skip_value-shorter depth ts r (ap left j.1)

-- a value takes some tokens
pub begins_shorter : (levels : ℕ) (old new : List Token) (d : Data) → Begins levels old d new → length new < length old
begins_shorter levels old new d b = shorter levels old new d (b levels (omega arith))

-- ---- the elements of a list

-- behind a list's opening bracket stand these elements, and then what is left
abbrev pub HasElements : ℕ → List Token → List Data → List Token → Type 0
HasElements depth ts ds now = (n : ℕ) × (length now ≤ n)
    × (converted of_items (items (value depth) (length ts) ts) ≡ parse_map (items_before ds) (converted of_items (items (value depth) n now)))

element_more : (depth : ℕ) (ts now next : List Token) (ds : List Data) (d : Data) → HasElements depth ts ds now
    → converted of_json (value depth now) ≡ Some (d, next) → HasElements depth ts (ds ++ d ∷ []) next
element_more depth ts now next ds d h e =
    let less = shorter depth now next d e in
    let turn = item_read (value depth) h.0 now next d (omega (arith, h.1, less)) (not_over depth now next d e) e in (
      h.0 - 1,
      omega (arith, h.1, less),
      h.2 ∙ ap (parse_map (items_before ds)) turn ∙ one_more_element ds d _,
    )

-- the same at each depth from so many levels on
abbrev pub AreElements : ℕ → List Token → List Data → List Token → Type 0
AreElements levels ts ds now = (depth : ℕ) → levels ≤ depth → HasElements depth ts ds now

pub no_elements : (levels : ℕ) (ts : List Token) → AreElements levels ts [] ts
no_elements levels ts depth h = (length ts, omega arith, none_before (converted of_items (items (value depth) (length ts) ts)))

pub one_more : (levels : ℕ) (ts now next : List Token) (ds : List Data) (d : Data) → AreElements levels ts ds now → Begins levels now d next
    → AreElements levels ts (ds ++ d ∷ []) next
one_more levels ts now next ds d h b depth l = element_more depth ts now next ds d (h depth l) (b depth l)

pub list_begins : (levels : ℕ) (ts now next : List Token) (ds : List Data) → AreElements levels ts ds now → after_end_array now ≡ Some next
    → Begins (levels + 1) (Token.begin_array ∷ ts) (array (items_before ds no_items)) next
list_begins levels ts now next ds h e depth l =
    let below : levels ≤ depth - 1 = omega (arith, l) in
    let all = h (depth - 1) below in
    ap (converted of_json) (value-begin_array depth ts (omega (arith, l))) ∙ converted-array (items (value (depth - 1)) (length ts) ts)
    ∙ ap (parse_map array) (all.2 ∙ ap (parse_map (items_before ds)) (items_over (value (depth - 1)) all.0 now next all.1 e)
    ∙ ap (λ x. Some (x, next)) refl)

-- ---- the members of an object

pub no_members_yet : (depth : ℕ) (ts : List Token) → HasMembers depth ts [] ts
no_members_yet depth ts = (length ts, omega arith, refl)

pub member_more : (depth : ℕ) (ts now s next : List Token) (ms : List (List ℕ × Data)) (k : List ℕ) (d : Data) → HasMembers depth ts ms now
    → read_key now ≡ Some (Some k, s) → converted of_json (value depth s) ≡ Some (d, next) → HasMembers depth ts (ms ++ (k, d) ∷ []) next
member_more depth ts now s next ms k d h key e =
    let less = read_key-shorter now (Some k) s key in
    let lesser = shorter depth s next d e in (
      h.0 - 1,
      omega (arith, h.1, less, lesser),
      h.2 ∙ member_read (value depth) (put_all ms no_members) h.0 k now s next d (omega (arith, h.1, less)) key e
          ∙ ap (λ found. converted (λ js. of_members js found) (members (value depth) (h.0 - 1) next)) (sym (put_push ms k d no_members)),
    )

pub object_begins : (depth : ℕ) (ts now next : List Token) (ms : List (List ℕ × Data)) → 0 < depth → HasMembers (depth - 1) ts ms now
    → read_key now ≡ Some (None, next)
    → converted of_json (value depth (Token.begin_object ∷ ts)) ≡ Some (object (put_all ms no_members), next)
object_begins depth ts now next ms some h e =
    ap (converted of_json) (value-begin_object depth ts some) ∙ converted-object (members (value (depth - 1)) (length ts) ts)
    ∙ ap (parse_map object) (h.2 ∙ members_over (value (depth - 1)) (put_all ms no_members) h.0 now next h.1 e)

-- an object of two members, each of which was taken
pub pair_begins : (levels : ℕ) (old ts s now r after end : List Token) (k l : List ℕ) (d e : Data) → old ≡ Token.begin_object ∷ ts
    → read_key ts ≡ Some (Some k, s) → Begins levels s d now → read_key now ≡ Some (Some l, r) → Begins levels r e after
    → read_key after ≡ Some (None, end) → Begins (levels + 1) old (object (put_all ((k, d) ∷ (l, e) ∷ []) no_members)) end
pair_begins levels old ts s now r after end k l d e is key first other last over depth h =
    let less : levels ≤ depth - 1 = omega (arith, h) in
    let one = member_more (depth - 1) ts ts s now [] k d (no_members_yet (depth - 1) ts) key (first (depth - 1) less) in
    let both = member_more (depth - 1) ts now r after ((k, d) ∷ []) l e one other (last (depth - 1) less) in
    ap (λ l. converted of_json (value depth l)) is ∙ object_begins depth ts after end ((k, d) ∷ (l, e) ∷ []) (omega (arith, h)) both over
