-- Values whose compact text is read as themselves, also with a newline behind it.
use Rattle.std.proofs.Common.{◌≡◌, ℕ, suc, ◌^◌, ◌<◌, ◌≤◌, pos, negsuc, Bool, true, false, cond, T, List, [], ◌∷◌, ◌++◌, max, decimal, refl, sym, ap, ap₂, ◌∙◌, subst, append_assoc, append-nil, IsUtf8, Some, option_map, option_and_then}
use Rattle.std.specs.Prelude.{⊤, ◌&&◌}
use Rattle.std.specs.Fmt.{signed_decimal}
use Rattle.std.specs.Ordering.{nat_cmp, is_lt, match_ordering, ordering_reverse}
use Rattle.std.specs.declared.cmp.Ordering.TheVariants.{Greater}
use Rattle.std.specs.Cmp.Lexicographic.{slice_cmp}
use Rattle.std.proofs.lemmas.Cmp.{nat_list_cmp_total}
use Rattle.std.proofs.lemmas.Bool.{and_parts}
use Rattle.std.proofs.lemmas.Fmt.{IsAscii-decimal, IsAscii-signed}
use Rattle.std.proofs.lemmas.Str.{IsUtf8-append, IsUtf8-from_ascii}
use Rattle.json.specs.Token.{Token}
use Rattle.json.specs.Word.{ends_word, word}
use Rattle.json.specs.Lex.{Lexeme, token, comma, colon, string_token, lex, between, fresh, punctuate, tokens}
use Rattle.json.specs.Print.{escape, quoted, IsNumber}
use Rattle.json.specs.Json as json
use Rattle.json.specs.Tree as tree
use Rattle.json.proofs.Printed.Decimals.{IsNumber-decimal, IsNumber-signed_decimal}
use Rattle.json.proofs.Printed.Numbers.{lex-number, in_word-ended}
use Rattle.json.proofs.Printed.Strings.{content-escape, lex-escape}
use Rattle.json.proofs.Printed.Tokens.{tokens-print}
use Rattle.json.proofs.Printed.Trees.{value-json_tokens, ArePrintable-json_tokens}
use Rattle.json.proofs.Printed.Utf8.{are_ascii, IsUtf8-are_ascii, IsUtf8-quoted, IsUtf8-boolean}
use Rattle.scene_kinds.proofs.Choices.{less}
use Rattle.serde_json.specs.Data.{Num, unsigned, negative, float, Data, null, boolean, number, string, array, object, Items, no_items, item, Members, no_members, member, put, depth, items_depth, members_depth}
use Rattle.serde_json.specs.Read.{number_of, of_json, of_items, of_members, max_depth, read}
use Rattle.serde_json.specs.Written.{number_text, outline, items_outline, members_outline, comma_if, compact_text, items_text, members_text}
use Rattle.serde_json.proofs.Numbers.{number_of-decimal, number_of-negative}
use Rattle.serde_json.proofs.Texts.{print-outline}

-- an integer of 64 bits, which is below zero where it is kept as negative
abbrev pub IsWhole : Num → Type 0
IsWhole (unsigned n) = n < 2 ^ 64
IsWhole (negative (pos n)) = ⊥
IsWhole (negative (negsuc n)) = n < 2 ^ 63
IsWhole (float x) = ⊥

-- a key stands before those of all members
abbrev pub is_first : List ℕ → Members → Bool
is_first key no_members = true
is_first key (member k d ms) = is_lt (slice_cmp nat_cmp key k) && is_first key ms

-- the keys of members rise
abbrev pub rises : Members → Bool
rises no_members = true
rises (member key d ms) = is_first key ms && rises ms

-- at every depth numbers are whole, texts are UTF-8, and the keys of objects rise
abbrev mutual
  pub IsPlain : Data → Type 0
  IsPlain null = ⊤
  IsPlain (boolean b) = ⊤
  IsPlain (number n) = IsWhole n
  IsPlain (string s) = IsUtf8 s
  IsPlain (array ds) = ArePlain ds
  IsPlain (object ms) = (rises ms ≡ true) × HasPlain ms

  pub ArePlain : Items → Type 0
  ArePlain no_items = ⊤
  ArePlain (item d ds) = IsPlain d × ArePlain ds

  pub HasPlain : Members → Type 0
  HasPlain no_members = ⊤
  HasPlain (member key d ms) = IsUtf8 key × (IsPlain d × HasPlain ms)

-- ---- numbers

number_is : (n : Num) → IsWhole n → IsNumber (number_text n)
number_is (unsigned n) h = IsNumber-decimal n h
number_is (negative (pos n)) h = absurd h
number_is (negative (negsuc n)) h = IsNumber-signed_decimal (negsuc n) h
number_is (float x) h = absurd h

number_back : (n : Num) → IsWhole n → number_of (number_text n) ≡ Some n
number_back (unsigned n) h = number_of-decimal n h
number_back (negative (pos n)) h = absurd h
number_back (negative (negsuc n)) h = number_of-negative n h
number_back (float x) h = absurd h

one_byte : (x : ℕ) (s : List ℕ) → are_ascii (x ∷ []) ≡ true → IsUtf8 s → IsUtf8 (x ∷ s)
one_byte x s h u = IsUtf8-append (x ∷ []) s (IsUtf8-are_ascii (x ∷ []) h) u

number_is_utf8 : (n : Num) → IsWhole n → IsUtf8 (number_text n)
number_is_utf8 (unsigned n) h = IsUtf8-from_ascii (decimal n) (IsAscii-decimal n h)
number_is_utf8 (negative (pos n)) h = absurd h
number_is_utf8 (negative (negsuc n)) h = IsUtf8-from_ascii (signed_decimal (negsuc n)) (IsAscii-signed (negsuc n) h)
number_is_utf8 (float x) h = absurd h

-- ---- members that are put in one after another

-- members, and then others
abbrev joined : Members → Members → Members
joined no_members ms = ms
joined (member key d found) ms = member key d (joined found ms)

-- all keys of the first stand before all of the second
abbrev Before : Members → Members → Type 0
Before no_members ms = ⊤
Before (member key d found) ms = (is_first key ms ≡ true) × Before found ms

lower : (k l : List ℕ) → is_lt (slice_cmp nat_cmp k l) ≡ true → slice_cmp nat_cmp l k ≡ Greater
lower k l h = nat_list_cmp_total.antisymm l k ∙ ap ordering_reverse (less (slice_cmp nat_cmp k l) (subst T (sym h) tt))

put_last : (key : List ℕ) (d : Data) (ms found : Members) → Before found (member key d ms) → put key d found ≡ joined found (member key d no_members)
put_last key d ms no_members h = refl
put_last key d ms (member k e found) h =
    ap (λ o. match_ordering o (member key d (member k e found)) (member k d found) (member k e (put key d found)))
    (lower k key (and_parts _ _ h.0).0)
    ∙ ap (member k e) (put_last key d ms found h.1)

joined_nothing : (found : Members) → joined found no_members ≡ found
joined_nothing no_members = refl
joined_nothing (member k e found) = ap (member k e) (joined_nothing found)

joined_again : (key : List ℕ) (d : Data) (found ms : Members) → joined (joined found (member key d no_members)) ms ≡ joined found (member key d ms)
joined_again key d no_members ms = refl
joined_again key d (member k e found) ms = ap (member k e) (joined_again key d found ms)

before_rest : (key : List ℕ) (d : Data) (ms found : Members) → is_first key ms ≡ true → Before found (member key d ms)
    → Before (joined found (member key d no_members)) ms
before_rest key d ms no_members f h = (f, tt)
before_rest key d ms (member k e found) f h = ((and_parts _ _ h.0).1, before_rest key d ms found f h.1)

-- ---- what the outline of a value says

mutual
  value_of : (d : Data) → IsPlain d → of_json (outline d) ≡ Some d
  value_of null h = refl
  value_of (boolean b) h = refl
  value_of (number n) h = ap (option_map number) (number_back n h)
  value_of (string s) h = refl
  value_of (array ds) h = ap (option_map array) (items_of ds h)
  value_of (object ms) h = ap (option_map object) (members_of ms no_members h.0 tt h.1)

  items_of : (ds : Items) → ArePlain ds → of_items (items_outline ds) ≡ Some ds
  items_of no_items h = refl
  items_of (item d ds) h =
      ap (option_and_then (λ e. option_map (item e) (of_items (items_outline ds)))) (value_of d h.0) ∙ ap (option_map (item d)) (items_of ds h.1)

  members_of : (ms found : Members) → rises ms ≡ true → Before found ms → HasPlain ms → of_members (members_outline ms) found ≡ Some (joined found ms)
  members_of no_members found r b h = ap Some (sym (joined_nothing found))
  members_of (member key d ms) found r b h =
      let p = and_parts (is_first key ms) (rises ms) r in
      ap (option_and_then (λ e. of_members (members_outline ms) (put key e found))) (value_of d h.1.0)
      ∙ ap (of_members (members_outline ms)) (put_last key d ms found b)
      ∙ members_of ms (joined found (member key d no_members)) p.1 (before_rest key d ms found p.0 b) h.1.1
      ∙ ap Some (joined_again key d found ms)

mutual
  has_numbers : (d : Data) → IsPlain d → tree.HasNumbers (outline d)
  has_numbers null h = tt
  has_numbers (boolean b) h = tt
  has_numbers (number n) h = number_is n h
  has_numbers (string s) h = tt
  has_numbers (array ds) h = items_have_numbers ds h
  has_numbers (object ms) h = members_have_numbers ms h.1

  items_have_numbers : (ds : Items) → ArePlain ds → tree.ItemsHaveNumbers (items_outline ds)
  items_have_numbers no_items h = tt
  items_have_numbers (item d ds) h = (has_numbers d h.0, items_have_numbers ds h.1)

  members_have_numbers : (ms : Members) → HasPlain ms → tree.MembersHaveNumbers (members_outline ms)
  members_have_numbers no_members h = tt
  members_have_numbers (member key d ms) h = (has_numbers d h.1.0, members_have_numbers ms h.1.1)

mutual
  same_depth : (d : Data) → tree.depth (outline d) ≡ depth d
  same_depth null = refl
  same_depth (boolean b) = refl
  same_depth (number n) = refl
  same_depth (string s) = refl
  same_depth (array ds) = ap suc (same_items_depth ds)
  same_depth (object ms) = ap suc (same_members_depth ms)

  same_items_depth : (ds : Items) → tree.items_depth (items_outline ds) ≡ items_depth ds
  same_items_depth no_items = refl
  same_items_depth (item d ds) = ap₂ max (same_depth d) (same_items_depth ds)

  same_members_depth : (ms : Members) → tree.members_depth (members_outline ms) ≡ members_depth ms
  same_members_depth no_members = refl
  same_members_depth (member key d ms) = ap₂ max (same_depth d) (same_members_depth ms)

-- ---- the text is UTF-8

comma_is_utf8 : (later : Bool) (s : List ℕ) → IsUtf8 s → IsUtf8 (comma_if later ++ s)
comma_is_utf8 true s h = one_byte 44 s refl h
comma_is_utf8 false s h = h

mutual
  text_is_utf8 : (d : Data) → IsPlain d → IsUtf8 (compact_text d)
  text_is_utf8 null h = IsUtf8-are_ascii (compact_text null) refl
  text_is_utf8 (boolean b) h = IsUtf8-boolean b
  text_is_utf8 (number n) h = number_is_utf8 n h
  text_is_utf8 (string s) h = IsUtf8-quoted s h
  text_is_utf8 (array ds) h = one_byte 91 (items_text false ds) refl (items_are_utf8 false ds h)
  text_is_utf8 (object ms) h = one_byte 123 (members_text false ms) refl (members_are_utf8 false ms h.1)

  items_are_utf8 : (later : Bool) (ds : Items) → ArePlain ds → IsUtf8 (items_text later ds)
  items_are_utf8 later no_items h = IsUtf8-are_ascii (93 ∷ []) refl
  items_are_utf8 later (item d ds) h =
      comma_is_utf8 later (compact_text d ++ items_text true ds)
      (IsUtf8-append (compact_text d) (items_text true ds) (text_is_utf8 d h.0) (items_are_utf8 true ds h.1))

  members_are_utf8 : (later : Bool) (ms : Members) → HasPlain ms → IsUtf8 (members_text later ms)
  members_are_utf8 later no_members h = IsUtf8-are_ascii (125 ∷ []) refl
  members_are_utf8 later (member key d ms) h =
      comma_is_utf8 later (quoted key ++ 58 ∷ (compact_text d ++ members_text true ms))
      (IsUtf8-append (quoted key) (58 ∷ (compact_text d ++ members_text true ms)) (IsUtf8-quoted key h.0)
      (one_byte 58 (compact_text d ++ members_text true ms) refl
      (IsUtf8-append (compact_text d) (members_text true ms) (text_is_utf8 d h.1.0) (members_are_utf8 true ms h.1.1))))

-- ---- what stands behind a text changes nothing of its lexemes

-- what follows such a text is read on its own, where it may end a word
abbrev IsCut : List ℕ → Type 0
IsCut s = (r : List ℕ) → ends_word r ≡ true → lex between (s ++ r) ≡ lex between s ++ lex between r

-- a text has these lexemes, whatever follows
abbrev Gives : List ℕ → List Lexeme → Type 0
Gives s ls = (r : List ℕ) → ends_word r ≡ true → lex between (s ++ r) ≡ ls ++ lex between r

cut_by : (s : List ℕ) (ls : List Lexeme) → Gives s ls → IsCut s
unfolding lex
cut_by s ls h r e = h r e ∙ ap (λ l. l ++ lex between r) (sym (ap (lex between) (sym (append-nil s)) ∙ h [] refl ∙ append-nil ls))

cut_both : (a b : List ℕ) → IsCut a → IsCut b → ((r : List ℕ) → ends_word (b ++ r) ≡ true) → IsCut (a ++ b)
cut_both a b h k ends r e =
    ap (lex between) (append_assoc a b r) ∙ h (b ++ r) (ends r) ∙ ap (λ l. lex between a ++ l) (k r e)
    ∙ sym (append_assoc (lex between a) (lex between b) (lex between r))
    ∙ ap (λ l. l ++ lex between r) (sym (h b (ap ends_word (sym (append-nil b)) ∙ ends [])))

quoted_cut : (s : List ℕ) → IsCut (quoted s)
unfolding lex
quoted_cut s = cut_by (quoted s) (token (Token.string s) ∷ []) (λ r e.
    ap (λ t. lex between (34 ∷ t)) (append_assoc (escape s) (34 ∷ []) r)
    ∙ ap₂ (λ o l. token (string_token o) ∷ l) (content-escape s r) (lex-escape s r))

boolean_cut : (b : Bool) → IsCut (compact_text (boolean b))
unfolding lex word
boolean_cut true = cut_by (compact_text (boolean true)) (token (Token.boolean true) ∷ [])
    (λ r e. ap₂ (λ b l. token (cond b (Token.boolean true) Token.bad) ∷ l) e (in_word-ended r e))
boolean_cut false = cut_by (compact_text (boolean false)) (token (Token.boolean false) ∷ [])
    (λ r e. ap₂ (λ b l. token (cond b (Token.boolean false) Token.bad) ∷ l) e (in_word-ended r e))

null_cut : IsCut (compact_text null)
unfolding lex word
null_cut = cut_by (compact_text null) (token Token.null ∷ [])
    (λ r e. ap₂ (λ b l. token (cond b Token.null Token.bad) ∷ l) e (in_word-ended r e))

number_cut : (n : Num) → IsWhole n → IsCut (number_text n)
number_cut n h = cut_by (number_text n) (token (Token.number (number_text n)) ∷ []) (λ r e. lex-number (number_text n) r (number_is n h) e)

comma_cut : (later : Bool) (s : List ℕ) → IsCut s → IsCut (comma_if later ++ s)
unfolding lex
comma_cut true s h r e = ap (λ l. comma ∷ l) (h r e)
comma_cut false s h r e = h r e

colon_cut : (s : List ℕ) → IsCut s → IsCut (58 ∷ s)
unfolding lex
colon_cut s h r e = ap (λ l. colon ∷ l) (h r e)

array_cut : (s : List ℕ) → IsCut s → IsCut (91 ∷ s)
unfolding lex
array_cut s h r e = ap (λ l. token Token.begin_array ∷ l) (h r e)

object_cut : (s : List ℕ) → IsCut s → IsCut (123 ∷ s)
unfolding lex
object_cut s h r e = ap (λ l. token Token.begin_object ∷ l) (h r e)

array_ends : IsCut (93 ∷ [])
unfolding lex
array_ends r e = refl

object_ends : IsCut (125 ∷ [])
unfolding lex
object_ends r e = refl

items_end : (ds : Items) (r : List ℕ) → ends_word (items_text true ds ++ r) ≡ true
items_end no_items r = refl
items_end (item d ds) r = refl

members_end : (ms : Members) (r : List ℕ) → ends_word (members_text true ms ++ r) ≡ true
members_end no_members r = refl
members_end (member key d ms) r = refl

mutual
  text_cut : (d : Data) → IsPlain d → IsCut (compact_text d)
  text_cut null h = null_cut
  text_cut (boolean b) h = boolean_cut b
  text_cut (number n) h = number_cut n h
  text_cut (string s) h = quoted_cut s
  text_cut (array ds) h = array_cut (items_text false ds) (items_cut false ds h)
  text_cut (object ms) h = object_cut (members_text false ms) (members_cut false ms h.1)

  items_cut : (later : Bool) (ds : Items) → ArePlain ds → IsCut (items_text later ds)
  items_cut later no_items h = array_ends
  items_cut later (item d ds) h =
      comma_cut later (compact_text d ++ items_text true ds)
      (cut_both (compact_text d) (items_text true ds) (text_cut d h.0) (items_cut true ds h.1) (items_end ds))

  members_cut : (later : Bool) (ms : Members) → HasPlain ms → IsCut (members_text later ms)
  members_cut later no_members h = object_ends
  members_cut later (member key d ms) h =
      comma_cut later (quoted key ++ 58 ∷ (compact_text d ++ members_text true ms))
      (cut_both (quoted key) (58 ∷ (compact_text d ++ members_text true ms)) (quoted_cut key)
      (colon_cut (compact_text d ++ members_text true ms)
      (cut_both (compact_text d) (members_text true ms) (text_cut d h.1.0) (members_cut true ms h.1.1) (members_end ms)))
      (λ r. refl))

-- ---- the whole

newline_ends : lex between (10 ∷ []) ≡ []
unfolding lex
newline_ends = refl

tokens_with_newline : (d : Data) → IsPlain d → tokens (compact_text d ++ 10 ∷ []) ≡ tree.json_tokens (outline d)
tokens_with_newline d h =
    ap (punctuate fresh) (text_cut d h (10 ∷ []) refl ∙ ap (λ l. lex between (compact_text d) ++ l) newline_ends ∙ append-nil (lex between (compact_text d)))
    ∙ ap tokens (sym (print-outline d)) ∙ tokens-print (tree.json_tokens (outline d)) (ArePrintable-json_tokens (outline d) (has_numbers d h))

-- a saved value is read as itself
pub saved_back : (d : Data) → IsPlain d → depth d ≤ max_depth → read (compact_text d ++ 10 ∷ []) ≡ Some d
saved_back d h shallow =
    ap (λ o. option_and_then of_json (option_and_then (λ p. json.if_last p.0 p.1) o))
    (ap (json.value max_depth) (tokens_with_newline d h ∙ sym (append-nil (tree.json_tokens (outline d))))
    ∙ value-json_tokens (outline d) max_depth [] (subst (λ n. n ≤ max_depth) (sym (same_depth d)) shallow))
    ∙ value_of d h

-- and it is UTF-8
pub saved_is_utf8 : (d : Data) → IsPlain d → IsUtf8 (compact_text d ++ 10 ∷ [])
saved_is_utf8 d h = IsUtf8-append (compact_text d) (10 ∷ []) (text_is_utf8 d h) (IsUtf8-are_ascii (10 ∷ []) refl)
