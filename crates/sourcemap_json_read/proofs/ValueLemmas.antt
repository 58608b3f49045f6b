-- Lists of tokens that begin with a value, with items or with members: a lemma for each step of the reader.
use Rattle.std.proofs.Common.{◌≡◌, ℕ, ◌-◌, ◌<◌, ◌≤◌, List, [], ◌∷◌, length, Some, None, option_map}
use Rattle.std.proofs.Common.{option_and_then, refl, ap, ◌∙◌}
use Rattle.json.specs.Token.{Token}
use Rattle.json.specs.Json as json
use Rattle.json.specs.Lex.{tokens}
use Rattle.json.specs.Json.{parse_map, after_end_array, read_key}
use Rattle.json.proofs.Grammar.{left, value_is, value-begin_array, value-begin_object, items_end, items_more}
use Rattle.json.proofs.Grammar.{members_end, members_more, skip_value-shorter}
use Rattle.serde_json.specs.Data.{Data, array, object, Items, no_items, item, Members, put}
use Rattle.serde_json.specs.Read.{of_json, of_items, of_members, max_depth, read}
use Rattle.sourcemap_json_read.specs.Values.{BeginsWithValue, BeginsWithItems, BeginsWithMembers}

-- ---- values

pub one_token : (depth : ℕ) (t : Token) (j : json.Json) (d : Data) (old new : List Token) → old ≡ t ∷ new
    → json.value depth (t ∷ new) ≡ Some (j, new) → of_json j ≡ Some d → BeginsWithValue depth old d new
one_token depth t j d old new first is seen = (j, ap (json.value depth) first ∙ is, seen)

pub whole_array : (depth : ℕ) (ds : Items) (old rest new : List Token) → 0 < depth → old ≡ Token.begin_array ∷ rest
    → BeginsWithItems (depth - 1) (length rest) rest ds new → BeginsWithValue depth old (array ds) new
whole_array depth ds old rest new some opened h = (
  json.array h.0,
  ap (json.value depth) opened ∙ value-begin_array depth rest some ∙ ap (parse_map json.array) h.1,
  ap (option_map array) h.2,
)

pub whole_object : (depth : ℕ) (ms : Members) (old rest new : List Token) → 0 < depth
    → old ≡ Token.begin_object ∷ rest
    → BeginsWithMembers (depth - 1) (length rest) rest Members.no_members ms new
    → BeginsWithValue depth old (object ms) new
whole_object depth ms old rest new some opened h = (
  json.object h.0,
  ap (json.value depth) opened ∙ value-begin_object depth rest some ∙ ap (parse_map json.object) h.1,
  ap (option_map object) h.2,
)

pub whole_text : (text : List ℕ) (d : Data) (rest : List Token) → BeginsWithValue max_depth (tokens text) d rest
    → rest ≡ [] → read text ≡ Some d
whole_text text d rest h ended =
    ap (λ o. option_and_then of_json (option_and_then (λ p. json.if_last p.0 p.1) o)) h.1
    ∙ ap (λ ts. option_and_then of_json (json.if_last h.0 ts)) ended ∙ h.2

pub value_shorter : (depth : ℕ) (d : Data) (old new : List Token) → BeginsWithValue depth old d new
    → length new < length old
value_shorter depth d old new h = skip_value-shorter depth old new (ap left h.1)

-- ---- items

-- tokens that begin with a value do not begin with the end of an array
not_closed : (depth : ℕ) (j : json.Json) (ts r : List Token) → json.value depth ts ≡ Some (j, r)
    → after_end_array ts ≡ None
not_closed depth j [] r e = refl
not_closed depth j (Token.begin_object ∷ ts) r e = refl
not_closed depth j (Token.end_object ∷ ts) r e = refl
not_closed depth j (Token.begin_array ∷ ts) r e = refl
not_closed depth j (Token.end_array ∷ ts) r e = let none = value_is depth (Token.end_array ∷ ts) in absurd (cc)
not_closed depth j (Token.key s ∷ ts) r e = refl
not_closed depth j (Token.string s ∷ ts) r e = refl
not_closed depth j (Token.number s ∷ ts) r e = refl
not_closed depth j (Token.boolean b ∷ ts) r e = refl
not_closed depth j (Token.null ∷ ts) r e = refl
not_closed depth j (Token.bad ∷ ts) r e = refl

pub next_item : (depth most : ℕ) (d : Data) (ds : Items) (old rest new : List Token)
    → 0 < most → BeginsWithValue depth old d rest → BeginsWithItems depth (most - 1) rest ds new
    → BeginsWithItems depth most old (item d ds) new
next_item depth most d ds old rest new some h more = (
  json.item h.0 more.0,
  items_more (json.value depth) most old rest h.0 some (not_closed depth h.0 old rest h.1) h.1
      ∙ ap (parse_map (json.item h.0)) more.1,
  ap (option_and_then (λ e. option_map (item e) (of_items more.0))) h.2 ∙ ap (option_map (item d)) more.2,
)

pub no_more_items : (depth most : ℕ) (old new : List Token) → length old ≤ most → old ≡ Token.end_array ∷ new
    → BeginsWithItems depth most old no_items new
no_more_items depth most old new enough closed =
    (json.no_items, items_end (json.value depth) most old new enough (ap after_end_array closed), refl)

-- ---- members

pub next_member : (depth most : ℕ) (k : List ℕ) (d : Data) (before after : Members) (old member rest new : List Token)
    → 0 < most → old ≡ Token.key k ∷ member → BeginsWithValue depth member d rest → BeginsWithMembers depth (most
    - 1) rest (put k d before) after new → BeginsWithMembers depth most old before after new
next_member depth most k d before after old member rest new some named h more = (
  json.member k h.0 more.0,
  members_more (json.value depth) most k old member rest h.0 some (ap read_key named) h.1
      ∙ ap (parse_map (json.member k h.0)) more.1,
  ap (option_and_then (λ e. of_members more.0 (put k e before))) h.2 ∙ more.2,
)

pub no_more_members : (depth most : ℕ) (ms : Members) (old new : List Token) → length old ≤ most
    → old ≡ Token.end_object ∷ new → BeginsWithMembers depth most old ms ms new
no_more_members depth most ms old new enough closed =
    (json.no_members, members_end (json.value depth) most old new enough (ap read_key closed), refl)
