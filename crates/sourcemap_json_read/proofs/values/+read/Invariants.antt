use Rattle.std.proofs.Common.{ℕ, ◌+◌, ◌*◌, ◌≤◌, List, length}
use Rattle.std.specs.Str.{IsUtf8}
use Rattle.json.specs.Token.{Token}
use Rattle.serde_json.specs.Data.{Data, Items, Members, no_members}
use Rattle.serde_json.specs.View.{members_view}
use Rattle.sourcemap_json_read.specs.Kept.{AreKeptMembers}
use Rattle.sourcemap_json_read.specs.Values.{BeginsWithItems, BeginsWithMembers}
use Rattle.sourcemap_json_read.proofs.KeptLemmas.{AreOrdered}
use Rattle.sourcemap_json_read.proofs.KeptReading.{in_front, KeepsFront}
use Rattle.sourcemap_json_read.proofs.values.+read.Given as goal

abbrev pub decreases-read : goal.decreases-read
decreases-read g l = 2 * l.depth

abbrev pub decreases-read_items : goal.decreases-read_items
decreases-read_items g l = 2 * l.depth + 1

abbrev pub decreases-read_members : goal.decreases-read_members
decreases-read_members g l = 2 * l.depth + 1

-- `front` are the items so far. If the remaining tokens begin with the items `ds`, the tokens that remained before the
-- loop begin with `front`, followed by `ds`
abbrev pub invariant-read_items-items : goal.invariant-read_items-items
invariant-read_items-items g l =
    (most : ℕ) × (length l.cursor.tokens ≤ most)
    × (front : List Data) × KeepsFront g.L.Level.inside l.level front l.found.items
    × ((ds : Items) (new : List Token) → BeginsWithItems l.depth most l.cursor.tokens ds new
    → BeginsWithItems l.depth (length l.initial.cursor.tokens) l.initial.cursor.tokens (in_front front ds) new)
    × (IsUtf8 l.cursor.bytes → IsUtf8 l.initial.cursor.bytes)

abbrev pub decreases-read_items-items : goal.decreases-read_items-items
decreases-read_items-items g l = length l.cursor.tokens

-- `before` are the members so far, of duplicate keys the last
abbrev pub invariant-read_members-members : goal.invariant-read_members-members
invariant-read_members-members g l =
    (most : ℕ) × (length l.cursor.tokens ≤ most)
    × (before : Members) × AreOrdered before
    × AreKeptMembers g.L.Level.inside l.level before (members_view l.found.entries)
    × ((after : Members) (new : List Token)
    → BeginsWithMembers l.depth most l.cursor.tokens before after new
    → BeginsWithMembers l.depth (length l.initial.cursor.tokens) l.initial.cursor.tokens no_members after new)
    × (IsUtf8 l.cursor.bytes → IsUtf8 l.initial.cursor.bytes)

abbrev pub decreases-read_members-members : goal.decreases-read_members-members
decreases-read_members-members g l = length l.cursor.tokens
