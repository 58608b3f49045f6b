use Rattle.std.proofs.Common.{◌≡◌, ℕ, ◌+◌, ◌*◌, ◌≤◌, List, length}
use Rattle.json.specs.Json.{items, members, value, parse_map}
use Rattle.serde_json.specs.Data.{Data, Members, no_members}
use Rattle.serde_json.specs.Read.{of_items, of_members, converted}
use Rattle.serde_json.specs.View.{members_view}
use Rattle.sourcemap_json_read.specs.Kept.{AreKeptMembers}
use Rattle.sourcemap_json_read.proofs.KeptLemmas.{AreOrdered}
use Rattle.sourcemap_json_read.proofs.KeptReading.{in_front, KeepsFront}
use Rattle.sourcemap_json_read.proofs.exact.+read.Given as goal

abbrev pub decreases-read : goal.decreases-read
decreases-read g l = 2 * l.depth

abbrev pub decreases-read_items : goal.decreases-read_items
decreases-read_items g l = 2 * l.depth + 1

abbrev pub decreases-read_members : goal.decreases-read_members
decreases-read_members g l = 2 * l.depth + 1

-- `front` are the items so far
abbrev pub invariant-read_items-items : goal.invariant-read_items-items
invariant-read_items-items g l =
    (n : ℕ) × (length l.reader ≤ n) × (front : List Data) × KeepsFront g.L.Level.inside l.level front l.found.items
    × (converted of_items (items (value l.depth) (length l.initial.reader) l.initial.reader)
    ≡ parse_map (in_front front) (converted of_items (items (value l.depth) n l.reader)))
    × (length l.reader ≤ length l.initial.reader)

abbrev pub decreases-read_items-items : goal.decreases-read_items-items
decreases-read_items-items g l = length l.reader

-- `before` are the members so far, of duplicate keys the last
abbrev pub invariant-read_members-members : goal.invariant-read_members-members
invariant-read_members-members g l =
    (n : ℕ) × (length l.reader ≤ n) × (before : Members) × AreOrdered before
    × AreKeptMembers g.L.Level.inside l.level before (members_view l.found.entries)
    × (converted (λ ms. of_members ms no_members)
    (members (value l.depth) (length l.initial.reader) l.initial.reader)
    ≡ converted (λ ms. of_members ms before) (members (value l.depth) n l.reader))
    × (length l.reader ≤ length l.initial.reader)

abbrev pub decreases-read_members-members : goal.decreases-read_members-members
decreases-read_members-members g l = length l.reader
