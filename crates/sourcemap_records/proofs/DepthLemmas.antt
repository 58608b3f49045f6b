-- The value of a member is at most as deep as the deepest of the members.
use Rattle.std.proofs.Common.{◌≡◌, ℕ, ◌≤◌, max, List, Option, Some, None, option_map, Ordering, Less, Equal, Greater, nat_cmp, arith}
use Rattle.std.specs.Cmp.Lexicographic.{slice_cmp}
use Rattle.std.specs.Ordering.{match_ordering}
use Rattle.serde_json.specs.Data.{Data, Members, no_members, member, depth, members_depth}
use Rattle.serde_json.specs.Find.{get_member}
use Rattle.serde_json.specs.View.{view}
use Rattle.serde_json.specs.declared.value.Value.{Value}

-- the depth of a value, 0 if there is none
abbrev pub depth_in : Option Data → ℕ
depth_in None = 0
depth_in (Some d) = depth d

of_either : (o : Ordering) (r : Option Data) (d : Data) (n : ℕ) → depth_in r ≤ n
    → depth_in (match_ordering o r (Some d) r) ≤ max (depth d) n
of_either Less r d n h = omega arith
of_either Equal r d n h = omega arith
of_either Greater r d n h = omega arith

pub depth-get_member : (key : List ℕ) (ms : Members) → depth_in (get_member key ms) ≤ members_depth ms
depth-get_member key no_members = omega arith
depth-get_member key (member l d ms) =
    of_either (slice_cmp nat_cmp key l) (get_member key ms) d (members_depth ms) (depth-get_member key ms)

pub depth_of_taken : (v : Option Value) (key : List ℕ) (ms : Members) → option_map view v ≡ get_member key ms
    → depth_in (option_map view v) ≤ members_depth ms
depth_of_taken v key ms e = rw e (depth-get_member key ms)
