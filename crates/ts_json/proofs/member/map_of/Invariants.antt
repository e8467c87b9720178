-- The members that are left, put to those that are there, give all.
use Rattle.std.proofs.Common.{◌≡◌, drop, map}
use Rattle.serde_json.specs.View.{members_view}
use Rattle.ts_json.specs.Members.{members_of, named_value, put_all}
use Rattle.ts_json.proofs.member.map_of.Given as goal

abbrev pub invariant-loop-member : goal.invariant-loop-member
invariant-loop-member l =
    put_all (map named_value (drop l.member-index l.members)) (members_view l.all.entries) ≡ members_of (map named_value l.members)
