use Rattle.std.proofs.Common.{◌≡◌, ◌++◌, drop}
use Rattle.field_layout.specs.Segments.{first_said, segments_from, first_fault}
use Rattle.field_layout.proofs.segments.segments.Given as goal

abbrev pub invariant-loop-item : goal.invariant-loop-item
invariant-loop-item l = record {
  place : l.place ≡ l.item-index;
  segments : l.segments ++ segments_from l.said l.item-index (drop l.item-index l.items) ≡ segments_from (first_said l.access) 0 l.items;
  fault : first_fault l.space l.said l.item-index (drop l.item-index l.items) ≡ first_fault l.space (first_said l.access) 0 l.items;
}
