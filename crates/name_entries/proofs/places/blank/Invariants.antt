use Rattle.std.proofs.Common.{◌≡◌, ℕ}
use Rattle.std.specs.Prelude.{replicate}
use Rattle.iasl_messages.specs.declared.place.Place.{Place}
use Rattle.name_kinds.proofs.Entries.{none_of}
use Rattle.name_entries.proofs.places.blank.Given as goal

abbrev pub invariant-loop-number : goal.invariant-loop-number
invariant-loop-number l = record {
  declared : l.declared.items ≡ replicate l.number (none_of Place);
  nodes : l.nodes.items ≡ replicate l.number (none_of ℕ);
  external : l.external.items ≡ replicate l.number (none_of Place);
}
