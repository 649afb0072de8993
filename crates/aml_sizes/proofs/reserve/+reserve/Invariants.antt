use Rattle.std.proofs.Common.{◌≡◌, ◌≤◌, ◌+◌, ◌++◌, length, drop}
use Rattle.aml_sizes.specs.TermLists.{terms_bytes, later_of}
use Rattle.aml_sizes.specs.PackageLengths.{terms_lengths, Noted}
use Rattle.aml_sizes.specs.Pieces.{nodes_pieces}
use Rattle.aml_sizes.specs.Rooms.{blanks, sizes}
use Rattle.aml_sizes.proofs.reserve.+reserve.Given as goal

-- what is reserved for the last terms, and how many bytes of them are a run
abbrev pub invariant-reserve_terms-loop-left : goal.invariant-reserve_terms-loop-left
invariant-reserve_terms-loop-left l = record {
  within : l.left ≤ length l.nodes;
  later : l.later ≡ later_of l.style (drop l.left l.nodes);
  pieces : l.draft.pieces.items ≡ l.initial.draft.pieces.items ++ blanks (nodes_pieces l.style l.lines (drop l.left l.nodes));
  spaces : l.draft.spaces.items ≡ l.initial.draft.spaces.items ++ sizes (nodes_pieces l.style l.lines (drop l.left l.nodes));
  lengths : Noted (terms_lengths l.style (drop l.left l.nodes)) l.initial.draft.notes l.draft.notes;
  size : l.draft.size ≡ l.initial.draft.size + length (terms_bytes l.style (drop l.left l.nodes));
}

abbrev pub decreases-reserve_terms-loop-left : goal.decreases-reserve_terms-loop-left
decreases-reserve_terms-loop-left l = l.left
