use Rattle.std.proofs.Common.{◌≡◌, ◌+◌, false, drop}
use Rattle.asl_fragments.specs.Fragments as spec
use Rattle.asl_fragments.proofs.fragment.block_length.Given as goal

abbrev pub invariant-loop-index : goal.invariant-loop-index
invariant-loop-index l = record {
  count : l.index + spec.block_length l.star (drop l.index l.text) ≡ spec.block_length false l.text;
  open_ : spec.block_is_open l.star (drop l.index l.text) ≡ spec.block_is_open false l.text;
}
