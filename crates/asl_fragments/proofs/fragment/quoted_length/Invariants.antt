use Rattle.std.proofs.Common.{◌≡◌, ◌+◌, false, drop}
use Rattle.asl_fragments.specs.Fragments as spec
use Rattle.asl_fragments.proofs.fragment.quoted_length.Given as goal

abbrev pub invariant-loop-index : goal.invariant-loop-index
invariant-loop-index l = l.index + spec.quoted_length l.protected (drop l.index l.text) ≡ spec.quoted_length false l.text
