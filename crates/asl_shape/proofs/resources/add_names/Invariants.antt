use Rattle.std.proofs.Common.{◌≡◌, ◌++◌, take, map}
use Rattle.asl_shape.specs.Descriptors.{moved}
use Rattle.asl_shape.proofs.resources.add_names.Given as goal

abbrev pub invariant-loop-named : goal.invariant-loop-named
invariant-loop-named l = l.names.items ≡ l.fn.names.items ++ map (moved l.bytes) (take l.named-index l.added)
