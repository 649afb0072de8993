use Rattle.std.proofs.Common.{◌≡◌, ◌*◌, ◌^◌, ◌≤◌}
use Rattle.resource_macros.specs.Arguments.{mask_of}
use Rattle.resource_macros.proofs.encoded.mask_of.Given as goal

abbrev pub invariant-loop-bit : goal.invariant-loop-bit
invariant-loop-bit l = record {
  mask : l.mask ≡ mask_of l.bit l.members;
  small : l.mask ≤ l.bit * 2 ^ 16;
}
