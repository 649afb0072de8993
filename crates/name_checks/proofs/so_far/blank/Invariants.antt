use Rattle.std.proofs.Common.{◌≡◌, false}
use Rattle.std.specs.Prelude.{replicate}
use Rattle.name_kinds.specs.declared.kind.External.{External}
use Rattle.name_kinds.proofs.Entries.{none_of}
use Rattle.name_checks.proofs.so_far.blank.Given as goal

abbrev pub invariant-loop-number : goal.invariant-loop-number
invariant-loop-number l = record {
  declared : l.declared.items ≡ replicate l.number false;
  externals : l.externals.items ≡ replicate l.number (none_of External);
}
