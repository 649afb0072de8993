use Rattle.std.proofs.Common.{◌≡◌, ℕ}
use Rattle.std.specs.Prelude.{replicate}
use Rattle.name_kinds.specs.declared.kind.NameKind.{NameKind}
use Rattle.name_kinds.specs.declared.kind.External.{External}
use Rattle.name_kinds.proofs.Entries.{none_of}
use Rattle.name_kinds.proofs.facts.blank.Given as goal

abbrev pub invariant-loop-number : goal.invariant-loop-number
invariant-loop-number l = record {
  kinds : l.kinds.items ≡ replicate l.number (none_of NameKind);
  externals : l.externals.items ≡ replicate l.number (none_of External);
  calls : l.calls.items ≡ replicate l.number (none_of ℕ);
}
