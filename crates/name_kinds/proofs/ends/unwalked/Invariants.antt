use Rattle.std.proofs.Common.{◌≡◌, length}
use Rattle.std.specs.Prelude.{replicate}
use Rattle.name_kinds.specs.declared.ends.WalkState.TheVariants as Mark
use Rattle.name_kinds.proofs.ends.unwalked.Given as goal

abbrev pub invariant-loop-number : goal.invariant-loop-number
invariant-loop-number l = record {
  marks : l.marks.items ≡ replicate l.number Mark.New;
  ends : length l.ends.items ≡ l.number;
}
