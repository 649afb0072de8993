use Rattle.std.proofs.Common.{◌≡◌, ◌++◌, replicate}
use Rattle.asl_fragments.proofs.comments.add_blanks.Given as goal

abbrev pub invariant-loop : goal.invariant-loop
invariant-loop l = l.out.items ≡ l.initial.out.items ++ replicate l.index 32
