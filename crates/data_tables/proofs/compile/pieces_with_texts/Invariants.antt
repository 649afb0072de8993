use Rattle.std.proofs.Common.{◌≡◌, map}
use Rattle.data_tables.specs.Compiling.{with_text}
use Rattle.data_tables.proofs.compile.pieces_with_texts.Given as goal

abbrev pub invariant-loop-piece : goal.invariant-loop-piece
invariant-loop-piece l = l.out ≡ map (with_text l.index) l.yielded
