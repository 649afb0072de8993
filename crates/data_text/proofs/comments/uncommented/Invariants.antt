use Rattle.std.proofs.Common.{◌≡◌, ◌++◌, drop}
use Rattle.data_text.specs.Comments.{uncommented_from, mode_after}
use Rattle.data_text.proofs.comments.uncommented.Given as goal

abbrev pub invariant-loop-index : goal.invariant-loop-index
invariant-loop-index l = record {
  text : l.out.items ++ uncommented_from l.now (drop l.index l.line) ≡ uncommented_from l.fn.mode l.line;
  mode : mode_after l.now (drop l.index l.line) ≡ mode_after l.fn.mode l.line;
}
