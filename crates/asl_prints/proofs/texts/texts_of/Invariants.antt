use Rattle.std.proofs.Common.{◌≡◌, length}
use Rattle.asl_tree.specs.Formats.{cut}
use Rattle.asl_prints.specs.Texts.{all_texts, texts_with}
use Rattle.asl_prints.proofs.texts.texts_of.Given as goal

abbrev pub invariant-loop-texts : goal.invariant-loop-texts
invariant-loop-texts l = texts_with l.texts.items l.text.items (cut l.rest) ≡ all_texts l.fn.format

abbrev pub decreases-loop-texts : goal.decreases-loop-texts
decreases-loop-texts l = length l.rest
