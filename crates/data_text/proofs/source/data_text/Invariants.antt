use Rattle.std.proofs.Common.{◌≡◌, drop}
use Rattle.data_text.specs.Source.{text_of}
use Rattle.data_text.specs.Reading.{told_with}
use Rattle.data_text.proofs.source.data_text.Given as goal

abbrev pub invariant-loop-line : goal.invariant-loop-line
invariant-loop-line l = told_with l.reader (drop l.line-index l.lines) ≡ text_of l.lines
