use Rattle.std.proofs.Common.{◌≡◌, ◌++◌, drop}
use Rattle.asl_lexer.specs.Scan.{caret_text}
use Rattle.asl_lexer.proofs.names.caret_text.Given as goal

abbrev pub invariant-loop-place : goal.invariant-loop-place
invariant-loop-place l = l.text ++ caret_text (drop l._place-index l.places) ≡ caret_text l.places
