use Rattle.std.proofs.Common.{◌≡◌, drop}
use Rattle.asl_lexer.specs.Scan.{with_carets}
use Rattle.asl_lexer.proofs.names.add_carets.Given as goal

abbrev pub invariant-loop-place : goal.invariant-loop-place
invariant-loop-place l = with_carets l.tokens (drop l.place-index l.places) ≡ with_carets l.initial.tokens l.places
