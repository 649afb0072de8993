use Rattle.std.proofs.Common.{◌≡◌, ℕ, ◌+◌}
use Rattle.asl_preprocess.specs.RowsByCode.{joined_rows, lines_left}
use Rattle.asl_preprocess.proofs.rows.Rows.join.Given as goal

abbrev pub invariant-loop-front : goal.invariant-loop-front
invariant-loop-front l = record {
  joined : (start : ℕ) → joined_rows l.self start l.text.items ≡ joined_rows l.fn.self start l.fn.line;
  room : l.self.number + lines_left l.self ≡ l.fn.self.number + lines_left l.fn.self;
  in_comment : l.self.in_comment ≡ l.fn.self.in_comment;
  enabled : l.self.enabled ≡ l.fn.self.enabled;
}

abbrev pub decreases-loop-front : goal.decreases-loop-front
decreases-loop-front l = lines_left l.self
