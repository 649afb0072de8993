use Rattle.std.proofs.Common.{◌∷◌, sym}
use Rattle.std.proofs.lemmas.List.Elements.{All-head, All-rest, All-same}
use Rattle.asl_preprocess.specs.Rows.{file_lines}
use Rattle.asl_preprocess.specs.OwnName.{LacksOwnName}
use Rattle.asl_preprocess.proofs.Parts.{end_of_end}
use Rattle.asl_preprocess.proofs.rows.Rows.next_line.Goals as goal

pub invariant_of-self : goal.invariant_of-self
invariant_of-self c = record {
  end = end_of_end c.in_ok-line.rest.now c.args.self.now.rest.now c.args.self.now.file.now c.in_ok-line.ensures.end c.args.self.now.end;
  lack = λ is. All-rest LacksOwnName c.in_ok-line.line.now (file_lines c.in_ok-line.rest.now) (file_lines c.args.self.now.rest.now) c.in_ok-line.ensures.line (c.args.self.now.lack is);
}

pub returns-clause-lacks : goal.returns-clause-lacks
returns-clause-lacks c = λ is.
    let line = c.in_ok-line.line.now in
    let rest = c.in_ok-line.rest.now in
    All-head LacksOwnName line (file_lines rest) (All-same LacksOwnName (line ∷ file_lines rest) (file_lines c.args.self.now.rest.now) (sym c.in_ok-line.ensures.line) (c.args.self.now.lack is))
