use Rattle.std.proofs.Common.{sym, ◌∙◌}
use Rattle.asl_syntax.specs.Opens.{tree_of}
use Rattle.asl_parser.proofs.Settled.{index_closes}
use Rattle.asl_parser.proofs.machine.close_index.Goals as goal

pub returns : goal.returns
returns c = rw c.set_whole.ensures (
  index_closes (tree_of c.args.stack.now.0) (tree_of c.apply.new.self.0) c.args.stack.now.1 c.apply.new.self.1 c.in-Index.spot c.leading-first.result c.end_with.new.self (sym c.kind.ensures ∙ c.in-Index.is) c.leading-first.ensures c.in_ok-end_with.ensures.stack c.in_ok-apply.ensures.tree c.in_ok-apply.ensures.frames,
  c.in_ok-apply.ensures.one,
)
