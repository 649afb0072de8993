use Rattle.std.proofs.Common.{refl, sym, ◌∙◌}
use Rattle.asl_syntax.specs.declared.open.FrameKind.TheVariants as k
use Rattle.asl_syntax.specs.Opens.{tree_of}
use Rattle.asl_parser.proofs.Next.{next_begins, next_refused, not_follows}
use Rattle.asl_parser.proofs.machine.end_tree.Goals as goal

pub returns-in_ok-add-in-Unit : goal.returns-in_ok-add-in-Unit
returns-in_ok-add-in-Unit c = next_begins (tree_of c.args.stack.now.0) c.args.stack.now.1 c.settle.new.stack c.add.new.self k.Unit c.in_ok-settle.ensures.stack (sym c.in-Unit.is ∙ c.kind.ensures) refl c.in_ok-add-in-Unit.ensures

pub returns-in_ok-add-in-Body : goal.returns-in_ok-add-in-Body
returns-in_ok-add-in-Body c =
    let b = c.in-Body in
    next_begins (tree_of c.args.stack.now.0) c.args.stack.now.1 c.settle.new.stack c.add-in-Body.new.self (k.Body b.spot b.word b.args) c.in_ok-settle.ensures.stack (sym b.is ∙ c.kind.ensures) refl c.in_ok-add-in-Body.ensures

pub returns-in_default : goal.returns-in_default
returns-in_default c =
    let kind = c.kind.result.now in
    next_refused (tree_of c.args.stack.now.0) c.args.stack.now.1 c.settle.new.stack c.settle.new.stack kind c.in_ok-settle.ensures.stack c.kind.ensures (not_follows kind c.in_default.not-Unit c.in_default.not-Body)
