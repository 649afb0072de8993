use Rattle.std.proofs.Common.{◌≡◌, List, sym, ◌∙◌, subst}
use Rattle.asl_syntax.specs.declared.subtree.Subtrees.{Subtrees}
use Rattle.asl_syntax.specs.declared.frame.Frame.{Frame}
use Rattle.asl_parser.specs.declared.state.ParserState.TheVariants as st
use Rattle.asl_parser.specs.declared.stage.Stage.{Stage}
use Rattle.asl_parser.specs.declared.stage.Stage.TheVariants as g
use Rattle.asl_syntax.specs.Opens.{tree_of}
use Rattle.asl_parser.specs.Stages.{BeginsNext, state_of}
use Rattle.asl_parser.proofs.Next.{next_called, next_whole}
use Rattle.asl_parser.proofs.machine.end_expression.Goals as goal
use Rattle.asl_parser.proofs.machine.end_expression.Goals.{in-Called+in_ok-call, in_default+in-Word-1, in_default+in-Operand-1}

behind : (c : goal.After-end_tree) (v : Subtrees × List Frame) → c.match-replace.stack ≡ v → BeginsNext c.end_tree.result (st.Whole (tree_of v.0), v.1) c.end_tree.new.stack
behind c v same = subst (λ (u : Subtrees × List Frame). BeginsNext c.end_tree.result (st.Whole (tree_of u.0), u.1) c.end_tree.new.stack) same c.end_tree.ensures

pub returns-clause-next : goal.returns-clause-next
returns-clause-next c =
    let s = c.args.stack.now in
    elim c.match-replace.branch [
      | in-Called+in_ok-call w ↦
          let stage_is : c.args.stage.now ≡ g.Called w.in-Called.spot w.in-Called.word = sym c.replace.ensures.value ∙ w.in-Called.is in
          let next = next_called c.end_tree.result w.in-Called.spot w.in-Called.word s.0 (tree_of w.call.new.self.0) s.1 w.call.new.self.1 c.end_tree.new.stack w.in_ok-call.ensures.tree w.in_ok-call.ensures.frames (behind c w.call.new.self w.stack-is) in
          subst (λ (x : Stage). BeginsNext c.end_tree.result (state_of x s.0, s.1) c.end_tree.new.stack) (sym stage_is) next
      | in_default+in-Word-1 w ↦ next_whole c.end_tree.result c.args.stage.now s c.end_tree.new.stack c.requires.ends (λ p word e. w.in_default.not-Called p word (c.replace.ensures.value ∙ e)) (behind c s w.stack-is)
      | in_default+in-Operand-1 w ↦ next_whole c.end_tree.result c.args.stage.now s c.end_tree.new.stack c.requires.ends (λ p word e. w.in_default.not-Called p word (c.replace.ensures.value ∙ e)) (behind c s w.stack-is)
    ]
