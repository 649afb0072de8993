use Rattle.data_text.proofs.CommentSteps.{next_text, next_after}
use Rattle.data_text.proofs.comments.uncommented.Goals as goal

pub loop-index-preserved : goal.loop-index-preserved
loop-index-preserved c = record {
  text = next_text c.loop-index.out.items c.push.new.self.items c.args.line.now _ c.loop-index.now c.next_mode-next.result c.loop-index.index c.byte_at.result c.shown.result c.loop-index-test.true c.byte_at.ensures c.next_mode-next.ensures c.shown.ensures c.in_ok-push.ensures.items c.loop-index.invariant.text;
  mode = next_after c.args.line.now c.loop-index.now c.next_mode-next.result _ c.loop-index.index c.byte_at.result c.loop-index-test.true c.byte_at.ensures c.next_mode-next.ensures c.loop-index.invariant.mode;
}
