use Rattle.std.proofs.Common.{◌<◌, length, sym, ap, ◌∙◌, arith}
use Rattle.std.specs.Prelude.{replicate}
use Rattle.std.proofs.lemmas.List.Elements.{All-weaker}
use Rattle.name_kinds.specs.declared.ends.WalkState.TheVariants as Mark
use Rattle.name_kinds.proofs.Following.{unwalked_marked, one_more, all_ended}
use Rattle.name_kinds.proofs.ends.ends_of.Goals as goal

pub loop-number-init : goal.loop-number-init
loop-number-init g c = record {
  marked = unwalked_marked c.args.paths.now g.whole.known c.in_ok-walks.walks (c.in_ok-walks.ensures.marks ∙ ap (λ n. replicate n Mark.New) c.len-count.ensures.len) (c.in_ok-walks.ensures.ends ∙ c.len-count.ensures.len) c.in_ok-walks.ensures.chain;
  idle = c.in_ok-walks.ensures.chain;
  done = λ n lt. absurd (omega (arith, lt));
}

pub settle-requires : goal.settle-requires
settle-requires g c =
    let walked = c.in_ok-end.ensures.marked in
    record {
      size = walked.ends ∙ sym walked.marks;
      inside = All-weaker (λ n. n < length c.args.paths.now) (λ n. n < length c.follow.new.walks.marks.items) (λ n h. omega (arith, h, walked.marks)) c.follow.new.walks.chain.items walked.inside;
    }

pub loop-number-preserved : goal.loop-number-preserved
loop-number-preserved g c = record {
  marked = c.settle.ensures.marked c.args.paths.now g.whole.known c.in_ok-end.ensures.marked c.in_ok-end.ensures.ends;
  idle = c.settle.ensures.idle;
  done = one_more c.loop-number.walks.marks.items c.settle.new.walks.marks.items c.loop-number.number c.loop-number.invariant.done (λ n h. c.settle.ensures.others n (c.in_ok-end.ensures.others n h)) (c.settle.ensures.others c.loop-number.number c.in_ok-end.ensures.start);
}

pub returns : goal.returns
returns g c = all_ended c.args.paths.now g.whole.known c.loop-number.walks c.loop-number.number c.loop-number.invariant.marked c.loop-number.invariant.idle (omega (arith, c.loop-number-test.false, c.len-count.ensures.len)) c.loop-number.invariant.done
