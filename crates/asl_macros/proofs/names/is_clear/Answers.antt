use Rattle.std.proofs.Common.{◌<◌, drop, length, slice_index, rules, subst}
use Rattle.asl_macros.specs.Clear.{IsClear}
use Rattle.asl_macros.specs.Table.{text_at}
use Rattle.asl_macros.proofs.Clear.{clear_step, unmarked_step}
use Rattle.asl_macros.proofs.names.is_clear.Goals.{else-may_begin-via-then-may_begin+else-names_behind, else-may_begin-via-else-may_begin}
use Rattle.asl_macros.proofs.names.is_clear.Goals as goal

pub loop-rest-preserved : goal.loop-rest-preserved
loop-rest-preserved c = λ clear.
    let rest = c.loop-rest.rest.now in
    let some : 0 < length rest = search rules in
    let behind : IsClear (text_at c.args.macros.now) (slice_index rest 0) (drop 1 rest) = subst (λ r. IsClear (text_at c.args.macros.now) (slice_index rest 0) r) c.split_at-else-passes_four.ensures.back clear in
    c.loop-rest.invariant (elim c.else-may_begin.branch [
      | else-may_begin-via-then-may_begin+else-names_behind w ↦ clear_step (text_at c.args.macros.now) c.loop-rest.before rest some (w.names_behind.ensures w.if-names_behind.false) behind
      | else-may_begin-via-else-may_begin w ↦ unmarked_step (text_at c.args.macros.now) c.loop-rest.before rest some (c.may_begin.ensures w.if-may_begin.false) behind
    ])
