use Rattle.std.proofs.Common.{sym, ◌∙◌}
use Rattle.source_lines.specs.Order.{rank}
use Rattle.source_lines.proofs.Ordered.{rank_at, only_one, only_first, same_rank}
use Rattle.source_lines.proofs.order.index_of.Goals as goal

pub returns-then-is_at : goal.returns-then-is_at
returns-then-is_at c =
    let line = c.index-lines-index.result in
    only_one c.args.lines.now c.requires c.guess-index.result (rank c.args.place.file c.args.place.line) c.if-index-lines.true
    (rank_at c.args.lines.now c.guess-index.result line c.if-index-lines.true c.index-lines-index.is ∙ same_rank line c.args.place (sym c.is_at.ensures ∙ c.if-is_at.true))

pub returns-else-index-lines : goal.returns-else-index-lines
returns-else-index-lines c =
    only_first c.args.lines.now c.requires c.count_before.result (rank c.args.place.file c.args.place.line) c.count_before.ensures.before c.count_before.ensures.behind
