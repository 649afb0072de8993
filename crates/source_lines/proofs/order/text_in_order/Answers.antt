use Rattle.std.proofs.Common.{[], sym, ap, ◌∙◌, arith}
use Rattle.std.proofs.lemmas.Bool.{false≢true}
use Rattle.source_lines.proofs.Ordered.{at_place, one_there, nothing_there}
use Rattle.source_lines.proofs.order.text_in_order.Goals as goal
use Rattle.source_lines.proofs.order.text_in_order.Goals.{else-index-lines-via-then-index-lines+else-is_at, else-index-lines-via-else-index-lines}

pub returns-then-is_at : goal.returns-then-is_at
returns-then-is_at c =
    let there = ap (λ line. at_place line c.args.place) (sym c.index-lines-index.is) ∙ (sym c.is_at.ensures ∙ c.if-is_at.true) in
    sym (one_there c.args.lines.now c.args.place c.index_of-index.result c.index-lines-index-then-is_at.result c.index-lines-index.result c.if-index-lines.true
    (λ k below same. omega (arith, c.index_of-index.ensures k (omega arith) same)) there)

pub returns-else-index-lines : goal.returns-else-index-lines
returns-else-index-lines c = elim c.else-index-lines.branch [
  | else-index-lines-via-then-index-lines+else-is_at w ↦
      sym (nothing_there c.args.lines.now c.args.place c.index_of-index.result c.index_of-index.ensures w.index-lines-index.result
      (λ _ there. false≢true (sym w.if-is_at.false ∙ (w.is_at.ensures ∙ (ap (λ line. at_place line c.args.place) w.index-lines-index.is ∙ there)))))
  | else-index-lines-via-else-index-lines w ↦
      sym (nothing_there c.args.lines.now c.args.place c.index_of-index.result c.index_of-index.ensures (record { file = 0; number = 0; text = [] })
      (λ within there. omega (arith, w.if-index-lines.false)))
]
