use Rattle.asl_prints.specs.Nodes.{node_tree}
use Rattle.asl_prints.specs.PlanParts.{placed}
use Rattle.asl_prints.proofs.Writes.{joined_next}
use Rattle.asl_prints.proofs.PlanWrites as L
use Rattle.std.proofs.Common.{ap, ◌∙◌, suc}
use Rattle.asl_prints.specs.PrintNumbers.{numbers_behind, joins, text_joins}
use Rattle.asl_prints.proofs.PrintNumbers.{joins_none, joins_last, behind_added, joins_next}
use Rattle.asl_prints.proofs.print.+joined.Goals as goal

pub returns-in_ok-made-in-len1-up-args-clause-tree : goal.returns-in_ok-made-in-len1-up-args-clause-tree
returns-in_ok-made-in-len1-up-args-clause-tree t c =
    joined_next (node_tree c.args.front) (node_tree c.in_ok-front-in-len1-up-args.front) (node_tree c.in_ok-made-in-len1-up-args.made) c.text-item.result c.argument-item.result c.args.texts.now c.other_texts.result.now c.args.args.now c.others.result.now
    c.in-len1-up.len_at_least c.in-len1-up-args.len_at_least c.text-item.is c.argument-item.is c.other_texts.ensures c.others.ensures c.in_ok-front-in-len1-up-args.ensures.tree c.in_ok-made-in-len1-up-args.ensures.tree

pub returns-in_ok-made-in-len1-up-args-clause-plan : goal.returns-in_ok-made-in-len1-up-args-clause-plan
returns-in_ok-made-in-len1-up-args-clause-plan t c =
    L.joined_next c.args.place c.args.front c.in_ok-front-in-len1-up-args.front (placed c.in_ok-made-in-len1-up-args.made) c.text-item.result c.argument-item.result c.args.texts.now c.other_texts.result.now c.args.args.now c.others.result.now
    c.in-len1-up.len_at_least c.in-len1-up-args.len_at_least c.text-item.is c.argument-item.is c.other_texts.ensures c.others.ensures c.in_ok-front-in-len1-up-args.ensures.plan c.in_ok-made-in-len1-up-args.ensures.plan

pub returns-in_default-clause-down : goal.returns-in_default-clause-down
returns-in_default-clause-down t c = ap (λ n. numbers_behind n c.args.numbers.now.down) (joins_none c.args.texts.now c.args.args.now c.in_default.len_below)

pub returns-in_default-args-clause-down : goal.returns-in_default-args-clause-down
returns-in_default-args-clause-down t c = ap (λ n. numbers_behind n c.args.numbers.now.down) (joins_last c.args.texts.now c.args.args.now c.in_default-args.len_below)

pub returns-in_ok-made-in-len1-up-args-clause-down : goal.returns-in_ok-made-in-len1-up-args-clause-down
returns-in_ok-made-in-len1-up-args-clause-down t c =
    ap (λ n. numbers_behind n c.joined.new.numbers.down)
    (joins_next c.args.texts.now c.other_texts.result.now c.args.args.now c.others.result.now c.text-item.result c.argument-item.result c.in-len1-up.len_at_least c.in-len1-up-args.len_at_least c.text-item.is c.other_texts.ensures c.others.ensures)
    ∙ behind_added (suc (text_joins c.text-item.result)) (joins c.other_texts.result.now c.others.result.now) c.joined.new.numbers.down
    ∙ ap (numbers_behind (suc (text_joins c.text-item.result))) c.in_ok-made-in-len1-up-args.ensures.down ∙ c.in_ok-front-in-len1-up-args.ensures.down
