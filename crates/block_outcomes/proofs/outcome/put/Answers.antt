use Rattle.std.proofs.Common.{Some, refl, ap, ◌∙◌}
use Rattle.block_outcomes.specs.declared.outcome.Class.TheVariants as class
use Rattle.block_outcomes.proofs.Joins.{faulty_sorted, same_more}
use Rattle.block_outcomes.proofs.outcome.put.Goals as goal

pub returns-in_ok-add_all-in-Names : goal.returns-in_ok-add_all-in-Names
returns-in_ok-add_all-in-Names c = λ os e h. faulty_sorted (Some class.Names) os c.args.errors c.args.sorted _ (e ∙ ap Some c.in-Names.is) h c.in_ok-add_all-in-Names.ensures (same_more c.args.sorted.kinds) (same_more c.args.sorted.lowering) (same_more c.args.sorted.sizes) refl

pub returns-in_ok-add_all-in-Kinds : goal.returns-in_ok-add_all-in-Kinds
returns-in_ok-add_all-in-Kinds c = λ os e h. faulty_sorted (Some class.Kinds) os c.args.errors c.args.sorted _ (e ∙ ap Some c.in-Kinds.is) h (same_more c.args.sorted.names) c.in_ok-add_all-in-Kinds.ensures (same_more c.args.sorted.lowering) (same_more c.args.sorted.sizes) refl

pub returns-in_ok-add_all-in-Lowering : goal.returns-in_ok-add_all-in-Lowering
returns-in_ok-add_all-in-Lowering c = λ os e h. faulty_sorted (Some class.Lowering) os c.args.errors c.args.sorted _ (e ∙ ap Some c.in-Lowering.is) h (same_more c.args.sorted.names) (same_more c.args.sorted.kinds) c.in_ok-add_all-in-Lowering.ensures (same_more c.args.sorted.sizes) refl

pub returns-in_ok-add_all-in-Sizes : goal.returns-in_ok-add_all-in-Sizes
returns-in_ok-add_all-in-Sizes c = λ os e h. faulty_sorted (Some class.Sizes) os c.args.errors c.args.sorted _ (e ∙ ap Some c.in-Sizes.is) h (same_more c.args.sorted.names) (same_more c.args.sorted.kinds) (same_more c.args.sorted.lowering) c.in_ok-add_all-in-Sizes.ensures refl
