-- The outcomes of blocks as they are sorted.
use Rattle.std.specs.Prelude.{◌≡◌, List}
use Rattle.block_outcomes.specs.declared.outcome.Class.TheVariants as class
use Rattle.block_outcomes.specs.declared.outcome.Outcome.{Outcome}
use Rattle.block_outcomes.specs.declared.outcome.Sorted.{Sorted}
use Rattle.block_outcomes.specs.Joined.{of_class, tables_among}

-- the errors of each class, and the tables
pub record AreSorted (outcomes : List Outcome) (sorted : Sorted) : Type 0 where
  pub names : sorted.names ≡ of_class class.Names outcomes
  pub kinds : sorted.kinds ≡ of_class class.Kinds outcomes
  pub lowering : sorted.lowering ≡ of_class class.Lowering outcomes
  pub sizes : sorted.sizes ≡ of_class class.Sizes outcomes
  pub tables : sorted.tables ≡ tables_among outcomes
