use Rattle.std.proofs.Common.{◌≡◌, Bool, true, false, refl, sym, ◌∙◌}
use Rattle.std.specs.Prelude.{not}
use Rattle.term_plans.specs.Plans.{plans_of}
use Rattle.asl_formats.proofs.Formless.{same_plans, same_trees}
use Rattle.asl_tables.proofs.Absent.{none_held}
use Rattle.asl_tables.proofs.compile.formed.Goals as goal

none_there : (there : Bool) → not there ≡ true → there ≡ false
none_there true e = absurd cc
none_there false e = refl

pub returns-then-not-present : goal.returns-then-not-present
returns-then-not-present c =
    let none = none_held (plans_of c.args.terms.items) (sym c.requires.present.forms ∙ none_there c.args.present.forms c.if-not-present.true) in
    record { trees = same_trees c.args.terms.items none; plans = same_plans c.args.terms.items none }
