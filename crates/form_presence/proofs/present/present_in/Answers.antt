use Rattle.std.proofs.Common.{◌≡◌, Bool, true, false, refl, ◌∙◌}
use Rattle.std.specs.Prelude.{◌||◌}
use Rattle.term_plans.specs.Plans.{plans_of}
use Rattle.form_presence.specs.Kinds.{ASwitch, AField, AList, ForOrPrint, ADescriptor, are_in}
use Rattle.form_presence.proofs.present.present_in.Goals as goal

none_before : (b : Bool) → (b || false) ≡ b
none_before true = refl
none_before false = refl

pub returns-clause-switches : goal.returns-clause-switches
returns-clause-switches c = c.look.ensures.kinds ASwitch ∙ none_before (are_in ASwitch (plans_of c.args.terms.now))

pub returns-clause-fields : goal.returns-clause-fields
returns-clause-fields c = c.look.ensures.kinds AField ∙ none_before (are_in AField (plans_of c.args.terms.now))

pub returns-clause-lists : goal.returns-clause-lists
returns-clause-lists c = c.look.ensures.kinds AList ∙ none_before (are_in AList (plans_of c.args.terms.now))

pub returns-clause-forms : goal.returns-clause-forms
returns-clause-forms c = c.look.ensures.kinds ForOrPrint ∙ none_before (are_in ForOrPrint (plans_of c.args.terms.now))

pub returns-clause-descriptors : goal.returns-clause-descriptors
returns-clause-descriptors c = c.look.ensures.kinds ADescriptor ∙ none_before (are_in ADescriptor (plans_of c.args.terms.now))
