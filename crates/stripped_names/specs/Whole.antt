-- Terms from which those that declare descriptors can be taken out: no form among them is misshapen, and a Name whose value is bytes
-- declares a descriptor.
use Rattle.std.specs.Prelude.{Bool, true, false, []}
use Rattle.asl_tree.specs.Tree.{Tree, Misshapen}
use Rattle.term_plans.specs.Plans.{Plan, a_fill, a_form, Plans, no_plans, plan, plan_at}
use Rattle.asl_numbers.specs.Numbers.{numbered}
use Rattle.descriptor_fields.specs.Declaring.{has_terms, is_naming}
use Rattle.unused_names.specs.Bare.{nowhere}

abbrev pub IsShaped : Tree → Type 0
IsShaped Misshapen = ⊥
IsShaped _ = Unit {0}

-- a value of a Name that, if it is bytes, has a descriptor with a name
abbrev pub Describes : Plan → Type 0
Describes (a_fill bytes []) = ⊥
Describes _ = Unit {0}

abbrev pub Where : Bool → Type 0 → Type 0
Where true A = A
Where false A = Unit {0}

abbrev mutual
  pub IsWhole : Plan → Type 0
  IsWhole (a_form op args body) =
      IsShaped (numbered nowhere 0 (a_form op args body))
      × (Where (is_naming op) (Describes (plan_at args 1)) × Where (has_terms op) (AreWhole body))
  IsWhole _ = Unit {0}

  pub AreWhole : Plans → Type 0
  AreWhole no_plans = Unit {0}
  AreWhole (plan place p ps) = IsWhole p × AreWhole ps
