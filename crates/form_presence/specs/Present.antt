-- Whether a form of some kind stands among terms, at any depth.
use Rattle.std.specs.Prelude.{Bool, true, false, ◌||◌}
use Rattle.asl_tree.specs.declared.term.Control.TheVariants as Control
use Rattle.asl_tree.specs.declared.term.Declaration.TheVariants as Declaration
use Rattle.asl_tree.specs.declared.term.Special.TheVariants as Special
use Rattle.asl_tree.specs.declared.term.Op.{Op}
use Rattle.term_plans.specs.Plans.{Plan, a_call, a_form, Plans, no_plans, plan}

-- a choice by a value
abbrev pub is_switch : Op → Bool
is_switch (Op.Control Control.Switch) = true
is_switch op = false

-- what has a list of units of a field
abbrev pub is_field : Op → Bool
is_field (Op.Declaration Declaration.Field) = true
is_field (Op.Declaration Declaration.IndexField) = true
is_field (Op.Declaration Declaration.BankField) = true
is_field op = false

-- what has a size and a list of bytes or of elements
abbrev pub is_list : Op → Bool
is_list (Op.Special Special.Buffer) = true
is_list (Op.Special Special.Package) = true
is_list op = false

-- a For, and what prints
abbrev pub is_form : Op → Bool
is_form (Op.Control Control.For) = true
is_form (Op.Control Control.Printf) = true
is_form (Op.Control Control.Fprintf) = true
is_form op = false

-- of the operators that are such ones
module _ (is_such : Op → Bool) where
  abbrev mutual
    -- a term has one, or one stands in its arguments or in its braces, whatever these hold
    pub has_op : Plan → Bool
    has_op (a_call name args) = have_op args
    has_op (a_form op args body) = is_such op || (have_op args || have_op body)
    has_op p = false

    -- one of some terms has one, or one stands in them
    pub have_op : Plans → Bool
    have_op no_plans = false
    have_op (plan place p ps) = has_op p || have_op ps
