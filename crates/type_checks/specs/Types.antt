-- The arguments of a wrong kind.
use Rattle.std.specs.Prelude.{ℕ, suc, ◌+◌, Bool, true, false, List, [], ◌∷◌, ◌++◌, Option, Some, None}
use Rattle.std.specs.List.{list_any}
use Rattle.iasl_messages.specs.declared.message.Message.{Message}
use Rattle.iasl_messages.specs.declared.place.Place.{Place}
use Rattle.asl_tree.specs.Tree.{Trees}
use Rattle.asl_tree.specs.declared.term.Op.{Op}
use Rattle.term_plans.specs.Plans.{Plan, a_call, a_form, Plans, no_plans, plan}
use Rattle.term_plans.specs.Places.{fault_at}
use Rattle.asl_numbers.specs.Numbers.{inside, nodes}
use Rattle.name_entries.specs.declared.kind.ObjectType.{ObjectType as Named}
use Rattle.type_checks.specs.declared.kind.ValueKind.{ValueKind}
use Rattle.type_checks.specs.declared.kind.Wanted.{Wanted}
use Rattle.type_checks.specs.Kinds.{takes, is_place, wanted_of, kinds_of}
use Rattle.type_checks.specs.Names.{named}

-- whether what an argument takes and what it can have are some kind in common
abbrev pub fits : Wanted → List ValueKind → Bool
fits wants kinds = list_any (takes wants) kinds

abbrev pub unless : Bool → Place → List Message
unless true place = []
unless false place = fault_at 6050 place ∷ []

-- nodes are numbered in preorder; `names` says what stands where the name at a node leads
module _ (names : ℕ → Named) where
  -- the expression at a node, as an argument that takes this
  abbrev pub argument_errors : Wanted → ℕ → Place → Plan → List Message
  argument_errors wants node place p = unless (fits wants (kinds_of names (is_place wants) node p)) place

  abbrev mutual
    -- what is wrong inside a term, whose first node inside has this number
    pub errors_inside : ℕ → Plan → List Message
    errors_inside node (a_call name args) = errors_of None 0 node args
    errors_inside node (a_form op args body) = errors_of (Some op) 0 node args ++ errors_of None 0 (node + nodes args) body
    errors_inside node _ = []

    -- what is wrong with the arguments of a form from a place on, the first at this node: each, and then what is inside it
    pub errors_of : Option Op → ℕ → ℕ → Plans → List Message
    errors_of asker at node no_plans = []
    errors_of asker at node (plan place p ps) =
        argument_errors (wanted_of asker at) node place p
        ++ (errors_inside (suc node) p ++ errors_of asker (suc at) (suc (node + inside p)) ps)

-- the errors of a block, whose names are those of the trees
abbrev pub wrong_types : Trees → Plans → List Message
wrong_types program terms = errors_of (named program) None 0 0 terms
