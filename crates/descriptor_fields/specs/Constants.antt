-- Terms in which fields of descriptors are constants (ACPI Specification 6.4, 19.2.8).
use Rattle.std.specs.Prelude.{ℕ, suc, ◌+◌, ◌/◌, ◌%◌, nat_eq, Bool, true, ◌||◌, if◌then◌else◌, List, [], ◌∷◌, ◌++◌, Option, Some}
use Rattle.iasl_messages.specs.declared.place.Place.{Place}
use Rattle.iasl_messages.specs.declared.message.Message.{Message}
use Rattle.asl_tree.specs.declared.path.Path.{Path}
use Rattle.asl_tree.specs.declared.term.Word.{Word}
use Rattle.asl_numbers.specs.Numbers.{inside, nodes}
use Rattle.term_plans.specs.Plans.{Plan, a_word, a_name, a_call, a_form, Plans, no_plans, plan}
use Rattle.descriptor_fields.specs.Nodes.{at_node}
use Rattle.descriptor_fields.specs.Values.{Among, Arguments, Contents, OfCall, is_value_in, is_in_bits}

-- an expression that is a field is a constant: its place as a number of bits or of bytes
abbrev pub counted : Bool → ℕ → ℕ
counted bits bit = if bits then bit else bit / 8

abbrev pub resolved_use : (bits value : Bool) → Path → Option ℕ → Plan
resolved_use bits true name (Some bit) = a_word (Word.FieldPlace (counted bits bit))
resolved_use bits value name field = a_name name

-- a field in bytes that does not begin with one
abbrev pub broken_use : (bits value : Bool) → Place → Option ℕ → List Message
broken_use bits true place (Some bit) =
    if bits || nat_eq (bit % 8) 0 then [] else record { number = 6056; place = place; name = [] } ∷ []
broken_use bits value place field = []

-- terms by the fields at their nodes; a term at the node with a number, whether it is counted in bits, and whether it is a value
module _ (fields : List (ℕ × ℕ)) where
  abbrev mutual
    pub resolved : (bits value : Bool) → (node : ℕ) → Plan → Plan
    resolved bits value node (a_name name) = resolved_use bits value name (at_node fields node)
    resolved bits value node (a_call name args) = a_call name (resolved_from OfCall 0 bits (suc node) args)
    resolved bits value node (a_form op args body) =
        a_form op (resolved_from (Arguments op) 0 bits (suc node) args) (resolved_from (Contents op) 0 bits (suc node + nodes args) body)
    resolved bits value node p = p

    -- those of a list from the one with this number on
    pub resolved_from : Among → ℕ → Bool → (node : ℕ) → Plans → Plans
    resolved_from among n bits node no_plans = no_plans
    resolved_from among n bits node (plan place p ps) =
        plan place (resolved (bits || is_in_bits among n) (is_value_in among n) node p)
        (resolved_from among (suc n) bits (suc (node + inside p)) ps)

  abbrev mutual
    pub broken : (bits value : Bool) → Place → (node : ℕ) → Plan → List Message
    broken bits value place node (a_name name) = broken_use bits value place (at_node fields node)
    broken bits value place node (a_call name args) = broken_from OfCall 0 bits (suc node) args
    broken bits value place node (a_form op args body) =
        broken_from (Arguments op) 0 bits (suc node) args ++ broken_from (Contents op) 0 bits (suc node + nodes args) body
    broken bits value place node p = []

    pub broken_from : Among → ℕ → Bool → (node : ℕ) → Plans → List Message
    broken_from among n bits node no_plans = []
    broken_from among n bits node (plan place p ps) =
        broken (bits || is_in_bits among n) (is_value_in among n) place node p
        ++ broken_from among (suc n) bits (suc (node + inside p)) ps
