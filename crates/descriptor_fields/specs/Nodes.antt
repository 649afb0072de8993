-- What is said of nodes by their numbers, and the descriptors that terms declare.
use Rattle.std.specs.Prelude.{◌≡◌, ℕ, suc, ◌+◌, nat_eq, Bool, false, ◌&&◌, if◌then◌else◌, List, [], ◌∷◌, ◌++◌, get_or, slice_get, Option}
use Rattle.std.specs.Prelude.{Some, None}
use Rattle.acpi_state.specs.Outcomes.{choose}
use Rattle.asl_tree.specs.declared.term.NamedDescriptor.{NamedDescriptor}
use Rattle.asl_numbers.specs.Numbers.{inside, nodes}
use Rattle.term_plans.specs.Plans.{Plan, a_call, a_form, Plans, no_plans, plan}
use Rattle.descriptor_fields.specs.Declaring.{has_terms, declared_by}

-- what a list says of the node with a number
abbrev pub at_node : {A : Type 0} → List (ℕ × A) → ℕ → Option A
at_node [] node = None
at_node (said ∷ others) node = if nat_eq said.0 node then Some said.1 else at_node others node

-- a table, with an entry for each number of a node, says of each node what is said of it first
abbrev pub SaysAt : {A : Type 0} → List (Option A) → List (ℕ × A) → Type 0
SaysAt table said = (node : ℕ) → get_or table node None ≡ at_node said node

-- something is said at a number, of which the first counts
abbrev pub IsPut : {A : Type 0} → List (Option A) → List (Option A) → ℕ → A → Type 0
IsPut old new number value =
    (n : ℕ) → get_or new n None ≡ choose (get_or old n None) (if nat_eq number n then Some value else None) Some

-- so much is said more
abbrev pub SaysMore : {A : Type 0} → List (Option A) → List (Option A) → List (ℕ × A) → Type 0
SaysMore {A} old new more = (said : List (ℕ × A)) → SaysAt old said → SaysAt new (said ++ more)

-- ---- the descriptors that terms declare, by the nodes that are their names; `next` is the number of the first node inside a term,
-- or of the first of some terms
abbrev pub named_first : (next : ℕ) → List NamedDescriptor → List (ℕ × NamedDescriptor)
named_first next [] = []
named_first next (named ∷ others) = (next, named) ∷ []

abbrev mutual
  pub named_in : (next : ℕ) → Plan → List (ℕ × NamedDescriptor)
  named_in next (a_form op args body) =
      if has_terms op then named_from (next + nodes args) body else named_first next (declared_by (a_form op args body))
  named_in next p = []

  pub named_from : (next : ℕ) → Plans → List (ℕ × NamedDescriptor)
  named_from next no_plans = []
  named_from next (plan place p ps) = named_in (suc next) p ++ named_from (suc (next + inside p)) ps

-- ---- the same as a table, with an entry for each node in preorder: that of the first node inside a term, which is one of a list of
-- terms or not; those of the nodes inside it; and those of a list with all inside it, of which the first has this one
abbrev pub own_entry : (terms : Bool) → Plan → Option NamedDescriptor
own_entry terms p = if terms then slice_get (declared_by p) 0 else None

abbrev mutual
  pub entries_inside : (terms : Bool) → Plan → List (Option NamedDescriptor)
  entries_inside terms (a_call name args) = entries_among false None args
  entries_inside terms (a_form op args body) =
      entries_among false (own_entry terms (a_form op args body)) args ++ entries_among (terms && has_terms op) None body
  entries_inside terms p = []

  pub entries_among : (terms : Bool) (first : Option NamedDescriptor) → Plans → List (Option NamedDescriptor)
  entries_among terms first no_plans = []
  entries_among terms first (plan place p ps) = first ∷ (entries_inside terms p ++ entries_among terms None ps)
