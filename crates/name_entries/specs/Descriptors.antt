-- The names of resource descriptors among those that terms declare (ACPI Specification 6.4, 19.2.8).
use Rattle.std.specs.Prelude.{◌≡◌, ℕ, Bool, true, false, nat_eq, List, [], ◌∷◌, ◌++◌, get_or, if◌then◌else◌}
use Rattle.std.specs.List.{list_any}
use Rattle.asl_tree.specs.Tree.{At, Tree, Use, Fill, Name, Method, Container', Scope, If, ElseIf, Else, While, For, Switch, Case, Default}
use Rattle.asl_tree.specs.Tree.{Trees, no_trees, tree}
use Rattle.asl_tree.specs.declared.term.Term.{Term}
use Rattle.asl_tree.specs.declared.term.Term as D
use Rattle.acpi_names.specs.declared.part.NameRole.{NameRole}
use Rattle.acpi_names.specs.declared.part.NameRole.TheVariants as P

-- a Name whose value is bytes alone declares a descriptor: in an expression bytes stand in a Buffer
abbrev pub descriptor_name : At → Tree → List ℕ
descriptor_name at (Fill bytes) = at.id ∷ []
descriptor_name at value = []

-- the numbers of the nodes that are the names of descriptors, in a term and among some
abbrev mutual
  pub descriptors_in : Tree → List ℕ
  descriptors_in (Name at name value) = descriptor_name at value
  descriptors_in (Method at name flags body) = descriptors_among body
  descriptors_in (Container' kind at name body) = descriptors_among body
  descriptors_in (Scope here at name body) = descriptors_among body
  descriptors_in (If test body) = descriptors_among body
  descriptors_in (ElseIf test body) = descriptors_among body
  descriptors_in (Else body) = descriptors_among body
  descriptors_in (While test body) = descriptors_among body
  descriptors_in (For start test step body) = descriptors_among body
  descriptors_in (Switch value cases) = descriptors_among cases
  descriptors_in (Case value body) = descriptors_among body
  descriptors_in (Default body) = descriptors_among body
  descriptors_in term = []

  pub descriptors_among : Trees → List ℕ
  descriptors_among no_trees = []
  descriptors_among (tree term terms) = descriptors_in term ++ descriptors_among terms

abbrev pub is_among : List ℕ → ℕ → Bool
is_among nodes node = list_any (nat_eq node) nodes

-- ---- the same in code

abbrev pub fill_term : Term → Bool
fill_term (D.Fill bytes named) = true
fill_term _ = false

-- the arguments of a term that declares a name
abbrev pub declared_descriptor : Trees → List ℕ
declared_descriptor (tree (Use at name) (tree value no_trees)) = descriptor_name at value
declared_descriptor args = []

abbrev pub opened_descriptors : Bool → Trees → List ℕ
opened_descriptors opens body = if opens then descriptors_among body else []

-- a form, by what it is for names
abbrev pub part_descriptors : NameRole → Trees → Trees → List ℕ
part_descriptors (P.Declares name what opens) args body = declared_descriptor args ++ opened_descriptors opens body
part_descriptors P.Scope args body = descriptors_among body
part_descriptors P.Within args body = descriptors_among body
part_descriptors part args body = []

-- flags by the numbers of nodes say which are among these
abbrev pub AreFlagged : List Bool → List ℕ → Type 0
AreFlagged flags nodes = (node : ℕ) → get_or flags node false ≡ is_among nodes node

-- so many more
abbrev pub FlagsMore : List Bool → List Bool → List ℕ → Type 0
FlagsMore old new more = (nodes : List ℕ) → AreFlagged old nodes → AreFlagged new (nodes ++ more)
