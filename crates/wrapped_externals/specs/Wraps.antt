-- A program whose Externals stand in Ifs that nothing enters: each run of Externals that stand directly behind each
-- other in a list of terms is
-- `If (Zero) { External .. }`.
use Rattle.std.specs.Prelude.{Bool, true, false}
use Rattle.asl_tree.specs.declared.term.Literal.TheVariants as Literal
use Rattle.asl_tree.specs.Tree.{Tree, Constant, Call, Apply, Buffer, Package, VarPackage, CondRefOf, Return, Name, External, Method}
use Rattle.asl_tree.specs.Tree.{Container', Scope, If, ElseIf, Else, While, For, Print, OperationRegion, BankField, CreateField, Operated}
use Rattle.asl_tree.specs.Tree.{Assigned, AssignedBy, Trees, no_trees, tree, Switch, Case, Default}
use Rattle.asl_lower.specs.Nests.{joined}

-- whether an Else or an ElseIf stands first
abbrev pub starts_branch : Trees → Bool
starts_branch (tree (Else body) terms) = true
starts_branch (tree (ElseIf test body) terms) = true
starts_branch terms = false

-- the Externals that stand first
abbrev pub leading : Trees → Trees
leading (tree (External here at name type parameters) terms) = tree (External here at name type parameters) (leading terms)
leading terms = no_trees

-- a run of Externals in an If, if it has any and is not kept as it is
abbrev pub in_if : Trees → (kept : Bool) → Trees
in_if no_trees kept = no_trees
in_if run true = run
in_if run false = tree (If (Constant Literal.Zero) run) no_trees

-- a run of Externals before other terms. An Else directly behind it belongs to no If, and would belong to this one:
-- before an Else a run is kept.
abbrev pub guarded : Trees → Trees → Trees
guarded run terms = joined (in_if run (starts_branch terms)) terms

abbrev mutual
  pub wrapped : Tree → Tree
  wrapped (Call at name args) = Call at name (wrapped_args args)
  wrapped (Apply op args targets) = Apply op (wrapped_args args) (wrapped_args targets)
  wrapped (Operated op args) = Operated op (wrapped_args args)
  wrapped (Assigned target value) = Assigned (wrapped target) (wrapped value)
  wrapped (AssignedBy op target value) = AssignedBy op (wrapped target) (wrapped value)
  wrapped (Buffer size bytes) = Buffer (wrapped size) bytes
  wrapped (Package n elements) = Package n (wrapped_args elements)
  wrapped (VarPackage size elements) = VarPackage (wrapped size) (wrapped_args elements)
  wrapped (CondRefOf place target) = CondRefOf (wrapped place) (wrapped target)
  wrapped (Return value) = Return (wrapped value)
  wrapped (Name at name value) = Name at name (wrapped value)
  wrapped (Method at name flags body) = Method at name flags (guarded (leading body) (behind body))
  wrapped (Container' kind at name body) = Container' kind at name (guarded (leading body) (behind body))
  wrapped (Scope here at name body) = Scope here at name (guarded (leading body) (behind body))
  wrapped (If test body) = If (wrapped test) (guarded (leading body) (behind body))
  wrapped (ElseIf test body) = ElseIf (wrapped test) (guarded (leading body) (behind body))
  wrapped (Else body) = Else (guarded (leading body) (behind body))
  wrapped (While test body) = While (wrapped test) (guarded (leading body) (behind body))
  wrapped (For start test step body) = For (wrapped start) (wrapped test) (wrapped step) (guarded (leading body) (behind body))
  wrapped (Print place format args) = Print (wrapped place) format (wrapped_args args)
  wrapped (Switch value cases) = Switch (wrapped value) (guarded (leading cases) (behind cases))
  wrapped (Case value body) = Case (wrapped value) (guarded (leading body) (behind body))
  wrapped (Default body) = Default (guarded (leading body) (behind body))
  wrapped (OperationRegion at name space args) = OperationRegion at name space (wrapped_args args)
  wrapped (BankField here from region to bank value flags items) = BankField here from region to bank (wrapped value) flags items
  wrapped (CreateField form args at name) = CreateField form (wrapped_args args) at name
  wrapped term = term

  -- terms each by itself: arguments, targets, and the elements of a Package
  pub wrapped_args : Trees → Trees
  wrapped_args no_trees = no_trees
  wrapped_args (tree term terms) = tree (wrapped term) (wrapped_args terms)

  -- what stands behind the Externals that stand first
  pub behind : Trees → Trees
  behind no_trees = no_trees
  behind (tree (External here at name type parameters) terms) = behind terms
  behind (tree term terms) = tree (wrapped term) (guarded (leading terms) (behind terms))

-- a list of terms
abbrev pub wrapped_all : Trees → Trees
wrapped_all terms = guarded (leading terms) (behind terms)

-- a program with its Externals in Ifs, where that is asked for, and else as it is
abbrev pub wrapped_where : Bool → Trees → Trees
wrapped_where true terms = wrapped_all terms
wrapped_where false terms = terms
