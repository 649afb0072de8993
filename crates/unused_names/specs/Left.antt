-- A block without the terms that declare its descriptors. Each node keeps its number.
use Rattle.std.specs.Prelude.{◌≡◌, Bool, true, false, ◌||◌, if◌then◌else◌, List, [], ◌∷◌, ◌++◌}
use Rattle.acpi_values.specs.Paths.{AbsolutePath, is_same_path}
use Rattle.acpi_state.specs.Objects.{MethodObject, ContainerObject}
use Rattle.asl_tree.specs.FieldItems.{FieldItem, UnitItem, SkipItem, OffsetItem, AccessItem, ConnectionItem}
use Rattle.asl_tree.specs.Names.{declared_path}
use Rattle.asl_tree.specs.Tree.{Tree, Name, Alias, External, Method, Mutex, Event, Container', Scope, Fill}
use Rattle.asl_tree.specs.Tree.{Trees, no_trees, tree, OperationRegion, Field, IndexField, BankField}
use Rattle.asl_tree.specs.Tree.{CreateField, UnitName, If, ElseIf, Else, While, For, Switch, Case, Default}
use Rattle.asl_meaning.specs.Declarations.{As, Declarations, nothing_declared, declarations, is_named, with_declared, scope_path, declare}
use Rattle.acpi_names.specs.Errors.{unit_path}
use Rattle.acpi_names.specs.Mentions.{block_mentions}
use Rattle.unused_names.specs.Unused.{AreSpared}

-- a descriptor is declared by a Name whose value is bytes, as no Name of a source has it
abbrev pub is_fill : Tree → Bool
is_fill (Fill bytes) = true
is_fill _ = false

abbrev pub declares_descriptor : Tree → Bool
declares_descriptor (Name at name value) = is_fill value
declares_descriptor _ = false

abbrev mutual
  pub left_term : Tree → Tree
  left_term (Method at name flags body) = Method at name flags (left_terms body)
  left_term (Container' kind at name body) = Container' kind at name (left_terms body)
  left_term (Scope here at name body) = Scope here at name (left_terms body)
  left_term (If test body) = If test (left_terms body)
  left_term (ElseIf test body) = ElseIf test (left_terms body)
  left_term (Else body) = Else (left_terms body)
  left_term (While test body) = While test (left_terms body)
  left_term (For start test step body) = For start test step (left_terms body)
  left_term (Switch value cases) = Switch value (left_terms cases)
  left_term (Case value body) = Case value (left_terms body)
  left_term (Default body) = Default (left_terms body)
  left_term t = t

  pub left_terms : Trees → Trees
  left_terms no_trees = no_trees
  left_terms (tree t ts) = if declares_descriptor t then left_terms ts else tree (left_term t) (left_terms ts)

-- these paths are those of the descriptors of terms, and nothing else is declared at one of them
module _ (gone : AbsolutePath → Bool) where
  abbrev pub MarksItems : List (FieldItem UnitName) → AbsolutePath → Type 0
  MarksItems [] scope = Unit {0}
  MarksItems (UnitItem name bits ∷ items) scope = (gone (declared_path (unit_path name.segment) scope) ≡ false) × MarksItems items scope
  MarksItems (SkipItem bits ∷ items) scope = MarksItems items scope
  MarksItems (OffsetItem bytes ∷ items) scope = MarksItems items scope
  MarksItems (AccessItem access attribute length ∷ items) scope = MarksItems items scope
  MarksItems (ConnectionItem to ∷ items) scope = MarksItems items scope

  abbrev mutual
    pub Marks : Tree → AbsolutePath → Declarations → Type 0
    Marks (Name at name value) scope d = gone (declared_path name scope) ≡ is_fill value
    Marks (Alias from source at name) scope d = gone (declared_path name scope) ≡ false
    Marks (External here at name type parameters) scope d = gone (declared_path name scope) ≡ false
    Marks (Method at name flags body) scope d = (gone (declared_path name scope) ≡ false)
        × AllMarks body (declared_path name scope) (with_declared (declared_path name scope) (As (MethodObject flags)) d)
    Marks (Mutex at name level) scope d = gone (declared_path name scope) ≡ false
    Marks (Event at name) scope d = gone (declared_path name scope) ≡ false
    Marks (Container' kind at name body) scope d = (gone (declared_path name scope) ≡ false)
        × AllMarks body (declared_path name scope) (with_declared (declared_path name scope) (As (ContainerObject kind)) d)
    Marks (Scope here at name body) scope d = AllMarks body (scope_path d name scope) d
    Marks (If test body) scope d = AllMarks body scope d
    Marks (ElseIf test body) scope d = AllMarks body scope d
    Marks (Else body) scope d = AllMarks body scope d
    Marks (While test body) scope d = AllMarks body scope d
    Marks (For start test step body) scope d = AllMarks body scope d
    Marks (Switch value cases) scope d = AllMarks cases scope d
    Marks (Case value body) scope d = AllMarks body scope d
    Marks (Default body) scope d = AllMarks body scope d
    Marks (OperationRegion at name space args) scope d = gone (declared_path name scope) ≡ false
    Marks (Field here from region flags items) scope d = MarksItems items scope
    Marks (IndexField here from index to register flags items) scope d = MarksItems items scope
    Marks (BankField here from region to bank value flags items) scope d = MarksItems items scope
    Marks (CreateField form args at name) scope d = gone (declared_path name scope) ≡ false
    Marks t scope d = Unit {0}

    pub AllMarks : Trees → AbsolutePath → Declarations → Type 0
    AllMarks no_trees scope d = Unit {0}
    AllMarks (tree t ts) scope d = Marks t scope d × AllMarks ts scope (declare t scope d)

-- the paths of the descriptors that terms declare
abbrev mutual
  pub descriptors_of : Tree → AbsolutePath → Declarations → List AbsolutePath
  descriptors_of (Name at name value) scope d = if is_fill value then declared_path name scope ∷ [] else []
  descriptors_of (Method at name flags body) scope d =
      descriptors body (declared_path name scope) (with_declared (declared_path name scope) (As (MethodObject flags)) d)
  descriptors_of (Container' kind at name body) scope d =
      descriptors body (declared_path name scope) (with_declared (declared_path name scope) (As (ContainerObject kind)) d)
  descriptors_of (Scope here at name body) scope d = descriptors body (scope_path d name scope) d
  descriptors_of (If test body) scope d = descriptors body scope d
  descriptors_of (ElseIf test body) scope d = descriptors body scope d
  descriptors_of (Else body) scope d = descriptors body scope d
  descriptors_of (While test body) scope d = descriptors body scope d
  descriptors_of (For start test step body) scope d = descriptors body scope d
  descriptors_of (Switch value cases) scope d = descriptors cases scope d
  descriptors_of (Case value body) scope d = descriptors body scope d
  descriptors_of (Default body) scope d = descriptors body scope d
  descriptors_of t scope d = []

  pub descriptors : Trees → AbsolutePath → Declarations → List AbsolutePath
  descriptors no_trees scope d = []
  descriptors (tree t ts) scope d = descriptors_of t scope d ++ descriptors ts scope (declare t scope d)

abbrev pub is_one_of : List AbsolutePath → AbsolutePath → Bool
is_one_of [] p = false
is_one_of (q ∷ qs) p = is_same_path q p || is_one_of qs p

-- the paths of a program's descriptors
abbrev pub is_descriptor : Trees → AbsolutePath → Bool
is_descriptor program = is_one_of (descriptors program [] nothing_declared)

-- no use denotes a descriptor, no alias leads to one, and nothing is declared directly below one
abbrev pub DescriptorsAreApart : Trees → Type 0
DescriptorsAreApart program =
    AreSpared (is_descriptor program) (is_named (declarations program)) (block_mentions program [] nothing_declared)
