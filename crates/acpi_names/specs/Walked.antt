-- The mentions of a form, by what it is for names.
use Rattle.std.specs.Prelude.{ℕ, zero, suc, Bool, true, false, ◌&&◌, ◌+◌, List, [], ◌∷◌, ◌++◌, Option, Some, None}
use Rattle.acpi_values.specs.Paths.{AbsolutePath}
use Rattle.acpi_values.specs.Operators.{Letter, Row, row_of}
use Rattle.acpi_values.specs.Operators as L
use Rattle.asl_operators.specs.Letters.{letter_as}
use Rattle.asl_operators.specs.declared.letter.Letter.{Letter as CodeLetter}
use Rattle.acpi_state.specs.Outcomes.{choose}
use Rattle.asl_tree.specs.declared.path.Path.{Path}
use Rattle.asl_tree.specs.declared.term.Op.{Op}
use Rattle.asl_tree.specs.declared.term.Special.TheVariants as Special
use Rattle.asl_tree.specs.declared.term.Symbolic.TheVariants as Symbolic
use Rattle.asl_tree.specs.Names.{declared_path}
use Rattle.asl_tree.specs.View.{tree_of, row_trees, trees_of, items_in, fits, form}
use Rattle.asl_tree.specs.declared.term.Node.{Node}
use Rattle.asl_tree.specs.declared.term.Term.{Term}
use Rattle.asl_tree.specs.declared.term.Term as D
use Rattle.acpi_names.specs.declared.part.Shape.{Shape}
use Rattle.acpi_names.specs.declared.part.Shape.TheVariants as S
use Rattle.asl_meaning.specs.Meaning.{spot_form}
use Rattle.asl_tree.specs.Tree.{At, Tree, Trees, no_trees, tree, count}
use Rattle.asl_meaning.specs.Declarations.{As, AliasOf, Declarations, with_declared, scope_path}
use Rattle.acpi_names.specs.declared.part.NameRole.{NameRole}
use Rattle.acpi_names.specs.declared.part.NameRole.TheVariants as P
use Rattle.acpi_names.specs.declared.part.Over.{Over}
use Rattle.acpi_names.specs.declared.part.Over.TheVariants as O
use Rattle.acpi_names.specs.declared.part.ValueForm.{ValueForm}
use Rattle.acpi_names.specs.declared.part.ValueForm.TheVariants as V
use Rattle.acpi_names.specs.Errors.{Asked, AnObject, AUnit, ARegion}
use Rattle.acpi_names.specs.Mentions.{Mention, Used', Called, is_place_form, Declares, Outside, Opens, is_spot, asks, asked_value}
use Rattle.acpi_names.specs.Mentions.{asked_use, letter_mention, cond_place, mentions, mentions_all, element_mentions, item_mentions}
use Rattle.acpi_names.specs.Mentions.{block_mentions}
use Rattle.acpi_names.specs.Parts.{are, object_of, nodes_size}
use Rattle.acpi_names.specs.Shown.{named_at}

abbrev pub fitting_value : Bool → ValueForm → ValueForm
fitting_value true form = form
fitting_value false form = V.Nothing

abbrev pub value_form_of : Op → Trees → Trees → ValueForm
value_form_of (Op.Plain op) args body = fitting_value (are 0 body) (V.Operator op)
value_form_of (Op.Special Special.CondRefOf) args body = fitting_value (are 2 args && are 0 body) V.CondRefOf
value_form_of (Op.Special Special.Buffer) args body = fitting_value (are 1 args) V.Buffer
value_form_of (Op.Special Special.Package) args body = fitting_value (are 1 args) V.Package
value_form_of (Op.Symbolic (Symbolic.Operator op)) args body = fitting_value (are 0 body && fits (row_of op).operands args) (V.Operator op)
value_form_of (Op.Symbolic Symbolic.Assign) args body = fitting_value (are 2 args && are 0 body) V.Assign
value_form_of (Op.Symbolic (Symbolic.AssignBy op)) args body = fitting_value (are 2 args && are 0 body) V.AssignBy
value_form_of _ args body = V.Nothing

-- an argument at a letter, where `uses` is asked of a path that is used; constants mention nothing
abbrev pub letter_mentions : Bool → Asked → Letter → Tree → AbsolutePath → List Mention
letter_mentions asked uses (L.Raw size) t scope = []
letter_mentions asked uses letter t scope = letter_mention letter uses t (mentions (asked && asks letter t) t scope) scope

-- an argument at a letter of the code, or behind all of them
abbrev pub optional_mentions : Bool → Asked → Option CodeLetter → Tree → AbsolutePath → List Mention
optional_mentions asked uses None t scope = mentions (asked && is_spot t) t scope
optional_mentions asked uses (Some letter) t scope = letter_mentions asked uses (letter_as letter) t scope

-- the arguments of an operator: its operands and then its targets
abbrev pub argument_mentions : Bool → Asked → List Letter → Trees → AbsolutePath → List Mention
argument_mentions asked uses letters no_trees scope = []
argument_mentions asked uses [] (tree t ts) scope = mentions (asked && is_spot t) t scope ++ argument_mentions asked uses [] ts scope
argument_mentions asked uses (letter ∷ letters) (tree t ts) scope = letter_mentions asked uses letter t scope
    ++ argument_mentions asked uses letters ts scope

abbrev pub cond_mention : Bool → Tree → AbsolutePath → List Mention
cond_mention asked place scope = cond_place place (mentions (asked && is_spot place) place scope) scope

abbrev pub cond_mentions : Bool → Trees → AbsolutePath → List Mention
cond_mentions asked (tree place (tree target no_trees)) scope = cond_mention asked place scope ++ mentions (asked && is_spot target) target
    scope
cond_mentions asked _ scope = []

-- the value and then the target of `X = E`
abbrev pub assign_mentions : Bool → Trees → AbsolutePath → List Mention
assign_mentions asked (tree target (tree value no_trees)) scope = mentions asked value scope ++ mentions (asked && is_spot target) target
    scope
assign_mentions asked _ scope = []

abbrev pub value_mentions : ValueForm → Bool → Trees → Trees → AbsolutePath → List Mention
value_mentions V.Nothing asked args body scope = []
value_mentions (V.Operator op) asked args body scope = argument_mentions asked (asked_use asked op) (row_of op).operands args scope
value_mentions V.CondRefOf asked args body scope = cond_mentions asked args scope
value_mentions V.Assign asked args body scope = assign_mentions asked args scope
value_mentions V.AssignBy asked args body scope = mentions_all asked args scope
value_mentions V.Buffer asked args body scope = mentions_all asked args scope
value_mentions V.Package asked args body scope = mentions_all asked args scope ++ element_mentions asked body scope

-- some of the first arguments, and those behind them
abbrev pub first_trees : ℕ → Trees → Trees
first_trees zero ts = no_trees
first_trees (suc n) no_trees = no_trees
first_trees (suc n) (tree t ts) = tree t (first_trees n ts)

abbrev pub later_trees : ℕ → Trees → Trees
later_trees zero ts = ts
later_trees (suc n) no_trees = no_trees
later_trees (suc n) (tree t ts) = later_trees n ts

-- a name that an argument is, of which something is asked
abbrev pub name_mention : Asked → ℕ → Trees → AbsolutePath → List Mention
name_mention asked n args scope = choose (named_at n args) [] (λ m. Used' asked m.0 m.1 scope ∷ [])

-- the arguments of a field: what its units lie in, and the value of a bank
abbrev pub field_mentions : Over → At → Trees → AbsolutePath → List Mention
field_mentions O.Region here args scope = name_mention (ARegion here) 0 args scope
field_mentions O.Index here args scope = name_mention AUnit 0 args scope ++ name_mention AUnit 1 args scope
field_mentions O.Bank here args scope =
    name_mention (ARegion here) 0 args scope
    ++ (name_mention AUnit 1 args scope ++ mentions_all true (first_trees 1 (later_trees 2 args)) scope)

-- the place of what prints, and then its format and its arguments
abbrev pub print_mentions : Trees → AbsolutePath → List Mention
print_mentions no_trees scope = []
print_mentions (tree place ts) scope = mentions (is_spot place) place scope ++ mentions_all true ts scope

abbrev pub opened_mentions : Bool → Trees → AbsolutePath → Declarations → List Mention
opened_mentions true body path d = block_mentions body path d
opened_mentions false body path d = []

abbrev pub part_mentions : NameRole → At → Op → Trees → Trees → AbsolutePath → Declarations → List Mention
part_mentions P.Nothing here op args body scope d = value_mentions (value_form_of op args body) true args body scope
part_mentions (P.Declares n what opens) here op args body scope d =
    choose (named_at n args) [] (λ m.
    mentions_all true (first_trees n args) scope
    ++ (Declares m.0 m.1 (As (object_of what)) scope ∷ (mentions_all true (later_trees (suc n) args) scope
    ++ opened_mentions opens body (declared_path m.1 scope) (with_declared (declared_path m.1 scope) (As (object_of what)) d))))
part_mentions P.Alias here op args body scope d =
    choose (named_at 0 args) []
    (λ s. choose (named_at 1 args) [] (λ m. Used' AnObject s.0 s.1 scope ∷ Declares m.0 m.1 (AliasOf s.1 scope) scope ∷ []))
part_mentions (P.External type parameters) here op args body scope d =
    choose (named_at 0 args) [] (λ m. Outside here m.0 m.1 (record { type = type; parameters = parameters }) scope ∷ [])
part_mentions P.Scope here op args body scope d =
    choose (named_at 0 args) [] (λ m. Opens here m.0 m.1 scope (scope_path d m.1 scope) ∷ block_mentions body (scope_path d m.1 scope) d)
part_mentions P.Within here op args body scope d = mentions_all true args scope ++ block_mentions body scope d
part_mentions P.Returns here op args body scope d = mentions_all true args scope
part_mentions P.Prints here op args body scope d = print_mentions args scope
part_mentions (P.Units over) here op args body scope d =
    choose (items_in body) [] (λ items. field_mentions over here args scope ++ item_mentions items scope)

-- what a term is for names
pub data TermShape : Type 0 where
  OfName : (name : Path) → TermShape
  OfCall : (name : Path) (args : Trees) → TermShape
  OfForm : (op : Op) (args body : Trees) → TermShape
  Another : TermShape

abbrev pub term_shape : Term → TermShape
term_shape (D.Name path) = OfName path
term_shape (D.Call' path shape args) = OfCall path (row_trees args)
term_shape (D.Form' op shape args shape' body) = OfForm op (row_trees args) (row_trees body)
term_shape _ = Another

abbrev pub shape_as : Shape → TermShape
shape_as (S.Name path) = OfName path.now
shape_as (S.Call path args) = OfCall path.now (trees_of args.now)
shape_as (S.Form op args body) = OfForm op (trees_of args.now) (trees_of body.now)
shape_as S.Other = Another

abbrev pub shape_size : Shape → ℕ
shape_size (S.Call path args) = suc (nodes_size args.now)
shape_size (S.Form op args body) = suc (nodes_size args.now + nodes_size body.now)
shape_size _ = 0

abbrev pub spot_by : ValueForm → Bool
spot_by (V.Operator op) = is_place_form (spot_form op)
spot_by _ = false

abbrev pub spot_shape : TermShape → Bool
spot_shape (OfForm op args body) = spot_by (value_form_of op args body)
spot_shape _ = false

abbrev pub is_name_shape : TermShape → Bool
is_name_shape (OfName name) = true
is_name_shape _ = false

-- the mentions of a term of some shape
abbrev pub shape_mentions : Bool → At → TermShape → AbsolutePath → List Mention
shape_mentions asked at (OfName name) scope = Used' (asked_value asked) at name scope ∷ []
shape_mentions asked at (OfCall name args) scope = Called asked at name (count args) scope ∷ mentions_all asked args scope
shape_mentions asked at (OfForm op args body) scope = value_mentions (value_form_of op args body) asked args body scope
shape_mentions asked at Another scope = []

-- the tree of a node
abbrev pub node_tree : Node → Tree
node_tree node = tree_of (record { id = node.id; place = node.place }) node.term
