-- What a form is for the names of a block.
use Rattle.std.specs.Prelude.{◌≡◌, ◌||◌, ◌+◌, ℕ, zero, suc, Bool, true, false, ◌&&◌, List, [], ◌∷◌, Option, Some, None, if◌then◌else◌}
use Rattle.acpi_values.specs.Paths.{NameSeg, AbsolutePath, is_same_path}
use Rattle.acpi_state.specs.Objects.{Object, DataObject, MethodObject, ContainerObject, MutexObject, EventObject, RegionObject, UnitObject}
use Rattle.acpi_state.specs.Objects.{BufferFieldObject, Device, ThermalZone, PowerResource, Processor}
use Rattle.acpi_state.specs.FieldUnits.{OfOtherTable, OverItsOwn}
use Rattle.acpi_state.specs.Outcomes.{choose}
use Rattle.asl_tree.specs.declared.path.Path.{Path}
use Rattle.asl_tree.specs.declared.term.Op.{Op}
use Rattle.asl_tree.specs.declared.term.Node.{Node}
use Rattle.asl_tree.specs.declared.term.Term.{Term}
use Rattle.asl_tree.specs.declared.term.Term as D
use Rattle.asl_tree.specs.Literals.{word_number}
use Rattle.asl_tree.specs.declared.term.Declaration.TheVariants as Declaration
use Rattle.asl_tree.specs.declared.term.Control.TheVariants as Control
use Rattle.asl_meaning.specs.Declarations.{is_named, As, AliasOf, Declarations, with_declared, with_external, in_root, scope_path}
use Rattle.asl_meaning.specs.Declarations.{declare_all, declare_items}
use Rattle.asl_tree.specs.Names.{declared_path}
use Rattle.asl_tree.specs.View.{item_in, items_in}
use Rattle.asl_tree.specs.FieldItems.{FieldItem}
use Rattle.asl_tree.specs.Tree.{Tree, Use, Integer, String, UnitName, Trees, no_trees, tree}
use Rattle.acpi_names.specs.Paths.{is_named_in}
use Rattle.acpi_names.specs.declared.part.What.{What}
use Rattle.acpi_names.specs.declared.part.What.TheVariants as W
use Rattle.acpi_names.specs.declared.part.NameRole.{NameRole}
use Rattle.acpi_names.specs.declared.part.NameRole.TheVariants as P
use Rattle.acpi_names.specs.declared.part.Over.TheVariants as O

-- the object that is declared
abbrev pub object_of : What → Object
object_of W.Data = DataObject
object_of (W.Method flags) = MethodObject flags
object_of (W.Mutex level) = MutexObject level
object_of W.Event = EventObject
object_of W.Device = ContainerObject Device
object_of W.ThermalZone = ContainerObject ThermalZone
object_of (W.PowerResource level order) = ContainerObject (PowerResource level order)
object_of (W.Processor number address size) = ContainerObject (Processor number address size)
object_of (W.Region space) = RegionObject space 0 0
object_of W.Unit = UnitObject (OfOtherTable [])
object_of W.BufferField = BufferFieldObject (record { source = OverItsOwn; at = 0; bits = 0 })

abbrev pub path_of : Term → Option Path
path_of (D.Name path) = Some path
path_of _ = None

abbrev pub number_of : Term → Option ℕ
number_of (D.Integer number) = Some number
number_of (D.Word word) = Some (word_number word)
number_of _ = None

abbrev pub is_form : Term → Bool
is_form (D.Form' op shape args shape' body) = true
is_form _ = false

-- a text
abbrev pub text_term : Term → Bool
text_term (D.Text text) = true
text_term _ = false

-- whether there are so many
abbrev pub are : ℕ → Trees → Bool
are zero no_trees = true
are zero (tree t ts) = false
are (suc n) no_trees = false
are (suc n) (tree t ts) = are n ts

abbrev pub used_name : Tree → Option Path
used_name (Use at name) = Some name
used_name _ = None

abbrev pub name_at : ℕ → Trees → Option Path
name_at n no_trees = None
name_at zero (tree t ts) = used_name t
name_at (suc n) (tree t ts) = name_at n ts

abbrev pub the_number : Tree → Option ℕ
the_number (Integer number) = Some number
the_number _ = None

abbrev pub number_at : ℕ → Trees → Option ℕ
number_at n no_trees = None
number_at zero (tree t ts) = the_number t
number_at (suc n) (tree t ts) = number_at n ts

abbrev pub is_text : Tree → Bool
is_text (String text) = true
is_text _ = false

abbrev pub text_at : ℕ → Trees → Bool
text_at n no_trees = false
text_at zero (tree t ts) = is_text t
text_at (suc n) (tree t ts) = text_at n ts

abbrev pub is_item_list : Trees → Bool
is_item_list ts = choose (items_in ts) false (λ items. true)

abbrev pub is_there : {A : Type 0} → Option A → Bool
is_there None = false
is_there (Some a) = true

-- a form that fits
abbrev pub fitting : Bool → NameRole → NameRole
fitting true part = part
fitting false part = P.Nothing

-- a form whose first argument is a name and whose second, third and fourth are numbers
abbrev pub with_number : Option ℕ → (ℕ → NameRole) → NameRole
with_number None part = P.Nothing
with_number (Some n) part = part n

abbrev pub external_part : Trees → Trees → ℕ → NameRole
external_part args body type =
    if are 2 args then fitting (are 0 body) (P.External type None)
    else with_number (number_at 2 args) (λ n. fitting (are 3 args && are 0 body) (P.External type (Some n)))

abbrev pub part_of : Op → Trees → Trees → NameRole
part_of (Op.Declaration Declaration.Name) args body = fitting (is_there (name_at 0 args) && (are 2 args && are 0 body))
    (P.Declares 0 W.Data false)
part_of (Op.Declaration Declaration.Alias) args body =
    fitting (is_there (name_at 0 args) && (is_there (name_at 1 args) && (are 2 args && are 0 body))) P.Alias
part_of (Op.Declaration Declaration.External) args body = if is_there (name_at 0 args) then
    with_number (number_at 1 args) (external_part args body) else P.Nothing
part_of (Op.Declaration Declaration.Method) args body = if is_there (name_at 0 args) then
    with_number (number_at 1 args) (λ flags. fitting (are 2 args) (P.Declares 0 (W.Method flags) true)) else P.Nothing
part_of (Op.Declaration Declaration.Mutex) args body = if is_there (name_at 0 args) then
    with_number (number_at 1 args) (λ level. fitting (are 2 args && are 0 body) (P.Declares 0 (W.Mutex level) false)) else P.Nothing
part_of (Op.Declaration Declaration.Event) args body = fitting (is_there (name_at 0 args) && (are 1 args && are 0 body))
    (P.Declares 0 W.Event false)
part_of (Op.Declaration Declaration.Device) args body = fitting (is_there (name_at 0 args) && are 1 args) (P.Declares 0 W.Device true)
part_of (Op.Declaration Declaration.ThermalZone) args body = fitting (is_there (name_at 0 args) && are 1 args)
    (P.Declares 0 W.ThermalZone true)
part_of (Op.Declaration Declaration.PowerResource) args body = if is_there (name_at 0 args) then
    with_number (number_at 1 args)
    (λ level. with_number (number_at 2 args) (λ order. fitting (are 3 args) (P.Declares 0 (W.PowerResource level order) true))) else
    P.Nothing
part_of (Op.Declaration Declaration.Processor) args body = if is_there (name_at 0 args) then
    with_number (number_at 1 args)
    (λ number. with_number (number_at 2 args)
    (λ address. with_number (number_at 3 args) (λ size. fitting (are 4 args) (P.Declares 0 (W.Processor number address size) true)))) else
    P.Nothing
part_of (Op.Declaration Declaration.Scope) args body = fitting (is_there (name_at 0 args) && are 1 args) P.Scope
part_of (Op.Declaration Declaration.OperationRegion) args body = if is_there (name_at 0 args) then
    with_number (number_at 1 args) (λ space. fitting (are 4 args && are 0 body) (P.Declares 0 (W.Region space) false)) else P.Nothing
part_of (Op.Declaration Declaration.CreateField) args body = fitting (is_there (name_at 3 args) && (are 4 args && are 0 body))
    (P.Declares 3 W.BufferField false)
part_of (Op.Declaration Declaration.CreateBitField) args body = fitting (is_there (name_at 2 args) && (are 3 args && are 0 body))
    (P.Declares 2 W.BufferField false)
part_of (Op.Declaration Declaration.CreateByteField) args body = fitting (is_there (name_at 2 args) && (are 3 args && are 0 body))
    (P.Declares 2 W.BufferField false)
part_of (Op.Declaration Declaration.CreateWordField) args body = fitting (is_there (name_at 2 args) && (are 3 args && are 0 body))
    (P.Declares 2 W.BufferField false)
part_of (Op.Declaration Declaration.CreateDWordField) args body = fitting (is_there (name_at 2 args) && (are 3 args && are 0 body))
    (P.Declares 2 W.BufferField false)
part_of (Op.Declaration Declaration.CreateQWordField) args body = fitting (is_there (name_at 2 args) && (are 3 args && are 0 body))
    (P.Declares 2 W.BufferField false)
part_of (Op.Declaration Declaration.Field) args body = if is_there (name_at 0 args) then
    with_number (number_at 1 args) (λ flags. fitting (are 2 args) (P.Units O.Region)) else P.Nothing
part_of (Op.Declaration Declaration.IndexField) args body = if is_there (name_at 0 args) && is_there (name_at 1 args) then
    with_number (number_at 2 args) (λ flags. fitting (are 3 args) (P.Units O.Index)) else P.Nothing
part_of (Op.Declaration Declaration.BankField) args body = if is_there (name_at 0 args) && is_there (name_at 1 args) then
    with_number (number_at 3 args) (λ flags. fitting (are 4 args) (P.Units O.Bank)) else P.Nothing
part_of (Op.Control Control.If) args body = fitting (are 1 args) P.Within
part_of (Op.Control Control.ElseIf) args body = fitting (are 1 args) P.Within
part_of (Op.Control Control.Else) args body = fitting (are 0 args) P.Within
part_of (Op.Control Control.While) args body = fitting (are 1 args) P.Within
part_of (Op.Control Control.For) args body = fitting (are 3 args) P.Within
part_of (Op.Control Control.Switch) args body = fitting (are 1 args) P.Within
part_of (Op.Control Control.Case) args body = fitting (are 1 args) P.Within
part_of (Op.Control Control.Default) args body = fitting (are 0 args) P.Within
part_of (Op.Control Control.Return) args body = fitting (are 1 args && are 0 body) P.Returns
part_of (Op.Control Control.Printf) args body = fitting (text_at 0 args && are 0 body) P.Returns
part_of (Op.Control Control.Fprintf) args body = fitting (text_at 1 args && are 0 body) P.Prints
part_of _ args body = P.Nothing

-- the terms of a body, where it is opened
abbrev pub opened : Bool → Trees → AbsolutePath → Declarations → Declarations
opened true body path d = declare_all body path d
opened false body path d = d

-- what is declared by a part
abbrev pub declare_part : NameRole → Trees → Trees → AbsolutePath → Declarations → Declarations
declare_part P.Nothing args body scope d = d
declare_part (P.Declares n what opens) args body scope d =
    choose (name_at n args) d
    (λ name. opened opens body (declared_path name scope) (with_declared (declared_path name scope) (As (object_of what)) d))
declare_part P.Alias args body scope d =
    choose (name_at 0 args) d
    (λ source. choose (name_at 1 args) d (λ name. with_declared (declared_path name scope) (AliasOf source scope) d))
declare_part (P.External type parameters) args body scope d =
    choose (name_at 0 args) d
    (λ name.
    with_external (in_root (declared_path name scope)) (declared_path name scope) (record { type = type; parameters = parameters }) d)
declare_part P.Scope args body scope d = choose (name_at 0 args) d (λ name. declare_all body (scope_path d name scope) d)
declare_part P.Returns args body scope d = d
declare_part P.Prints args body scope d = d
declare_part P.Within args body scope d = declare_all body scope d
declare_part (P.Units over) args body scope d = choose (items_in body) d (λ items. declare_items items scope d)

-- the items of a field among terms, and the name of a unit
abbrev pub is_item_term : Term → Bool
is_item_term (D.Unit segment bits) = true
is_item_term (D.Skip bits) = true
is_item_term (D.Offset bytes) = true
is_item_term (D.Access access attribute length) = true
is_item_term (D.Name path) = true
is_item_term (D.Fill bytes named) = true
is_item_term _ = false

abbrev pub unit_of : Term → Option NameSeg
unit_of (D.Unit segment bits) = Some segment
unit_of _ = None

-- the items among some trees
abbrev pub listed_items : Trees → List (FieldItem UnitName)
listed_items no_trees = []
listed_items (tree t ts) = choose (item_in t) (listed_items ts) (λ item. item ∷ listed_items ts)

-- the flags name what is declared
abbrev pub Agrees : List AbsolutePath → List Bool → Declarations → Type 0
Agrees paths named d = (path : AbsolutePath) → is_named_in paths named path ≡ is_named d path

-- the flags name one path more
abbrev pub Marks : List AbsolutePath → List Bool → List AbsolutePath → List Bool → AbsolutePath → Type 0
Marks paths named more flags new = (path : AbsolutePath) →
    is_named_in more flags path ≡ (is_same_path path new || is_named_in paths named path)

-- the flags name the same
abbrev pub Keeps : List AbsolutePath → List Bool → List AbsolutePath → List Bool → Type 0
Keeps paths named more flags = (path : AbsolutePath) → is_named_in more flags path ≡ is_named_in paths named path

-- the flags name the path of one name more, where there is one
abbrev pub MarksSome : List AbsolutePath → List Bool → List AbsolutePath → List Bool → Option Path → AbsolutePath → Type 0
MarksSome paths named more flags None scope = Keeps paths named more flags
MarksSome paths named more flags (Some name) scope = Marks paths named more flags (declared_path name scope)

-- from names that agree with some declarations to names that agree with those behind
abbrev pub Leads : List AbsolutePath → List Bool → List AbsolutePath → List Bool → (Declarations → Declarations) → Type 0
Leads paths named more flags next = (d : Declarations) → Agrees paths named d → Agrees more flags (next d)

-- how large terms are, for the order in which they are walked
unfoldable mutual
  pub term_size : Term → ℕ
  term_size (D.Form' op shape args shape' body) = suc (row_size args + row_size body)
  term_size (D.Call' path shape args) = suc (row_size args)
  term_size _ = 0

  pub row_size : {m : _} → D.Row_of-Node m → ℕ
  row_size D.end_of-Node = 0
  row_size (D.more_of-Node id place term rest) = suc (term_size term + row_size rest)

unfoldable pub nodes_size : List Node → ℕ
nodes_size [] = 0
nodes_size (node ∷ nodes) = suc (term_size node.term + nodes_size nodes)
