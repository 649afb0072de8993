-- The units and the connections in the lists of fields.
use Rattle.std.specs.Prelude.{List, [], ◌∷◌, ◌++◌, Option, Some, None}
use Rattle.acpi_values.specs.Paths.{AbsolutePath}
use Rattle.asl_tree.specs.FieldItems.{UnitItem, ConnectionItem}
use Rattle.asl_tree.specs.Tree.{Tree, Use, Item, UnitName}
use Rattle.asl_meaning.specs.Declarations.{Declarations, with_declared, as_unit}
use Rattle.acpi_names.specs.Errors.{AnObject, unit_path}
use Rattle.acpi_names.specs.Mentions.{Mention, Used', Declares, connected_mentions}

-- the unit that a tree is
abbrev pub unit_in : Tree → Option UnitName
unit_in (Item (UnitItem name bits)) = Some name
unit_in _ = None

abbrev pub declare_unit : Option UnitName → AbsolutePath → Declarations → Declarations
declare_unit None scope d = d
declare_unit (Some name) scope d = with_declared (name.segment ∷ scope) as_unit d

abbrev pub unit_mentions : Option UnitName → AbsolutePath → List Mention
unit_mentions None scope = []
unit_mentions (Some name) scope = Declares name.at (unit_path name.segment) as_unit scope ∷ []

-- what a connection uses
abbrev pub connection_mentions : Tree → AbsolutePath → List Mention
connection_mentions (Use at name) scope = Used' AnObject at name scope ∷ []
connection_mentions (Item (ConnectionItem to)) scope = connected_mentions to scope
connection_mentions _ scope = []

abbrev pub entry_mentions : Tree → AbsolutePath → List Mention
entry_mentions t scope = unit_mentions (unit_in t) scope ++ connection_mentions t scope
