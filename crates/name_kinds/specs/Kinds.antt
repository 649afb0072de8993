-- What code says of a path, as the definitions say it.
use Rattle.std.specs.Prelude.{List, [], ◌∷◌, Option, Some, ℕ, None}
use Rattle.acpi_values.specs.Paths.{AbsolutePath}
use Rattle.acpi_state.specs.Objects.{ContainerObject, MutexObject, ExternalObject, OfRoot, ExternalMethod, ExternalData, ExternalOther}
use Rattle.acpi_state.specs.Objects.{lookup, root_objects}
use Rattle.acpi_state.specs.Objects as S
use Rattle.asl_tree.specs.Names.{Is, AliasTo}
use Rattle.asl_tree.specs.Names as N
use Rattle.asl_meaning.specs.Declarations.{ExternalType, external_object}
use Rattle.acpi_names.specs.Paths.{path_with}
use Rattle.acpi_names.specs.Parts.{object_of}
use Rattle.name_kinds.specs.declared.kind.Outside.{Outside}
use Rattle.name_kinds.specs.declared.kind.Outside.TheVariants as Other
use Rattle.name_kinds.specs.declared.kind.Object.{Object}
use Rattle.name_kinds.specs.declared.kind.Object.TheVariants as O
use Rattle.name_kinds.specs.declared.kind.NameKind.{NameKind}
use Rattle.name_kinds.specs.declared.kind.NameKind.TheVariants as K
use Rattle.name_kinds.specs.declared.kind.External.{External}

abbrev pub outside_as : Outside → S.External
outside_as (Other.Method arity) = ExternalMethod arity
outside_as (Other.Data number) = ExternalData number
outside_as (Other.Other number) = ExternalOther number

abbrev pub object_as : Object → S.Object
object_as (O.Declared what) = object_of what
object_as O.Container = ContainerObject OfRoot
object_as O.Lock = MutexObject 0
object_as (O.Outside object) = ExternalObject (outside_as object)

abbrev pub kind_as : List AbsolutePath → NameKind → N.NameKind
kind_as paths (K.Is object) = Is (object_as object)
kind_as paths (K.AliasTo source) = AliasTo (path_with paths source)

abbrev pub type_as : External → ExternalType
type_as external = record { type = external.object; parameters = external.parameters }

-- what is in the root, before any term
abbrev pub at_root : AbsolutePath → Option S.Object
at_root [] = Some (ContainerObject OfRoot)
at_root (seg ∷ scope) = lookup root_objects (seg ∷ scope)

-- the address space of a region of this source
abbrev pub space_of : Option (AbsolutePath × S.Object) → Option ℕ
space_of (Some (path, S.RegionObject space offset length)) = Some space
space_of _ = None

-- what a path other than the root is: as it is declared last, as of another table, or of the root
abbrev pub kind_from : Option N.NameKind → Option ExternalType → Option ℕ → Option S.Object → Option N.NameKind
kind_from (Some kind) external first object = Some kind
kind_from None (Some external) first object = Some (Is (ExternalObject (external_object external first)))
kind_from None None first (Some object) = Some (Is object)
kind_from None None first None = None
