-- What a written name denotes where descriptors have names.
use Rattle.std.specs.Prelude.{ℕ, ◌+◌, ◌*◌, ◌-◌, ◌^◌, ◌≤◌, Bool, if◌then◌else◌, List, length, take, slice_get, Option, Some}
use Rattle.std.specs.Prelude.{None}
use Rattle.acpi_values.specs.Paths.{NameSeg, AbsolutePath}
use Rattle.acpi_state.specs.Outcomes.{choose}
use Rattle.resource_layout.specs.Layout.{named_field, place_of as field_place}
use Rattle.asl_tree.specs.Names.{is_searched, declared_path, denoted}
use Rattle.asl_tree.specs.declared.path.Path.{Path}
use Rattle.asl_tree.specs.declared.term.NamedDescriptor.{NamedDescriptor}

-- no descriptor, a descriptor itself, or a field of one by its lowest bit in the template
pub data Sense : Type 0 where
  Nothing ADescriptor : Sense
  AField : (bit : ℕ) → Sense

-- a field whose lowest bit has no number of 64 bits
abbrev pub IsTooFar : Sense → Type 0
IsTooFar Nothing = ⊥
IsTooFar ADescriptor = ⊥
IsTooFar (AField bit) = 2 ^ 64 ≤ bit

-- a field of a descriptor by its place in the descriptor
abbrev pub field_behind : NamedDescriptor → Option (ℕ × ℕ) → Sense
field_behind named None = Nothing
field_behind named (Some field) = AField (8 * named.at + field.0)

abbrev pub field_in : NamedDescriptor → NameSeg → Sense
field_in named segment = field_behind named (field_place (named_field named.descriptor segment))

abbrev pub descriptor_sense : Option NamedDescriptor → Sense
descriptor_sense None = Nothing
descriptor_sense (Some named) = ADescriptor

-- the last segment of a path, and the path without it
abbrev pub last_segment : List NameSeg → Option NameSeg
last_segment segments = slice_get segments (length segments - 1)

abbrev pub outer_segments : List NameSeg → List NameSeg
outer_segments segments = take (length segments - 1) segments

abbrev pub outer_path : Path → Path
outer_path name = record name { segs = outer_segments name.segs }

module _ (look : AbsolutePath → Option NamedDescriptor) where
  -- a name of which the last segment is a field of what the others name
  abbrev pub field_sense : Path → AbsolutePath → Sense
  field_sense name scope =
      choose (last_segment name.segs) Nothing
      (λ segment. choose (look (declared_path (outer_path name) scope)) Nothing (λ named. field_in named segment))

module _ (has : AbsolutePath → Bool) (look : AbsolutePath → Option NamedDescriptor) where
  -- a name denotes the nearest path that has a name. Where there is none, its one place may be that of a field; a single segment
  -- without a prefix is no field's
  abbrev pub sense_of : Path → AbsolutePath → Sense
  sense_of name scope =
      choose (denoted has name scope) (if is_searched name then Nothing else field_sense look name scope)
      (λ path. descriptor_sense (look path))
