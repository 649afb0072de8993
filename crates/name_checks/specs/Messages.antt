-- The messages of errors of names, and the texts of names.
use Rattle.std.specs.Prelude.{ℕ, Bool, List, [], ◌∷◌, ◌++◌, map, reverse, replicate, if◌then◌else◌}
use Rattle.acpi_values.specs.Paths.{NameSeg, AbsolutePath}
use Rattle.iasl_messages.specs.declared.message.Message.{Message}
use Rattle.iasl_messages.specs.declared.place.Place.{Place}
use Rattle.asl_tree.specs.declared.path.Path.{Path}
use Rattle.asl_tree.specs.Tree.{Trees}
use Rattle.acpi_names.specs.Errors.{NameError, Twice, DeclaredHere, Missing, NoContainer, LeavesRoot, Differs, TooLong, WrongCount}
use Rattle.acpi_names.specs.Errors.{WrongKind, name_errors, type_errors}

-- each segment behind a dot
abbrev pub dotted : List NameSeg → List ℕ
dotted [] = []
dotted (seg ∷ segs) = 0x2E ∷ (seg ++ dotted segs)

-- segments with dots between
abbrev pub segments_text : List NameSeg → List ℕ
segments_text [] = []
segments_text (seg ∷ segs) = seg ++ dotted segs

-- the root as \, and each step up as ^
abbrev pub prefix_text : Bool → ℕ → List ℕ
prefix_text root up = if root then 0x5C ∷ [] else replicate up 0x5E

-- a name as it is written
abbrev pub name_text : Path → List ℕ
name_text name = prefix_text name.root name.up ++ segments_text name.segs

-- a path from the root
abbrev pub path_text : AbsolutePath → List ℕ
path_text path = 0x5C ∷ segments_text (reverse path)

abbrev pub message : ℕ → Place → List ℕ → Message
message number place name = record { number = number; place = place; name = name }

abbrev pub message_of : NameError → Message
message_of (Twice at path) = message 6040 at.place (path_text path)
message_of (DeclaredHere at path) = message 6044 at.place (path_text path)
message_of (Missing at name) = message 6041 at.place (name_text name)
message_of (NoContainer at name) = message 6042 at.place (name_text name)
message_of (LeavesRoot at name) = message 6043 at.place (name_text name)
message_of (Differs at name) = message 6045 at.place (name_text name)
message_of (TooLong at name) = message 6046 at.place (name_text name)
message_of (WrongCount at name) = message 6051 at.place (name_text name)
message_of (WrongKind at name) = message 6054 at.place (name_text name)

-- the errors of names, or where there are none those of kinds and counts
abbrev pub first_errors : List NameError → List NameError → List NameError
first_errors [] types = types
first_errors (e ∷ es) types = e ∷ es

abbrev pub told_errors : Trees → List Message
told_errors terms = map message_of (first_errors (name_errors terms) (type_errors terms))
