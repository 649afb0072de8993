-- What is told of the names of a block beside errors: methods of reserved names that take another number of arguments than these
-- ask for, and names of methods that nothing uses (ACPI Specification 6.4, 5.6.8).
use Rattle.std.specs.Prelude.{ℕ, Bool, true, false, nat_eq, not, ◌&&◌, ◌||◌, if◌then◌else◌, List, [], ◌∷◌, ◌++◌, Option, Some, None}
use Rattle.std.specs.List.{list_any}
use Rattle.std.specs.Str.{bytes_eq}
use Rattle.acpi_values.specs.Paths.{NameSeg, AbsolutePath, is_same_path}
use Rattle.acpi_state.specs.Objects.{MethodObject, arity_of}
use Rattle.acpi_state.specs.Outcomes.{choose}
use Rattle.iasl_messages.specs.declared.message.Message.{Message}
use Rattle.iasl_messages.specs.declared.place.Place.{Place}
use Rattle.asl_tree.specs.Names.{declared_path, denoted}
use Rattle.asl_tree.specs.Tree.{Trees}
use Rattle.asl_meaning.specs.Declarations.{Declared, As, nothing_declared, is_named, declarations}
use Rattle.acpi_names.specs.Mentions.{Mention, Used', Sought, Called, Declares, Opens, block_mentions}
use Rattle.name_checks.specs.Messages.{message, path_text}
use Rattle.name_notes.specs.declared.reserved.Reserved.{Reserved}
use Rattle.name_notes.specs.declared.reserved.TheConstants.{RESERVED}

-- a note on a path, if it is to be told
abbrev pub told_if : Bool → ℕ → Place → AbsolutePath → List Message
told_if true number place path = message number place (path_text path) ∷ []
told_if false number place path = []

-- ---- methods of reserved names

-- the reserved names of methods, each with the number of arguments that it asks for
unfoldable pub reserved_rows : List Reserved
reserved_rows = RESERVED.now

abbrev pub arguments_in : List Reserved → NameSeg → Option ℕ
arguments_in [] name = None
arguments_in (row ∷ rows) name = if bytes_eq row.name name then Some row.arguments else arguments_in rows name

-- how many arguments a method at a path has to take, by the last segment
abbrev pub reserved_arguments : AbsolutePath → Option ℕ
reserved_arguments [] = None
reserved_arguments (segment ∷ scope) = arguments_in reserved_rows segment

-- how many arguments what is declared takes, where it is a method
abbrev pub method_arguments : Declared → Option ℕ
method_arguments (As (MethodObject flags)) = Some (arity_of flags)
method_arguments _ = None

abbrev pub is_other : Option ℕ → Option ℕ → Bool
is_other (Some due) (Some taken) = not (nat_eq due taken)
is_other _ _ = false

-- ---- names of methods that nothing uses

-- the path that a mention declares as a method
abbrev pub method_of : Mention → Option AbsolutePath
method_of (Declares at name as' scope) = choose (method_arguments as') None (λ count. Some (declared_path name scope))
method_of _ = None

-- the path that a mention uses: what the name of an operand, of the source of an Alias, of a call or of a Scope
-- denotes; `has` says which paths are named
abbrev pub used_by : (AbsolutePath → Bool) → Mention → Option AbsolutePath
used_by has (Used' asked at name scope) = denoted has name scope
used_by has (Sought at name scope) = denoted has name scope
used_by has (Called asked at name args scope) = denoted has name scope
used_by has (Opens here at name scope inner) = denoted has name scope
used_by has _ = None

-- whether a path is that of one of some mentions
abbrev pub is_at : AbsolutePath → Option AbsolutePath → Bool
is_at path None = false
is_at path (Some other) = is_same_path path other

abbrev pub is_among : (Mention → Option AbsolutePath) → List Mention → AbsolutePath → Bool
is_among path_of mentions path = list_any (λ m. is_at path (path_of m)) mentions

-- whether a path is used by one of some mentions, or is one of those that count as used
abbrev pub is_used_in : (AbsolutePath → Bool) → List AbsolutePath → List Mention → AbsolutePath → Bool
is_used_in has also mentions path = list_any (is_same_path path) also || is_among (used_by has) mentions path

-- ---- all notes, in the order of the terms

-- a name is a method's own where the scope in which it is declared is a method's
abbrev pub mention_notes : (is_method is_used : AbsolutePath → Bool) → Mention → List Message
mention_notes is_method is_used (Declares at name as' scope) =
    let path = declared_path name scope in
    told_if (is_other (reserved_arguments path) (method_arguments as')) 3001 at.place path
    ++ told_if (is_method scope && not (is_used path)) 3003 at.place path
mention_notes is_method is_used _ = []

abbrev pub all_notes : (is_method is_used : AbsolutePath → Bool) → List Mention → List Message
all_notes is_method is_used [] = []
all_notes is_method is_used (m ∷ ms) = mention_notes is_method is_used m ++ all_notes is_method is_used ms

-- the notes on what is mentioned, where these paths count as used
abbrev pub mentioned_notes : (AbsolutePath → Bool) → List AbsolutePath → List Mention → List Message
mentioned_notes has also mentions = all_notes (is_among method_of mentions) (is_used_in has also mentions) mentions

-- the same of the terms of a block, where no others do
abbrev pub name_notes : Trees → List Message
name_notes program = mentioned_notes (is_named (declarations program)) [] (block_mentions program [] nothing_declared)
