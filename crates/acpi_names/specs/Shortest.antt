-- The shortest spelling of a used name (ACPI Specification 6.4, 5.3 and 20.2.2).
use Rattle.std.specs.Prelude.{ℕ, zero, suc, ◌+◌, ◌-◌, ◌*◌, Bool, true, false, not, ◌||◌, nat_lt, if◌then◌else◌, List, [], ◌∷◌, ◌++◌, length}
use Rattle.std.specs.List.{filter}
use Rattle.acpi_values.specs.Paths.{NameSeg, AbsolutePath, is_same_path}
use Rattle.acpi_state.specs.Outcomes.{choose}
use Rattle.asl_tree.specs.declared.path.Path.{Path}
use Rattle.asl_tree.specs.Names.{search_path, candidates, denoted, absolute, is_searched, spelled_element}

-- how many bytes so many segments take: one segment stands alone, and another number of them is told first
abbrev pub segments_length : ℕ → ℕ
segments_length zero = 1
segments_length (suc zero) = 4
segments_length (suc (suc zero)) = 9
segments_length count = 2 + 4 * count

-- how many bytes a name takes: the root and each `^` is one
abbrev pub name_length : Path → ℕ
name_length name = (if name.root then 1 else name.up) + segments_length (length name.segs)

-- the first of some names that has the fewest bytes
abbrev pub shortest : Path → List Path → Path
shortest name [] = name
shortest name (other ∷ names) = shortest (if nat_lt (name_length other) (name_length name) then other else name) names

-- a path's last segment, without a prefix
abbrev pub last_alone : AbsolutePath → List Path
last_alone [] = []
last_alone (seg ∷ outer) = record { root = false; up = 0; segs = seg ∷ [] } ∷ []

-- a path's segments below each scope around it, with the `^`s that lead there; the fewest come first
abbrev pub upward : List NameSeg → AbsolutePath → AbsolutePath → List Path
upward segs [] scope = []
upward segs (seg ∷ outer) scope = record { root = false; up = length scope - length outer; segs = seg ∷ segs } ∷ upward (seg ∷ segs) outer
    scope

-- those that need no search: a single segment has a `^` there
abbrev pub unsearched : AbsolutePath → AbsolutePath → List Path
unsearched path scope = filter (λ name. not (is_searched name)) (upward [] path scope)

abbrev pub is_only : AbsolutePath → List AbsolutePath → Bool
is_only path (other ∷ []) = is_same_path other path
is_only path paths = false

module _ (has : AbsolutePath → Bool) where
  -- a name with this path as its only candidate
  abbrev pub leads_to : AbsolutePath → AbsolutePath → Path → Bool
  leads_to path scope name = is_only path (candidates has (search_path name scope))

  -- the shortest spelling of a path; where several are as short, that from the root, and then that with fewer `^`s
  abbrev pub short_use : AbsolutePath → AbsolutePath → Path
  short_use path scope = shortest (absolute path) (filter (leads_to path scope) (last_alone path ++ unsearched path scope))

  -- the same in a Package, where no name is searched
  abbrev pub short_element : AbsolutePath → AbsolutePath → Path
  short_element path scope = shortest (absolute path) (filter (leads_to path scope) (unsearched path scope))

  -- a used name of a path as it stands in the bytes: in its shortest spelling where that is asked for; otherwise as it is written, if
  -- the path is its only candidate, and if not, from the root
  abbrev pub use_of : Bool → Path → AbsolutePath → AbsolutePath → Path
  use_of true name path scope = short_use path scope
  use_of false name path scope = if leads_to path scope name then name else absolute path

  -- a name in a Package as it stands in the bytes
  abbrev pub spelled_item : Bool → Path → AbsolutePath → Path
  spelled_item shorten name scope =
      if is_searched name then spelled_element has name scope
      else if shorten then choose (denoted has name scope) name (λ path. short_element path scope)
      else name

-- what may stand in the way of a name: what has a name, and what `also` has one though no object stands there, as resource
-- descriptors do
abbrev pub met : (also has : AbsolutePath → Bool) → AbsolutePath → Bool
met also has path = has path || also path

-- a used name as it stands in the bytes: what it denotes, by what has a name, is the only candidate among all that may stand in its
-- way; a name that denotes nothing stays as it is written
abbrev pub spelled_use : (also has : AbsolutePath → Bool) → Bool → Path → AbsolutePath → Path
spelled_use also has shorten name scope = choose (denoted has name scope) name (λ path. use_of (met also has) shorten name path scope)
