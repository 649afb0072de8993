-- A form of a path by numbers.
use Rattle.std.specs.Prelude.{ℕ, ◌+◌, Bool, false, ◌&&◌, ◌||◌, nat_lt, if◌then◌else◌, List, ◌∷◌, [], reverse, take}
use Rattle.acpi_values.specs.Paths.{NameSeg, AbsolutePath}
use Rattle.asl_tree.specs.declared.path.Path.{Path as Name}
use Rattle.asl_tree.specs.Names.{enclosing}
use Rattle.acpi_names.specs.Paths.{is_named_in}
use Rattle.acpi_names.specs.Shortest.{segments_length, leads_to, met}
use Rattle.name_spelling.specs.declared.form.Form.{Form}

-- the name of a path in a form
abbrev pub form_name : Form → AbsolutePath → Name
form_name form path = record { root = form.root; up = form.up; segs = reverse (take form.count path) }

-- how many bytes it has
abbrev pub form_length : Form → ℕ
form_length form = (if form.root then 1 else form.up) + segments_length form.count

-- the second of two forms, where it leads to the path without a search and is shorter
abbrev pub nearer : Form → Form → Bool → Form
nearer best other leads = if leads && (nat_lt 0 other.up || nat_lt 1 other.count) && nat_lt (form_length other) (form_length best) then
    other else best

-- the places of a segment in the scopes around one
abbrev pub around : NameSeg → AbsolutePath → List AbsolutePath
around seg [] = []
around seg (outer ∷ scope) = enclosing seg scope

module _ (has : AbsolutePath → Bool) where
  -- whether a path's last segment leads to that path alone
  abbrev pub leads_alone : AbsolutePath → AbsolutePath → Bool
  leads_alone [] scope = false
  leads_alone (seg ∷ outer) scope = leads_to has (seg ∷ outer) scope (record { root = false; up = 0; segs = seg ∷ [] })

-- what may stand in the way of a name, by the flags of the paths that are named and of others besides
abbrev pub met_in : List AbsolutePath → (named also : List Bool) → AbsolutePath → Bool
met_in paths named also = met (is_named_in paths also) (is_named_in paths named)
