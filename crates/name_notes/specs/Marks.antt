-- Flags by the numbers of paths.
use Rattle.std.specs.Prelude.{◌≡◌, Bool, ◌||◌, List, length, Option}
use Rattle.acpi_values.specs.Paths.{AbsolutePath}
use Rattle.acpi_names.specs.Paths.{is_named_in}
use Rattle.acpi_names.specs.Mentions.{Mention}
use Rattle.name_notes.specs.declared.marks.Marks.{Marks}
use Rattle.name_notes.specs.Notes.{is_at, is_among, method_of, used_by}

-- the flags are those of the paths that pass a test
abbrev pub Marked : List AbsolutePath → List Bool → (AbsolutePath → Bool) → Type 0
Marked paths flags test = (path : AbsolutePath) → is_named_in paths flags path ≡ test path

-- one path more, where there is one
abbrev pub IsMarked : List AbsolutePath → List Bool → List Bool → Option AbsolutePath → Type 0
IsMarked paths old new other = (test : AbsolutePath → Bool) → Marked paths old test →
    Marked paths new (λ path. is_at path other || test path)

-- a flag of each kind for each path
pub record AreSized (paths : List AbsolutePath) (marks : Marks) : Type 0 where
  pub methods : length marks.methods.items ≡ length paths
  pub used : length marks.used.items ≡ length paths

-- what some mentions say
pub record AreMarked (paths : List AbsolutePath) (has : AbsolutePath → Bool) (marks : Marks) (mentions : List Mention) : Type 0 where
  pub methods : Marked paths marks.methods.items (is_among method_of mentions)
  pub used : Marked paths marks.used.items (is_among (used_by has) mentions)
