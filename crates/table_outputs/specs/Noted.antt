-- Names in a set.
use Rattle.std.specs.Prelude.{◌≡◌, ◌||◌, ℕ, Bool, List}
use Rattle.std.specs.List.{list_any}
use Rattle.std.specs.HashSet.{HashSet}
use Rattle.iasl_ports.specs.Fetched.{same_name}

-- whether a name is among those of a set, whose keys show them
abbrev pub is_noted : {K S : Type 0} → HashSet K S → (K → List ℕ) → List ℕ → Bool
is_noted noted shown name = list_any (λ key. same_name (shown key) name) noted.keys

-- a name is put into a set, whose others stay
abbrev pub NotesName : {K S : Type 0} → HashSet K S → HashSet K S → (K → List ℕ) → List ℕ → Type 0
NotesName old new shown name = (other : List ℕ) → is_noted new shown other ≡ (is_noted old shown other || same_name name other)
