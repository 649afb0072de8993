-- Which outputs are asked for.
use Rattle.std.specs.Prelude.{◌≡◌, ◌≢◌, ℕ, ◌<◌, Bool, true, false, not, List, length, get_or, take}
use Rattle.std.specs.List.{filter, list_any, All}
use Rattle.iasl_backends.specs.declared.asked.Asked.{Asked}
use Rattle.iasl_backends.specs.declared.backend.Kind.{Kind}
use Rattle.iasl_backends.specs.declared.backend.Kind.TheVariants.{RawAml, CHex, Listing, Template}

-- the table where no template is asked for, and the others by their words
abbrev pub is_asked : Asked → Kind → Bool
is_asked asked RawAml = not asked.template
is_asked asked CHex = asked.c_text
is_asked asked Listing = asked.listing
is_asked asked Template = asked.template

-- whether two kinds are the same
abbrev pub same_kind : Kind → Kind → Bool
same_kind RawAml RawAml = true
same_kind CHex CHex = true
same_kind Listing Listing = true
same_kind Template Template = true
same_kind _ _ = false

-- whether a list has a member of this kind
abbrev pub has_kind : {X : Type 0} → (X → Kind) → Kind → List X → Bool
has_kind kind_of kind xs = list_any (λ x. same_kind kind (kind_of x)) xs

-- each kind occurs exactly once in a list
abbrev pub IsOneOfEach : {X : Type 0} → (X → Kind) → List X → Type 0
IsOneOfEach kind_of xs = (kind : Kind) → length (filter (λ x. same_kind kind (kind_of x)) xs) ≡ 1

-- the first member of this kind in a list has a property
abbrev pub FirstOfKind : {X : Type 0} → (X → Kind) → Kind → (X → Type 0) → List X → Type 0
FirstOfKind {X} kind_of kind Has xs = (at : ℕ) × (x : X) × (at < length xs) × (get_or xs at x ≡ x) × All (λ earlier. kind_of earlier ≢ kind)
    (take at xs) × (kind_of x ≡ kind) × Has x
