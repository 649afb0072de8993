-- What the sites in code stand for, where paths have numbers.
use Rattle.std.specs.Prelude.{◌<◌, ℕ, List, [], ◌∷◌, get_or, Option, Some, None}
use Rattle.acpi_values.specs.Paths.{AbsolutePath}
use Rattle.acpi_names.specs.Shown.{spot_as}
use Rattle.region_checks.specs.Sites as S
use Rattle.region_checks.specs.Measures.{fault_in}
use Rattle.region_checks.specs.declared.site.Site.{Site}
use Rattle.region_checks.specs.declared.site.Site.TheVariants as C

abbrev pub site_as : List AbsolutePath → Site → S.Site
site_as paths (C.Region path size) = S.RegionAt (get_or paths path []) size
site_as paths (C.Field here region scope access units) = S.FieldIn (spot_as here) region.now (get_or paths scope []) access
    (λ space. fault_in space units)

abbrev pub optional_site : List AbsolutePath → Option Site → List S.Site
optional_site paths None = []
optional_site paths (Some site) = site_as paths site ∷ []

-- the path of a region has its number
abbrev pub IsWithin : ℕ → Site → Type 0
IsWithin count (C.Region path size) = path < count
IsWithin count (C.Field here region scope access units) = Unit {0}
