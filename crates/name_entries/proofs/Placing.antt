-- Tables of places, one mention after another.
use Rattle.std.proofs.Common.{◌≡◌, ℕ, ◌+◌, ◌<◌, ◌≤◌, Bool, true, false, List, [], ◌∷◌, ◌++◌, length, get_or, set, take, Option, Some, refl, sym, ap, ◌∙◌, subst, arith}
use Rattle.std.specs.Prelude.{if◌then◌else◌}
use Rattle.std.proofs.lemmas.List.{take_all, length-map}
use Rattle.acpi_values.specs.Paths.{AbsolutePath}
use Rattle.acpi_state.specs.Objects.{lookup}
use Rattle.iasl_messages.specs.declared.place.Place.{Place}
use Rattle.acpi_names.specs.Mentions as M
use Rattle.acpi_names.specs.Paths.{AreDistinct}
use Rattle.acpi_names.specs.Tables.{Tabled}
use Rattle.acpi_names.specs.Shown.{shown, all_shown}
use Rattle.acpi_names.specs.declared.mention.Mention.{Mention}
use Rattle.acpi_values.specs.Paths.{is_same_path}
use Rattle.name_kinds.proofs.Entries.{entry_set}
use Rattle.name_kinds.proofs.Places.{next_taken}
use Rattle.name_entries.specs.Placed.{Places, ArePlaced, no_places, placed, placed_all, with_outside}
use Rattle.name_entries.specs.declared.places.PlaceTables.{PlaceTables}

-- a place, or a node, is written
pub place_set : {A : Type 0} (paths : List AbsolutePath) (table : List (Option A)) (n : ℕ) (at : A) (places : List (AbsolutePath × A)) → AreDistinct paths → n < length paths → length table ≡ length paths → Tabled paths table (lookup places) → Tabled paths (set table n (Some at)) (lookup ((get_or paths n [], at) ∷ places))
place_set {A} paths table n at places distinct lt size tabled path =
    entry_set paths table n at distinct lt size path ∙ ap (λ o. if is_same_path (get_or paths n []) path then Some at else o) (tabled path)

pub outside_set : (paths : List AbsolutePath) (new : PlaceTables) (b : Bool) (path : AbsolutePath) (at : Place) (p : Places) → b ≡ false → ArePlaced paths new (record p { external = (path, at) ∷ p.external }) → ArePlaced paths new (with_outside b path at p)
outside_set paths new b path at p e h = subst (λ c. ArePlaced paths new (with_outside c path at p)) (sym e) h

pub outside_kept : (paths : List AbsolutePath) (new : PlaceTables) (b : Bool) (path : AbsolutePath) (at : Place) (p : Places) → b ≡ true → ArePlaced paths new p → ArePlaced paths new (with_outside b path at p)
outside_kept paths new b path at p e h = subst (λ c. ArePlaced paths new (with_outside c path at p)) (sym e) h

placed_append : (ms : List M.Mention) (m : M.Mention) (p : Places) → placed_all (ms ++ m ∷ []) p ≡ placed m (placed_all ms p)
placed_append [] m p = refl
placed_append (x ∷ ms) m p = placed_append ms m (placed x p)

-- one mention more
pub placed_next : (paths : List AbsolutePath) (mentions : List Mention) (i : ℕ) (m : Mention) → i < length mentions → m ≡ get_or mentions i m → placed_all (take (i + 1) (all_shown paths mentions)) no_places ≡ placed (shown paths m) (placed_all (take i (all_shown paths mentions)) no_places)
placed_next paths mentions i m lt e = ap (λ ms. placed_all ms no_places) (next_taken paths mentions i m lt e) ∙ placed_append (take i (all_shown paths mentions)) (shown paths m) no_places

pub placed_whole : (paths : List AbsolutePath) (mentions : List Mention) (i : ℕ) → length mentions ≤ i → placed_all (take i (all_shown paths mentions)) no_places ≡ placed_all (all_shown paths mentions) no_places
placed_whole paths mentions i le = ap (λ ms. placed_all ms no_places) (take_all i (all_shown paths mentions) (omega (arith, le, length-map mentions (shown paths))))
