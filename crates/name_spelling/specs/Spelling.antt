-- How the arguments and the body of a form are spelled, by what the form is for names.
use Rattle.std.specs.Prelude.{◌≡◌, ℕ, zero, suc, Bool, true, false, List, length, Option, Some, None}
use Rattle.acpi_values.specs.Paths.{AbsolutePath}
use Rattle.acpi_state.specs.Objects.{lookup}
use Rattle.acpi_state.specs.Outcomes.{choose}
use Rattle.asl_tree.specs.Names.{declared_path}
use Rattle.asl_tree.specs.Tree.{Tree, Integer, Trees, no_trees, tree}
use Rattle.asl_meaning.specs.Declarations.{ExternalType, Declarations, is_named, written_external}
use Rattle.acpi_names.specs.Parts.{Agrees, Keeps, name_at}
use Rattle.acpi_names.specs.Paths.{Extends}
use Rattle.acpi_names.specs.Spelled.{inner_scope, spelled, spelled_all, spelled_elements}
use Rattle.acpi_names.specs.Tables.{Tabled, Flags}
use Rattle.acpi_names.specs.declared.part.NameRole.{NameRole}
use Rattle.acpi_names.specs.declared.part.NameRole.TheVariants as P
use Rattle.acpi_names.specs.declared.part.ValueForm.{ValueForm}
use Rattle.acpi_names.specs.declared.part.ValueForm.TheVariants as V
use Rattle.name_spelling.specs.declared.written.Written.{Written}

abbrev pub external_type : ℕ → Option ℕ → ExternalType
external_type object parameters = record { type = object; parameters = parameters }

-- what an External says in the bytes: its arity stands there always
abbrev pub type_written : Written → ExternalType
type_written written = record { type = written.object; parameters = Some written.arity }

-- a number that is written, or 0
abbrev pub number_or_zero : Option ℕ → ℕ
number_or_zero None = 0
number_or_zero (Some n) = n

-- with a number at a place, or behind all where none stands there
abbrev pub with_number_at : ℕ → ℕ → Trees → Trees
with_number_at place number no_trees = tree (Integer number) no_trees
with_number_at zero number (tree t ts) = tree (Integer number) ts
with_number_at (suc place) number (tree t ts) = tree t (with_number_at place number ts)

-- the arguments of an External, with what it is written as
abbrev pub external_args : ExternalType → Trees → Trees
external_args e args = with_number_at 2 (number_or_zero e.parameters) (with_number_at 1 e.type args)

-- the place of the name that an argument is
abbrev pub place_at : ℕ → Trees → AbsolutePath → AbsolutePath
place_at n args scope = choose (name_at n args) scope (λ name. declared_path name scope)

module _ (has : AbsolutePath → Bool) where
  -- the scope of the terms of a Scope with these arguments
  abbrev pub opened_at : Trees → AbsolutePath → AbsolutePath
  opened_at args scope = choose (name_at 0 args) scope (λ name. inner_scope has name scope)

module _ (shorten : Bool) (also has : AbsolutePath → Bool) (says : AbsolutePath → ExternalType → ExternalType) where
  -- all but the one with a number
  abbrev pub spelled_but : ℕ → Trees → AbsolutePath → Trees
  spelled_but n no_trees scope = no_trees
  spelled_but zero (tree t ts) scope = tree t (spelled_all shorten also has says ts scope)
  spelled_but (suc n) (tree t ts) scope = tree (spelled shorten also has says t scope) (spelled_but n ts scope)

  -- a term that is kept or spelled
  abbrev pub other_spelled : Bool → Tree → AbsolutePath → Tree
  other_spelled true t scope = t
  other_spelled false t scope = spelled shorten also has says t scope

  abbrev pub value_args : ValueForm → Trees → AbsolutePath → Trees
  value_args V.Nothing args scope = args
  value_args form args scope = spelled_all shorten also has says args scope

  abbrev pub value_body : ValueForm → Trees → AbsolutePath → Trees
  value_body V.Package body scope = spelled_elements shorten also has says body scope
  value_body form body scope = body

  abbrev pub opened_body : Bool → Trees → AbsolutePath → Trees
  opened_body true body scope = spelled_all shorten also has says body scope
  opened_body false body scope = body

  -- the arguments of a form
  abbrev pub part_args : NameRole → ValueForm → Trees → AbsolutePath → Trees
  part_args P.Nothing form args scope = value_args form args scope
  part_args (P.Declares n what opens) form args scope = spelled_but n args scope
  part_args P.Alias form args scope = spelled_but 1 args scope
  part_args (P.External object parameters) form args scope =
      choose (name_at 0 args) args (λ name. external_args (says (declared_path name scope) (external_type object parameters)) args)
  part_args P.Scope form args scope = spelled_all false also has says args scope
  part_args part form args scope = spelled_all shorten also has says args scope

  -- its body
  abbrev pub part_body : NameRole → ValueForm → Trees → Trees → AbsolutePath → Trees
  part_body P.Nothing form args body scope = value_body form body scope
  part_body (P.Declares n what opens) form args body scope = opened_body opens body (place_at n args scope)
  part_body P.Scope form args body scope = spelled_all shorten also has says body (opened_at has args scope)
  part_body P.Within form args body scope = spelled_all shorten also has says body scope
  part_body (P.Units over) form args body scope = spelled_all shorten also has says body scope
  part_body part form args body scope = body

-- more paths with numbers, of which the same are named, the same are in a table, and the same are those of other flags
pub record Grows (paths : List AbsolutePath) (named : List Bool) (more : List AbsolutePath) (flags : List Bool) (table : List (Option ℕ))
    (also : List Bool) : Type 0 where
  pub size : length flags ≡ length more
  pub others : Extends paths more
  pub names : Keeps paths named more flags
  pub tables : (look : AbsolutePath → Option ℕ) → Tabled paths table look → Tabled more table look
  pub kept : Keeps paths also more also

-- what holds for any declarations that the flags name, any counts of arguments that the table has, and any paths that other flags say
abbrev pub Knowing : List AbsolutePath → List Bool → List (Option ℕ) → List Bool →
    (Declarations → List (AbsolutePath × ℕ) → (AbsolutePath → Bool) → Type 0) → Type 0
Knowing paths named table also P =
    (d : Declarations) (counts : List (AbsolutePath × ℕ)) (beside : AbsolutePath → Bool) → Agrees paths named d →
    Tabled paths table (lookup counts) → Flags paths also beside → P d counts beside

module _ (shorten : Bool) (paths : List AbsolutePath) (named : List Bool) (table : List (Option ℕ)) (also : List Bool) where
  -- trees are spelled in a scope: all of them, all but one, and the elements of a Package
  abbrev pub SpellsAll : Trees → Trees → AbsolutePath → Type 0
  SpellsAll old new scope =
      Knowing paths named table also
      (λ d counts beside. new ≡ spelled_all shorten beside (is_named d) (written_external counts) old scope)

  abbrev pub SpellsBut : ℕ → Trees → Trees → AbsolutePath → Type 0
  SpellsBut place old new scope =
      Knowing paths named table also
      (λ d counts beside. new ≡ spelled_but shorten beside (is_named d) (written_external counts) place old scope)

  abbrev pub SpellsElements : Trees → Trees → AbsolutePath → Type 0
  SpellsElements old new scope =
      Knowing paths named table also
      (λ d counts beside. new ≡ spelled_elements shorten beside (is_named d) (written_external counts) old scope)

  abbrev pub SpellsOpened : Bool → Trees → Trees → AbsolutePath → Type 0
  SpellsOpened opens old new scope =
      Knowing paths named table also
      (λ d counts beside. new ≡ opened_body shorten beside (is_named d) (written_external counts) opens old scope)

  -- the arguments and the body of a form
  abbrev pub SpellsArgs : NameRole → ValueForm → Trees → Trees → AbsolutePath → Type 0
  SpellsArgs part form old new scope =
      Knowing paths named table also
      (λ d counts beside. new ≡ part_args shorten beside (is_named d) (written_external counts) part form old scope)

  abbrev pub SpellsBody : NameRole → ValueForm → Trees → Trees → Trees → AbsolutePath → Type 0
  SpellsBody part form args old new scope =
      Knowing paths named table also
      (λ d counts beside. new ≡ part_body shorten beside (is_named d) (written_external counts) part form args old scope)

-- the arguments of an External say what is written of it
abbrev pub SpellsExternal : List AbsolutePath → List (Option ℕ) → ℕ → Option ℕ → Trees → Trees → AbsolutePath → Type 0
SpellsExternal paths table object parameters old new scope =
    (counts : List (AbsolutePath × ℕ)) → Tabled paths table (lookup counts) →
    new ≡ choose (name_at 0 old) old
    (λ name. external_args (written_external counts (declared_path name scope) (external_type object parameters)) old)
