-- Where paths end among the names that are left.
use Rattle.std.proofs.Common.{◌≡◌, ℕ, zero, suc, Bool, true, false, [], ◌∷◌, ◌++◌, length, Option, Some, None, refl, sym, ap, ◌∙◌}
use Rattle.std.specs.Prelude.{if◌then◌else◌, is_some}
use Rattle.std.specs.Option.{option_map}
use Rattle.acpi_values.specs.Paths.{AbsolutePath}
use Rattle.acpi_state.specs.Objects.{Object, lookup, as_declared, root_objects}
use Rattle.acpi_state.specs.Outcomes.{choose}
use Rattle.asl_tree.specs.declared.path.Path.{Path}
use Rattle.asl_tree.specs.Names.{NameKind, Is, AliasTo, kind_at, end_by, end_of, denoted}
use Rattle.asl_meaning.specs.Declarations.{Declared, As, AliasOf, in_root, is_named, kind_of, declared_kinds, external_names, as_known}
use Rattle.acpi_names.specs.Errors.{Whole, final, name_end}
use Rattle.name_kinds.specs.Tables.{IsKnown}
use Rattle.name_kinds.proofs.Lookups.{lookup_append, lookup_kinds, lookup_known}
use Rattle.name_kinds.proofs.Chains.{finite}
use Rattle.unused_names.specs.Unused.{is_gone, Spares, SparesSource}
use Rattle.unused_names.proofs.Less.{Less, named_less}
use Rattle.unused_names.proofs.Finds.{same_denoted}

-- what is declared at a path is no alias of one that is gone
abbrev pub SparesDeclared : (gone has : AbsolutePath → Bool) → Option Declared → Type 0
SparesDeclared gone has None = Unit {0}
SparesDeclared gone has (Some as') = SparesSource gone has as'

-- what is known of a block with and without some names
pub record Lessened (gone : AbsolutePath → Bool) (w w' : Whole) : Type 0 where
  pub all : Less gone w.all w'.all
  pub calls : w'.calls ≡ w.calls
  pub known : IsKnown w
  pub left : IsKnown w'
  pub outside : (p : AbsolutePath) → gone p ≡ true → (is_some (lookup w.all.external p) ≡ false) × (in_root p ≡ false)
  pub sources : (p : AbsolutePath) → SparesDeclared gone (is_named w.all) (lookup w.all.declared p)

-- the path to which an alias leads
abbrev source_of : Option NameKind → Option AbsolutePath
source_of None = None
source_of (Some (Is object)) = None
source_of (Some (AliasTo source)) = source

module _ (gone : AbsolutePath → Bool) (w w' : Whole) (lessened : Lessened gone w w') where
  abbrev has : AbsolutePath → Bool
  has = is_named w.all

  abbrev has' : AbsolutePath → Bool
  has' = is_named w'.all

  pub left_named : (p : AbsolutePath) → has' p ≡ (if gone p then false else has p)
  left_named p = named_less gone w.all w'.all lessened.all p (lessened.outside p)

  pub denotes_same : (name : Path) (scope : AbsolutePath) → Spares gone has name scope → denoted has' name scope ≡ denoted has name scope
  denotes_same name scope h = same_denoted gone has has' left_named name scope h

  kind_same : (o : Option Declared) → SparesDeclared gone has o → option_map (kind_of has') o ≡ option_map (kind_of has) o
  kind_same None h = refl
  kind_same (Some (As object)) h = refl
  kind_same (Some (AliasOf source scope)) h = ap (λ o. Some (AliasTo o)) (denotes_same source scope h)

  declared_same : (p : AbsolutePath) → gone p ≡ false → lookup w'.all.declared p ≡ lookup w.all.declared p
  declared_same p h = lessened.all.declared p ∙ ap (λ b. if b then None else lookup w.all.declared p) h

  kinds_same : (p : AbsolutePath) → gone p ≡ false → kind_at w'.known p ≡ kind_at w.known p
  kinds_same [] h = refl
  kinds_same (seg ∷ scope) h =
      let p : AbsolutePath = seg ∷ scope in
      ap (λ ks. lookup ks p) lessened.left
      ∙ lookup_append (declared_kinds has' w'.all.declared) (as_known (external_names w'.calls w'.all.external ++ root_objects)) p
      ∙ ap (λ cs. choose (lookup (declared_kinds has' w'.all.declared) p) (lookup (as_known (external_names cs w'.all.external ++ root_objects)) p) Some) lessened.calls
      ∙ ap (λ es. choose (lookup (declared_kinds has' w'.all.declared) p) (lookup (as_known (external_names w.calls es ++ root_objects)) p) Some) lessened.all.external
      ∙ ap (λ o. choose o (lookup (as_known (external_names w.calls w.all.external ++ root_objects)) p) Some)
      (lookup_kinds has' w'.all.declared p ∙ ap (option_map (kind_of has')) (declared_same p h) ∙ kind_same (lookup w.all.declared p) (lessened.sources p) ∙ sym (lookup_kinds has w.all.declared p))
      ∙ sym (lookup_append (declared_kinds has w.all.declared) (as_known (external_names w.calls w.all.external ++ root_objects)) p)
      ∙ sym (ap (λ ks. lookup ks p) lessened.known)

  by_parts : (o : Option Declared) (x : Option Object) → SparesDeclared gone has o → is_gone gone has (source_of (choose (option_map (kind_of has) o) (option_map (λ x. Is (as_declared x)) x) Some)) ≡ false
  by_parts (Some (As object)) x h = refl
  by_parts (Some (AliasOf source scope)) x h = h
  by_parts None None h = refl
  by_parts None (Some x) h = refl

  -- no alias leads to one that is gone
  leads : (p : AbsolutePath) → is_gone gone has (source_of (kind_at w.known p)) ≡ false
  leads [] = refl
  leads (seg ∷ scope) =
      let p : AbsolutePath = seg ∷ scope in
      let names = external_names w.calls w.all.external ++ root_objects in
      ap (λ o. is_gone gone has (source_of o))
      (ap (λ ks. lookup ks p) lessened.known ∙ lookup_append (declared_kinds has w.all.declared) (as_known names) p
      ∙ ap (λ o. choose o (lookup (as_known names) p) Some) (lookup_kinds has w.all.declared p)
      ∙ ap (λ o. choose (option_map (kind_of has) (lookup w.all.declared p)) o Some) (lookup_known names p))
      ∙ by_parts (lookup w.all.declared p) (lookup names p) (lessened.sources p)

  ends_same : (n : ℕ) (p : AbsolutePath) → gone p ≡ false → end_of w'.known n p ≡ end_of w.known n p
  ends_same zero p h = refl
  ends_same (suc n) p h = ap (λ o. end_by o p (end_of w'.known n)) (kinds_same p h) ∙ by_kind (kind_at w.known p) (leads p) (ends_same n)
    where
      by_kind : (o : Option NameKind) → is_gone gone has (source_of o) ≡ false → ((q : AbsolutePath) → gone q ≡ false → end_of w'.known n q ≡ end_of w.known n q) → end_by o p (end_of w'.known n) ≡ end_by o p (end_of w.known n)
      by_kind None k go = refl
      by_kind (Some (Is object)) k go = refl
      by_kind (Some (AliasTo None)) k go = refl
      by_kind (Some (AliasTo (Some q))) k go = go q k

  -- a path that is left ends where it did
  pub final_same : (p : AbsolutePath) → gone p ≡ false → final w'.known p ≡ final w.known p
  final_same p h = by_end (final w'.known p) (final w.known p) refl refl
    where
      by_end : (o r : Option (AbsolutePath × Object)) → final w'.known p ≡ o → final w.known p ≡ r → o ≡ r
      by_end o (Some x) e k = sym e ∙ finite w'.known (suc (length w.known)) p x (ends_same (suc (length w.known)) p h ∙ k)
      by_end None None e k = refl
      by_end (Some x) None e k = sym (finite w.known (suc (length w'.known)) p x (sym (ends_same (suc (length w'.known)) p h) ∙ e)) ∙ k

  -- a name ends where it did
  pub name_end_same : (name : Path) (scope : AbsolutePath) → Spares gone has name scope → name_end w' name scope ≡ name_end w name scope
  name_end_same name scope h = ap (λ o. choose o None (final w'.known)) (denotes_same name scope h) ∙ by_path (denoted has name scope) h
    where
      by_path : (o : Option AbsolutePath) → is_gone gone has o ≡ false → choose o None (final w'.known) ≡ choose o None (final w.known)
      by_path None k = refl
      by_path (Some p) k = final_same p k
