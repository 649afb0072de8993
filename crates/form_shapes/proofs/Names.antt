-- A program without errors of names and counts has none with what stands for its Printf, Fprintf and For, and its names are the same.
use Rattle.std.proofs.Common.{◌≡◌, ℕ, Bool, true, false, List, [], ◌∷◌, ◌++◌, Option, Some, None, refl, sym, ap, ◌∙◌}
use Rattle.acpi_values.specs.Paths.{AbsolutePath}
use Rattle.acpi_state.specs.Objects.{lookup, root_objects, ExternalObject}
use Rattle.asl_tree.specs.declared.path.Path.{Path}
use Rattle.asl_tree.specs.FieldItems.{FieldItem}
use Rattle.asl_tree.specs.Names.{denoted}
use Rattle.asl_tree.specs.Tree.{At, Trees, UnitName}
use Rattle.asl_meaning.specs.Declarations.{ExternalType, Declarations, nothing_declared, is_named, declarations, calls_all, called, external_object, external_names, declared_kinds, as_known, externals, known_of}
use Rattle.acpi_names.specs.Errors.{NameError, Whole, whole_of, Asked, Anything, AnObject, AValue, AMutex, AnEvent, AUnit, ARegion, asked_types, names_all, types_all, use_errors, call_errors, name_errors, type_errors}
use Rattle.acpi_names.specs.Mentions.{Mention, Used', Sought, Called, Declares, Outside, Opens, after, block_mentions, mention_errors, all_errors, mention_types, all_types}
use Rattle.acpi_names.specs.Terms.{are_terms}
use Rattle.acpi_names.proofs.MentionErrors.{block_errors, block_calls}
use Rattle.acpi_names.proofs.MentionTypes.{block_types}
use Rattle.named_sessions.specs.Shaped.{AreFormed}
use Rattle.named_sessions.proofs.Terms.{formed_terms}
use Rattle.asl_prints.specs.Forms.{formed_all}
use Rattle.asl_formats.proofs.Declared.{same_declarations}
use Rattle.form_shapes.specs.Near.{AreNear}
use Rattle.form_shapes.proofs.Formed.{forms_formed}
use Rattle.form_shapes.proofs.Asked.{all_asked}
use Rattle.form_shapes.proofs.Light.{Telling, IsLight, told}
use Rattle.form_shapes.proofs.Told.{all_told}
use Rattle.form_shapes.proofs.Calls.{both_false, first_false, second_false, misfits, calling, none_misfits, same_looked}

-- ---- errors, told one by one

abbrev is_error : List NameError → Bool
is_error [] = false
is_error (e ∷ es) = true

error_none : (xs ys : List NameError) → xs ++ ys ≡ [] → (is_error xs ≡ false) × (ys ≡ [])
error_none [] ys e = (refl, e)
error_none (x ∷ xs) ys e = absurd cc

none_error : (xs ys : List NameError) → is_error xs ≡ false → ys ≡ [] → xs ++ ys ≡ []
none_error [] ys e f = f
none_error (x ∷ xs) ys e f = absurd cc

module _ (whole : Whole) where
  -- an error of names that an expression has it has wherever it stands
  same_wrong : (m : Mention) → IsLight m → (c d : Declarations) → is_error (mention_errors whole m c) ≡ is_error (mention_errors whole m d)
  same_wrong (Used' asked at name scope) h c d = refl
  same_wrong (Sought at name scope) h c d = refl
  same_wrong (Called asked at name args scope) h c d = refl
  same_wrong (Declares at name as' scope) h c d = absurd h
  same_wrong (Outside here at name type scope) h c d = absurd h
  same_wrong (Opens here at name scope inner) h c d = absurd h

  abbrev wrong_names : Telling
  wrong_names = record { of = λ m d. is_error (mention_errors whole m d); steady = same_wrong }

  abbrev wrong_types : Telling
  wrong_types = record { of = λ m d. is_error (mention_types whole m); steady = λ m h c d. refl }

  names_untold : (ms : List Mention) (d : Declarations) → all_errors whole ms d ≡ [] → told wrong_names ms d ≡ false
  names_untold [] d e = refl
  names_untold (m ∷ ms) d e =
      let parts = error_none (mention_errors whole m d) (all_errors whole ms (after m d)) e in both_false (is_error (mention_errors whole m d)) (told wrong_names ms (after m d)) parts.0 (names_untold ms (after m d) parts.1)

  names_right : (ms : List Mention) (d : Declarations) → told wrong_names ms d ≡ false → all_errors whole ms d ≡ []
  names_right [] d e = refl
  names_right (m ∷ ms) d e =
      none_error (mention_errors whole m d) (all_errors whole ms (after m d)) (first_false (is_error (mention_errors whole m d)) (told wrong_names ms (after m d)) e)
      (names_right ms (after m d) (second_false (is_error (mention_errors whole m d)) (told wrong_names ms (after m d)) e))

  types_untold : (ms : List Mention) (d : Declarations) → all_types whole ms ≡ [] → told wrong_types ms d ≡ false
  types_untold [] d e = refl
  types_untold (m ∷ ms) d e =
      let parts = error_none (mention_types whole m) (all_types whole ms) e in both_false (is_error (mention_types whole m)) (told wrong_types ms (after m d)) parts.0 (types_untold ms (after m d) parts.1)

  types_right : (ms : List Mention) (d : Declarations) → told wrong_types ms d ≡ false → all_types whole ms ≡ []
  types_right [] d e = refl
  types_right (m ∷ ms) d e =
      none_error (mention_types whole m) (all_types whole ms) (first_false (is_error (mention_types whole m)) (told wrong_types ms (after m d)) e)
      (types_right ms (after m d) (second_false (is_error (mention_types whole m)) (told wrong_types ms (after m d)) e))

  -- ---- calls in another order

  module _ (others : List (AbsolutePath × ℕ)) (same : (path : AbsolutePath) → lookup others path ≡ lookup whole.calls path) where
    abbrev with_calls : Whole
    with_calls = record { all = whole.all; known = whole.known; calls = others }

    call_same : (at : At) (name : Path) (n : ℕ) (scope : AbsolutePath) → call_errors with_calls at name n scope ≡ call_errors whole at name n scope
    call_same at name n scope = by_path (denoted (is_named whole.all) name scope) refl
      where
        by_path : (o : Option AbsolutePath) → denoted (is_named whole.all) name scope ≡ o → call_errors with_calls at name n scope ≡ call_errors whole at name n scope
        by_path None e = rw e
        by_path (Some path) e = rw (e, same path)

    mention_same : (m : Mention) (d : Declarations) → mention_errors with_calls m d ≡ mention_errors whole m d
    mention_same (Used' asked at name scope) d = refl
    mention_same (Sought at name scope) d = refl
    mention_same (Called asked at name args scope) d = ap (λ es. use_errors whole at name scope ++ es) (call_same at name args scope)
    mention_same (Declares at name as' scope) d = refl
    mention_same (Outside here at name type scope) d = refl
    mention_same (Opens here at name scope inner) d = refl

    names_same : (ms : List Mention) (d : Declarations) → all_errors with_calls ms d ≡ all_errors whole ms d
    names_same [] d = refl
    names_same (m ∷ ms) d = ap (λ es. es ++ all_errors with_calls ms (after m d)) (mention_same m d) ∙ ap (λ es. mention_errors whole m d ++ es) (names_same ms (after m d))

    asked_same : (asked : Asked) (at : At) (name : Path) (scope : AbsolutePath) → asked_types with_calls asked at name scope ≡ asked_types whole asked at name scope
    asked_same Anything at name scope = refl
    asked_same AnObject at name scope = refl
    asked_same AValue at name scope = refl
    asked_same AMutex at name scope = refl
    asked_same AnEvent at name scope = refl
    asked_same AUnit at name scope = refl
    asked_same (ARegion field) at name scope = refl

    type_same : (m : Mention) → mention_types with_calls m ≡ mention_types whole m
    type_same (Used' asked at name scope) = asked_same asked at name scope
    type_same (Called true at name args scope) = refl
    type_same (Called false at name args scope) = refl
    type_same m = refl

    types_same : (ms : List Mention) → all_types with_calls ms ≡ all_types whole ms
    types_same [] = refl
    types_same (m ∷ ms) = ap (λ es. es ++ all_types with_calls ms) (type_same m) ∙ ap (λ es. mention_types whole m ++ es) (types_same ms)

-- ---- programs

same_external : (cs cs' : List (AbsolutePath × ℕ)) → ((path : AbsolutePath) → lookup cs path ≡ lookup cs' path) → (entries : List (AbsolutePath × ExternalType)) → external_names cs entries ≡ external_names cs' entries
same_external cs cs' h [] = refl
same_external cs cs' h (entry ∷ entries) =
    ap (λ o. (entry.0, ExternalObject (external_object entry.1 o)) ∷ external_names cs entries) (h entry.0) ∙ ap (λ es. (entry.0, ExternalObject (external_object entry.1 (lookup cs' entry.0))) ∷ es) (same_external cs cs' h entries)

abbrev calls_by : Declarations → Trees → List (AbsolutePath × ℕ)
calls_by d program = called (calls_all (is_named d) program [] nothing_declared)

module _ (Listed : List (FieldItem UnitName) → Type 0) (Symbols Switches : Type 0) (program : Trees) (formed : AreFormed (Unit {0}) Listed Symbols Switches program) (near : AreNear program)
    (names : name_errors program ≡ []) (counts : type_errors program ≡ []) where
  abbrev whole : Whole
  whole = whole_of program

  abbrev calls : List (AbsolutePath × ℕ)
  calls = calls_by (declarations program) (formed_all program)

  abbrev before : List Mention
  before = block_mentions program [] nothing_declared

  abbrev behind : List Mention
  behind = block_mentions (formed_all program) [] nothing_declared

  terms : are_terms program ≡ true
  terms = formed_terms (Unit {0}) Listed Symbols Switches program formed

  made_terms : are_terms (formed_all program) ≡ true
  made_terms = formed_terms ⊥ Listed Symbols Switches (formed_all program) (forms_formed Listed Symbols Switches program formed near)

  names_none : all_errors whole before nothing_declared ≡ []
  names_none = sym (block_errors whole program terms [] nothing_declared) ∙ names

  types_none : all_types whole before ≡ []
  types_none = sym (block_types whole program terms [] nothing_declared names) ∙ counts

  fits : told (misfits whole) before nothing_declared ≡ false
  fits = none_misfits whole before nothing_declared (all_asked (Unit {0}) Listed Symbols Switches program formed [] nothing_declared) types_none

  same_first : (path : AbsolutePath) → lookup calls path ≡ lookup (whole_of program).calls path
  same_first path =
      ap (λ cs. lookup (called cs) path) (block_calls (is_named (declarations program)) (formed_all program) made_terms [] nothing_declared)
      ∙ same_looked whole path before behind nothing_declared fits (all_told (misfits whole) program terms [] nothing_declared ∙ fits) (all_told (calling whole path) program terms [] nothing_declared)
      ∙ sym (ap (λ cs. lookup (called cs) path) (block_calls (is_named (declarations program)) program terms [] nothing_declared))

  -- each path is called first with as many arguments
  pub same_calls : (path : AbsolutePath) → lookup (whole_of (formed_all program)).calls path ≡ lookup (whole_of program).calls path
  same_calls path = ap (λ d. lookup (calls_by d (formed_all program)) path) (same_declarations program) ∙ same_first path

  pub same_externals : externals (formed_all program) ≡ externals program
  same_externals =
      ap (λ d. external_names (calls_by d (formed_all program)) d.external) (same_declarations program)
      ∙ same_external calls (calls_by (declarations program) program) same_first (declarations program).external

  pub same_known : known_of (formed_all program) ≡ known_of program
  same_known =
      ap (λ d. declared_kinds (is_named d) d.declared ++ as_known (externals (formed_all program) ++ root_objects)) (same_declarations program)
      ∙ ap (λ others. declared_kinds (is_named (declarations program)) (declarations program).declared ++ as_known (others ++ root_objects)) same_externals

  abbrev made : Whole
  made = record { all = declarations program; known = known_of program; calls = calls }

  whole_made : whole_of (formed_all program) ≡ made
  whole_made =
      ap (λ d. record { all = d; known = known_of (formed_all program); calls = calls_by d (formed_all program) }) (same_declarations program)
      ∙ ap (λ known. record { all = declarations program; known = known; calls = calls }) same_known

  made_names : names_all made (formed_all program) [] nothing_declared ≡ []
  made_names =
      block_errors made (formed_all program) made_terms [] nothing_declared ∙ names_same whole calls same_first behind nothing_declared
      ∙ names_right whole behind nothing_declared (all_told (wrong_names whole) program terms [] nothing_declared ∙ names_untold whole before nothing_declared names_none)

  pub no_name_errors : name_errors (formed_all program) ≡ []
  no_name_errors = ap (λ w. names_all w (formed_all program) [] nothing_declared) whole_made ∙ made_names

  pub no_type_errors : type_errors (formed_all program) ≡ []
  no_type_errors =
      ap (λ w. types_all w (formed_all program) []) whole_made ∙ block_types made (formed_all program) made_terms [] nothing_declared made_names
      ∙ types_same whole calls same_first behind ∙ types_right whole behind nothing_declared (all_told (wrong_types whole) program terms [] nothing_declared ∙ types_untold whole before nothing_declared types_none)
