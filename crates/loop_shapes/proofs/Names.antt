-- A program declares and calls the same with loops for its Switches, and has the same errors of names and kinds.
use Rattle.std.proofs.Common.{◌≡◌, ℕ, Bool, false, List, [], ◌++◌, Option, refl, ap, ◌∙◌}
use Rattle.acpi_values.specs.Paths.{AbsolutePath}
use Rattle.acpi_state.specs.Objects.{root_objects}
use Rattle.acpi_state.specs.Outcomes.{choose}
use Rattle.asl_tree.specs.FieldItems.{FieldItem}
use Rattle.asl_tree.specs.Names.{denoted}
use Rattle.asl_tree.specs.Tree.{Tree, Integer, Constant, String, Buffer, Trees, no_trees, tree, UnitName}
use Rattle.asl_meaning.specs.Declarations.{Declarations, nothing_declared, is_named, scope_path, declarations, calls, calls_all, called, declared_kinds, external_names, as_known, externals, known_of}
use Rattle.acpi_names.specs.Errors.{NameError, Whole, whole_of, use_errors, scope_errors, declared_errors, names, names_all, element_types, types, element_types_all, types_all, name_errors, type_errors}
use Rattle.acpi_names.proofs.Mentions.{right_nil}
use Rattle.asl_fold.proofs.Declared.{both}
use Rattle.named_sessions.specs.Shaped.{IsCaseMember, AreCaseMembers, AreFormed}
use Rattle.hidden_locals.specs.Switches.{plan_of, without_switches}
use Rattle.hidden_locals.proofs.Declared as Loops
use Rattle.loop_shapes.proofs.Walks.{Walk, defaults_last, all_same}

-- ---- calls

module _ (has : AbsolutePath → Bool) where
  member_calls : (t : Tree) → IsCaseMember t → (s : AbsolutePath) (d : Declarations) → calls has t s d ≡ []
  member_calls (Integer n) h s d = refl
  member_calls (Constant literal) h s d = refl
  member_calls (String text) h s d = refl
  member_calls (Buffer (Integer n) bytes) h s d = refl
  member_calls (Buffer _ bytes) h s d = absurd h
  member_calls _ h s d = absurd h

  members_calls : (ts : Trees) → AreCaseMembers ts → (s : AbsolutePath) (d : Declarations) → calls_all has ts s d ≡ []
  members_calls no_trees h s d = refl
  members_calls (tree t ts) h s d = both (calls has t s d) (calls_all has ts s _) [] [] (member_calls t h.0 s d) (members_calls ts h.1 s _)

  abbrev calls_told : Walk (Option AbsolutePath × ℕ)
  calls_told = record {
    of = calls has;
    all = calls_all has;
    method = λ at name flags s d. [];
    container = λ kind at name s d. [];
    scope = λ here at name s d. [];
    within = λ name s d. scope_path d name s;
    none = λ s d. refl;
    some = λ t ts s d. refl;
    of_if = λ test body s d. refl;
    of_else_if = λ test body s d. refl;
    of_else = λ body s d. refl;
    of_while = λ test body s d. refl;
    of_switch = λ value cases s d. refl;
    of_case = λ value body s d. refl;
    of_default = λ body s d. refl;
    of_method = λ at name flags body s d. refl;
    of_container = λ kind at name body s d. refl;
    of_scope = λ here at name body s d. refl;
    of_break = λ s d. refl;
    of_continue = λ s d. refl;
    of_slot = λ slot s d. refl;
    of_word = λ literal s d. refl;
    of_stored = λ value i s d. right_nil (calls has value s d ++ []) ∙ right_nil (calls has value s d);
    of_equal = λ i value q s d. both (calls has value s d ++ []) [] [] [] (right_nil (calls has value s d) ∙ q s d) refl;
    of_either = λ a b q r s d. both (calls has a s d ++ (calls has b s _ ++ [])) [] [] [] (both (calls has a s d) (calls has b s _ ++ []) [] [] (q s d) (right_nil (calls has b s _) ∙ r s _)) refl;
    of_integer = λ n s d. refl;
    of_string = λ text s d. refl;
    of_buffer = λ n bytes s d. refl;
    of_package = λ n members h s d. members_calls members h s d;
    of_var_package = λ n members h s d. members_calls members h s d;
  }

-- ---- names and kinds

module _ (whole : Whole) where
  member_names : (t : Tree) → IsCaseMember t → (s : AbsolutePath) (d : Declarations) → names whole t s d ≡ []
  member_names (Integer n) h s d = refl
  member_names (Constant literal) h s d = refl
  member_names (String text) h s d = refl
  member_names (Buffer (Integer n) bytes) h s d = refl
  member_names (Buffer _ bytes) h s d = absurd h
  member_names _ h s d = absurd h

  members_names : (ts : Trees) → AreCaseMembers ts → (s : AbsolutePath) (d : Declarations) → names_all whole ts s d ≡ []
  members_names no_trees h s d = refl
  members_names (tree t ts) h s d = both (names whole t s d) (names_all whole ts s _) [] [] (member_names t h.0 s d) (members_names ts h.1 s _)

  abbrev names_told : Walk NameError
  names_told = record {
    of = names whole;
    all = names_all whole;
    method = λ at name flags s d. declared_errors whole at name s d;
    container = λ kind at name s d. declared_errors whole at name s d;
    scope = λ here at name s d. use_errors whole at name s ++ scope_errors whole here at name s d;
    within = λ name s d. scope_path d name s;
    none = λ s d. refl;
    some = λ t ts s d. refl;
    of_if = λ test body s d. refl;
    of_else_if = λ test body s d. refl;
    of_else = λ body s d. refl;
    of_while = λ test body s d. refl;
    of_switch = λ value cases s d. refl;
    of_case = λ value body s d. refl;
    of_default = λ body s d. refl;
    of_method = λ at name flags body s d. refl;
    of_container = λ kind at name body s d. refl;
    of_scope = λ here at name body s d. refl;
    of_break = λ s d. refl;
    of_continue = λ s d. refl;
    of_slot = λ slot s d. refl;
    of_word = λ literal s d. refl;
    of_stored = λ value i s d. right_nil (names whole value s d ++ []) ∙ right_nil (names whole value s d);
    of_equal = λ i value q s d. both (names whole value s d ++ []) [] [] [] (right_nil (names whole value s d) ∙ q s d) refl;
    of_either = λ a b q r s d. both (names whole a s d ++ (names whole b s _ ++ [])) [] [] [] (both (names whole a s d) (names whole b s _ ++ []) [] [] (q s d) (right_nil (names whole b s _) ∙ r s _)) refl;
    of_integer = λ n s d. refl;
    of_string = λ text s d. refl;
    of_buffer = λ n bytes s d. refl;
    of_package = λ n members h s d. members_names members h s d;
    of_var_package = λ n members h s d. members_names members h s d;
  }

  member_types : (t : Tree) → IsCaseMember t → (s : AbsolutePath) → element_types whole t (types whole t s) ≡ []
  member_types (Integer n) h s = refl
  member_types (Constant literal) h s = refl
  member_types (String text) h s = refl
  member_types (Buffer (Integer n) bytes) h s = refl
  member_types (Buffer _ bytes) h s = absurd h
  member_types _ h s = absurd h

  members_types : (ts : Trees) → AreCaseMembers ts → (s : AbsolutePath) → element_types_all whole ts s ≡ []
  members_types no_trees h s = refl
  members_types (tree t ts) h s = both (element_types whole t (types whole t s)) (element_types_all whole ts s) [] [] (member_types t h.0 s) (members_types ts h.1 s)

  abbrev types_told : Walk NameError
  types_told = record {
    of = λ t s d. types whole t s;
    all = λ ts s d. types_all whole ts s;
    method = λ at name flags s d. [];
    container = λ kind at name s d. [];
    scope = λ here at name s d. [];
    within = λ name s d. choose (denoted (is_named whole.all) name s) [] (λ path. path);
    none = λ s d. refl;
    some = λ t ts s d. refl;
    of_if = λ test body s d. refl;
    of_else_if = λ test body s d. refl;
    of_else = λ body s d. refl;
    of_while = λ test body s d. refl;
    of_switch = λ value cases s d. refl;
    of_case = λ value body s d. refl;
    of_default = λ body s d. refl;
    of_method = λ at name flags body s d. refl;
    of_container = λ kind at name body s d. refl;
    of_scope = λ here at name body s d. refl;
    of_break = λ s d. refl;
    of_continue = λ s d. refl;
    of_slot = λ slot s d. refl;
    of_word = λ literal s d. refl;
    of_stored = λ value i s d. right_nil (types whole value s ++ []) ∙ right_nil (types whole value s);
    of_equal = λ i value q s d. both (types whole value s ++ []) [] [] [] (right_nil (types whole value s) ∙ q s d) refl;
    of_either = λ a b q r s d. both (types whole a s ++ (types whole b s ++ [])) [] [] [] (both (types whole a s) (types whole b s ++ []) [] [] (q s d) (right_nil (types whole b s) ∙ r s d)) refl;
    of_integer = λ n s d. refl;
    of_string = λ text s d. refl;
    of_buffer = λ n bytes s d. refl;
    of_package = λ n members h s d. members_types members h s;
    of_var_package = λ n members h s d. members_types members h s;
  }

-- ---- the whole program

module _ (Listed : List (FieldItem UnitName) → Type 0) (Symbols Switches : Type 0) (program : Trees) (h : AreFormed ⊥ Listed Symbols Switches program) where
  pub same_declarations : declarations (without_switches program) ≡ declarations program
  same_declarations = Loops.same_declarations program (defaults_last Listed Symbols Switches program h)

  pub same_calls : (has : AbsolutePath → Bool) → calls_all has (without_switches program) [] nothing_declared ≡ calls_all has program [] nothing_declared
  same_calls has = all_same (calls_told has) Listed Symbols Switches program h (plan_of program) 0 false [] nothing_declared

  pub same_externals : externals (without_switches program) ≡ externals program
  same_externals =
      ap (λ d. external_names (called (calls_all (is_named d) (without_switches program) [] nothing_declared)) d.external) same_declarations
      ∙ ap (λ cs. external_names (called cs) (declarations program).external) (same_calls (is_named (declarations program)))

  pub same_known : known_of (without_switches program) ≡ known_of program
  same_known =
      ap (λ d. declared_kinds (is_named d) d.declared ++ as_known (externals (without_switches program) ++ root_objects)) same_declarations
      ∙ ap (λ names. declared_kinds (is_named (declarations program)) (declarations program).declared ++ as_known (names ++ root_objects)) same_externals

  pub same_whole : whole_of (without_switches program) ≡ whole_of program
  same_whole =
      ap (λ d. record { all = d; known = known_of (without_switches program); calls = called (calls_all (is_named d) (without_switches program) [] nothing_declared) }) same_declarations
      ∙ ap (λ known. record { all = declarations program; known = known; calls = called (calls_all (is_named (declarations program)) (without_switches program) [] nothing_declared) }) same_known
      ∙ ap (λ cs. record { all = declarations program; known = known_of program; calls = called cs }) (same_calls (is_named (declarations program)))

  pub same_name_errors : name_errors (without_switches program) ≡ name_errors program
  same_name_errors =
      ap (λ whole. names_all whole (without_switches program) [] nothing_declared) same_whole
      ∙ all_same (names_told (whole_of program)) Listed Symbols Switches program h (plan_of program) 0 false [] nothing_declared

  pub same_type_errors : type_errors (without_switches program) ≡ type_errors program
  same_type_errors =
      ap (λ whole. types_all whole (without_switches program) []) same_whole ∙ all_same (types_told (whole_of program)) Listed Symbols Switches program h (plan_of program) 0 false [] nothing_declared
