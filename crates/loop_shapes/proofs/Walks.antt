-- What is told of terms in order is the same with loops for their Switches.
use Rattle.std.proofs.Common.{◌≡◌, ℕ, suc, Bool, true, false, List, [], ◌++◌, refl, sym, ap, ◌∙◌, append_assoc}
use Rattle.acpi_values.specs.declared.operator.Plain.{Plain}
use Rattle.acpi_values.specs.declared.operator.IntOp.TheVariants as IntOp
use Rattle.acpi_values.specs.Paths.{AbsolutePath}
use Rattle.acpi_state.specs.Forms.{Slot}
use Rattle.acpi_state.specs.Objects.{MethodObject, ContainerObject, Container}
use Rattle.asl_tree.specs.FieldItems.{FieldItem}
use Rattle.asl_tree.specs.declared.path.Path.{Path}
use Rattle.asl_tree.specs.declared.term.Literal.{Literal}
use Rattle.asl_tree.specs.Names.{declared_path}
use Rattle.asl_tree.specs.Tree.{At, Tree, Integer, Constant, String, InSlot, Buffer, Package, VarPackage, Apply, Method, Container', Scope, If, ElseIf, Else, While, For, Switch, Case, Default, Break, Continue, Trees, no_trees, tree, UnitName}
use Rattle.asl_meaning.specs.Declarations.{As, Declarations, with_declared, declare, declare_all}
use Rattle.acpi_names.proofs.Mentions.{right_nil}
use Rattle.asl_fold.proofs.Declared.{both}
use Rattle.named_sessions.specs.Shaped.{IsCaseMember, AreCaseMembers, HaveCaseMembers, IsCaseValue, IsFormed, AreFormed, AreFormedCases}
use Rattle.hidden_locals.specs.Crossing.{have_continue}
use Rattle.hidden_locals.specs.Turns.{Plan, nth, local, flag, value_local, zero_word, one_word, stored, equal, joined, test_of, then_trees, turn_of, loop_of, loop_terms, continue_terms}
use Rattle.hidden_locals.specs.Switches.{plan_of, case_test, opened, unswitched, unswitched_all, links, default_link, HasDefaultsLast, HaveDefaultsLast, EndWithDefault}
use Rattle.hidden_locals.proofs.Declared.{then_declares, term_declares, chain_declares, all_declare}

abbrev pub either : Tree → Tree → Tree
either a b = Apply (Plain.Number IntOp.LOr) (tree a (tree b no_trees)) no_trees

-- something that is told of terms one by one, in their scope and with what is declared before them; nothing is told of Locals
pub record Walk (A : Type 0) : Type 0 where
  pub of : Tree → AbsolutePath → Declarations → List A
  pub all : Trees → AbsolutePath → Declarations → List A
  pub method : At → Path → ℕ → AbsolutePath → Declarations → List A
  pub container : Container → At → Path → AbsolutePath → Declarations → List A
  pub scope : At → At → Path → AbsolutePath → Declarations → List A
  pub within : Path → AbsolutePath → Declarations → AbsolutePath
  pub none : (s : AbsolutePath) (d : Declarations) → all no_trees s d ≡ []
  pub some : (t : Tree) (ts : Trees) (s : AbsolutePath) (d : Declarations) → all (tree t ts) s d ≡ of t s d ++ all ts s (declare t s d)
  pub of_if : (test : Tree) (body : Trees) (s : AbsolutePath) (d : Declarations) → of (If test body) s d ≡ of test s d ++ all body s d
  pub of_else_if : (test : Tree) (body : Trees) (s : AbsolutePath) (d : Declarations) → of (ElseIf test body) s d ≡ of test s d ++ all body s d
  pub of_else : (body : Trees) (s : AbsolutePath) (d : Declarations) → of (Else body) s d ≡ all body s d
  pub of_while : (test : Tree) (body : Trees) (s : AbsolutePath) (d : Declarations) → of (While test body) s d ≡ of test s d ++ all body s d
  pub of_switch : (value : Tree) (cases : Trees) (s : AbsolutePath) (d : Declarations) → of (Switch value cases) s d ≡ of value s d ++ all cases s d
  pub of_case : (value : Tree) (body : Trees) (s : AbsolutePath) (d : Declarations) → of (Case value body) s d ≡ of value s d ++ all body s d
  pub of_default : (body : Trees) (s : AbsolutePath) (d : Declarations) → of (Default body) s d ≡ all body s d
  pub of_method : (at : At) (name : Path) (flags : ℕ) (body : Trees) (s : AbsolutePath) (d : Declarations)
      → of (Method at name flags body) s d ≡ method at name flags s d ++ all body (declared_path name s) (with_declared (declared_path name s) (As (MethodObject flags)) d)
  pub of_container : (kind : Container) (at : At) (name : Path) (body : Trees) (s : AbsolutePath) (d : Declarations)
      → of (Container' kind at name body) s d ≡ container kind at name s d ++ all body (declared_path name s) (with_declared (declared_path name s) (As (ContainerObject kind)) d)
  pub of_scope : (here at : At) (name : Path) (body : Trees) (s : AbsolutePath) (d : Declarations) → of (Scope here at name body) s d ≡ scope here at name s d ++ all body (within name s d) d
  pub of_break : (s : AbsolutePath) (d : Declarations) → of Break s d ≡ []
  pub of_continue : (s : AbsolutePath) (d : Declarations) → of Continue s d ≡ []
  pub of_slot : (slot : Slot) (s : AbsolutePath) (d : Declarations) → of (InSlot slot) s d ≡ []
  pub of_word : (literal : Literal) (s : AbsolutePath) (d : Declarations) → of (Constant literal) s d ≡ []
  pub of_stored : (value : Tree) (i : ℕ) (s : AbsolutePath) (d : Declarations) → of (stored value (local i)) s d ≡ of value s d
  pub of_equal : (i : ℕ) (value : Tree) → ((s : AbsolutePath) (d : Declarations) → of value s d ≡ []) → (s : AbsolutePath) (d : Declarations) → of (equal (local i) value) s d ≡ []
  pub of_either : (a b : Tree) → ((s : AbsolutePath) (d : Declarations) → of a s d ≡ []) → ((s : AbsolutePath) (d : Declarations) → of b s d ≡ []) → (s : AbsolutePath) (d : Declarations) → of (either a b) s d ≡ []
  pub of_integer : (n : ℕ) (s : AbsolutePath) (d : Declarations) → of (Integer n) s d ≡ []
  pub of_string : (text : List ℕ) (s : AbsolutePath) (d : Declarations) → of (String text) s d ≡ []
  pub of_buffer : (n : ℕ) (bytes : List ℕ) (s : AbsolutePath) (d : Declarations) → of (Buffer (Integer n) bytes) s d ≡ []
  pub of_package : (n : ℕ) (members : Trees) → AreCaseMembers members → (s : AbsolutePath) (d : Declarations) → of (Package n members) s d ≡ []
  pub of_var_package : (n : ℕ) (members : Trees) → AreCaseMembers members → (s : AbsolutePath) (d : Declarations) → of (VarPackage (Integer n) members) s d ≡ []

have_members : (members : Trees) → HaveCaseMembers members → AreCaseMembers members
have_members no_trees h = absurd h
have_members (tree m ms) h = h

-- whatever is asked of the lists of fields, with symbols and Switches or without
module _ (Listed : List (FieldItem UnitName) → Type 0) (Symbols Switches : Type 0) where
  mutual
    default_last : (t : Tree) → IsFormed ⊥ Listed Symbols Switches t → HasDefaultsLast t
    default_last (If test body) h = defaults_last body h.2
    default_last (ElseIf test body) h = defaults_last body h.2
    default_last (Else body) h = defaults_last body h
    default_last (While test body) h = defaults_last body h.2
    default_last (For start test step body) h = absurd h.0
    default_last (Container' kind at name body) h = defaults_last body h.2
    default_last (Scope here at name body) h = defaults_last body h.1
    default_last (Method at name flags body) h = defaults_last body h.2
    default_last (Switch value cases) h = ends_with cases h.3
    default_last _ h = tt

    -- in formed terms each Default stands last
    pub defaults_last : (ts : Trees) → AreFormed ⊥ Listed Symbols Switches ts → HaveDefaultsLast ts
    defaults_last no_trees h = tt
    defaults_last (tree t ts) h = (default_last t h.0, defaults_last ts h.2)

    ends_with : (ts : Trees) → AreFormedCases ⊥ Listed Symbols Switches ts → EndWithDefault ts
    ends_with no_trees h = tt
    ends_with (tree (Case value body) ts) h = (defaults_last body h.1, ends_with ts h.2)
    ends_with (tree (Default body) no_trees) h = defaults_last body h
    ends_with (tree _ _) h = absurd h

module _ {A : Type 0} (walk : Walk A) where
  abbrev W : Tree → AbsolutePath → Declarations → List A
  W = walk.of

  abbrev Ws : Trees → AbsolutePath → Declarations → List A
  Ws = walk.all

  abbrev Quiet : Tree → Type 0
  Quiet t = (s : AbsolutePath) (d : Declarations) → W t s d ≡ []

  -- a quiet term, which declares nothing, before others
  skip : (t : Tree) (ts : Trees) (s : AbsolutePath) (d : Declarations) → W t s d ≡ [] → declare t s d ≡ d → Ws (tree t ts) s d ≡ Ws ts s d
  skip t ts s d quiet same = walk.some t ts s d ∙ both (W t s d) (Ws ts s (declare t s d)) [] (Ws ts s d) quiet (ap (Ws ts s) same)

  then_walks : (ts us : Trees) (s : AbsolutePath) (d : Declarations) → Ws (then_trees ts us) s d ≡ Ws ts s d ++ Ws us s (declare_all ts s d)
  then_walks no_trees us s d = sym (ap (λ xs. xs ++ Ws us s d) (walk.none s d))
  then_walks (tree t ts) us s d =
      walk.some t (then_trees ts us) s d ∙ ap (λ xs. W t s d ++ xs) (then_walks ts us s (declare t s d))
      ∙ sym (append_assoc (W t s d) (Ws ts s (declare t s d)) (Ws us s (declare_all ts s (declare t s d))))
      ∙ sym (ap (λ xs. xs ++ Ws us s (declare_all ts s (declare t s d))) (walk.some t ts s d))

  last_break : (s : AbsolutePath) (d : Declarations) → Ws (tree Break no_trees) s d ≡ []
  last_break s d = skip Break no_trees s d (walk.of_break s d) refl ∙ walk.none s d

  turn_walks : (terms : Trees) (s : AbsolutePath) (d : Declarations) → W (turn_of terms) s d ≡ Ws terms s d
  turn_walks terms s d =
      walk.of_while one_word (then_trees terms (tree Break no_trees)) s d
      ∙ both (W one_word s d) (Ws (then_trees terms (tree Break no_trees)) s d) [] (Ws terms s d) (walk.of_word _ s d)
      (then_walks terms (tree Break no_trees) s d ∙ ap (λ xs. Ws terms s d ++ xs) (last_break s (declare_all terms s d)) ∙ right_nil (Ws terms s d))

  loop_walks : (value : Tree) (i : ℕ) (chain : Trees) (s : AbsolutePath) (d : Declarations) → W (loop_of value (local i) chain) s d ≡ W value s d ++ Ws chain s d
  loop_walks value i chain s d =
      turn_walks (tree (stored value (local i)) chain) s d ∙ walk.some (stored value (local i)) chain s d ∙ ap (λ xs. xs ++ Ws chain s d) (walk.of_stored value i s d)

  stored_quiet : (literal : Literal) (i : ℕ) → Quiet (stored (Constant literal) (local i))
  stored_quiet literal i s d = walk.of_stored (Constant literal) i s d ∙ walk.of_word literal s d

  raised_quiet : (plan : Plan) → Quiet (If (flag plan) (tree (stored zero_word (flag plan)) (tree Continue no_trees)))
  raised_quiet plan s d =
      walk.of_if (flag plan) (tree (stored zero_word (flag plan)) (tree Continue no_trees)) s d
      ∙ both (W (flag plan) s d) (Ws (tree (stored zero_word (flag plan)) (tree Continue no_trees)) s d) [] [] (walk.of_slot _ s d)
      (skip (stored zero_word (flag plan)) (tree Continue no_trees) s d (stored_quiet _ _ s d) refl ∙ skip Continue no_trees s d (walk.of_continue s d) refl ∙ walk.none s d)

  left_quiet : (plan : Plan) → Quiet (If (flag plan) (tree Break no_trees))
  left_quiet plan s d = walk.of_if (flag plan) (tree Break no_trees) s d ∙ both (W (flag plan) s d) (Ws (tree Break no_trees) s d) [] [] (walk.of_slot _ s d) (last_break s d)

  -- a loop before what may be told of the others
  loop_first : (value : Tree) (i : ℕ) (chain ts rest : Trees) (s : AbsolutePath) (d : Declarations) → ((e : Declarations) → Ws ts s e ≡ Ws rest s e)
      → Ws (tree (loop_of value (local i) chain) ts) s d ≡ (W value s d ++ Ws chain s d) ++ Ws rest s (declare_all chain s d)
  loop_first value i chain ts rest s d same =
      walk.some (loop_of value (local i) chain) ts s d
      ∙ both (W (loop_of value (local i) chain) s d) (Ws ts s (declare (loop_of value (local i) chain) s d)) (W value s d ++ Ws chain s d) (Ws rest s (declare_all chain s d)) (loop_walks value i chain s d)
      (ap (Ws ts s) (then_declares chain (tree Break no_trees) s d) ∙ same (declare_all chain s d))

  loop_terms_walk : (plan : Plan) (crossed inside : Bool) (value : Tree) (i : ℕ) (chain rest : Trees) (s : AbsolutePath) (d : Declarations)
      → Ws (loop_terms plan crossed inside (loop_of value (local i) chain) rest) s d ≡ (W value s d ++ Ws chain s d) ++ Ws rest s (declare_all chain s d)
  loop_terms_walk plan false inside value i chain rest s d = loop_first value i chain rest rest s d (λ e. refl)
  loop_terms_walk plan true false value i chain rest s d =
      skip (stored zero_word (flag plan)) _ s d (stored_quiet _ _ s d) refl
      ∙ loop_first value i chain (tree (If (flag plan) (tree (stored zero_word (flag plan)) (tree Continue no_trees))) rest) rest s d (λ e. skip _ rest s e (raised_quiet plan s e) refl)
  loop_terms_walk plan true true value i chain rest s d = loop_first value i chain (tree (If (flag plan) (tree Break no_trees)) rest) rest s d (λ e. skip _ rest s e (left_quiet plan s e) refl)

  continue_walks : (plan : Plan) (inside : Bool) (rest : Trees) (s : AbsolutePath) (d : Declarations) → Ws (continue_terms plan inside rest) s d ≡ Ws rest s d
  continue_walks plan false rest s d = skip Continue rest s d (walk.of_continue s d) refl
  continue_walks plan true rest s d = skip (stored one_word (flag plan)) (tree Break rest) s d (stored_quiet _ _ s d) refl ∙ skip Break rest s d (walk.of_break s d) refl

  opened_walks : (ts : Trees) (s : AbsolutePath) (d : Declarations) → Ws (opened ts) s d ≡ Ws ts s d
  opened_walks (tree (ElseIf test body) rest) s d =
      walk.some (If test body) rest s d ∙ ap (λ xs. xs ++ Ws rest s (declare_all body s d)) (walk.of_if test body s d ∙ sym (walk.of_else_if test body s d)) ∙ sym (walk.some (ElseIf test body) rest s d)
  opened_walks (tree (Else body) no_trees) s d =
      sym (walk.some (Else body) no_trees s d ∙ both (W (Else body) s d) (Ws no_trees s (declare_all body s d)) (Ws body s d) [] (walk.of_else body s d) (walk.none s (declare_all body s d)) ∙ right_nil (Ws body s d))
  opened_walks ts s d = refl

  -- what a Case compares with tells nothing, and so do the tests
  member_quiet : (t : Tree) → IsCaseMember t → Quiet t
  member_quiet (Integer n) h = walk.of_integer n
  member_quiet (Constant literal) h = walk.of_word literal
  member_quiet (String text) h = walk.of_string text
  member_quiet (Buffer (Integer n) bytes) h = walk.of_buffer n bytes
  member_quiet (Buffer _ bytes) h = absurd h
  member_quiet _ h = absurd h

  value_quiet : (t : Tree) → IsCaseValue t → Quiet t
  value_quiet (Package n members) h = walk.of_package n members (have_members members h)
  value_quiet (VarPackage (Integer n) members) h = walk.of_var_package n members (have_members members h.1)
  value_quiet (VarPackage _ members) h = absurd h.0
  value_quiet (Integer n) h = walk.of_integer n
  value_quiet (Constant literal) h = walk.of_word literal
  value_quiet (String text) h = walk.of_string text
  value_quiet (Buffer (Integer n) bytes) h = walk.of_buffer n bytes
  value_quiet (Buffer _ bytes) h = absurd h
  value_quiet _ h = absurd h

  joined_quiet : (test : Tree) (i : ℕ) (members : Trees) → Quiet test → AreCaseMembers members → Quiet (joined test (local i) members)
  joined_quiet test i no_trees q h = q
  joined_quiet test i (tree m ms) q h = joined_quiet (either test (equal (local i) m)) i ms (walk.of_either test (equal (local i) m) q (walk.of_equal i m (member_quiet m h.0))) h.1

  members_quiet : (i : ℕ) (members : Trees) → HaveCaseMembers members → Quiet (test_of (local i) members)
  members_quiet i no_trees h = absurd h
  members_quiet i (tree m ms) h = joined_quiet (equal (local i) m) i ms (walk.of_equal i m (member_quiet m h.0)) h.1

  test_quiet : (i : ℕ) (t : Tree) → IsCaseValue t → Quiet (case_test (local i) t)
  test_quiet i (Package n members) h = members_quiet i members h
  test_quiet i (VarPackage size members) h = members_quiet i members h.1
  test_quiet i (Integer n) h = walk.of_equal i (Integer n) (walk.of_integer n)
  test_quiet i (Constant literal) h = walk.of_equal i (Constant literal) (walk.of_word literal)
  test_quiet i (String text) h = walk.of_equal i (String text) (walk.of_string text)
  test_quiet i (Buffer size bytes) h = walk.of_equal i (Buffer size bytes) (member_quiet (Buffer size bytes) h)
  test_quiet i _ h = absurd h

  module _ (Listed : List (FieldItem UnitName) → Type 0) (Symbols Switches : Type 0) where
    abbrev D : (ts : Trees) → AreFormed ⊥ Listed Symbols Switches ts → (plan : Plan) (level : ℕ) (inside : Bool) (s : AbsolutePath) (d : Declarations) → declare_all (unswitched_all plan level inside ts) s d ≡ declare_all ts s d
    D ts h = all_declare ts (defaults_last Listed Symbols Switches ts h)

    mutual
      term_same : (t : Tree) → IsFormed ⊥ Listed Symbols Switches t → (plan : Plan) (level : ℕ) (inside : Bool) (s : AbsolutePath) (d : Declarations) → W (unswitched plan level inside t) s d ≡ W t s d
      term_same (If test body) h plan level inside s d =
          walk.of_if test (unswitched_all plan level inside body) s d ∙ ap (λ xs. W test s d ++ xs) (all_same body h.2 plan level inside s d) ∙ sym (walk.of_if test body s d)
      term_same (ElseIf test body) h plan level inside s d =
          walk.of_else_if test (unswitched_all plan level inside body) s d ∙ ap (λ xs. W test s d ++ xs) (all_same body h.2 plan level inside s d) ∙ sym (walk.of_else_if test body s d)
      term_same (Else body) h plan level inside s d = walk.of_else (unswitched_all plan level inside body) s d ∙ all_same body h plan level inside s d ∙ sym (walk.of_else body s d)
      term_same (While test body) h plan level inside s d =
          walk.of_while test (unswitched_all plan level false body) s d ∙ ap (λ xs. W test s d ++ xs) (all_same body h.2 plan level false s d) ∙ sym (walk.of_while test body s d)
      term_same (Container' kind at name body) h plan level inside s d =
          walk.of_container kind at name (unswitched_all plan level inside body) s d
          ∙ ap (λ xs. walk.container kind at name s d ++ xs) (all_same body h.2 plan level inside (declared_path name s) (with_declared (declared_path name s) (As (ContainerObject kind)) d)) ∙ sym (walk.of_container kind at name body s d)
      term_same (Scope here at name body) h plan level inside s d =
          walk.of_scope here at name (unswitched_all plan level inside body) s d ∙ ap (λ xs. walk.scope here at name s d ++ xs) (all_same body h.1 plan level inside (walk.within name s d) d) ∙ sym (walk.of_scope here at name body s d)
      term_same (Method at name flags body) h plan level inside s d =
          walk.of_method at name flags (unswitched_all (plan_of body) 0 false body) s d
          ∙ ap (λ xs. walk.method at name flags s d ++ xs) (all_same body h.2 (plan_of body) 0 false (declared_path name s) (with_declared (declared_path name s) (As (MethodObject flags)) d)) ∙ sym (walk.of_method at name flags body s d)
      term_same t h plan level inside s d = refl

      links_same : (cases : Trees) → AreFormedCases ⊥ Listed Symbols Switches cases → (plan : Plan) (level : ℕ) (s : AbsolutePath) (d : Declarations) → Ws (links plan level cases (default_link plan level cases)) s d ≡ Ws cases s d
      links_same no_trees h plan level s d = refl
      links_same (tree (Case value body) cases) h plan level s d =
          let rest : Trees = links plan level cases (default_link plan level cases) in
          let made : Trees = unswitched_all plan (suc level) true body in
          let test : Tree = case_test (value_local plan level) value in
          let first : W (ElseIf test made) s d ≡ W (Case value body) s d
          = walk.of_else_if test made s d ∙ both (W test s d) (Ws made s d) (W value s d) (Ws body s d) (test_quiet (nth plan.free level) value h.0 s d ∙ sym (value_quiet value h.0 s d)) (all_same body h.1 plan (suc level) true s d) ∙ sym (walk.of_case value body s d) in
          let others : Ws rest s (declare_all made s d) ≡ Ws cases s (declare_all body s d)
          = links_same cases h.2 plan level s (declare_all made s d) ∙ ap (Ws cases s) (D body h.1 plan (suc level) true s d) in
          walk.some (ElseIf test made) rest s d ∙ both (W (ElseIf test made) s d) (Ws rest s (declare_all made s d)) (W (Case value body) s d) (Ws cases s (declare_all body s d)) first others
          ∙ sym (walk.some (Case value body) cases s d)
      links_same (tree (Default body) no_trees) h plan level s d =
          let made : Trees = unswitched_all plan (suc level) true body in
          walk.some (Else made) no_trees s d
          ∙ both (W (Else made) s d) (Ws no_trees s (declare_all made s d)) (W (Default body) s d) (Ws no_trees s (declare_all body s d))
          (walk.of_else made s d ∙ all_same body h plan (suc level) true s d ∙ sym (walk.of_default body s d)) (walk.none s (declare_all made s d) ∙ sym (walk.none s (declare_all body s d)))
          ∙ sym (walk.some (Default body) no_trees s d)
      links_same (tree (Default body) (tree t ts)) h plan level s d = absurd h
      links_same (tree t cases) h plan level s d = absurd h

      pub all_same : (ts : Trees) → AreFormed ⊥ Listed Symbols Switches ts → (plan : Plan) (level : ℕ) (inside : Bool) (s : AbsolutePath) (d : Declarations) → Ws (unswitched_all plan level inside ts) s d ≡ Ws ts s d
      all_same no_trees h plan level inside s d = refl
      all_same (tree (Switch value cases) rest) h plan level inside s d =
          let chain : Trees = opened (links plan level cases (default_link plan level cases)) in
          let made : Trees = unswitched_all plan level inside rest in
          let first : W value s d ++ Ws chain s d ≡ W (Switch value cases) s d
          = ap (λ xs. W value s d ++ xs) (opened_walks (links plan level cases (default_link plan level cases)) s d ∙ links_same cases h.0.3 plan level s d) ∙ sym (walk.of_switch value cases s d) in
          let others : Ws made s (declare_all chain s d) ≡ Ws rest s (declare_all cases s d)
          = all_same rest h.2 plan level inside s (declare_all chain s d) ∙ ap (Ws rest s) (chain_declares cases (ends_with Listed Symbols Switches cases h.0.3) plan level s d) in
          loop_terms_walk plan (have_continue cases) inside value (nth plan.free level) chain made s d
          ∙ both (W value s d ++ Ws chain s d) (Ws made s (declare_all chain s d)) (W (Switch value cases) s d) (Ws rest s (declare_all cases s d)) first others ∙ sym (walk.some (Switch value cases) rest s d)
      all_same (tree Continue rest) h plan level inside s d =
          continue_walks plan inside (unswitched_all plan level inside rest) s d ∙ all_same rest h.2 plan level inside s d ∙ sym (skip Continue rest s d (walk.of_continue s d) refl)
      all_same (tree t rest) h plan level inside s d =
          walk.some (unswitched plan level inside t) (unswitched_all plan level inside rest) s d
          ∙ both (W (unswitched plan level inside t) s d) (Ws (unswitched_all plan level inside rest) s (declare (unswitched plan level inside t) s d)) (W t s d) (Ws rest s (declare t s d)) (term_same t h.0 plan level inside s d)
          (all_same rest h.2 plan level inside s (declare (unswitched plan level inside t) s d) ∙ ap (Ws rest s) (term_declares t (default_last Listed Symbols Switches t h.0) plan level inside s d))
          ∙ sym (walk.some t rest s d)
