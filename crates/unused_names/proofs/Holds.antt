-- Where descriptors are declared among the mentions of a block.
use Rattle.std.proofs.Common.{◌≡◌, Bool, true, false, List, [], ◌∷◌, ◌++◌, Some, refl, sym, ap, ◌∙◌, subst, arith}
use Rattle.std.specs.Prelude.{◌||◌, not, if◌then◌else◌, is_some}
use Rattle.acpi_values.specs.Paths.{AbsolutePath, is_same_path}
use Rattle.acpi_state.proofs.Lookups.{is_same_path-true}
use Rattle.acpi_state.specs.Objects.{MethodObject, ContainerObject, DataObject, lookup}
use Rattle.asl_tree.specs.declared.path.Path.{Path}
use Rattle.asl_tree.specs.Names.{declared_path}
use Rattle.asl_tree.specs.Tree.{At, Tree, Name, Method, Container', Scope, Trees, no_trees, tree, If, ElseIf, Else, While, For, Switch, Case, Default}
use Rattle.asl_meaning.specs.Declarations.{Declared, As, Declarations, in_root, with_declared, with_external, scope_path, declare, declare_all}
use Rattle.acpi_names.specs.Errors.{NameError, Twice, unless, Whole, is_new, declared_errors}
use Rattle.acpi_names.specs.Mentions.{Mention, Used', Sought, Called, Declares, Outside, Opens, after, after_all, mention_errors, all_errors, mentions, term_mentions, block_mentions}
use Rattle.acpi_names.proofs.Mentions.{after_term, after_block}
use Rattle.acpi_names.proofs.Numbers.{same_path_refl}
use Rattle.unused_names.specs.Left.{is_fill, descriptors_of, descriptors, is_one_of}
use Rattle.unused_names.proofs.Errors.{left_none, right_none}

-- some of the mentions declare these paths, in this order
pub data Holds : List Mention → List AbsolutePath → Type 0 where
  NoneHeld : Holds [] []
  Held : (at : At) (name : Path) (as' : Declared) (scope : AbsolutePath) {ms : List Mention} {ps : List AbsolutePath} → Holds ms ps → Holds (Declares at name as' scope ∷ ms) (declared_path name scope ∷ ps)
  Other : (m : Mention) {ms : List Mention} {ps : List AbsolutePath} → Holds ms ps → Holds (m ∷ ms) ps

holds_none : (ms : List Mention) → Holds ms []
holds_none [] = NoneHeld
holds_none (m ∷ ms) = Other m (holds_none ms)

holds_both : {a b : List Mention} {p q : List AbsolutePath} → Holds a p → Holds b q → Holds (a ++ b) (p ++ q)
holds_both NoneHeld k = k
holds_both (Held at name as' scope h) k = Held at name as' scope (holds_both h k)
holds_both (Other m h) k = Other m (holds_both h k)

mutual
  pub holds_term : (t : Tree) (scope : AbsolutePath) (d : Declarations) → Holds (term_mentions t scope d) (descriptors_of t scope d)
  holds_term (Name at name value) scope d = by_fill (is_fill value)
    where
      by_fill : (b : Bool) → Holds (Declares at name (As DataObject) scope ∷ mentions true value scope) (if b then declared_path name scope ∷ [] else [])
      by_fill true = Held at name (As DataObject) scope (holds_none (mentions true value scope))
      by_fill false = Other (Declares at name (As DataObject) scope) (holds_none (mentions true value scope))
  holds_term (Method at name flags body) scope d = Other _ (holds_block body (declared_path name scope) (with_declared (declared_path name scope) (As (MethodObject flags)) d))
  holds_term (Container' kind at name body) scope d = Other _ (holds_block body (declared_path name scope) (with_declared (declared_path name scope) (As (ContainerObject kind)) d))
  holds_term (Scope here at name body) scope d = Other _ (holds_block body (scope_path d name scope) d)
  holds_term (If v body) scope d = holds_both (holds_none (mentions true v scope)) (holds_block body scope d)
  holds_term (ElseIf v body) scope d = holds_both (holds_none (mentions true v scope)) (holds_block body scope d)
  holds_term (Else body) scope d = holds_block body scope d
  holds_term (While v body) scope d = holds_both (holds_none (mentions true v scope)) (holds_block body scope d)
  holds_term (For start test step body) scope d =
      holds_both (holds_none (mentions true start scope)) (holds_both (holds_none (mentions true test scope)) (holds_both (holds_none (mentions true step scope)) (holds_block body scope d)))
  holds_term (Switch v cases) scope d = holds_both (holds_none (mentions true v scope)) (holds_block cases scope d)
  holds_term (Case v body) scope d = holds_both (holds_none (mentions true v scope)) (holds_block body scope d)
  holds_term (Default body) scope d = holds_block body scope d
  holds_term t scope d = holds_none (term_mentions t scope d)

  pub holds_block : (ts : Trees) (scope : AbsolutePath) (d : Declarations) → Holds (block_mentions ts scope d) (descriptors ts scope d)
  holds_block no_trees scope d = NoneHeld
  holds_block (tree t ts) scope d = holds_both (holds_term t scope d) (holds_block ts scope (declare t scope d))

-- what is declared stays declared
abbrev pub IsThere : Declarations → AbsolutePath → Type 0
IsThere d p = is_some (lookup d.declared p) ≡ true

grows_one : (m : Mention) (d : Declarations) (p : AbsolutePath) → IsThere d p → IsThere (after m d) p
grows_one (Used' asked at name scope) d p h = h
grows_one (Sought at name scope) d p h = h
grows_one (Called asked at name args scope) d p h = h
grows_one (Declares at name as' scope) d p h = by_same (is_same_path (declared_path name scope) p)
  where
    by_same : (b : Bool) → is_some (if b then Some as' else lookup d.declared p) ≡ true
    by_same true = refl
    by_same false = h
grows_one (Outside here at name type scope) d p h = by_root (in_root (declared_path name scope))
  where
    by_root : (b : Bool) → is_some (lookup (with_external b (declared_path name scope) type d).declared p) ≡ true
    by_root true = h
    by_root false = h
grows_one (Opens here at name scope inner) d p h = h

grows : (ms : List Mention) (d : Declarations) (p : AbsolutePath) → IsThere d p → IsThere (after_all ms d) p
grows [] d p h = h
grows (m ∷ ms) d p h = grows ms (after m d) p (grows_one m d p h)

pub grows_term : (t : Tree) (scope : AbsolutePath) (d : Declarations) (p : AbsolutePath) → IsThere d p → IsThere (declare t scope d) p
grows_term t scope d p h = subst (λ x. IsThere x p) (after_term t scope d) (grows (term_mentions t scope d) d p h)

pub grows_block : (ts : Trees) (scope : AbsolutePath) (d : Declarations) (p : AbsolutePath) → IsThere d p → IsThere (declare_all ts scope d) p
grows_block ts scope d p h = subst (λ x. IsThere x p) (after_block ts scope d) (grows (block_mentions ts scope d) d p h)

pub now_there : (path : AbsolutePath) (as' : Declared) (d : Declarations) → IsThere (with_declared path as' d) path
now_there path as' d = ap (λ b. is_some (if b then Some as' else lookup d.declared path)) (same_path_refl path)

pub declared_there : (path p : AbsolutePath) (as' : Declared) (d : Declarations) → IsThere d p → IsThere (with_declared path as' d) p
declared_there path p as' d h = by_same (is_same_path path p)
  where
    by_same : (b : Bool) → is_some (if b then Some as' else lookup d.declared p) ≡ true
    by_same true = refl
    by_same false = h

new_free : (b c : Bool) (e : NameError) → unless (not (b || c)) e ≡ [] → c ≡ false
new_free true c e h = absurd cc
new_free false true e h = absurd cc
new_free false false e h = refl

-- a name that is declared is new
pub declared_new : (w : Whole) (at : At) (name : Path) (scope : AbsolutePath) (d : Declarations) → declared_errors w at name scope d ≡ [] → is_some (lookup d.declared (declared_path name scope)) ≡ false
declared_new w at name scope d h =
    new_free (in_root (declared_path name scope)) (is_some (lookup d.declared (declared_path name scope))) (Twice at (declared_path name scope)) (left_none (unless (is_new d (declared_path name scope)) (Twice at (declared_path name scope))) _ h)

-- what is there before declares no descriptor again
not_again : (w : Whole) {ms : List Mention} {ps : List AbsolutePath} → Holds ms ps → (d : Declarations) (p : AbsolutePath) → all_errors w ms d ≡ [] → IsThere d p → is_one_of ps p ≡ false
not_again w NoneHeld d p h there = refl
not_again w (Held at name as' scope holds) d p h there =
    by_same (is_same_path (declared_path name scope) p) refl (not_again w holds (after (Declares at name as' scope) d) p (right_none (declared_errors w at name scope d) _ h) (grows_one (Declares at name as' scope) d p there))
  where
    by_same : (b : Bool) → is_same_path (declared_path name scope) p ≡ b → {c : Bool} → c ≡ false → (b || c) ≡ false
    by_same false e k = k
    by_same true e k = absurd (let x = sym (declared_new w at name scope d (left_none (declared_errors w at name scope d) _ h)) ∙ (ap (λ q. is_some (lookup d.declared q)) (is_same_path-true (declared_path name scope) p e) ∙ there) in grind arith)
not_again w (Other m {ms = ms} holds) d p h there = not_again w holds (after m d) p (right_none (mention_errors w m d) _ h) (grows_one m d p there)

pub term_not_again : (w : Whole) (t : Tree) (scope : AbsolutePath) (d : Declarations) (p : AbsolutePath) → all_errors w (term_mentions t scope d) d ≡ [] → IsThere d p → is_one_of (descriptors_of t scope d) p ≡ false
term_not_again w t scope d p h there = not_again w (holds_term t scope d) d p h there

pub block_not_again : (w : Whole) (ts : Trees) (scope : AbsolutePath) (d : Declarations) (p : AbsolutePath) → all_errors w (block_mentions ts scope d) d ≡ [] → IsThere d p → is_one_of (descriptors ts scope d) p ≡ false
block_not_again w ts scope d p h there = not_again w (holds_block ts scope d) d p h there

-- the paths are declared
held_there : {ms : List Mention} {ps : List AbsolutePath} → Holds ms ps → (d : Declarations) (p : AbsolutePath) → is_one_of ps p ≡ true → IsThere (after_all ms d) p
held_there NoneHeld d p h = absurd cc
held_there (Held at name as' scope {ms = ms} {ps = ps} holds) d p h = by_same (is_same_path (declared_path name scope) p) refl h (held_there holds (after (Declares at name as' scope) d) p)
  where
    by_same : (b : Bool) → is_same_path (declared_path name scope) p ≡ b → (b || is_one_of ps p) ≡ true → (is_one_of ps p ≡ true → IsThere (after_all ms (with_declared (declared_path name scope) as' d)) p) → IsThere (after_all ms (with_declared (declared_path name scope) as' d)) p
    by_same true e k go = grows ms (with_declared (declared_path name scope) as' d) p (ap (λ b. is_some (if b then Some as' else lookup d.declared p)) e)
    by_same false e k go = go k
held_there (Other m holds) d p h = held_there holds (after m d) p h

pub term_there : (t : Tree) (scope : AbsolutePath) (d : Declarations) (p : AbsolutePath) → is_one_of (descriptors_of t scope d) p ≡ true → IsThere (declare t scope d) p
term_there t scope d p h = subst (λ x. IsThere x p) (after_term t scope d) (held_there (holds_term t scope d) d p h)

pub program_there : (ts : Trees) (scope : AbsolutePath) (d : Declarations) (p : AbsolutePath) → is_one_of (descriptors ts scope d) p ≡ true → IsThere (after_all (block_mentions ts scope d) d) p
program_there ts scope d p h = held_there (holds_block ts scope d) d p h
