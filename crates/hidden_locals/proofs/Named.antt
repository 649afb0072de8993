-- Terms name the Locals that they name: every program does the same where each activation hides the others.
use Rattle.std.proofs.Common.{◌≡◌, ℕ, Bool, true, false, List, [], ◌∷◌, ◌++◌, refl, arith}
use Rattle.std.specs.Prelude.{nat_eq, ◌||◌}
use Rattle.std.proofs.lemmas.Bool.Decides.{nat_tests}
use Rattle.acpi_values.specs.declared.width.Width.{Width}
use Rattle.acpi_state.specs.Forms.{Slot, LocalSlot, ArgSlot}
use Rattle.asl_tree.specs.Names.{Known}
use Rattle.asl_tree.specs.Tree.{Tree, InSlot, Call, Apply, Operated, Assigned, AssignedBy, Buffer, Package, VarPackage, CondRefOf, Return, Name, Method, Container', Scope, If, ElseIf, Else, While, For, Print, Switch, Case, Default, OperationRegion, BankField, CreateField, Trees, no_trees, tree}
use Rattle.asl_meaning.specs.Meaning.{call_method}
use Rattle.hidden_locals.specs.Runs.{Reach, Outside}
use Rattle.hidden_locals.specs.Terms.{IsShownSlot, UsesShown, UseShown}
use Rattle.hidden_locals.specs.Programs.{CallAlike, DoesAs}
use Rattle.hidden_locals.specs.Locals.{slot_locals, locals, locals_all, is_named, name_local}
use Rattle.hidden_locals.proofs.Sessions.{from_call, does_as}

-- each of some Locals is shown
abbrev pub Shows : (ℕ → Bool) → List ℕ → Type 0
Shows shown named = (i : ℕ) → is_named named i ≡ true → shown i ≡ true

pub either_true : (a b : Bool) → b ≡ true → (a || b) ≡ true
either_true true b e = refl
either_true false b e = e

pub named_left : (xs ys : List ℕ) (i : ℕ) → is_named xs i ≡ true → is_named (xs ++ ys) i ≡ true
named_left [] ys i e = absurd (grind arith)
named_left (x ∷ xs) ys i e = by_first (nat_eq i x) e (named_left xs ys i)
  where
    by_first : (c : Bool) → (c || is_named xs i) ≡ true → (is_named xs i ≡ true → is_named (xs ++ ys) i ≡ true) → (c || is_named (xs ++ ys) i) ≡ true
    by_first true e go = refl
    by_first false e go = go e

pub named_right : (xs ys : List ℕ) (i : ℕ) → is_named ys i ≡ true → is_named (xs ++ ys) i ≡ true
named_right [] ys i e = e
named_right (x ∷ xs) ys i e = either_true (nat_eq i x) (is_named (xs ++ ys) i) (named_right xs ys i e)

module _ (shown : ℕ → Bool) where
  pub shows_left : (xs ys : List ℕ) → Shows shown (xs ++ ys) → Shows shown xs
  shows_left xs ys h = λ i e. h i (named_left xs ys i e)

  pub shows_right : (xs ys : List ℕ) → Shows shown (xs ++ ys) → Shows shown ys
  shows_right xs ys h = λ i e. h i (named_right xs ys i e)

  shown_slot : (slot : Slot) → Shows shown (slot_locals slot) → IsShownSlot shown slot
  shown_slot (LocalSlot i) h = h i (itself (nat_eq i i) refl)
    where
      itself : (c : Bool) → nat_eq i i ≡ c → (c || false) ≡ true
      itself true e = refl
      itself false e = absurd (grind (arith, nat_tests, e))
  shown_slot (ArgSlot i) h = tt

  abbrev pub AnyBody : Trees → Type 0
  AnyBody body = Unit {0}

  mutual
    pub uses : (t : Tree) → Shows shown (locals t) → UsesShown AnyBody shown t
    uses (InSlot slot) h = shown_slot slot h
    uses (Call at name args) h = use_all args h
    uses (Apply op args targets) h = (use_all args (shows_left (locals_all args) (locals_all targets) h), use_all targets (shows_right (locals_all args) (locals_all targets) h))
    uses (Operated op args) h = use_all args h
    uses (Assigned target value) h = (uses target (shows_left (locals target) (locals value) h), uses value (shows_right (locals target) (locals value) h))
    uses (AssignedBy op target value) h = (uses target (shows_left (locals target) (locals value) h), uses value (shows_right (locals target) (locals value) h))
    uses (Buffer size bytes) h = uses size h
    uses (Package count elements) h = use_all elements h
    uses (VarPackage count elements) h = (uses count (shows_left (locals count) (locals_all elements) h), use_all elements (shows_right (locals count) (locals_all elements) h))
    uses (CondRefOf place target) h = (uses place (shows_left (locals place) (locals target) h), uses target (shows_right (locals place) (locals target) h))
    uses (Return value) h = uses value h
    uses (Name at name value) h = uses value h
    uses (Method at name flags body) h = tt
    uses (Container' kind at name body) h = use_all body h
    uses (Scope here at name body) h = use_all body h
    uses (If test body) h = (uses test (shows_left (locals test) (locals_all body) h), use_all body (shows_right (locals test) (locals_all body) h))
    uses (ElseIf test body) h = (uses test (shows_left (locals test) (locals_all body) h), use_all body (shows_right (locals test) (locals_all body) h))
    uses (Else body) h = use_all body h
    uses (While test body) h = (uses test (shows_left (locals test) (locals_all body) h), use_all body (shows_right (locals test) (locals_all body) h))
    uses (For start test step body) h =
        let later = shows_right (locals start) (locals test ++ (locals step ++ locals_all body)) h in
        let last = shows_right (locals test) (locals step ++ locals_all body) later in
        (uses start (shows_left (locals start) (locals test ++ (locals step ++ locals_all body)) h), uses test (shows_left (locals test) (locals step ++ locals_all body) later), uses step (shows_left (locals step) (locals_all body) last), use_all body (shows_right (locals step) (locals_all body) last))
    uses (Print place format args) h = (uses place (shows_left (locals place) (locals_all args) h), use_all args (shows_right (locals place) (locals_all args) h))
    uses (Switch value cases) h = (uses value (shows_left (locals value) (locals_all cases) h), use_all cases (shows_right (locals value) (locals_all cases) h))
    uses (Case value body) h = (uses value (shows_left (locals value) (locals_all body) h), use_all body (shows_right (locals value) (locals_all body) h))
    uses (Default body) h = use_all body h
    uses (OperationRegion at name space args) h = use_all args h
    uses (BankField here from region to bank value flags items) h = uses value h
    uses (CreateField form args at name) h = use_all args h
    uses _ h = tt

    pub use_all : (ts : Trees) → Shows shown (locals_all ts) → UseShown AnyBody shown ts
    use_all no_trees h = tt
    use_all (tree t ts) h = (uses t (shows_left (locals t) (locals_all ts) h), use_all ts (shows_right (locals t) (locals_all ts) h))

-- every program
pub unnamed_unseen : (reach : Reach) (width : Width) (known : Known) (turns : ℕ) (terms : Trees) → DoesAs (λ t. t) (λ body. Unit {0}) reach width known turns (name_local terms) terms terms
unnamed_unseen reach width known turns terms = does_as (λ t. t) (λ body. Unit {0}) (λ body. Unit {0}) (λ body h. (tt, refl)) reach (name_local terms) width known turns terms (use_all (name_local terms) terms (λ i e. e))

pub calls_alike : (width : Width) (known : Known) (turns depth : ℕ) → CallAlike (λ t. t) (λ body. Unit {0}) (call_method width known turns depth) (call_method width known turns depth)
calls_alike width known turns depth = from_call (λ t. t) (λ body. Unit {0}) name_local width known turns (λ body h. unnamed_unseen Outside width known turns body) depth
