-- Constants among trees, and what an operator on them gives.
use Rattle.std.proofs.Common.{◌≡◌, ℕ, zero, suc, ◌≤◌, ◌<◌, Bool, true, false, List, [], ◌∷◌, Option, Some, None, refl, sym, ap, subst, arith}
use Rattle.std.proofs.lemmas.Bool.Decides.{nat_tests}
use Rattle.std.specs.Prelude.{if◌then◌else◌, nat_le, Result, Ok, Err}
use Rattle.acpi_values.specs.declared.width.Width.{Width}
use Rattle.acpi_values.specs.declared.width.Width.TheVariants.{W32, W64}
use Rattle.acpi_values.specs.declared.fault.Fault.{Fault}
use Rattle.acpi_values.specs.declared.operator.IntOp.{IntOp}
use Rattle.acpi_values.specs.declared.operator.DataOp.TheVariants as DataOp
use Rattle.acpi_values.specs.declared.operator.Plain.{Plain}
use Rattle.acpi_values.specs.Integers.{wrapped, applied}
use Rattle.acpi_values.specs.Widths.{ones_of}
use Rattle.acpi_values.specs.Operators.{row_of}
use Rattle.acpi_state.specs.Forms.{LocalSlot}
use Rattle.acpi_state.specs.Outcomes.{choose}
use Rattle.asl_tree.specs.Constants.{is_unary}
use Rattle.asl_tree.specs.Literals.{literal_number}
use Rattle.asl_tree.specs.declared.term.Literal.{Literal}
use Rattle.asl_tree.specs.declared.term.Literal.TheVariants as L
use Rattle.asl_tree.specs.Tree.{Tree, Integer, Constant, InSlot, Omitted, Apply, Package, VarPackage, Trees, no_trees, tree}
use Rattle.asl_fold.specs.declared.fate.Fate.{Fate}
use Rattle.asl_fold.specs.Folds.{constant, constants, without_fault, result_on, fate_at, fate_with, fate_of, last_of, replaced, reduced, sized}
use Rattle.asl_fold.proofs.Fits.{wrapped_fits, IsFit, applied_fits}

abbrev or_zero : Option ℕ → ℕ
or_zero None = 0
or_zero (Some n) = n

pub some_same : (a b : ℕ) → Some a ≡ Some b → a ≡ b
some_same a b e = ap or_zero e

literal_fits : (width : Width) (literal : Literal) → literal_number width literal ≤ ones_of width
literal_fits W32 L.Zero = omega arith
literal_fits W32 L.One = omega arith
literal_fits W32 L.Ones = omega arith
literal_fits W64 L.Zero = omega arith
literal_fits W64 L.One = omega arith
literal_fits W64 L.Ones = omega arith

pub constant_fits : (width : Width) (t : Tree) (a : ℕ) → constant width t ≡ Some a → a ≤ ones_of width
constant_fits width (Integer number) a e = subst (λ n. n ≤ ones_of width) (some_same (wrapped width number) a e) (wrapped_fits width number)
constant_fits width (Constant literal) a e = subst (λ n. n ≤ ones_of width) (some_same (literal_number width literal) a e) (literal_fits width literal)
constant_fits width _ a e = absurd cc

abbrev or_none : Option ℕ → Result ℕ Fault → Result ℕ Fault
or_none None r = r
or_none (Some n) r = Ok n

given_result : (r : Result ℕ Fault) (n : ℕ) → without_fault r ≡ Some n → r ≡ Ok n
given_result (Ok m) n e = ap (λ o. or_none o (Ok m)) e
given_result (Err f) n e = absurd cc

one_value : (width : Width) (op : IntOp) (values : List (Option ℕ)) (n : ℕ) → result_on width op true values ≡ Some n → (a : ℕ) × (values ≡ Some a ∷ []) × (applied op width a 0 ≡ Ok n)
one_value width op [] n e = absurd cc
one_value width op (None ∷ values) n e = absurd cc
one_value width op (Some a ∷ []) n e = (a, refl, given_result (applied op width a 0) n e)
one_value width op (Some a ∷ v ∷ values) n e = absurd cc

two_values : (width : Width) (op : IntOp) (values : List (Option ℕ)) (n : ℕ) → result_on width op false values ≡ Some n
    → (a : ℕ) × (b : ℕ) × (values ≡ Some a ∷ Some b ∷ []) × (applied op width a b ≡ Ok n)
two_values width op [] n e = absurd cc
two_values width op (None ∷ values) n e = absurd cc
two_values width op (Some a ∷ []) n e = absurd cc
two_values width op (Some a ∷ None ∷ values) n e = absurd cc
two_values width op (Some a ∷ Some b ∷ []) n e = (a, b, refl, given_result (applied op width a b) n e)
two_values width op (Some a ∷ Some b ∷ v ∷ values) n e = absurd cc

abbrev first : List (Option ℕ) → Option ℕ
first [] = None
first (o ∷ os) = o

abbrev second : List (Option ℕ) → Option ℕ
second [] = None
second (o ∷ os) = first os

one_tree : (width : Width) (args : Trees) (o : Option ℕ) → constants width args ≡ o ∷ [] → (t : Tree) × (args ≡ tree t no_trees) × (constant width t ≡ o)
one_tree width no_trees o e = absurd cc
one_tree width (tree t no_trees) o e = (t, refl, ap first e)
one_tree width (tree t (tree u us)) o e = absurd cc

two_trees : (width : Width) (args : Trees) (o p : Option ℕ) → constants width args ≡ o ∷ p ∷ []
    → (t : Tree) × (u : Tree) × (args ≡ tree t (tree u no_trees)) × (constant width t ≡ o) × (constant width u ≡ p)
two_trees width no_trees o p e = absurd cc
two_trees width (tree t no_trees) o p e = absurd cc
two_trees width (tree t (tree u no_trees)) o p e = (t, u, refl, ap first e, ap second e)
two_trees width (tree t (tree u (tree v vs))) o p e = absurd cc

-- an operator on one constant
pub record OnOne (width : Width) (op : IntOp) (args : Trees) (n : ℕ) : Type 0 where
  pub term : Tree
  pub value : ℕ
  pub args_are : args ≡ tree term no_trees
  pub is : constant width term ≡ Some value
  pub gives : applied op width value 0 ≡ Ok n

-- an operator on two
pub record OnTwo (width : Width) (op : IntOp) (args : Trees) (n : ℕ) : Type 0 where
  pub term : Tree
  pub other : Tree
  pub value : ℕ
  pub behind : ℕ
  pub args_are : args ≡ tree term (tree other no_trees)
  pub is : constant width term ≡ Some value
  pub other_is : constant width other ≡ Some behind
  pub gives : applied op width value behind ≡ Ok n

pub on_one : (width : Width) (op : IntOp) (args : Trees) (n : ℕ) → result_on width op true (constants width args) ≡ Some n → OnOne width op args n
on_one width op args n e =
    let v = one_value width op (constants width args) n e in
    let t = one_tree width args (Some v.0) v.1 in
    record { term = t.0; value = v.0; args_are = t.1; is = t.2; gives = v.2 }

pub on_two : (width : Width) (op : IntOp) (args : Trees) (n : ℕ) → result_on width op false (constants width args) ≡ Some n → OnTwo width op args n
on_two width op args n e =
    let v = two_values width op (constants width args) n e in
    let t = two_trees width args (Some v.0) (Some v.1) v.2 in
    record { term = t.0; other = t.1; value = v.0; behind = v.1; args_are = t.2; is = t.3; other_is = t.4; gives = v.3 }

result_fits : (width : Width) (op : IntOp) (a b n : ℕ) → a ≤ ones_of width → b ≤ ones_of width → applied op width a b ≡ Ok n → n ≤ ones_of width
result_fits width op a b n x y e = subst (IsFit width) e (applied_fits op width a b x y)

-- a result is an integer of the width
pub fits : (width : Width) (op : IntOp) (unary : Bool) (args : Trees) (n : ℕ) → result_on width op unary (constants width args) ≡ Some n → n ≤ ones_of width
fits width op true args n e = let o = on_one width op args n e in result_fits width op o.value 0 n (constant_fits width o.term o.value o.is) (omega arith) o.gives
fits width op false args n e =
    let o = on_two width op args n e in result_fits width op o.value o.behind n (constant_fits width o.term o.value o.is) (constant_fits width o.other o.behind o.other_is) o.gives

-- what holds of operators and of integers holds of what an operator becomes
pub reduced_other : (P : Tree → Type 0) → ((op : Plain) (args targets : Trees) → P (Apply op args targets)) → ((n : ℕ) → P (Integer n))
    → (width : Width) (statement : Bool) (op : Plain) (args targets : Trees) → P (reduced width statement op args targets)
reduced_other P apply integer width statement (Plain.Number op) args targets = by_fate (fate_of width statement op args targets)
  where
    by_fate : (fate : Fate) → P (replaced fate (Plain.Number op) args targets)
    by_fate Fate.Stays = apply (Plain.Number op) args targets
    by_fate (Fate.Becomes n) = integer n
    by_fate (Fate.Stores n) = apply (Plain.Data DataOp.Store) (tree (Integer n) (last_of targets)) no_trees
reduced_other P apply integer width statement (Plain.Data op) args targets = apply (Plain.Data op) args targets
reduced_other P apply integer width statement (Plain.Event op) args targets = apply (Plain.Event op) args targets

-- what holds of Packages holds of one whose number of elements is folded
pub sized_other : (P : Tree → Type 0) → ((n : ℕ) (elements : Trees) → P (Package n elements)) → ((size : Tree) (elements : Trees) → P (VarPackage size elements))
    → (size : Tree) (elements : Trees) → P (sized size elements)
sized_other P counts other (Integer n) elements = by_small (nat_le n 255)
  where
    by_small : (c : Bool) → P (if c then Package n elements else VarPackage (Integer n) elements)
    by_small true = counts n elements
    by_small false = other (Integer n) elements
sized_other P counts other size elements = other size elements

-- the same, where a Package is made of a small number
pub sized_as : (P : Tree → Type 0) (size : Tree) (elements : Trees) → ((n : ℕ) → size ≡ Integer n → n < 256 → P (Package n elements)) → P (VarPackage size elements) → P (sized size elements)
sized_as P (Integer n) elements small other = by_small (nat_le n 255) refl
  where
    by_small : (c : Bool) → nat_le n 255 ≡ c → P (if c then Package n elements else VarPackage (Integer n) elements)
    by_small true e = small n refl (let le : n ≤ 255 = grind (arith, nat_tests, e) in omega (arith, le))
    by_small false e = other
sized_as P size elements small other = other

-- ---- what an operator on constants becomes

abbrev pub IsConstant : Tree → Type 0
IsConstant (Integer number) = Unit {0}
IsConstant (Constant literal) = Unit {0}
IsConstant _ = ⊥

abbrev pub AreConstants : Trees → Type 0
AreConstants no_trees = Unit {0}
AreConstants (tree t ts) = IsConstant t × AreConstants ts

-- the one target that is given, which is the last; one that is left out gives none
pub data Targets : Trees → Tree → Type 0 where
  NoTarget : Targets no_trees Omitted
  OneTarget : (target : Tree) → Targets (tree target no_trees) target
  LastTarget : (target : Tree) → Targets (tree Omitted (tree target no_trees)) target

constant_is : (width : Width) (t : Tree) (a : ℕ) → constant width t ≡ Some a → IsConstant t
constant_is width (Integer number) a e = tt
constant_is width (Constant literal) a e = tt
constant_is width _ a e = absurd cc

args_constant : (width : Width) (op : IntOp) (unary : Bool) (args : Trees) (n : ℕ) → result_on width op unary (constants width args) ≡ Some n → AreConstants args
args_constant width op true args n e =
    let o = on_one width op args n e in subst AreConstants (sym o.args_are) (constant_is width o.term o.value o.is, tt)
args_constant width op false args n e =
    let o = on_two width op args n e in subst AreConstants (sym o.args_are) (constant_is width o.term o.value o.is, (constant_is width o.other o.behind o.other_is, tt))

-- What holds of an operator, of its result where no target is given, and of a Store of its result into the one that is given, holds of what it becomes.
module _ (P : Tree → Type 0) (width : Width) where
  abbrev Becomes' : Trees → Trees → Type 0
  Becomes' args targets = (n : ℕ) → n ≤ ones_of width → AreConstants args → Targets targets Omitted → P (Integer n)

  abbrev Stores' : Trees → Trees → Type 0
  Stores' args targets = (n : ℕ) (target : Tree) → n ≤ ones_of width → AreConstants args → Targets targets target → P (Apply (Plain.Data DataOp.Store) (tree (Integer n) (tree target no_trees)) no_trees)

  target_becomes : (statement : Bool) (target : Tree) (op : Plain) (args targets : Trees) (n : ℕ) → Targets targets target → last_of targets ≡ tree target no_trees → n ≤ ones_of width → AreConstants args
      → P (Apply op args targets) → Becomes' args targets → Stores' args targets → P (replaced (fate_at statement target n) op args targets)
  target_becomes statement Omitted op args targets n given l le all stays becomes stores = becomes n le all given
  target_becomes statement (InSlot (LocalSlot index)) op args targets n given l le all stays becomes stores =
      subst (λ ts. P (Apply (Plain.Data DataOp.Store) (tree (Integer n) ts) no_trees)) (sym l) (stores n (InSlot (LocalSlot index)) le all given)
  target_becomes true target op args targets n given l le all stays becomes stores = subst (λ ts. P (Apply (Plain.Data DataOp.Store) (tree (Integer n) ts) no_trees)) (sym l) (stores n target le all given)
  target_becomes false target op args targets n given l le all stays becomes stores = stays

  targets_become : (statement : Bool) (many : ℕ) (op : Plain) (args targets : Trees) (n : ℕ) → n ≤ ones_of width → AreConstants args → P (Apply op args targets) → Becomes' args targets → Stores' args targets
      → P (replaced (fate_with statement many targets n) op args targets)
  targets_become statement zero op args no_trees n le all stays becomes stores = becomes n le all NoTarget
  targets_become statement (suc zero) op args (tree target no_trees) n le all stays becomes stores =
      target_becomes statement target op args (tree target no_trees) n (OneTarget target) refl le all stays becomes stores
  targets_become statement (suc (suc zero)) op args (tree Omitted (tree target no_trees)) n le all stays becomes stores =
      target_becomes statement target op args (tree Omitted (tree target no_trees)) n (LastTarget target) refl le all stays becomes stores
  targets_become statement many op args targets n le all stays becomes stores = stays

  pub reduced_as : (statement : Bool) (op : Plain) (args targets : Trees) → P (Apply op args targets) → ((n : ℕ) → n ≤ ones_of width → AreConstants args → Targets targets Omitted → P (Integer n))
      → ((n : ℕ) (target : Tree) → n ≤ ones_of width → AreConstants args → Targets targets target → P (Apply (Plain.Data DataOp.Store) (tree (Integer n) (tree target no_trees)) no_trees)) → P (reduced width statement op args targets)
  reduced_as statement (Plain.Number op) args targets stays becomes stores = by_result (result_on width op (is_unary op) (constants width args)) refl
    where
      by_result : (o : Option ℕ) → result_on width op (is_unary op) (constants width args) ≡ o → P (replaced (choose o Fate.Stays (fate_with statement (row_of (Plain.Number op)).targets targets)) (Plain.Number op) args targets)
      by_result None e = stays
      by_result (Some n) e =
          targets_become statement (row_of (Plain.Number op)).targets (Plain.Number op) args targets n (fits width op (is_unary op) args n e) (args_constant width op (is_unary op) args n e) stays becomes stores
  reduced_as statement (Plain.Data op) args targets stays becomes stores = stays
  reduced_as statement (Plain.Event op) args targets stays becomes stores = stays
