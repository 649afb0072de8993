-- The kinds of values one after another.
use Rattle.std.proofs.Common.{◌≡◌, ℕ, zero, suc, ◌+◌, ◌<◌, ◌≤◌, Bool, false, Vec, Global, List, [], ◌∷◌, length, get_or, take, refl, sym, ap, ◌∙◌, arith}
use Rattle.asl_tree.specs.declared.path.Path.{Path}
use Rattle.asl_tree.specs.declared.term.Op.{Op}
use Rattle.asl_tree.specs.declared.term.Word.{Word}
use Rattle.asl_tree.specs.declared.term.Node.{Node}
use Rattle.asl_tree.specs.declared.term.Term.{Term}
use Rattle.asl_tree.specs.declared.term.Term as D
use Rattle.term_plans.specs.Plans.{plan_of, plans_of}
use Rattle.term_plans.proofs.Plans.{plan_form, plan_call}
use Rattle.term_plans.proofs.Terms.{integer_term, word_term, text_term, debug_term, name_term}
use Rattle.asl_numbers.specs.Numbers.{inside, nodes}
use Rattle.name_entries.specs.declared.kind.ObjectType.{ObjectType as Named}
use Rattle.type_checks.specs.declared.kind.ValueKind.{ValueKind}
use Rattle.type_checks.specs.Kinds.{any_data, leaf_kinds, kinds_of, kinds_all}
use Rattle.type_checks.proofs.Terms.{by_term}

-- a term that is none of these may give any data
pub any_leaf : (in_place : Bool) (object : Named) (t : Term) → ((n : ℕ) → t ≡ D.Integer n → ⊥) → ((w : Word) → t ≡ D.Word w → ⊥) → ((s : List ℕ) → t ≡ D.Text s → ⊥) → (t ≡ D.Debug → ⊥) → ((p : Path) → t ≡ D.Name p → ⊥)
    → leaf_kinds in_place object (plan_of t) ≡ any_data
unfolding plan_of
any_leaf in_place object t not_integer not_word not_text not_debug not_name =
    by_term (λ u. leaf_kinds in_place object (plan_of u) ≡ any_data) t (λ n e. absurd (not_integer n e)) (λ s e. absurd (not_text s e)) (λ s named e. refl) (λ w e. absurd (not_word w e)) (λ n e. refl) (λ n e. refl)
    (λ e. absurd (not_debug e)) (λ e. refl) (λ p e. absurd (not_name p e)) (λ s n e. refl) (λ n e. refl) (λ n e. refl) (λ a b c e. refl) (λ p v e. ap (leaf_kinds in_place object) (plan_call p v)) (λ o v w e. ap (leaf_kinds in_place object) (plan_form o v w))

-- what is no form has the kinds of a leaf
pub leaf_is : (names : ℕ → Named) (in_place : Bool) (node : ℕ) (t : Term) → ((o : Op) (v w : Vec Node Global) → t ≡ D.Form o v w → ⊥) → leaf_kinds in_place (names node) (plan_of t) ≡ kinds_of names in_place node (plan_of t)
unfolding plan_of
leaf_is names in_place node t not_form =
    by_term (λ u. leaf_kinds in_place (names node) (plan_of u) ≡ kinds_of names in_place node (plan_of u)) t (λ n e. refl) (λ s e. refl) (λ s named e. refl) (λ w e. refl) (λ n e. refl) (λ n e. refl)
    (λ e. refl) (λ e. refl) (λ p e. refl) (λ s n e. refl) (λ n e. refl) (λ n e. refl) (λ a b c e. refl)
    (λ p v e. ap (leaf_kinds in_place (names node)) (plan_call p v) ∙ sym (ap (kinds_of names in_place node) (plan_call p v))) (λ o v w e. absurd (not_form o v w e))

module _ (names : ℕ → Named) (any : List ValueKind) where
  pub kinds_there : (first : ℕ) (ns : List Node) (i : ℕ) (node : Node) → i < length ns → node ≡ get_or ns i node
      → get_or (kinds_all names first (plans_of ns)) i any ≡ kinds_of names false (first + nodes (plans_of (take i ns))) (plan_of node.term)
  unfolding plans_of
  kinds_there first [] i node lt e = absurd (omega (arith, lt))
  kinds_there first (n ∷ ns) zero node lt e =
      let here : first ≡ first + 0 = omega arith in
      ap (λ k. kinds_of names false k (plan_of n.term)) here ∙ ap (λ (m : Node). kinds_of names false (first + 0) (plan_of m.term)) (sym e)
  kinds_there first (n ∷ ns) (suc i) node lt e =
      let before = nodes (plans_of (take i ns)) in
      let there : suc (first + inside (plan_of n.term)) + before ≡ first + suc (inside (plan_of n.term) + before) = omega arith in
      kinds_there (suc (first + inside (plan_of n.term))) ns i node (omega (arith, lt)) e ∙ ap (λ k. kinds_of names false k (plan_of node.term)) there

  pub kinds_past : (first : ℕ) (ns : List Node) (i : ℕ) → length ns ≤ i → get_or (kinds_all names first (plans_of ns)) i any ≡ any
  unfolding plans_of
  kinds_past first [] zero le = refl
  kinds_past first [] (suc i) le = refl
  kinds_past first (n ∷ ns) zero le = absurd (omega (arith, le))
  kinds_past first (n ∷ ns) (suc i) le = kinds_past (suc (first + inside (plan_of n.term))) ns i (omega (arith, le))

pub ruleset leaf_rules = (integer_term, word_term, text_term, debug_term, name_term, any_leaf)
