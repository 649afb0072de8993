-- Lists and sizes.
use Rattle.std.proofs.Common.{◌≡◌, ℕ, suc, ◌+◌, ◌<◌, ◌≤◌, List, [], ◌∷◌, ◌++◌, length, get_or, drop, append_assoc, append-nil, Vec, Global, Option, Some, None, Err, refl, sym, ap, ◌∙◌, arith}
use Rattle.std.specs.Prelude.{slice_get, unwrap_or, false, Ok, Result}
use Rattle.iasl_messages.specs.declared.message.Message.{Message}
use Rattle.iasl_messages.specs.declared.place.Place.{Place}
use Rattle.acpi_values.specs.declared.width.Width.{Width}
use Rattle.asl_tree.specs.declared.constant.NoConstant.{NoConstant}
use Rattle.asl_tree.specs.declared.path.Path.{Path}
use Rattle.asl_tree.specs.declared.term.Op.{Op}
use Rattle.asl_tree.specs.declared.term.NamedDescriptor.{NamedDescriptor}
use Rattle.asl_tree.specs.declared.term.Node.{Node}
use Rattle.asl_tree.specs.declared.term.Term.{Term}
use Rattle.asl_tree.specs.declared.term.Term as D
use Rattle.term_plans.specs.Plans.{plan_of, plans_of, plan_at, how_many, constant_of}
use Rattle.type_checks.specs.Sizes.{bytes_alone, byte_count, is_below, size_errors, term_errors, long_lists}
use Rattle.term_plans.proofs.Plans.{plan_form, plan_call}
use Rattle.type_checks.proofs.Terms.{form_is, by_term, of_leaves, plans_at, no_more}

-- ---- sizes

abbrev or_node : Node → Option Node → Node
or_node node None = node
or_node node (Some other) = other

pub size_none : (width : Width) (ns : List Node) → slice_get ns 0 ≡ None → constant_of width (plan_at (plans_of ns) 0) ≡ Err NoConstant.Form
unfolding plans_of
size_none width [] e = refl
size_none width (node ∷ ns) e = absurd (grind arith)

pub size_there : (width : Width) (ns : List Node) (node : Node) → slice_get ns 0 ≡ Some node → constant_of width (plan_at (plans_of ns) 0) ≡ constant_of width (plan_of node.term)
unfolding plans_of
size_there width [] node e = absurd (grind arith)
size_there width (n ∷ ns) node e = ap (λ o. constant_of width (plan_of (or_node n o).term)) e

-- ---- lists

pub how_many_are : (ns : List Node) → how_many (plans_of ns) ≡ length ns
unfolding plans_of
how_many_are [] = refl
how_many_are (n ∷ ns) = ap suc (how_many_are ns)

pub one_counted : (ns : List Node) (node : Node) → length ns ≡ 1 → node ≡ get_or ns 0 node → unwrap_or (bytes_alone (plan_of node.term)) 1 ≡ byte_count (plans_of ns)
unfolding plans_of
one_counted [] node one e = absurd (omega (arith, one))
one_counted (n ∷ []) node one e = ap (λ (m : Node). unwrap_or (bytes_alone (plan_of m.term)) 1) e
one_counted (n ∷ m ∷ ns) node one e = absurd (omega (arith, one))

pub others_counted : (ns : List Node) → (length ns ≡ 1 → ⊥) → length ns ≡ byte_count (plans_of ns)
unfolding plans_of
others_counted [] others = refl
others_counted (n ∷ []) others = absurd (others refl)
others_counted (n ∷ m ∷ ns) others = sym (how_many_are (n ∷ m ∷ ns))

pub no_bytes_alone : (t : Term) → ((s : List ℕ) → t ≡ D.Text s → ⊥) → ((s : List ℕ) (named : List NamedDescriptor) → t ≡ D.Fill s named → ⊥) → bytes_alone (plan_of t) ≡ None
unfolding plan_of
no_bytes_alone t not_text not_fill =
    by_term (λ u. bytes_alone (plan_of u) ≡ None) t (λ n e. refl) (λ s e. absurd (not_text s e)) (λ s named e. absurd (not_fill s named e)) (λ w e. refl) (λ n e. refl) (λ n e. refl) (λ e. refl) (λ e. refl) (λ p e. refl)
    (λ s n e. refl) (λ n e. refl) (λ n e. refl) (λ a b c e. refl) (λ p v e. ap bytes_alone (plan_call p v)) (λ o v w e. ap bytes_alone (plan_form o v w))

-- what lists nothing is not too long
pub below_none : (size : Result ℕ NoConstant) → is_below size None ≡ false
below_none (Ok n) = refl
below_none (Err e) = refl

-- ---- nodes one after another

module _ (width : Width) where
  -- some first nodes are checked, and those behind them are not yet
  abbrev pub Left : List Node → ℕ → List Message → List Message → Type 0
  Left ns i initial now = now ++ long_lists width (plans_of (drop i ns)) ≡ initial ++ long_lists width (plans_of ns)

  pub next_listed : (ns : List Node) (i : ℕ) (node : Node) (initial now next : List Message) → i < length ns → node ≡ get_or ns i node
      → Left ns i initial now → next ≡ now ++ term_errors width node.place (plan_of node.term) → Left ns (i + 1) initial next
  next_listed ns i node initial now next lt e before told =
      let more : i + 1 ≡ suc i = omega arith in
      let own = term_errors width node.place (plan_of node.term) in
      ap (λ k. next ++ long_lists width (plans_of (drop k ns))) more
      ∙ ap (λ ms. ms ++ long_lists width (plans_of (drop (suc i) ns))) told
      ∙ append_assoc now own (long_lists width (plans_of (drop (suc i) ns)))
      ∙ ap (λ ps. now ++ long_lists width ps) (sym (plans_at ns i node lt e))
      ∙ before

  pub all_listed : (ns : List Node) (i : ℕ) (initial now : List Message) → length ns ≤ i → Left ns i initial now → now ≡ initial ++ long_lists width (plans_of ns)
  all_listed ns i initial now le before = sym (append-nil now) ∙ ap (λ ps. now ++ long_lists width ps) (sym (no_more ns i le)) ∙ before

  -- nothing is told of no nodes
  pub none_listed : (ns : List Node) (ms : List Message) → length ns ≡ 0 → ms ≡ ms ++ long_lists width (plans_of ns)
  unfolding plans_of
  none_listed [] ms e = sym (append-nil ms)
  none_listed (n ∷ ns) ms e = absurd (omega (arith, e))

  pub none_long : (place : Place) (t : Term) → ((p : Path) (v : Vec Node Global) → t ≡ D.Call p v → ⊥) → ((o : Op) (v w : Vec Node Global) → t ≡ D.Form o v w → ⊥) → term_errors width place (plan_of t) ≡ []
  none_long place =
      of_leaves (λ p. term_errors width place p ≡ []) (λ n. refl) (λ s. refl) (λ s named. refl) (λ w. refl) (λ n. refl) (λ n. refl) refl refl (λ p. refl) (λ s n. refl) (λ n. refl) (λ n. refl) (λ a b c. refl)

  pub form_listed : (place : Place) (t : Term) (op : Op) (args body : Vec Node Global) (zs xs ys ws : List Node) (old own first new : List Message)
      → t ≡ D.Form op args body → zs ≡ args.items → ws ≡ body.items → xs ≡ args.items → ys ≡ body.items
      → own ≡ old ++ size_errors width place op (plans_of zs) (plans_of ws) → first ≡ own ++ long_lists width (plans_of xs) → new ≡ first ++ long_lists width (plans_of ys)
      → new ≡ old ++ term_errors width place (plan_of t)
  form_listed place t op args body zs xs ys ws old own first new e a b c d p q r =
      let mine = size_errors width place op (plans_of xs) (plans_of ys) in
      let before = long_lists width (plans_of xs) in
      let after = long_lists width (plans_of ys) in
      let start : own ≡ old ++ mine = p ∙ ap (λ ns. old ++ size_errors width place op (plans_of ns) (plans_of ws)) (a ∙ sym c) ∙ ap (λ ns. old ++ size_errors width place op (plans_of xs) (plans_of ns)) (b ∙ sym d) in
      r ∙ ap (λ ms. ms ++ after) (q ∙ ap (λ ms. ms ++ before) start ∙ append_assoc old mine before)
      ∙ append_assoc old (mine ++ before) after
      ∙ ap (λ ms. old ++ ms) (append_assoc mine before after)
      ∙ ap (λ x. old ++ term_errors width place x) (sym (form_is t op args body xs ys e c d))
