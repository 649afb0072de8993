-- The errors of arguments one after another.
use Rattle.std.proofs.Common.{◌≡◌, ℕ, suc, ◌+◌, ◌<◌, ◌≤◌, List, [], ◌∷◌, ◌++◌, length, get_or, drop, append_assoc, append-nil, Vec, Global, Option, Some, None, refl, sym, ap, ◌∙◌, subst, arith}
use Rattle.iasl_messages.specs.declared.message.Message.{Message}
use Rattle.asl_tree.specs.declared.path.Path.{Path}
use Rattle.asl_tree.specs.declared.term.Op.{Op}
use Rattle.asl_tree.specs.declared.term.Node.{Node}
use Rattle.asl_tree.specs.declared.term.Term.{Term}
use Rattle.asl_tree.specs.declared.term.Term as D
use Rattle.term_plans.specs.Plans.{plan_of, plans_of}
use Rattle.asl_numbers.specs.Numbers.{inside, nodes}
use Rattle.name_entries.specs.declared.kind.ObjectType.{ObjectType as Named}
use Rattle.type_checks.specs.Kinds.{wanted_of}
use Rattle.type_checks.specs.Types.{argument_errors, errors_inside, errors_of}
use Rattle.type_checks.proofs.Terms.{form_is, of_leaves, plans_at, no_more, all_left, count_at, none_left}

-- some first arguments are checked, and those behind them are not yet
pub record Remains (names : ℕ → Named) (asker : Option Op) (ns : List Node) (first : ℕ) (initial : List Message) (at next : ℕ) (now : List Message) : Type 0 where
  pub count : next + nodes (plans_of (drop at ns)) ≡ first + nodes (plans_of ns)
  pub told : now ++ errors_of names asker at next (plans_of (drop at ns)) ≡ initial ++ errors_of names asker 0 first (plans_of ns)

module _ (names : ℕ → Named) (asker : Option Op) (ns : List Node) (first : ℕ) (initial : List Message) where
  pub none_checked : Remains names asker ns first initial 0 first initial
  none_checked = record {
    count = ap (λ ps. first + nodes ps) (all_left ns);
    told = ap (λ ps. initial ++ errors_of names asker 0 first ps) (all_left ns);
  }

  pub next_checked : (at next behind : ℕ) (now own done : List Message) (node : Node) → at < length ns → node ≡ get_or ns at node → Remains names asker ns first initial at next now
      → own ≡ now ++ argument_errors names (wanted_of asker at) next node.place (plan_of node.term) → done ≡ own ++ errors_inside names (suc next) (plan_of node.term) → behind ≡ suc next + inside (plan_of node.term)
      → Remains names asker ns first initial (at + 1) behind done
  next_checked at next behind now own done node lt e before mine within count =
      let more : at + 1 ≡ suc at = omega arith in
      let p = plan_of node.term in
      let rest = plans_of (drop (suc at) ns) in
      let arg = argument_errors names (wanted_of asker at) next node.place p in
      let ins = errors_inside names (suc next) p in
      let here : suc next + inside p ≡ suc (next + inside p) = omega arith in
      let later : errors_of names asker (suc at) behind rest ≡ errors_of names asker (suc at) (suc (next + inside p)) rest = ap (λ n. errors_of names asker (suc at) n rest) (count ∙ here) in
      let left = count_at ns at node lt e in
      subst (λ k. Remains names asker ns first initial k behind done) (sym more) (record {
        count = omega (arith, left, count, before.count);
        told = ap (λ ms. done ++ ms) later ∙ ap (λ ms. ms ++ errors_of names asker (suc at) (suc (next + inside p)) rest) (within ∙ ap (λ ms. ms ++ ins) mine)
            ∙ append_assoc (now ++ arg) ins (errors_of names asker (suc at) (suc (next + inside p)) rest)
            ∙ append_assoc now arg (ins ++ errors_of names asker (suc at) (suc (next + inside p)) rest)
            ∙ ap (λ ps. now ++ errors_of names asker at next ps) (sym (plans_at ns at node lt e))
            ∙ before.told;
      })

  pub all_counted : (at next : ℕ) (now : List Message) → length ns ≤ at → Remains names asker ns first initial at next now → next ≡ first + nodes (plans_of ns)
  all_counted at next now le before = omega (arith, none_left ns at le, before.count)

  pub all_checked : (at next : ℕ) (now : List Message) → length ns ≤ at → Remains names asker ns first initial at next now → now ≡ initial ++ errors_of names asker 0 first (plans_of ns)
  all_checked at next now le before =
      sym (append-nil now) ∙ ap (λ ps. now ++ errors_of names asker at next ps) (sym (no_more ns at le)) ∙ before.told

pub none_there : (ns : List Node) → length ns ≡ 0 → nodes (plans_of ns) ≡ 0
unfolding plans_of
none_there [] e = refl
none_there (n ∷ ns) e = absurd (omega (arith, e))

module _ (names : ℕ → Named) where
  -- nothing is wrong inside a leaf
  pub none_wrong : (node : ℕ) (t : Term) → ((p : Path) (v : Vec Node Global) → t ≡ D.Call p v → ⊥) → ((o : Op) (v w : Vec Node Global) → t ≡ D.Form o v w → ⊥) → errors_inside names node (plan_of t) ≡ []
  none_wrong node =
      of_leaves (λ p. errors_inside names node p ≡ []) (λ n. refl) (λ s. refl) (λ s named. refl) (λ w. refl) (λ n. refl) (λ n. refl) refl refl (λ p. refl) (λ s n. refl) (λ n. refl) (λ n. refl) (λ a b c. refl)

  -- nothing is told of no nodes, which are none
  pub none_behind : (asker : Option Op) (at node : ℕ) (ns : List Node) (ms : List Message) → length ns ≡ 0 → ms ≡ ms ++ errors_of names asker at node (plans_of ns)
  unfolding plans_of
  none_behind asker at node [] ms e = sym (append-nil ms)
  none_behind asker at node (n ∷ ns) ms e = absurd (omega (arith, e))

  -- the messages of a form: those of its arguments, and then those of its body
  pub form_told : (first middle : ℕ) (t : Term) (op : Op) (args body : Vec Node Global) (xs ys : List Node) (old own new : List Message)
      → t ≡ D.Form op args body → xs ≡ args.items → ys ≡ body.items → middle ≡ first + nodes (plans_of xs)
      → own ≡ old ++ errors_of names (Some op) 0 first (plans_of xs) → new ≡ own ++ errors_of names None 0 middle (plans_of ys)
      → new ≡ old ++ errors_inside names first (plan_of t)
  form_told first middle t op args body xs ys old own new e a b m p q =
      let before = errors_of names (Some op) 0 first (plans_of xs) in
      let after = errors_of names None 0 (first + nodes (plans_of xs)) (plans_of ys) in
      q ∙ ap (λ n. own ++ errors_of names None 0 n (plans_of ys)) m ∙ ap (λ ms. ms ++ after) p ∙ append_assoc old before after
      ∙ ap (λ x. old ++ errors_inside names first x) (sym (form_is t op args body xs ys e a b))
