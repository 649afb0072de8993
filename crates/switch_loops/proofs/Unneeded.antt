-- Terms in which no Switch stands outside methods: it is the same which Locals their plan has.
use Rattle.std.proofs.Common.{◌≡◌, ℕ, Bool, true, false, List, [], refl, ap, ◌∙◌, arith}
use Rattle.std.specs.Prelude.{if◌then◌else◌, nat_eq}
use Rattle.std.proofs.lemmas.Bool.Decides.{nat_tests}
use Rattle.asl_tree.specs.Tree.{Tree, Container', Scope, If, ElseIf, Else, While, Switch, Continue, Trees, no_trees, tree}
use Rattle.hidden_locals.specs.Locals.{locals_all}
use Rattle.hidden_locals.specs.Turns.{Plan, nth}
use Rattle.hidden_locals.specs.Switches.{depth, depth_all, plan_of, unswitched, unswitched_all, without_switches}
use Rattle.switch_loops.specs.Links.{plan_as, looped_all}
use Rattle.switch_loops.specs.Measures.{capped}
use Rattle.switch_loops.specs.Reads.{marked_all, none_named, others_of}
use Rattle.switch_loops.proofs.Wholes.{whole_looped}

mutual
  unneeded : (p q : Plan) (l m : ℕ) (t : Tree) → depth t ≡ 0 → unswitched p l false t ≡ unswitched q m false t
  unneeded p q l m (If test body) e = ap (If test) (all_unneeded p q l m body e)
  unneeded p q l m (ElseIf test body) e = ap (ElseIf test) (all_unneeded p q l m body e)
  unneeded p q l m (Else body) e = ap Else (all_unneeded p q l m body e)
  unneeded p q l m (While test body) e = ap (While test) (all_unneeded p q l m body e)
  unneeded p q l m (Container' kind at name body) e = ap (Container' kind at name) (all_unneeded p q l m body e)
  unneeded p q l m (Scope here at name body) e = ap (Scope here at name) (all_unneeded p q l m body e)
  unneeded p q l m t e = refl

  all_unneeded : (p q : Plan) (l m : ℕ) (ts : Trees) → depth_all ts ≡ 0 → unswitched_all p l false ts ≡ unswitched_all q m false ts
  all_unneeded p q l m no_trees e = refl
  all_unneeded p q l m (tree (Switch value cases) rest) e = absurd (omega (arith, e))
  all_unneeded p q l m (tree Continue rest) e = ap (tree Continue) (all_unneeded p q l m rest (omega (arith, e)))
  all_unneeded p q l m (tree t rest) e =
      ap (λ u. tree u (unswitched_all p l false rest)) (unneeded p q l m t (omega (arith, e))) ∙ ap (tree (unswitched q m false t)) (all_unneeded p q l m rest (omega (arith, e)))

-- the Locals are looked for only where a level of Switches takes one
pub whole_with : (flag levels : ℕ) (values : List ℕ) (body : Trees) → values ≡ (if nat_eq levels 0 then [] else others_of (marked_all none_named (locals_all body))) → levels ≡ capped (depth_all body) → flag ≡ nth values levels
    → looped_all flag values false body ≡ without_switches body
whole_with flag levels values body ev el ef = by_level (nat_eq levels 0) refl ev
  where
    by_level : (c : Bool) → nat_eq levels 0 ≡ c → values ≡ (if c then [] else others_of (marked_all none_named (locals_all body))) → looped_all flag values false body ≡ without_switches body
    by_level true h ev =
        let zero : levels ≡ 0 = grind (arith, nat_tests, h) in
        all_unneeded (plan_as flag values) (plan_of body) 1 0 body (omega (arith, zero, el))
    by_level false h ev = whole_looped flag levels values (marked_all none_named (locals_all body)) body refl ev el ef
